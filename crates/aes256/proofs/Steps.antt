-- The steps of the key schedule and of the rounds.
use Rattle.std.proofs.Common.{◌≡◌, ℕ, suc, ◌+◌, ◌-◌, ◌<◌, ◌≤◌, List, [], ◌∷◌, ◌++◌, length, take, set, sym, refl, ap, ◌∙◌, subst, add-one, arith, length-append}
use Rattle.std.proofs.lemmas.List.{get_or-take, take_more_set, take_all, take_at, length-take-le}
use Rattle.aes.specs.Round.{AESR}
use Rattle.aes256.specs.Cipher.{rotated, temp, next_byte, grow, schedule, round_key, rounds}

-- a byte of the schedule follows from those before it
next_byte_take : (m : ℕ) (w : List ℕ) → 32 ≤ m → next_byte m (take m w) ≡ next_byte m w
unfolding next_byte temp
next_byte_take m w h =
    let p : m - 32 < m = omega arith in
    let q : m - 4 < m = omega arith in
    let r : rotated m < m = omega arith in
    rw (get_or-take m w (m - 32) 0 p, get_or-take m w (m - 4) 0 q, get_or-take m w (rotated m) 0 r)

grow_suc : (n : ℕ) (w : List ℕ) → grow (suc n) w ≡ grow n (w ++ next_byte (length w) w ∷ [])
unfolding grow
grow_suc n w = refl

-- what is left to grow: at first, one byte on, and at the end
pub grow_start : (front key rest : List ℕ) → front ≡ key → length key ≡ 32 → length rest ≡ 208 →
    (length (front ++ rest) ≡ 240) × (grow 208 (take 32 (front ++ rest)) ≡ schedule key)
unfolding schedule
grow_start front key rest e n l =
    (omega (arith, length-append front rest, ap length e), ap (grow 208) (take_at front rest 32 (ap length e ∙ n) ∙ e))

pub grow_more : (w : List ℕ) (m v : ℕ) → length w ≡ 240 → 32 ≤ m → m < 240 → v ≡ next_byte m w →
    grow (240 - m) (take m w) ≡ grow (240 - (m + 1)) (take (m + 1) (set w m v))
grow_more w m v n h k e =
    let l : length (take m w) ≡ m = length-take-le m w (omega arith) in
    let s : 240 - m ≡ suc (240 - (m + 1)) = omega arith in
    let b : next_byte (length (take m w)) (take m w) ≡ v = ap (λ (j : ℕ). next_byte j (take m w)) l ∙ next_byte_take m w h ∙ sym e in
    ap (λ (j : ℕ). grow j (take m w)) s
    ∙ grow_suc (240 - (m + 1)) (take m w)
    ∙ ap (λ (x : ℕ). grow (240 - (m + 1)) (take m w ++ x ∷ [])) b
    ∙ ap (grow (240 - (m + 1))) (sym (take_more_set w m v (omega arith)))

pub grow_end : (w key : List ℕ) (m : ℕ) → m ≡ 240 → length w ≡ 240 → grow (240 - m) (take m w) ≡ schedule key → w ≡ schedule key
unfolding grow
grow_end w key m e n h =
    sym (take_all 240 w (omega arith)) ∙ subst (λ (j : ℕ). grow (240 - j) (take j w) ≡ schedule key) e h

-- one round more
pub rounds_more : (w x : List ℕ) (n : ℕ) → AESR (rounds w x n) (round_key w (n + 1)) ≡ rounds w x (n + 1)
unfolding rounds
rounds_more w x n = rw add-one refl
