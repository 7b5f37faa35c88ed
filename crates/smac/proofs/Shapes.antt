-- Lists of registers in threes.
use Rattle.std.proofs.Common.{◌≡◌, ℕ, zero, suc, ◌+◌, ◌-◌, ◌*◌, ◌<◌, ◌≢◌, ◌⊎◌, List, [], ◌∷◌, length, get_or, take, drop, set, replicate, sym, refl, ap, ◌∙◌, subst, inl, inr, arith}
use Rattle.std.specs.List.{AllByRecursion}
use Rattle.aes.specs.Blocks.{Block}
use Rattle.aes.proofs.Blocks.{is_bytes}
use Rattle.aes.proofs.Xor.{xor_block}
use Rattle.rounds.specs.Round.{Registers, Sound, Sigma, Undone}
use Rattle.rounds.proofs.Round.{rounds_sound}
use Rattle.rounds.specs.Mixing.{dummy}
use Rattle.rounds.proofs.Paced.{dummy_block}
use Rattle.std.proofs.lemmas.List.{get_or-set_same, get_or-set_other, length-take-le, length-drop, length-set, get_or-take, get_or-drop}
use Rattle.mode.specs.Rules.{Key}
use Rattle.smac.specs.Smac.{threes, flat, three, only, patched}
use Rattle.rounds.specs.Mixing.{◌⊞◌, dummy_rounds, mixed, keyed}

pub threes_flat : (ss : List Registers) → threes (flat ss) ≡ ss
threes_flat [] = refl
threes_flat (s ∷ ss) = ap (λ t. s ∷ t) (threes_flat ss)

pub flat_threes : (n : ℕ) (rs : List (List ℕ)) → length rs ≡ 3 * n → flat (threes rs) ≡ rs
flat_threes n [] e = refl
flat_threes n (a ∷ []) e = absurd (omega arith)
flat_threes n (a ∷ b ∷ []) e = absurd (omega arith)
flat_threes zero (a ∷ b ∷ c ∷ rs) e = absurd (omega arith)
flat_threes (suc n) (a ∷ b ∷ c ∷ rs) e = ap (λ t. a ∷ b ∷ c ∷ t) (flat_threes n rs (omega arith))

pub length_threes : (n : ℕ) (rs : List (List ℕ)) → length rs ≡ 3 * n → length (threes rs) ≡ n
length_threes n [] e = omega arith
length_threes n (a ∷ []) e = absurd (omega arith)
length_threes n (a ∷ b ∷ []) e = absurd (omega arith)
length_threes zero (a ∷ b ∷ c ∷ rs) e = absurd (omega arith)
length_threes (suc n) (a ∷ b ∷ c ∷ rs) e = ap suc (length_threes n rs (omega arith))

pub length_flat : (ss : List Registers) → length (flat ss) ≡ 3 * length ss
length_flat [] = refl
length_flat (s ∷ ss) = let h = length_flat ss in omega arith

pub sound_threes : (rs : List (List ℕ)) → AllByRecursion Block rs → AllByRecursion Sound (threes rs)
sound_threes [] h = tt
sound_threes (a ∷ []) h = tt
sound_threes (a ∷ b ∷ []) h = tt
sound_threes (a ∷ b ∷ c ∷ rs) h = (record { one = h.0; two = h.1.0; three = h.1.1.0 }, sound_threes rs h.1.1.1)

pub blocks_flat : (ss : List Registers) → AllByRecursion Sound ss → AllByRecursion Block (flat ss)
blocks_flat [] h = tt
blocks_flat (s ∷ ss) h = (h.0.one, (h.0.two, (h.0.three, blocks_flat ss h.1)))

pub only_three : (rs : List (List ℕ)) → length rs ≡ 3 → only (three rs) ≡ rs
only_three [] e = absurd (omega arith)
only_three (a ∷ []) e = absurd (omega arith)
only_three (a ∷ b ∷ []) e = absurd (omega arith)
only_three (a ∷ b ∷ c ∷ []) e = refl
only_three (a ∷ b ∷ c ∷ d ∷ rs) e = absurd (omega arith)

pub sound_three : (rs : List (List ℕ)) → length rs ≡ 3 → AllByRecursion Block rs → Sound (three rs)
sound_three [] e h = absurd (omega arith)
sound_three (a ∷ []) e h = absurd (omega arith)
sound_three (a ∷ b ∷ []) e h = absurd (omega arith)
sound_three (a ∷ b ∷ c ∷ rs) e h = record { one = h.0; two = h.1.0; three = h.1.1.0 }

-- ---- registers that load and finish go through

pub sound_xor : (s t : Registers) → Sound s → Sound t → Sound (s ⊞ t)
unfolding ◌⊞◌
sound_xor s t k l = record { one = xor_block _ _ k.one l.one; two = xor_block _ _ k.two l.two; three = xor_block _ _ k.three l.three }

pub all_dummy : (n : ℕ) → AllByRecursion Block (replicate n dummy)
all_dummy zero = tt
all_dummy (suc n) = (dummy_block, all_dummy n)

pub sound_dummy_rounds : (c : Sigma) → Undone c → (n : ℕ) (s : Registers) → Sound s → Sound (dummy_rounds c n s)
unfolding dummy_rounds
sound_dummy_rounds c l n s k = rounds_sound c l s (replicate n dummy) k (all_dummy n)

pub sound_mixed : (c : Sigma) → Undone c → (s : Registers) → Sound s → Sound (mixed c s)
unfolding mixed
sound_mixed c l s k = sound_xor (dummy_rounds c 9 s) s (sound_dummy_rounds c l 9 s k) k

low_block : (key : List ℕ) → Key key → Block (take 16 key)
low_block key h =
    is_bytes (take 16 key) (length-take-le 16 key (omega (arith, h.len)))
    (λ k l. subst (λ (n : ℕ). n < 256) (sym (get_or-take 16 key k 0 l)) (h.bytes k))

high_block : (key : List ℕ) → Key key → Block (drop 16 key)
high_block key h =
    is_bytes (drop 16 key) (length-drop 16 key ∙ omega (arith, h.len))
    (λ k l. subst (λ (n : ℕ). n < 256) (sym (get_or-drop 16 key k 0)) (h.bytes (16 + k)))

pub sound_keyed : (key iv : List ℕ) → Key key → Block iv → Sound (keyed key iv)
sound_keyed key iv h b = record { one = high_block key h; two = low_block key h; three = b }

pub patched_block : (n k : ℕ) (iv : List ℕ) → 16 * (n - 1) + k < 256 → Block iv → Block (patched n k iv)
patched_block n k iv h b =
    let v = 16 * (n - 1) + k in
    is_bytes (set iv 15 v) (length-set iv 15 v ∙ b.len)
    (λ j l. elim (same j) [
      | inl e ↦ subst (λ (x : ℕ). x < 256) (sym (ap (λ (i : ℕ). get_or (set iv 15 v) i 0) e ∙ get_or-set_same iv 15 v 0 (omega (arith, b.len)))) h
      | inr e ↦ subst (λ (x : ℕ). x < 256) (sym (get_or-set_other iv 15 j v 0 e)) (b.bytes j)
    ])
  where
    same : (j : ℕ) → (j ≡ 15) ⊎ (j ≢ 15)
    same j = grind arith
