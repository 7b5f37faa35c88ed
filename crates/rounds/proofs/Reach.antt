-- The reach of rounds: three blocks.
use Rattle.std.proofs.Common.{◌≡◌, ℕ, zero, suc, List, [], ◌∷◌, sym, refl, ap, ◌∙◌, ap₂, inl, inr}
use Rattle.std.specs.List.{AllByRecursion}
use Rattle.aes.specs.Round.{F}
use Rattle.aes.proofs.Undo.{F_block}
use Rattle.aes.specs.Blocks.{Block, ◌⊕◌, moved}
use Rattle.rounds.specs.Round.{Registers, Sound, Sigma, Undone, round, rounds}
use Rattle.rounds.specs.Reach.{Reaches}
use Rattle.aes.proofs.Xor.{cancel_left, meet, xor_block}
use Rattle.aes.proofs.Moved.{moved_back}
use Rattle.rounds.proofs.Round.{round_sound, round_injective}
use Rattle.rounds.proofs.Near.{Once, Twice, twice_near}

module _ (c : Sigma) (l : Undone c) where
  -- one block: A2 tells it
  pub told_by_a2 : (s t : Registers) (u v : List ℕ) → Sound s → Block u → Block v → s.a1 ≡ t.a1 → round c s u ≡ round c t v → u ≡ v
  unfolding round
  told_by_a2 s t u v ks ku kv same e =
      cancel_left u v (F s.a1) ku kv (F_block s.a1 ks.one)
      (ap (λ r. r.a2) e ∙ ap (λ x. F x ⊕ v) (sym same))

  pub told_by_a3 : (s t : Registers) (u v : List ℕ) → Sound s → Block u → Block v → s.a2 ≡ t.a2 → round c s u ≡ round c t v → u ≡ v
  unfolding round
  told_by_a3 s t u v ks ku kv same e =
      cancel_left u v (F s.a2) ku kv (F_block s.a2 ks.two)
      (ap (λ r. r.a3) e ∙ ap (λ x. F x ⊕ v) (sym same))

  -- the next round's A1 no longer tells the block before
  forgotten : (s : Registers) (x m : List ℕ) → Sound s → Block x → (round c (round c s x) m).a1 ≡ moved c.there (F s.a1 ⊕ F s.a2 ⊕ m)
  unfolding round
  forgotten s x m ks kx = ap (λ y. moved c.there (y ⊕ m)) (meet (F s.a1) (F s.a2) x (F_block s.a1 ks.one) kx)

  -- two blocks, one apart: A1 tells the later
  told_by_a1 : (s : Registers) (x y u v : List ℕ) → Sound s → Block x → Block y → Block u → Block v → round c (round c s x) u ≡ round c (round c s y) v → u ≡ v
  told_by_a1 s x y u v ks kx ky ku kv e =
      let f = F s.a1 ⊕ F s.a2 in
      let kf = xor_block (F s.a1) (F s.a2) (F_block s.a1 ks.one) (F_block s.a2 ks.two) in
      let one : moved c.there (f ⊕ u) ≡ moved c.there (f ⊕ v) = sym (forgotten s x u ks kx) ∙ ap (λ r. r.a1) e ∙ forgotten s y v ks ky in
      let home = moved_back c.there c.back (l) in
      cancel_left u v f ku kv kf (sym (home (f ⊕ u) (xor_block f u kf ku)) ∙ ap (moved c.back) one ∙ home (f ⊕ v) (xor_block f v kf kv))

  a2_follows : (s t : Registers) (m : List ℕ) → s.a1 ≡ t.a1 → (round c s m).a2 ≡ (round c t m).a2
  unfolding round
  a2_follows s t m e = ap (λ x. F x ⊕ m) e

  pub rounds_injective : (ms : List (List ℕ)) (s t : Registers) → AllByRecursion Block ms → Sound s → Sound t → rounds c s ms ≡ rounds c t ms → s ≡ t
  rounds_injective [] s t k ks kt e = e
  rounds_injective (m ∷ ms) s t k ks kt e =
      round_injective c l s t m ks kt k.0
      (rounds_injective ms (round c s m) (round c t m) k.1 (round_sound c l s m ks k.0) (round_sound c l t m kt k.0) e)

  -- from s and t, each of the next r rounds tells its block, if the rounds before it had the same blocks
  abbrev Tells : ℕ → Registers → Registers → Type 0
  Tells zero s t = Unit {0}
  Tells (suc r) s t = ((u v : List ℕ) → Block u → Block v → round c s u ≡ round c t v → u ≡ v) × ((u : List ℕ) → Block u → Tells r (round c s u) (round c t u))

  tells : (s : Registers) (x y : List ℕ) → Sound s → Block x → Block y → Tells 3 (round c s x) (round c s y)
  tells s x y ks kx ky = (
    (λ u v ku kv e. told_by_a1 s x y u v ks kx ky ku kv e),
    (λ m km.
        let s2 = round c (round c s x) m in
        let t2 = round c (round c s y) m in
        let k2 = round_sound c l (round c s x) m (round_sound c l s x ks kx) km in
        let one : s2.a1 ≡ t2.a1 = forgotten s x m ks kx ∙ sym (forgotten s y m ks ky) in (
          (λ u v ku kv e. told_by_a2 s2 t2 u v k2 ku kv one e),
          (λ n kn. (
            (λ u v ku kv e. told_by_a3 (round c s2 n) (round c t2 n) u v (round_sound c l s2 n k2 kn) ku kv (a2_follows s2 t2 n one) e),
            (λ u ku. tt),
          )),
        )),
  )

  settle : (s t : Registers) (xs ys : List (List ℕ)) → Sound s → Sound t → AllByRecursion Block xs → xs ≡ ys → rounds c s xs ≡ rounds c t ys → s ≡ t
  settle s t xs ys ks kt k p e = rounds_injective xs s t k ks kt (e ∙ ap (rounds c t) (sym p))

  before : (s t : Registers) (u v : List ℕ) → Sound s → Sound t → Block u → u ≡ v → round c s u ≡ round c t v → s ≡ t
  before s t u v ks kt ku p e = round_injective c l s t u ks kt ku (e ∙ ap (round c t) (sym p))

  -- the blocks after the first difference
  rest : (r : ℕ) (s t : Registers) (xs ys : List (List ℕ)) → Sound s → Sound t → AllByRecursion Block xs → AllByRecursion Block ys → Tells r s t → Once r xs ys → rounds c s xs ≡ rounds c t ys → (s ≡ t) × (xs ≡ ys)
  rest zero s t xs ys ks kt kxs kys w o e = (settle s t xs ys ks kt kxs o e, o)
  rest (suc r) s t [] [] ks kt kxs kys w o e = (e, refl)
  rest (suc r) s t [] (v ∷ ys) ks kt kxs kys w o e = absurd o
  rest (suc r) s t (u ∷ xs) [] ks kt kxs kys w o e = absurd o
  rest (suc r) s t (u ∷ xs) (v ∷ ys) ks kt kxs kys w (inl p) e =
      let su = round_sound c l s u ks kxs.0 in
      let tv = round_sound c l t v kt kys.0 in
      let one = settle (round c s u) (round c t v) xs ys su tv kxs.1 p e in
      let q = w.0 u v kxs.0 kys.0 one in
      (before s t u v ks kt kxs.0 q one, ap₂ {C = List (List ℕ)} (λ a b. a ∷ b) q p)
  rest (suc r) s t (u ∷ xs) (v ∷ ys) ks kt kxs kys w (inr p) e =
      let su = round_sound c l s u ks kxs.0 in
      let tu = round_sound c l t u kt kxs.0 in
      let on = rest r (round c s u) (round c t u) xs ys su tu kxs.1 kys.1 (w.1 u kxs.0) p.1 (e ∙ ap (λ m. rounds c (round c t m) ys) (sym p.0)) in
      (round_injective c l s t u ks kt kxs.0 on.0, ap₂ {C = List (List ℕ)} (λ a b. a ∷ b) p.0 on.1)

  pub reach : (s : Registers) (xs ys : List (List ℕ)) → Sound s → AllByRecursion Block xs → AllByRecursion Block ys → Twice 3 xs ys → rounds c s xs ≡ rounds c s ys → xs ≡ ys
  reach s [] [] ks kxs kys n e = refl
  reach s [] (y ∷ ys) ks kxs kys n e = absurd n
  reach s (x ∷ xs) [] ks kxs kys n e = absurd n
  reach s (x ∷ xs) (y ∷ ys) ks kxs kys (inl o) e =
      let on = rest 3 (round c s x) (round c s y) xs ys (round_sound c l s x ks kxs.0) (round_sound c l s y ks kys.0) kxs.1 kys.1 (tells s x y ks kxs.0 kys.0) o e in
      ap₂ {C = List (List ℕ)} (λ a b. a ∷ b) (told_by_a2 s s x y ks kxs.0 kys.0 refl on.0) on.1
  reach s (x ∷ xs) (y ∷ ys) ks kxs kys (inr p) e =
      ap₂ {C = List (List ℕ)} (λ a b. a ∷ b) p.0
      (reach (round c s x) xs ys (round_sound c l s x ks kxs.0) kxs.1 kys.1 p.1 (e ∙ ap (λ m. rounds c (round c s m) ys) (sym p.0)))

  pub rounds_reach : Reaches 3 Sound (rounds c)
  rounds_reach s xs ys ks kxs kys n ne e = ne (reach s xs ys ks kxs kys (twice_near 3 xs ys n) e)
