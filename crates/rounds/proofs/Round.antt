-- A round and the way back undo one another.
use Rattle.std.proofs.Common.{◌≡◌, ℕ, List, [], ◌∷◌, sym, refl, ap, ◌∙◌, ap₂}
use Rattle.std.specs.List.{AllByRecursion}
use Rattle.aes.specs.Round.{F, Finv}
use Rattle.aes.proofs.Undo.{F_block, Finv_block, Finv_F, F_Finv}
use Rattle.aes.specs.Blocks.{Block, ◌⊕◌, moved}
use Rattle.rounds.specs.Round.{Registers, Sound, Sigma, Undone, round, unround, rounds, unrounds}
use Rattle.aes.proofs.Xor.{comm, assoc, twice, xor_block}
use Rattle.aes.proofs.Moved.{moved_back, moved_there, moved_block}

pub same : {s t : Registers} → s.a1 ≡ t.a1 → s.a2 ≡ t.a2 → s.a3 ≡ t.a3 → s ≡ t
same p q r = λ i. record { a1 = p i; a2 = q i; a3 = r i }

module _ (c : Sigma) (l : Undone c) where
  pub round_sound : (s : Registers) (m : List ℕ) → Sound s → Block m → Sound (round c s m)
  unfolding round
  round_sound s m ks km = record {
    one = moved_block c.there (s.a2 ⊕ s.a3 ⊕ m) l.there_order (xor_block (s.a2 ⊕ s.a3) m (xor_block s.a2 s.a3 ks.two ks.three) km);
    two = xor_block (F s.a1) m (F_block s.a1 ks.one) km;
    three = xor_block (F s.a2) m (F_block s.a2 ks.two) km;
  }

  pub unround_round : (s : Registers) (m : List ℕ) → Sound s → Block m → unround c (round c s m) m ≡ s
  unfolding round unround
  unround_round s m ks km =
      let one : Finv (F s.a1 ⊕ m ⊕ m) ≡ s.a1 = ap (Finv) (twice (F s.a1) m (F_block s.a1 ks.one) km) ∙ Finv_F s.a1 ks.one in
      let two : Finv (F s.a2 ⊕ m ⊕ m) ≡ s.a2 = ap (Finv) (twice (F s.a2) m (F_block s.a2 ks.two) km) ∙ Finv_F s.a2 ks.two in
      let k23 = xor_block s.a2 s.a3 ks.two ks.three in
      let three = moved_back c.there c.back (l) (s.a2 ⊕ s.a3 ⊕ m) (xor_block (s.a2 ⊕ s.a3) m k23 km) in
      same one two
      (ap₂ (λ x y. x ⊕ y ⊕ m) three two
      ∙ ap (λ x. x ⊕ m) (assoc (s.a2 ⊕ s.a3) m s.a2 ∙ ap (λ x. s.a2 ⊕ s.a3 ⊕ x) (comm m s.a2) ∙ sym (assoc (s.a2 ⊕ s.a3) s.a2 m))
      ∙ twice (s.a2 ⊕ s.a3 ⊕ s.a2) m (xor_block (s.a2 ⊕ s.a3) s.a2 k23 ks.two) km
      ∙ ap (λ x. x ⊕ s.a2) (comm s.a2 s.a3)
      ∙ twice s.a3 s.a2 ks.three ks.two)

  pub round_unround : (s : Registers) (m : List ℕ) → Sound s → Block m → round c (unround c s m) m ≡ s
  unfolding round unround
  round_unround s m ks km =
      let k2 = xor_block s.a2 m ks.two km in
      let k3 = xor_block s.a3 m ks.three km in
      let one = ap (λ x. x ⊕ m) (F_Finv (s.a2 ⊕ m) k2) ∙ twice s.a2 m ks.two km in
      let two = ap (λ x. x ⊕ m) (F_Finv (s.a3 ⊕ m) k3) ∙ twice s.a3 m ks.three km in
      let b = moved c.back s.a1 in
      let g = Finv (s.a3 ⊕ m) in
      let kb = moved_block c.back s.a1 l.back_order ks.one in
      let kg = Finv_block (s.a3 ⊕ m) k3 in
      same
      (ap (moved c.there)
      (ap (λ x. x ⊕ m) (sym (assoc g (b ⊕ g) m) ∙ ap (λ x. x ⊕ m) (comm g (b ⊕ g) ∙ twice b g kb kg))
      ∙ twice b m kb km)
      ∙ moved_there c.there c.back (l) s.a1 ks.one)
      one two

  -- equal registers after the same block were equal before it
  pub round_injective : (s t : Registers) (m : List ℕ) → Sound s → Sound t → Block m → round c s m ≡ round c t m → s ≡ t
  round_injective s t m ks kt km e = sym (unround_round s m ks km) ∙ ap (λ x. unround c x m) e ∙ unround_round t m kt km

  pub unround_sound : (s : Registers) (m : List ℕ) → Sound s → Block m → Sound (unround c s m)
  unfolding unround
  unround_sound s m ks km =
      let g = Finv_block (s.a3 ⊕ m) (xor_block s.a3 m ks.three km) in
      let b = moved_block c.back s.a1 l.back_order ks.one in
      record {
        one = Finv_block (s.a2 ⊕ m) (xor_block s.a2 m ks.two km);
        two = g;
        three = xor_block (moved c.back s.a1 ⊕ Finv (s.a3 ⊕ m)) m (xor_block (moved c.back s.a1) (Finv (s.a3 ⊕ m)) b g) km;
      }

  pub rounds_sound : (s : Registers) (ms : List (List ℕ)) → Sound s → AllByRecursion Block ms → Sound (rounds c s ms)
  rounds_sound s [] ks k = ks
  rounds_sound s (m ∷ ms) ks k = rounds_sound (round c s m) ms (round_sound s m ks k.0) k.1

  pub unrounds_sound : (s : Registers) (ms : List (List ℕ)) → Sound s → AllByRecursion Block ms → Sound (unrounds c s ms)
  unrounds_sound s [] ks k = ks
  unrounds_sound s (m ∷ ms) ks k = unround_sound (unrounds c s ms) m (unrounds_sound s ms ks k.1) k.0

  pub unrounds_rounds : (ms : List (List ℕ)) (s : Registers) → Sound s → AllByRecursion Block ms → unrounds c (rounds c s ms) ms ≡ s
  unrounds_rounds [] s ks k = refl
  unrounds_rounds (m ∷ ms) s ks k =
      ap (λ t. unround c t m) (unrounds_rounds ms (round c s m) (round_sound s m ks k.0) k.1) ∙ unround_round s m ks k.0

  pub rounds_unrounds : (ms : List (List ℕ)) (s : Registers) → Sound s → AllByRecursion Block ms → rounds c (unrounds c s ms) ms ≡ s
  rounds_unrounds [] s ks k = refl
  rounds_unrounds (m ∷ ms) s ks k =
      ap (λ t. rounds c t ms) (round_unround (unrounds c s ms) m (unrounds_sound s ms ks k.1) k.0) ∙ rounds_unrounds ms s ks k.1
