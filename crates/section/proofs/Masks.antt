-- Masking by bytes is masking by blocks; masking twice gives a body back.
use Rattle.std.proofs.Common.{◌≡◌, ℕ, zero, suc, ◌+◌, ◌*◌, ◌/◌, ◌%◌, ◌<◌, ◌≤◌, List, [], ◌∷◌, ◌++◌, length, get_or, take, drop, sym, refl, ap, ◌∙◌, ap₂, append-nil, le_of_suc-le-suc, not-suc-le-zero, arith}
use lib.Bits.{bit_xor, xor_assoc, xor_self, xor_zero_r}
use borrow.Rule.Slice.PartMut.{put_mid}
use Rattle.std.proofs.lemmas.List.{drop_more, drop-drop, drop_all, take-append-drop, length-take-le, length-drop, append_assoc}
use Rattle.std.proofs.lemmas.Slice.{take-put_mid}
use Rattle.std.specs.Simd.{first_chunks}
use Rattle.aes.specs.Blocks.{◌⊕◌}
use Rattle.section.specs.Sections.{mask_byte, masked_from, masked}

-- a word that is at least as long is cut
pub length_cut : (a w : List ℕ) → length a ≤ length w → length (a ⊕ w) ≡ length a
unfolding ◌⊕◌
length_cut [] w h = refl
length_cut (x ∷ a) [] h = absurd (not-suc-le-zero h)
length_cut (x ∷ a) (y ∷ w) h = ap suc (length_cut a w (le_of_suc-le-suc h))

pub get_or_cut : (a w : List ℕ) (i : ℕ) → i < length a → length a ≤ length w → get_or (a ⊕ w) i 0 ≡ bit_xor (get_or a i 0) (get_or w i 0)
unfolding ◌⊕◌
get_or_cut [] w i h l = absurd (not-suc-le-zero h)
get_or_cut (x ∷ a) [] i h l = absurd (not-suc-le-zero l)
get_or_cut (x ∷ a) (y ∷ w) zero h l = refl
get_or_cut (x ∷ a) (y ∷ w) (suc i) h l = get_or_cut a w i (le_of_suc-le-suc h) (le_of_suc-le-suc l)

-- the whole blocks of a list
pub chunk_at : (k j : ℕ) (xs : List ℕ) → j < k → k * 16 ≤ length xs → get_or (first_chunks 16 k xs) j [] ≡ take 16 (drop (16 * j) xs)
chunk_at zero j xs h l = absurd (omega arith)
chunk_at (suc k) zero xs h l = refl
chunk_at (suc k) (suc j) xs h l =
    let e : 16 * suc j ≡ 16 + 16 * j = omega arith in
    chunk_at k j (drop 16 xs) (omega arith) (simp length-drop (omega arith)) ∙ ap (take 16) (drop-drop (16 * j) 16 xs ∙ ap (λ n. drop n xs) (sym e))

module _ (z : ℕ → List ℕ) where
  length_masked_from : (i : ℕ) (bs : List ℕ) → length (masked_from z i bs) ≡ length bs
  unfolding masked_from
  length_masked_from i [] = refl
  length_masked_from i (b ∷ bs) = ap suc (length_masked_from (i + 1) bs)

  pub length_masked : (body : List ℕ) → length (masked z body) ≡ length body
  length_masked body = length_masked_from 0 body

  byte_twice : (b m : ℕ) → bit_xor (bit_xor b m) m ≡ b
  byte_twice b m = xor_assoc b m m ∙ ap (bit_xor b) (xor_self m) ∙ xor_zero_r b

  masked_from_twice : (i : ℕ) (bs : List ℕ) → masked_from z i (masked_from z i bs) ≡ bs
  unfolding masked_from
  masked_from_twice i [] = refl
  masked_from_twice i (b ∷ bs) = ap₂ {C = List ℕ} (λ u v. u ∷ v) (byte_twice b (mask_byte z i)) (masked_from_twice (i + 1) bs)

  pub masked_twice : (body : List ℕ) → masked z (masked z body) ≡ body
  masked_twice body = masked_from_twice 0 body

  -- bytes from place k of block j on, no further than its end
  within_block : (j k : ℕ) (xs rest : List ℕ) → k + length xs ≤ 16 → length (z (3 + j)) ≡ 16 →
      masked_from z (16 * j + k) (xs ++ rest) ≡ (xs ⊕ drop k (z (3 + j))) ++ masked_from z (16 * j + (k + length xs)) rest
  unfolding ◌⊕◌ masked_from
  within_block j k [] rest h n = let e : 16 * j + k ≡ 16 * j + (k + 0) = omega arith in ap (λ (i : ℕ). masked_from z i rest) e
  within_block j k (x ∷ xs) rest h n =
      let w = z (3 + j) in
      let q : (16 * j + k) / 16 ≡ j = omega arith in
      let r : (16 * j + k) % 16 ≡ k = omega arith in
      let byte : mask_byte z (16 * j + k) ≡ get_or w k 0 = ap (λ (a : ℕ). get_or (z (3 + a)) ((16 * j + k) % 16) 0) q ∙ ap (λ (a : ℕ). get_or w a 0) r in
      let next : masked_from z (16 * j + k + 1) (xs ++ rest) ≡ (xs ⊕ drop (k + 1) w) ++ masked_from z (16 * j + (k + suc (length xs))) rest =
      let e : 16 * j + k + 1 ≡ 16 * j + (k + 1) = omega arith in
      let f : 16 * j + (k + 1 + length xs) ≡ 16 * j + (k + suc (length xs)) = omega arith in
      ap (λ (i : ℕ). masked_from z i (xs ++ rest)) e ∙ within_block j (k + 1) xs rest (omega arith) n ∙ ap (λ (i : ℕ). (xs ⊕ drop (k + 1) w) ++ masked_from z i rest) f in
      ap₂ {C = List ℕ} (λ u v. bit_xor x u ∷ v) byte next
      ∙ ap (λ (v : List ℕ). ((x ∷ xs) ⊕ v) ++ masked_from z (16 * j + (k + suc (length xs))) rest) (sym (drop_more w k 0 (omega arith)))

  -- the loop over the blocks, of which the one at place j is written: what it writes, and what is left to write
  abbrev pub Written : List ℕ → List ℕ → ℕ → Type 0
  Written input out n = take n out ++ masked_from z n (drop n input) ≡ masked z input

  pub mask_block : (input out block part : List ℕ) (j k : ℕ) → 16 * j + 16 ≤ length input → length out ≡ length input → length (z (3 + j)) ≡ 16
      → block ≡ take 16 (drop (16 * j) input) → part ≡ block ⊕ z (3 + j)
      → Written input out (16 * j) → Written input (put_mid (16 * j) k out part) (16 * (j + 1))
  mask_block input out block part j k h l n eb ep inv =
      let a : ℕ = 16 * j in
      let w : List ℕ = z (3 + j) in
      let rest : List ℕ = drop (a + 16) input in
      let next : 16 * (j + 1) ≡ a + 16 = omega arith in
      let left : 16 ≤ length (drop a input) = simp length-drop (omega arith) in
      let long : length block ≡ 16 = ap length eb ∙ length-take-le 16 (drop a input) left in
      let part_long : length part ≡ 16 = ap length ep ∙ length_cut block w (omega arith) ∙ long in
      let split : drop a input ≡ block ++ rest =
      sym (take-append-drop 16 (drop a input)) ∙ ap₂ ◌++◌ (sym eb) (drop-drop 16 a input) in
      let zero_place : a ≡ a + 0 = omega arith in
      let end_place : a + (0 + length block) ≡ a + 16 = omega arith in
      let one : masked_from z a (drop a input) ≡ part ++ masked_from z (a + 16) rest =
      ap (masked_from z a) split ∙ ap (λ (i : ℕ). masked_from z i (block ++ rest)) zero_place
      ∙ within_block j 0 block rest (omega arith) n ∙ ap₂ (λ p (i : ℕ). p ++ masked_from z i rest) (sym ep) end_place in
      let front : take (a + 16) (put_mid a k out part) ≡ take a out ++ part = take-put_mid a k out part (a + 16) (omega arith) (omega arith) in
      ap (λ (i : ℕ). take i (put_mid a k out part) ++ masked_from z i (drop i input)) next
      ∙ ap (λ (f : List ℕ). f ++ masked_from z (a + 16) rest) front
      ∙ append_assoc (take a out) part (masked_from z (a + 16) rest)
      ∙ ap (λ (t : List ℕ). take a out ++ t) (sym one)
      ∙ inv

  -- and the end, of fewer than sixteen bytes
  pub mask_end : (input out tail part : List ℕ) (j k : ℕ) → length input < 16 * j + 16 → length out ≡ length input → length out ≤ 16 * j + k → length (z (3 + j)) ≡ 16
      → tail ≡ drop (16 * j) input → part ≡ tail ⊕ z (3 + j) → Written input out (16 * j) → put_mid (16 * j) k out part ≡ masked z input
  unfolding masked_from
  mask_end input out tail part j k h l m n et ep inv =
      let a : ℕ = 16 * j in
      let short : length (drop a input) < 16 = simp length-drop (omega arith) in
      let tail_short : length tail ≤ 16 = omega (arith, ap length et) in
      let zero_place : a ≡ a + 0 = omega arith in
      let past : drop k (drop a out) ≡ [] = drop-drop k a out ∙ drop_all (a + k) out m in
      let one : masked_from z a (drop a input) ≡ part ++ [] =
      ap (masked_from z a) (sym et ∙ sym (append-nil tail)) ∙ ap (λ (i : ℕ). masked_from z i (tail ++ [])) zero_place
      ∙ within_block j 0 tail [] (omega arith) n ∙ ap (λ p. p ++ []) (sym ep) in
      ap (λ (t : List ℕ). take a out ++ (part ++ t)) past ∙ ap (λ (t : List ℕ). take a out ++ t) (sym one) ∙ inv
