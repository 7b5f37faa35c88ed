-- The exclusive or of blocks, and changes of place.
use Rattle.std.proofs.Common.{◌≡◌, ℕ, zero, suc, ◌≤◌, List, [], ◌∷◌, length, get_or, sym, refl, ap, ◌∙◌, ap₂, le_of_suc-le-suc, not-suc-le-zero, arith}
use lib.Bits.{bit_xor, xor_comm, xor_assoc, xor_self, xor_zero_r, xor_lt}
use Rattle.aes.specs.Blocks.{Block, ◌⊕◌}

pub comm : (a b : List ℕ) → a ⊕ b ≡ b ⊕ a
unfolding ◌⊕◌
comm [] [] = refl
comm [] (y ∷ ys) = refl
comm (x ∷ xs) [] = refl
comm (x ∷ xs) (y ∷ ys) = ap₂ {C = List ℕ} (λ u v. u ∷ v) (xor_comm x y) (comm xs ys)

pub assoc : (a b c : List ℕ) → a ⊕ b ⊕ c ≡ a ⊕ (b ⊕ c)
unfolding ◌⊕◌
assoc [] b c = refl
assoc (x ∷ xs) [] c = refl
assoc (x ∷ xs) (y ∷ ys) [] = refl
assoc (x ∷ xs) (y ∷ ys) (z ∷ zs) = ap₂ {C = List ℕ} (λ u v. u ∷ v) (xor_assoc x y z) (assoc xs ys zs)

byte_twice : (a m : ℕ) → bit_xor (bit_xor a m) m ≡ a
byte_twice a m = xor_assoc a m m ∙ ap (bit_xor a) (xor_self m) ∙ xor_zero_r a

twice_long : (a m : List ℕ) → length a ≤ length m → a ⊕ m ⊕ m ≡ a
unfolding ◌⊕◌
twice_long [] m h = refl
twice_long (x ∷ xs) [] h = absurd (not-suc-le-zero h)
twice_long (x ∷ xs) (y ∷ ys) h = ap₂ {C = List ℕ} (λ u v. u ∷ v) (byte_twice x y) (twice_long xs ys (le_of_suc-le-suc h))

pub twice : (a m : List ℕ) → Block a → Block m → a ⊕ m ⊕ m ≡ a
twice a m ka km = twice_long a m (omega (arith, ka.len, km.len))

pub cancel : (a b m : List ℕ) → Block a → Block b → Block m → a ⊕ m ≡ b ⊕ m → a ≡ b
cancel a b m ka kb km e = sym (twice a m ka km) ∙ ap (λ x. x ⊕ m) e ∙ twice b m kb km

pub cancel_left : (a b m : List ℕ) → Block a → Block b → Block m → m ⊕ a ≡ m ⊕ b → a ≡ b
cancel_left a b m ka kb km e = cancel a b m ka kb km (comm a m ∙ e ∙ comm m b)

-- a block that stands on both sides goes
pub meet : (a b x : List ℕ) → Block a → Block x → (a ⊕ x) ⊕ (b ⊕ x) ≡ a ⊕ b
meet a b x ka kx = ap (λ y. (a ⊕ x) ⊕ y) (comm b x) ∙ sym (assoc (a ⊕ x) x b) ∙ ap (λ y. y ⊕ b) (twice a x ka kx)

length_xor : (n : ℕ) (a b : List ℕ) → length a ≡ n → length b ≡ n → length (a ⊕ b) ≡ n
unfolding ◌⊕◌
length_xor n [] b ha hb = ha
length_xor n (x ∷ xs) [] ha hb = hb
length_xor n (x ∷ xs) (y ∷ ys) ha hb = ap suc (length_xor (length xs) xs ys refl (omega arith)) ∙ ha

pub get_or_xor : (a b : List ℕ) (k : ℕ) → length a ≡ length b → get_or (a ⊕ b) k 0 ≡ bit_xor (get_or a k 0) (get_or b k 0)
unfolding ◌⊕◌
get_or_xor [] [] k e = refl
get_or_xor [] (y ∷ ys) k e = absurd (omega arith)
get_or_xor (x ∷ xs) [] k e = absurd (omega arith)
get_or_xor (x ∷ xs) (y ∷ ys) zero e = refl
get_or_xor (x ∷ xs) (y ∷ ys) (suc k) e = get_or_xor xs ys k (omega arith)

pub xor_block : (a b : List ℕ) → Block a → Block b → Block (a ⊕ b)
xor_block a b ka kb = record {
  len = length_xor 16 a b ka.len kb.len;
  bytes = λ k. rw (get_or_xor a b k (omega (arith, ka.len, kb.len))) (xor_lt 8 _ _ (ka.bytes k) (kb.bytes k));
}
