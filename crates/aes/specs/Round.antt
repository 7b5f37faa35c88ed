-- The steps of an AES round on blocks; byte 4c + r of a block stands in row r and column c.
use Rattle.std.specs.Prelude.{◌≡◌, ℕ, ◌+◌, ◌*◌, ◌/◌, ◌%◌, ◌<◌, List, bit_xor, slice_index}
use Rattle.aes.specs.Blocks.{Block, block, ◌⊕◌}
use Rattle.aes.specs.Field.{xtime, product, ◌•◌, inverse, affine}
use Rattle.aes.specs.Tables.{sbox, sbox_inv}

-- the S-box and its inverse
unfoldable pub sub : ℕ → ℕ
sub b = slice_index sbox b

unfoldable pub sub_inv : ℕ → ℕ
sub_inv b = slice_index sbox_inv b

-- products with the coefficients of MixColumns and its inverse, by doubling: 3, and any coefficient below 16
unfoldable pub times3 : ℕ → ℕ
times3 b = bit_xor (xtime b) b

unfoldable pub times : ℕ → ℕ → ℕ
times c b = product 4 b c

-- one byte of a mixed column, from the byte in its own row and those in the three rows below it, counted round
unfoldable pub mix : ℕ → ℕ → ℕ → ℕ → ℕ
mix a b c d = bit_xor (bit_xor (xtime a) (times3 b)) (bit_xor c d)

unfoldable pub unmix : ℕ → ℕ → ℕ → ℕ → ℕ
unmix a b c d = bit_xor (bit_xor (times 14 a) (times 11 b)) (bit_xor (times 13 c) (times 9 d))

-- the place k rows below place i, in the same column
abbrev pub below : ℕ → ℕ → ℕ
below k i = i / 4 * 4 + (i + k) % 4

-- f of the four bytes of the column of place i, beginning at its own row
abbrev pub at_place : (ℕ → ℕ → ℕ → ℕ → ℕ) → List ℕ → ℕ → ℕ
at_place f x i = f (slice_index x i) (slice_index x (below 1 i)) (slice_index x (below 2 i)) (slice_index x (below 3 i))

-- each byte is f of the four bytes of its column, beginning at its own row
abbrev pub columns : (ℕ → ℕ → ℕ → ℕ → ℕ) → List ℕ → List ℕ
columns f x = block (λ i. at_place f x i)

-- each byte is f of the byte in its place
abbrev pub each : (ℕ → ℕ) → List ℕ → List ℕ
each f x = block (λ i. f (slice_index x i))

-- each place takes the byte at n times its own place, modulo 16
abbrev pub spread : ℕ → List ℕ → List ℕ
spread n x = block (λ i. slice_index x (n * i % 16))

unfoldable pub SubBytes : List ℕ → List ℕ
SubBytes x = each sub x

-- row r moves r columns to the left: place 4c + r takes the byte at 4(c + r) + r, which is 5 times its own place, modulo 16
unfoldable pub ShiftRows : List ℕ → List ℕ
ShiftRows x = spread 5 x

unfoldable pub MixColumns : List ℕ → List ℕ
MixColumns x = columns mix x

-- the round without its key
unfoldable pub F : List ℕ → List ℕ
F x = MixColumns (ShiftRows (SubBytes x))

-- the round
abbrev pub AESR : List ℕ → List ℕ → List ℕ
AESR x k = F x ⊕ k

unfoldable pub InvSubBytes : List ℕ → List ℕ
InvSubBytes x = each sub_inv x

-- row r moves r columns to the right
unfoldable pub InvShiftRows : List ℕ → List ℕ
InvShiftRows x = spread 13 x

unfoldable pub InvMixColumns : List ℕ → List ℕ
InvMixColumns x = columns unmix x

unfoldable pub Finv : List ℕ → List ℕ
Finv x = InvSubBytes (InvShiftRows (InvMixColumns x))

-- ---- what is proved of them

-- the table is the published S-box: the inverse in the field, and then the affine map
abbrev pub BoxIsPublished : Type 0
BoxIsPublished = (b : ℕ) → b < 256 → sub b ≡ affine (inverse b)

-- what is called the inverse is one
abbrev pub InverseInverts : Type 0
InverseInverts = (inverse 0 ≡ 0) × ((b : ℕ) → 0 < b → b < 256 → b • inverse b ≡ 1)

-- the two tables undo each other
abbrev pub BoxesUndoEachOther : Type 0
BoxesUndoEachOther = (b : ℕ) → b < 256 → (sub_inv (sub b) ≡ b) × (sub (sub_inv b) ≡ b)

-- doubling and the sums of doublings are the products with 2, 3 and each number below 16
pub record Multiples (b : ℕ) : Type 0 where
  pub by2 : xtime b ≡ 2 • b
  pub by3 : times3 b ≡ 3 • b
  pub by : (c : ℕ) → c < 16 → times c b ≡ c • b

abbrev pub CoefficientsAreProducts : Type 0
CoefficientsAreProducts = (b : ℕ) → b < 256 → Multiples b

-- F and Finv undo each other
abbrev pub UndoEachOther : Type 0
UndoEachOther = (x : List ℕ) → Block x → (Finv (F x) ≡ x) × (F (Finv x) ≡ x)

-- so F is one-to-one, and the round is one-to-one in the block and in the key
abbrev pub OneToOne : Type 0
OneToOne = (x y : List ℕ) → Block x → Block y → F x ≡ F y → x ≡ y

abbrev pub RoundOneToOne : Type 0
RoundOneToOne = (x y k l : List ℕ) → Block x → Block y → Block k → Block l
    → (AESR x k ≡ AESR y k → x ≡ y) × (AESR x k ≡ AESR x l → k ≡ l)
