-- Blocks of sixteen bytes, their exclusive or, and permutations of their places.
use Rattle.std.specs.Prelude.{◌≡◌, ℕ, ◌<◌, T, List, map, length, bit_xor, slice_index}
use Rattle.std.specs.Simd.Lanes.{zip2, pick_l, all_below}
use Rattle.std.specs.List.{range_with_len}

-- bytes: numbers below 256
abbrev pub Bytes : List ℕ → Type 0
Bytes x = (i : ℕ) → slice_index x i < 256

-- a block: sixteen bytes
pub record Block (x : List ℕ) : Type 0 where
  pub len : length x ≡ 16
  pub bytes : Bytes x

-- the sixteen numbers that f gives at the places 0 to 15
unfoldable pub block : (ℕ → ℕ) → List ℕ
block f = map f (range_with_len 0 16)

infixl 60 ◌⊕◌
-- exclusive or, byte by byte
unfoldable pub ◌⊕◌ : List ℕ → List ℕ → List ℕ
a ⊕ b = zip2 bit_xor a b

-- place i of the result holds byte order(i) of b
unfoldable pub moved : List ℕ → List ℕ → List ℕ
moved order b = pick_l 0 b order

-- sixteen places, each below sixteen
pub record Order (order : List ℕ) : Type 0 where
  pub whole : length order ≡ 16
  pub below : T (all_below 16 order)

-- two orders that undo one another; each line is one computed test
pub record Inverse (there back : List ℕ) : Type 0 where
  pub there_order : Order there
  pub back_order : Order back
  pub home : moved back there ≡ range_with_len 0 16
  pub away : moved there back ≡ range_with_len 0 16
