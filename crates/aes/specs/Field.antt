-- The field GF(2^8) of AES: a byte stands for a polynomial over GF(2), its bit i being the coefficient of x^i,
-- and products are taken modulo x^8 + x^4 + x^3 + x + 1.
use Rattle.std.specs.Prelude.{ℕ, zero, suc, ◌+◌, ◌*◌, ◌/◌, ◌%◌, ◌^◌, bit_xor}

-- times x: a shift, and the modulus (11Bh, of which 1Bh is left below x^8) where bit 7 falls out
unfoldable pub xtime : ℕ → ℕ
xtime b = bit_xor (b * 2 % 256) (b / 128 % 2 * 27)

-- a times the polynomial of the lowest n bits of b: the sum of a · x^i over the bits i that are set
abbrev pub product : ℕ → ℕ → ℕ → ℕ
product zero a b = 0
product (suc n) a b = bit_xor (b % 2 * a) (product n (xtime a) (b / 2))

infixl 70 ◌•◌
-- the product of two bytes
unfoldable pub ◌•◌ : ℕ → ℕ → ℕ
a • b = product 8 a b

-- the product of b^2, b^4, b^8 and so on, n squares
abbrev pub squares : ℕ → ℕ → ℕ
squares zero b = 1
squares (suc n) b = b • b • squares n (b • b)

-- the inverse of b, and 0 for 0: b^254 = b^2 · b^4 · b^8 · b^16 · b^32 · b^64 · b^128, since b^255 = 1 for every b but 0
unfoldable pub inverse : ℕ → ℕ
inverse b = squares 7 b

-- bit i of b, the places counted round from 0 to 7
abbrev pub bit : ℕ → ℕ → ℕ
bit b i = b / 2 ^ (i % 8) % 2

-- bit i of the affine map: five bits of b, and bit i of 63h
abbrev pub affine_bit : ℕ → ℕ → ℕ
affine_bit b i = (bit b i + bit b (i + 4) + bit b (i + 5) + bit b (i + 6) + bit b (i + 7) + bit 99 i) % 2

-- the number whose lowest n bits f gives
abbrev pub from_bits : (ℕ → ℕ) → ℕ → ℕ
from_bits f zero = 0
from_bits f (suc n) = f n * 2 ^ n + from_bits f n

unfoldable pub affine : ℕ → ℕ
affine b = from_bits (affine_bit b) 8
