-- The example C.3 of FIPS 197.
use Rattle.std.specs.Prelude.{◌≡◌, ℕ, List, [], ◌∷◌}
use Rattle.std.specs.List.{range_with_len}
use Rattle.aes256.specs.Cipher.{AES256}

-- 00112233445566778899aabbccddeeff
abbrev pub plain : List ℕ
plain = 0x00 ∷ 0x11 ∷ 0x22 ∷ 0x33 ∷ 0x44 ∷ 0x55 ∷ 0x66 ∷ 0x77 ∷ 0x88 ∷ 0x99 ∷ 0xaa ∷ 0xbb ∷ 0xcc ∷ 0xdd ∷ 0xee ∷ 0xff ∷ []

-- 8ea2b7ca516745bfeafc49904b496089
abbrev pub sealed : List ℕ
sealed = 0x8e ∷ 0xa2 ∷ 0xb7 ∷ 0xca ∷ 0x51 ∷ 0x67 ∷ 0x45 ∷ 0xbf ∷ 0xea ∷ 0xfc ∷ 0x49 ∷ 0x90 ∷ 0x4b ∷ 0x49 ∷ 0x60 ∷ 0x89 ∷ []

-- the key is the bytes 00, 01, and so on to 1f
abbrev pub VectorC3 : Type 0
VectorC3 = AES256 (range_with_len 0 32) plain ≡ sealed
