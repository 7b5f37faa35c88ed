-- AES-256 of FIPS 197: keys of 8 words, and 14 rounds. The key schedule is a list of 240 bytes. Word i of FIPS 197, its w[i],
-- is the bytes 4i to 4i + 3, so byte m stands in word m / 4.
use Rattle.std.specs.Prelude.{ℕ, zero, suc, ◌+◌, ◌-◌, ◌*◌, ◌/◌, ◌%◌, ◌^◌, cond, List, [], ◌∷◌, ◌++◌, length, ◌==◌, bit_xor, slice_index}
use Rattle.aes.specs.Blocks.{block, ◌⊕◌}
use Rattle.aes.specs.Round.{sub, SubBytes, ShiftRows, AESR}

-- byte m of the constant Rcon[i / 8], for word i = m / 4: the first byte of a word is 2^(i / 8 - 1), and the others are 0
-- (a power of x in the field, which is this power of 2 since i / 8 is at most 7)
unfoldable pub rcon : ℕ → ℕ
rcon m = cond (m % 4 == 0) (2 ^ (m / 32 - 1)) 0

-- RotWord takes byte m from one place further on in the word before, counted round
abbrev pub rotated : ℕ → ℕ
rotated m = 4 * (m / 4 - 1) + (m + 1) % 4

-- byte m of what FIPS 197 calls temp, for word i = m / 4:
--     SubWord(RotWord(w[i - 1])) ⊕ Rcon[i / 8]   where i is a multiple of 8,
--     SubWord(w[i - 1])                          where i is 4 more than a multiple of 8,
--     w[i - 1]                                   at any other i
-- from byte m of w[i - 1] and of RotWord(w[i - 1])
unfoldable pub added : ℕ → ℕ → ℕ → ℕ
added m before turned = cond (m / 4 % 8 == 0) (bit_xor (sub turned) (rcon m)) (cond (m / 4 % 8 == 4) (sub before) before)

unfoldable pub temp : ℕ → List ℕ → ℕ
temp m w = added m (slice_index w (m - 4)) (slice_index w (rotated m))

-- byte m of w[i] = w[i - 8] ⊕ temp
unfoldable pub next_byte : ℕ → List ℕ → ℕ
next_byte m w = bit_xor (slice_index w (m - 32)) (temp m w)

-- n bytes more, one after the other
unfoldable pub grow : ℕ → List ℕ → List ℕ
grow zero w = w
grow (suc n) w = grow n (w ++ next_byte (length w) w ∷ [])

-- KeyExpansion: the 32 bytes of the key, and 208 more
unfoldable pub schedule : List ℕ → List ℕ
schedule key = grow 208 key

-- the key of round r: the words w[4r] to w[4r + 3]
unfoldable pub round_key : List ℕ → ℕ → List ℕ
round_key w r = block (λ i. slice_index w (16 * r + i))

-- the state after n rounds: first AddRoundKey, and then in each round SubBytes, ShiftRows, MixColumns and AddRoundKey
unfoldable pub rounds : List ℕ → List ℕ → ℕ → List ℕ
rounds w x zero = x ⊕ round_key w 0
rounds w x (suc n) = AESR (rounds w x n) (round_key w (suc n))

-- Cipher: 13 such rounds, and a last one that leaves MixColumns out
unfoldable pub cipher : List ℕ → List ℕ → List ℕ
cipher w x = ShiftRows (SubBytes (rounds w x 13)) ⊕ round_key w 14

-- a block x under a key of 32 bytes
abbrev pub AES256 : List ℕ → List ℕ → List ℕ
AES256 key x = cipher (schedule key) x
