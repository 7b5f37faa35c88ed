-- The bytes of a sealed section. Throughout, z is a keystream: a word of sixteen bytes at each place.
use Rattle.std.specs.Prelude.{ℕ, ◌+◌, ◌/◌, ◌%◌, List, [], ◌∷◌, ◌++◌, bit_xor, slice_index}
use Rattle.mode.specs.Rules.{State, at_first, absorbed}
use Rattle.smac.specs.Smac.{smac1}
use Rattle.message.specs.Framing.{message}

-- byte i of what a body is xored with: the words from place 3 on, one behind the other
abbrev pub mask_byte : (ℕ → List ℕ) → ℕ → ℕ
mask_byte z i = slice_index (z (3 + i / 16)) (i % 16)

-- bytes, of which the first is byte i of a body, each xored with its own
unfoldable pub masked_from : (ℕ → List ℕ) → ℕ → List ℕ → List ℕ
masked_from z i [] = []
masked_from z i (b ∷ bs) = bit_xor b (mask_byte z i) ∷ masked_from z (i + 1) bs

-- a whole body; masking twice gives it back
abbrev pub masked : (ℕ → List ℕ) → List ℕ → List ℕ
masked z body = masked_from z 0 body

-- SMAC-1's registers start as the first three words, without mixing
abbrev pub section_registers : (ℕ → List ℕ) → List (List ℕ)
section_registers z = z 0 ∷ z 1 ∷ z 2 ∷ []

-- where the framed message of header and ciphertext leads from there
unfoldable pub closing_state : (ℕ → List ℕ) → List ℕ → List ℕ → State
closing_state z header ciphertext = absorbed smac1 (at_first (section_registers z)) (message smac1 header ciphertext)

-- the closing registers
abbrev pub closing_registers : (ℕ → List ℕ) → List ℕ → List ℕ → List (List ℕ)
closing_registers z header ciphertext = (closing_state z header ciphertext).regs

-- the tag: finish of the closing registers, sixteen bytes
unfoldable pub section_tag : (ℕ → List ℕ) → List ℕ → List ℕ → List ℕ
section_tag z header ciphertext = smac1.finish (closing_registers z header ciphertext)

-- the section of a header and a body: the ciphertext, and then its tag
abbrev pub section : (ℕ → List ℕ) → List ℕ → List ℕ → List ℕ
section z header body = masked z body ++ section_tag z header (masked z body)
