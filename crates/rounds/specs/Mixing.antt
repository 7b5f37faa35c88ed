-- Dummy rounds, mixing, and the registers that key and IV are put into.
use Rattle.std.specs.Prelude.{ℕ, List, ◌∷◌, take, drop, replicate}
use Rattle.aes.specs.Blocks.{◌⊕◌}
use Rattle.rounds.specs.Round.{Registers, Sigma, rounds}

-- the block of a dummy round: 01h and fifteen zeros
unfoldable pub dummy : List ℕ
dummy = 1 ∷ replicate 15 0

-- n dummy rounds
unfoldable pub dummy_rounds : Sigma → ℕ → Registers → Registers
dummy_rounds c n s = rounds c s (replicate n dummy)

infixl 60 ◌⊞◌
-- exclusive or, register by register
unfoldable pub ◌⊞◌ : Registers → Registers → Registers
s ⊞ t = record { a1 = s.a1 ⊕ t.a1; a2 = s.a2 ⊕ t.a2; a3 = s.a3 ⊕ t.a3 }

abbrev pub zero_registers : Registers
zero_registers = record { a1 = replicate 16 0; a2 = replicate 16 0; a3 = replicate 16 0 }

-- mixing: nine dummy rounds, and then the registers as they were before are xored in
unfoldable pub mixed : Sigma → Registers → Registers
mixed c s = dummy_rounds c 9 s ⊞ s

-- A1 = key bytes 16 to 31, A2 = key bytes 0 to 15, A3 = IV
abbrev pub keyed : List ℕ → List ℕ → Registers
keyed key iv = record { a1 = drop 16 key; a2 = take 16 key; a3 = iv }
