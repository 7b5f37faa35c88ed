-- The registers that the words stand for.
use Rattle.std.specs.Prelude.{ℕ, List, [], ◌∷◌}
use Rattle.aes.specs.Blocks.{moved}
use Rattle.rounds.specs.Round.{Registers, Sigma}
use Rattle.words.specs.Words.{bytes}
use Rattle.registers.specs.declared.RegisterWords.{RegisterWords}

-- A1 is kept as it was before sigma
abbrev pub regs : {P : Type 0} → Sigma → RegisterWords P → Registers
regs s r = record { a1 = moved s.there (bytes r.p1); a2 = bytes r.a2; a3 = bytes r.a3 }

abbrev pub three_of : Registers → List (List ℕ)
three_of s = s.a1 ∷ s.a2 ∷ s.a3 ∷ []
