-- The pace of a mode of three registers: after which of its blocks it does a dummy round.
use Rattle.std.specs.Prelude.{ℕ, cond, List, [], ◌∷◌, ◌==◌}
use Rattle.rounds.specs.Mixing.{dummy}

-- how long its cycle is, and the blocks of its own that it takes after the block at a place of the cycle
pub record Pace : Type 0 where
  pub cycle : ℕ
  pub own : ℕ → List (List ℕ)

-- none
abbrev pub smac_1 : Pace
smac_1 = record { cycle = 1; own = λ p. [] }

-- one after every third block
abbrev pub smac_3/4 : Pace
smac_3/4 = record { cycle = 3; own = λ p. cond (p == 2) (dummy ∷ []) [] }

-- one after every block
abbrev pub smac_1/2 : Pace
smac_1/2 = record { cycle = 1; own = λ p. dummy ∷ [] }
