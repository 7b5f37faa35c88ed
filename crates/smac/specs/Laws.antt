-- What is proved of the four modes.
use Rattle.std.specs.Prelude.{◌≡◌, ℕ, ◌*◌, ◌≤◌}
use Rattle.mode.specs.Rules.{Rule, Lawful}
use Rattle.smac.specs.Smac.{smac1, smac34, smac12, smac1x}

-- the four modes, by name
pub data Smac : Rule → Type 0 where
  whole : Smac smac1
  three_quarters : Smac smac34
  half : Smac smac12
  streams : (n : ℕ) → 1 ≤ n → n ≤ 16 → Smac (smac1x n)

-- a lawful mode with so many registers, this reach and this largest tag
pub record Stands (r : Rule) (registers reach largest : ℕ) : Type 0 where
  pub lawful : Lawful r
  pub has_registers : r.count ≡ registers
  pub has_reach : r.reach ≡ reach
  pub has_largest : r.largest ≡ largest

pub record ModesAreLawful : Type 0 where
  pub whole_stands : Stands smac1 3 3 16
  pub three_quarters_stands : Stands smac34 3 2 20
  pub half_stands : Stands smac12 3 1 32
  pub streams_stand : (n : ℕ) → 1 ≤ n → n ≤ 16 → Stands (smac1x n) (3 * n) (3 * n) 16
