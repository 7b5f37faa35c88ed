-- What the code keeps of a variant, and that it suits the pace.
use Rattle.std.specs.Prelude.{◌≡◌, ℕ, ◌+◌, ◌-◌, ◌<◌, ◌≤◌, Bool, true, false, cond, [], ◌∷◌, refl}
use Rattle.std.proofs.Common.{arith}
use Rattle.std.proofs.lemmas.Bool.Decides.{nat_tests}
use Rattle.rounds.specs.Mixing.{dummy}
use Rattle.rounds.specs.Paced.{Pace, smac_1, smac_3/4, smac_1/2}

pub record Suits (pace : Pace) (cycle : ℕ) (pauses : Bool) (longest : ℕ) : Type 0 where
  pub has_cycle : pace.cycle ≡ cycle
  -- where there are dummy rounds, one ends the cycle, and no other place has one
  pub ends : pace.own (cycle - 1) ≡ cond pauses (dummy ∷ []) []
  pub rests : (p : ℕ) → p + 1 < cycle → pace.own p ≡ []
  -- a tag is no longer than two registers
  pub short : longest ≤ 32

pub whole_suits : Suits smac_1 1 false 16
whole_suits = record { has_cycle = refl; ends = refl; rests = λ p h. refl; short = omega arith }

pub three_quarters_suits : Suits smac_3/4 3 true 20
three_quarters_suits = record { has_cycle = refl; ends = refl; rests = λ p h. grind (arith, nat_tests); short = omega arith }

pub half_suits : Suits smac_1/2 1 true 32
half_suits = record { has_cycle = refl; ends = refl; rests = λ p h. absurd (omega arith); short = omega arith }
