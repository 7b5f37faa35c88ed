-- What the modes of three registers stand for.
use Rattle.mode.specs.Rules.{Rule, State}
use Rattle.smac.specs.Smac.{only, paced}
use Rattle.registers.specs.Registers.{regs}
use Rattle.sigma.specs.declared.Permutation as permutation
use Rattle.sigma.specs.declared.Whole.{Whole}
use Rattle.singles.specs.declared.variant.Variant as variant
use Rattle.singles.specs.declared.state.Paced.{Paced}

-- the rule of a variant, and where one of its values stands
abbrev pub rule_of : {V : Type 0} → variant.Ghosts V → permutation.Ghosts V → Rule
rule_of v p = paced p.sigma v.pace v.reach v.LONGEST

abbrev pub state_of : {V : Type 0} {v : variant.Ghosts V} {p : permutation.Ghosts V} → Paced V v p → State
state_of {V} {v} {p} m = record { regs = only (regs p.sigma m.regs); place = m.place }

-- SMAC-1's
abbrev pub state1 : {v : variant.Ghosts Whole} {p : permutation.Ghosts Whole} → Paced Whole v p → State
state1 m = state_of m
