-- Every value of the modes of three registers stands for a good state.
use Rattle.rounds.specs.Round.{Undone}
use Rattle.mode.specs.Rules.{Good}
use Rattle.smac.proofs.Singles.{fit_only}
use Rattle.registers.specs.Registers.{regs}
use Rattle.registers.proofs.Sound.{regs_sound}
use Rattle.sigma.specs.declared.Permutation as permutation
use Rattle.singles.specs.declared.variant.Variant as variant
use Rattle.singles.specs.declared.state.Paced.{Paced}
use Rattle.singles.specs.States.{rule_of, state_of}

pub good_of : {V : Type 0} {v : variant.Ghosts V} {p : permutation.Ghosts V} → Undone p.sigma → (m : Paced V v p) → Good (rule_of v p) (state_of m)
good_of {V} {v} {p} u m =
    record { fit = fit_only p.sigma u v.pace v.reach v.LONGEST (regs p.sigma m.regs) (regs_sound p.sigma u m.regs); within = m.within }
