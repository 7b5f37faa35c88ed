use Rattle.std.proofs.Common.{◌≡◌}
use Rattle.rounds.specs.Mixing.{dummy_rounds}
use Rattle.registers.specs.Registers.{regs}
use Rattle.registers.proofs.RegisterWords.dummy_rounds.Given as goal

abbrev pub invariant-loop : goal.invariant-loop
invariant-loop g l = regs g.P.Permutation.sigma l.s ≡ dummy_rounds g.P.Permutation.sigma l.counter (regs g.P.Permutation.sigma l.initial.s)
