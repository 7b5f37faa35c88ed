use Rattle.std.proofs.Common.{◌≡◌, ℕ, sym, ap, ◌∙◌, ap₂, arith}
use Rattle.rounds.specs.Round.{round}
use Rattle.rounds.specs.Mixing.{dummy_rounds}
use Rattle.registers.specs.Registers.{regs}
use Rattle.registers.proofs.Rounds.{dummy_rounds_none, dummy_rounds_more}
use Rattle.registers.proofs.RegisterWords.dummy_rounds.Goals as goal

pub loop-init : goal.loop-init
loop-init g c = sym (dummy_rounds_none g.P.Permutation.sigma (regs g.P.Permutation.sigma c.args.self))

pub loop-preserved : goal.loop-preserved
loop-preserved g c =
    let sg = g.P.Permutation.sigma in
    c.step-s.ensures ∙ ap₂ (round sg) c.loop.invariant c.dummy.ensures ∙ sym (dummy_rounds_more sg c.loop.counter (regs sg c.args.self))
