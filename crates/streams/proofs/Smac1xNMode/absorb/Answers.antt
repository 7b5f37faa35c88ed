use Rattle.std.proofs.Common.{◌≤◌, length, ap, ◌∙◌, arith}
use Rattle.mode.proofs.States.{same_state}
use Rattle.rounds.specs.Round.{round}
use Rattle.rounds.specs.Permutations.{sigma1}
use Rattle.streams.specs.Folds.{changed, empty}
use Rattle.streams.proofs.Smac1xNMode.absorb.Goals as goal

pub returns-clause-state : goal.returns-clause-state
returns-clause-state c =
    let m = c.args.self.now in
    let n : m.count.n ≤ length m.streams = omega (arith, m.long, m.count.most) in
    same_state
    (changed m.count.n m.streams m.place c.step.result empty (λ s. round sigma1 s c.args.block.now) m.within n
    (c.step.ensures ∙ ap (round sigma1 _) c.from.ensures))
    c.next_place-self.ensures.is
