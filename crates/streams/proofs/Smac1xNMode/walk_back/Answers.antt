use Rattle.std.proofs.Common.{ℕ, ◌≤◌, length, get_or, set, ap, ◌∙◌, arith}
use Rattle.mode.proofs.States.{same_state}
use Rattle.rounds.specs.Round.{unround}
use Rattle.rounds.specs.Round.{blank}
use Rattle.rounds.specs.Permutations.{sigma1}
use Rattle.smac.specs.Smac.{flat, threes}
use Rattle.streams.specs.Folds.{changed, empty, shown}
use Rattle.streams.proofs.Smac1xNMode.walk_back.Goals as goal

pub returns-clause-state : goal.returns-clause-state
returns-clause-state c =
    let m = c.args.self.now in
    let n : m.count.n ≤ length m.streams = omega (arith, m.long, m.count.most) in
    let ts = threes (flat (shown m.count.n m.streams)) in
    same_state
    (changed m.count.n m.streams c.prev_place-p.result c.unstep.result empty (λ s. unround sigma1 s c.args.block.now) c.prev_place-p.ensures.within n
    (c.unstep.ensures ∙ ap (unround sigma1 _) c.from.ensures)
    ∙ ap (λ (p : ℕ). flat (set ts p (unround sigma1 (get_or ts p blank) c.args.block.now))) c.prev_place-p.ensures.is)
    c.prev_place-p.ensures.is
