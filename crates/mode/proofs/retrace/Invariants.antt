use Rattle.std.proofs.Common.{◌≡◌}
use Rattle.mode.specs.Rules.{retraced}
use Rattle.mode.proofs.retrace.Given as goal

abbrev pub invariant-loop-block : goal.invariant-loop-block
invariant-loop-block g l =
    let m = g.M.Mode in
    let r = m.rule l.initial.mode in
    (m.rule l.mode ≡ r) × (retraced r (m.state l.mode) l.block-iterator.iter.rest.now ≡ retraced r (m.state l.initial.mode) l.blocks)
