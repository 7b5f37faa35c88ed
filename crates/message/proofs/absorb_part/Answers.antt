use Rattle.std.proofs.Common.{◌-◌, ◌++◌, length, replicate, sym, ap, ◌∙◌, arith}
use Rattle.mode.specs.Rules.{after, absorbed}
use Rattle.message.proofs.Feedings.{part_absorbed, flushed_some, flushed_none}
use Rattle.message.proofs.absorb_part.Goals as goal

pub returns-then-tail-gt0-clause-state : goal.returns-then-tail-gt0-clause-state
returns-then-tail-gt0-clause-state g c =
    let m = g.M.Mode in
    let r = m.rule c.args.mode.now in
    let taken = m.state c.absorb_all.new.self in
    let chunks = c.as_chunks.ensures in
    let tail = c.as_chunks.result.1.now in
    c.absorb.ensures.state
    ∙ ap (λ q. after q taken c.block_with.result) c.absorb_all.ensures.rule
    ∙ ap (after r taken) (c.block_with.ensures ∙ ap (λ w. (w ++ tail) ++ replicate (16 - length (w ++ tail)) 0) c.none.ensures)
    ∙ ap (absorbed r taken) (sym (flushed_some tail (omega (arith, c.if-tail-gt0.true))))
    ∙ part_absorbed r (m.state c.args.mode.now) taken c.args.part.now c.as_chunks.result.0.now tail chunks.front chunks.back (omega (arith, chunks.back_len)) c.absorb_all.ensures.state

pub returns-else-tail-gt0-clause-state : goal.returns-else-tail-gt0-clause-state
returns-else-tail-gt0-clause-state g c =
    let m = g.M.Mode in
    let r = m.rule c.args.mode.now in
    let taken = m.state c.absorb_all.new.self in
    let chunks = c.as_chunks.ensures in
    let tail = c.as_chunks.result.1.now in
    ap (absorbed r taken) (sym (flushed_none tail (omega (arith, c.if-tail-gt0.false))))
    ∙ part_absorbed r (m.state c.args.mode.now) taken c.args.part.now c.as_chunks.result.0.now tail chunks.front chunks.back (omega (arith, chunks.back_len)) c.absorb_all.ensures.state
