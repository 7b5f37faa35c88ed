use Rattle.std.proofs.Common.{◌++◌, take, sym, ap, ◌∙◌, arith}
use Rattle.message.specs.Feeding.{fed, fed_of}
use Rattle.message.proofs.Feedings.{fed_aligned}
use Rattle.message.proofs.state.Framing.feed_aligned.Goals as goal

pub returns : goal.returns
returns g c =
    let m = g.M.Mode in
    let f = c.args.self.now in
    let chunks = c.as_chunks.ensures in
    let bytes = c.args.bytes.now in
    let tail = c.as_chunks.result.1.now in
    record {
      rule = c.absorb_all.ensures.rule;
      fed = fed_aligned (m.rule f.mode) (m.state f.mode) _ bytes c.as_chunks.result.0.now tail _ chunks.front chunks.back (omega (arith, chunks.back_len))
          c.absorb_all.ensures.state (c.add.ensures ∙ ap (λ n. take n f.pending.bytes ++ tail) c.requires)
          ∙ ap (λ n. fed (m.rule f.mode) (fed_of (m.state f.mode) (take n f.pending.bytes)) bytes) (sym c.requires);
    }
