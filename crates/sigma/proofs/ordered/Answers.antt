use Rattle.std.proofs.Common.{sym, ap, ◌∙◌}
use Rattle.aes.specs.Blocks.{block, moved}
use Rattle.sigma.proofs.Orders.{moved_is}
use Rattle.sigma.proofs.ordered.Goals as goal

pub returns : goal.returns
unfolding block
returns c =
    let order = c.args.order.now in
    c.from.ensures ∙ sym (moved_is order c.to_bytes-b.result c.requires) ∙ ap (moved order) c.to_bytes-b.ensures
