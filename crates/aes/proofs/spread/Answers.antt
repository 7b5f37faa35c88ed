use Rattle.std.proofs.Common.{rules}
use Rattle.aes.proofs.Blocks.{from_fn_block}
use Rattle.aes.proofs.spread.Goals as goal

pub returns : goal.returns
returns g c = from_fn_block _ _ _ _ (λ i r f' l k. search rules) c.from_fn.ensures.items
