use Rattle.std.proofs.Common.{rules}
use Rattle.aes.specs.Round.{InvSubBytes}
use Rattle.aes.proofs.Blocks.{is_block}
use Rattle.aes.proofs.inv_sub_bytes.Goals as goal

pub returns : goal.returns
unfolding InvSubBytes
returns c =
    let all = c.map.ensures.items in
    is_block _ c.map.result all.long (λ k h. let one = all.at k 0 0 h in search rules)
