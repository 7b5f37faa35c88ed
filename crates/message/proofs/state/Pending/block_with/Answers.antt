use Rattle.std.proofs.Common.{refl, arith}
use Rattle.message.specs.Feeding.{held}
use Rattle.message.proofs.Feedings.{block_filled, held_length}
use Rattle.message.proofs.state.Pending.block_with.Goals as goal

pub returns : goal.returns
returns c =
    let p = c.args.self.now in
    block_filled _ _ (held p) c.args.more.now _ _ c.copy_from_slice.ensures.after c.copy_from_slice-2.ensures.after (omega (arith, held_length p)) refl
    (omega (arith, c.requires, held_length p))
