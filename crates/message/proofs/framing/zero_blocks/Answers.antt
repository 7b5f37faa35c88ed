use Rattle.std.proofs.lemmas.List.{take-replicate}
use Rattle.message.specs.Framing.{zero_block}
use Rattle.message.proofs.framing.zero_blocks.Goals as goal

pub returns : goal.returns
returns c = take-replicate c.args.count 15 zero_block c.requires
