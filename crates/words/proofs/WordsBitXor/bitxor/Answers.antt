use Rattle.aes.specs.Blocks.{◌⊕◌}
use Rattle.columns.proofs.Bytes.{le_xor}
use Rattle.words.specs.Words.{bytes}
use Rattle.words.proofs.Join.{join4}
use Rattle.words.proofs.WordsBitXor.bitxor.Goals as goal

pub returns : goal.returns
unfolding ◌⊕◌ bytes
returns c =
    join4 (le_xor c.args.self.0 c.args.y.0) (le_xor c.args.self.1 c.args.y.1) (le_xor c.args.self.2 c.args.y.2)
    (le_xor c.args.self.3 c.args.y.3)
