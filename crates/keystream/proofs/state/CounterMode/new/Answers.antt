use Rattle.std.proofs.Common.{ap, ◌∙◌}
use Rattle.aes256.specs.Cipher.{schedule, cipher}
use Rattle.keystream.specs.Keystream.{counter_block, keystream}
use Rattle.keystream.proofs.state.CounterMode.new.Goals as goal

pub returns : goal.returns
unfolding keystream
returns c =
    ap (λ w j. cipher w (counter_block c.args.serial.office c.args.serial.number j)) (c.new.ensures ∙ ap schedule c.bytes.ensures)
