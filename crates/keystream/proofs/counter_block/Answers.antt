use Rattle.std.proofs.Common.{◌≡◌, reverse, rules}
use Rattle.counts.specs.Little.{little}
use Rattle.keystream.specs.Keystream.{counter_block}
use Rattle.keystream.proofs.counter_block.Goals as goal

pub returns : goal.returns
unfolding counter_block
returns c =
    let office : c.to_le_bytes.result ≡ little 4 c.args.serial.office = search rules in
    let number : c.to_le_bytes-2.result ≡ little 8 c.args.serial.number = search rules in
    let place : c.to_be_bytes.result ≡ reverse (little 4 c.args.place) = search rules in
    rw (office, number, place)
