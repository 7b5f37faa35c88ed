use Rattle.std.proofs.Common.{◌≡◌, rules}
use Rattle.counts.specs.Little.{little}
use Rattle.keys.specs.Keys.{iv_of}
use Rattle.keys.proofs.state.Serial.iv.Goals as goal

pub returns : goal.returns
unfolding iv_of
returns c =
    let office : c.to_le_bytes.result ≡ little 4 c.args.self.office = search rules in
    let number : c.to_le_bytes-2.result ≡ little 8 c.args.self.number = search rules in
    rw (office, number)
