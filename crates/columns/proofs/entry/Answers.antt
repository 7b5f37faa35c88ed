use Rattle.std.proofs.Common.{◌<◌, rules}
use Rattle.aes.specs.Field.{xtime}
use Rattle.aes.specs.Round.{sub, times3}
use Rattle.columns.proofs.Table.{entry_at}
use Rattle.columns.proofs.entry.Goals as goal

pub returns : goal.returns
unfolding sub xtime times3
returns g c =
    let h : c.args.b < 256 = search rules in
    entry_at g.row.ROW c.args.b c.requires h
