use Rattle.std.proofs.Common.{◌∙◌}
use Rattle.columns.proofs.Bytes.{le_xor4}
use Rattle.columns.proofs.Mixes.{entries_column}
use Rattle.columns.proofs.column.Goals as goal

pub returns : goal.returns
returns c =
    le_xor4 _ _ _ _ _ _ _ _ c.entry.ensures c.entry-2.ensures c.entry-3.ensures c.entry-4.ensures
    ∙ entries_column c.args.p c.args.q c.args.s c.args.t
