use Rattle.std.proofs.Common.{sym, ◌∙◌}
use Rattle.words.specs.Words.{bytes}
use Rattle.words.proofs.Join.{join4}
use Rattle.words.proofs.Columns.{F_columns}
use Rattle.words.proofs.Words.f.Goals as goal

pub returns : goal.returns
unfolding bytes
returns c =
    join4 c.column.ensures c.column-2.ensures c.column-3.ensures c.column-4.ensures
    ∙ rw (c.to_le_bytes.ensures, c.to_le_bytes-2.ensures, c.to_le_bytes-3.ensures, c.to_le_bytes-4.ensures) (sym (F_columns (bytes c.args.self)))
