-- The bytes of four words, the lowest first.
use Rattle.std.specs.Prelude.{ℕ, List, ◌++◌}
use Rattle.columns.specs.Columns.{le}
use Rattle.words.specs.declared.Words.{Words}

unfoldable pub bytes : Words → List ℕ
bytes x = le x.0 ++ (le x.1 ++ (le x.2 ++ le x.3))
