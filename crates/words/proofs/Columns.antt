-- F of a block, column by column; and the bytes of words are a block.
use Rattle.std.proofs.Common.{◌≡◌, ℕ, ◌%◌, ◌<◌, List, [], ◌++◌, get_or, refl, arith}
use Rattle.std.specs.List.{AllByRecursion}
use Rattle.std.proofs.ByRecursion.{All-get_or}
use Rattle.aes.specs.Blocks.{block, Block}
use Rattle.aes.specs.Round.{F, SubBytes, ShiftRows, MixColumns}
use Rattle.aes.proofs.Blocks.{is_bytes}
use Rattle.columns.specs.Columns.{le, column}
use Rattle.words.specs.declared.Words.{Words}
use Rattle.words.specs.Words.{bytes}

pub F_columns : (x : List ℕ) → F x ≡
    column (get_or x 0 0) (get_or x 5 0) (get_or x 10 0) (get_or x 15 0)
    ++ (column (get_or x 4 0) (get_or x 9 0) (get_or x 14 0) (get_or x 3 0)
    ++ (column (get_or x 8 0) (get_or x 13 0) (get_or x 2 0) (get_or x 7 0)
    ++ column (get_or x 12 0) (get_or x 1 0) (get_or x 6 0) (get_or x 11 0)))
unfolding F SubBytes ShiftRows MixColumns block
F_columns x = refl

low : (n : ℕ) → n % 256 < 256
low n = omega arith

four : (w : ℕ) (xs : List ℕ) → AllByRecursion (λ b. b < 256) xs → AllByRecursion (λ b. b < 256) (le w ++ xs)
four w xs h = (low _, (low _, (low _, (low _, h))))

pub bytes_block : (x : Words) → Block (bytes x)
unfolding bytes
bytes_block x =
    is_bytes (bytes x) refl (λ k h. All-get_or (λ b. b < 256) (bytes x) k 0 h (four x.0 (le x.1 ++ (le x.2 ++ le x.3)) (four x.1 (le x.2 ++ le x.3) (four x.2 (le x.3) (four x.3 [] tt)))))
