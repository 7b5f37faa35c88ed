use Rattle.aes.proofs.Moved.{moved_there}
use Rattle.words.specs.Words.{bytes}
use Rattle.words.proofs.Columns.{bytes_block}
use Rattle.registers.proofs.RegisterWords.from_bytes.Goals as goal

pub returns : goal.returns
returns g c =
    let sg = g.P.Permutation.sigma in
    let e = moved_there sg.there sg.back g.met.P.Permutation.undone (bytes c.from.result) (bytes_block c.from.result) in
    cc
