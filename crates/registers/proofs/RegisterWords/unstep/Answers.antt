use Rattle.aes.specs.Blocks.{Block, ◌⊕◌}
use Rattle.aes.specs.Round.{Finv}
use Rattle.aes.proofs.Undo.{Finv_block}
use Rattle.aes.proofs.Xor.{xor_block}
use Rattle.aes.proofs.Moved.{moved_back, moved_there}
use Rattle.rounds.specs.Round.{unround}
use Rattle.words.specs.Words.{bytes}
use Rattle.words.proofs.Columns.{bytes_block}
use Rattle.registers.proofs.RegisterWords.unstep.Goals as goal

pub returns : goal.returns
unfolding unround
returns g c =
    let s = c.args.self in
    let m = bytes c.args.m in
    let u = g.met.P.Permutation.undone in
    let two : Block (bytes s.a2 ⊕ m) = xor_block _ _ (bytes_block s.a2) (bytes_block c.args.m) in
    let e1 = moved_there g.P.Permutation.sigma.there g.P.Permutation.sigma.back u (Finv (bytes s.a2 ⊕ m)) (Finv_block _ two) in
    let e3 = moved_back g.P.Permutation.sigma.there g.P.Permutation.sigma.back u (bytes s.p1) (bytes_block s.p1) in
    cc
