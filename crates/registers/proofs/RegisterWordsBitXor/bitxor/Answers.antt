use Rattle.std.proofs.Common.{sym, ◌∙◌}
use Rattle.aes.proofs.Moved.{moved_xor}
use Rattle.rounds.specs.Mixing.{◌⊞◌}
use Rattle.words.specs.Words.{bytes}
use Rattle.words.proofs.Columns.{bytes_block}
use Rattle.registers.proofs.RegisterWordsBitXor.bitxor.Goals as goal

pub returns : goal.returns
unfolding ◌⊞◌
returns g c =
    let s = c.args.self in
    let t = c.args.t in
    let e = moved_xor g.P.Permutation.sigma.there (bytes s.p1) (bytes t.p1) ((bytes_block s.p1).len ∙ sym (bytes_block t.p1).len) in
    cc
