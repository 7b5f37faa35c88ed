use Rattle.std.proofs.Common.{◌≡◌, ◌/◌, refl, arith}
use lib.Bits.{xor_zero_r}
use Rattle.aes.specs.Round.{times}
use Rattle.aes.proofs.times.Goals as goal

pub returns : goal.returns
unfolding times
returns g c =
    let four : g.row.C / 4 ≡ g.row.C / 2 / 2 = omega arith in
    let eight : g.row.C / 8 ≡ g.row.C / 2 / 2 / 2 = omega arith in
    rw (four, eight, c.double-b8.ensures, c.double-b4.ensures, c.double-b2.ensures, xor_zero_r) refl
