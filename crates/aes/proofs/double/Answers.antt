use Rattle.std.proofs.Common.{◌≡◌, ℕ, ◌*◌, ◌/◌, ◌%◌, ap, arith}
use lib.Bits.{bit_xor}
use Rattle.aes.specs.Field.{xtime}
use Rattle.aes.proofs.double.Goals as goal

pub returns : goal.returns
unfolding xtime
returns c =
    let e : c.args.b / 128 ≡ c.args.b / 128 % 2 = omega arith in
    ap (λ (x : ℕ). bit_xor (c.args.b * 2 % 256) (x * 27)) e
