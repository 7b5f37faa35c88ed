use Rattle.std.proofs.Common.{◌≡◌, ◌-◌, ◌*◌, ◌/◌, ◌%◌, ◌^◌, arith}
use lib.Bits.{xor_zero_r}
use Rattle.std.proofs.lemmas.Bool.Decides.{nat_tests}
use Rattle.std.proofs.lemmas.Nat.{one_shl}
use Rattle.aes256.specs.Cipher.{rcon, added}
use Rattle.aes256.proofs.temp.Goals as goal

pub returns-in-0 : goal.returns-in-0
unfolding added rcon
returns-in-0 c =
    let one : 1 * 2 ^ (c.args.m / 32 - 1) % 256 ≡ 2 ^ (c.args.m / 32 - 1) = one_shl (c.args.m / 32 - 1) 8 (omega arith) in
    grind (arith, nat_tests, one)

pub returns-in-0-2 : goal.returns-in-0-2
unfolding added rcon
returns-in-0-2 c = grind (arith, nat_tests, xor_zero_r)

pub returns-in-4 : goal.returns-in-4
unfolding added
returns-in-4 c = grind (arith, nat_tests)

pub returns-in_default : goal.returns-in_default
unfolding added
returns-in_default c = grind (arith, nat_tests)
