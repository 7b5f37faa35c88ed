use Rattle.std.proofs.Common.{refl}
use Rattle.aes.specs.Round.{sub_inv}
use Rattle.aes.proofs.inv_sub_byte.Goals as goal

pub returns : goal.returns
unfolding sub_inv
returns c = refl
