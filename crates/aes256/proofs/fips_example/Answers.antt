use Rattle.aes256.proofs.Vector.{vector}
use Rattle.aes256.proofs.fips_example.Goals as goal

pub returns : goal.returns
returns c = vector
