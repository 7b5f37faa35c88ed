use Rattle.std.proofs.Common.{refl}
use Rattle.rounds.specs.Permutations.{pi_1/2_back}
use Rattle.sigma.proofs.HalfPermutation.back.Goals as goal

pub returns : goal.returns
unfolding pi_1/2_back
returns c = refl
