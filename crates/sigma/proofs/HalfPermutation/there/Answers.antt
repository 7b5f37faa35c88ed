use Rattle.std.proofs.Common.{refl}
use Rattle.rounds.specs.Permutations.{pi_1/2}
use Rattle.sigma.proofs.HalfPermutation.there.Goals as goal

pub returns : goal.returns
unfolding pi_1/2
returns c = refl
