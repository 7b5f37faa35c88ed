use Rattle.std.proofs.Common.{refl}
use Rattle.rounds.specs.Permutations.{pi_3/4_back}
use Rattle.sigma.proofs.ThreeQuartersPermutation.back.Goals as goal

pub returns : goal.returns
unfolding pi_3/4_back
returns c = refl
