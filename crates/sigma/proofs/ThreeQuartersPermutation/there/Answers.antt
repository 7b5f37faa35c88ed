use Rattle.std.proofs.Common.{refl}
use Rattle.rounds.specs.Permutations.{pi_3/4}
use Rattle.sigma.proofs.ThreeQuartersPermutation.there.Goals as goal

pub returns : goal.returns
unfolding pi_3/4
returns c = refl
