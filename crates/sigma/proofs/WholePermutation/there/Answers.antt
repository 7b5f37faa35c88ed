use Rattle.std.proofs.Common.{refl}
use Rattle.rounds.specs.Permutations.{pi_1}
use Rattle.sigma.proofs.WholePermutation.there.Goals as goal

pub returns : goal.returns
unfolding pi_1
returns c = refl
