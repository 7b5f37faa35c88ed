-- Each permutation is undone by the one beside it: one computed test of each.
use Rattle.std.proofs.Common.{refl}
use Rattle.aes.specs.Blocks.{moved}
use Rattle.rounds.specs.Round.{Undone}
use Rattle.rounds.specs.Permutations.{pi_1, pi_3/4, pi_3/4_back, pi_1/2, pi_1/2_back, sigma1, sigma34, sigma12}

pub sigma1_undone : Undone sigma1
unfolding moved pi_1
sigma1_undone = record { there_order = record { whole = refl; below = tt }; back_order = record { whole = refl; below = tt }; home = refl; away = refl }

pub sigma34_undone : Undone sigma34
unfolding moved pi_3/4 pi_3/4_back
sigma34_undone = record { there_order = record { whole = refl; below = tt }; back_order = record { whole = refl; below = tt }; home = refl; away = refl }

pub sigma12_undone : Undone sigma12
unfolding moved pi_1/2 pi_1/2_back
sigma12_undone = record { there_order = record { whole = refl; below = tt }; back_order = record { whole = refl; below = tt }; home = refl; away = refl }
