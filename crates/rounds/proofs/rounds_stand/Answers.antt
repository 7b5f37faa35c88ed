use Rattle.rounds.proofs.Round.{unround_round, round_unround}
use Rattle.rounds.proofs.Permutations.{sigma1_undone, sigma34_undone, sigma12_undone}
use Rattle.rounds.proofs.Reach.{rounds_reach}
use Rattle.rounds.proofs.rounds_stand.Goals as goal

pub returns : goal.returns
returns c = record {
  back = λ s l r m kr km. (unround_round s l r m kr km, round_unround s l r m kr km);
  undone = (sigma1_undone, sigma34_undone, sigma12_undone);
  apart = rounds_reach;
}
