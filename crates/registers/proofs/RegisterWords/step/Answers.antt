use Rattle.rounds.specs.Round.{round}
use Rattle.registers.proofs.RegisterWords.step.Goals as goal

pub returns : goal.returns
unfolding round
returns g c = cc
