use Rattle.rounds.specs.Mixing.{mixed}
use Rattle.registers.proofs.RegisterWords.mixed.Goals as goal

pub returns : goal.returns
unfolding mixed
returns g c = cc
