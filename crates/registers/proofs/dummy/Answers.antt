use Rattle.std.proofs.Common.{refl}
use Rattle.rounds.specs.Mixing.{dummy}
use Rattle.words.specs.Words.{bytes}
use Rattle.registers.proofs.dummy.Goals as goal

pub returns : goal.returns
unfolding bytes dummy
returns c = refl
