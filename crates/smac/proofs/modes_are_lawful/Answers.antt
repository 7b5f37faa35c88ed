use Rattle.smac.proofs.Laws.{modes_are_lawful}
use Rattle.smac.proofs.modes_are_lawful.Goals as goal

pub returns : goal.returns
returns c = modes_are_lawful
