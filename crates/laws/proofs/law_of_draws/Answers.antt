use Rattle.laws.proofs.Drawing.{law_of_draws}
use Rattle.laws.proofs.law_of_draws.Goals as goal

pub returns : goal.returns
returns c = law_of_draws
