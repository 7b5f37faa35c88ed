use Rattle.laws.proofs.Counting.{law_of_comparisons}
use Rattle.laws.proofs.law_of_comparisons.Goals as goal

pub returns : goal.returns
returns c = law_of_comparisons
