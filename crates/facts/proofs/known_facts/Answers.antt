use Rattle.facts.proofs.Values.{known_facts}
use Rattle.facts.proofs.known_facts.Goals as goal

pub returns : goal.returns
returns c = known_facts
