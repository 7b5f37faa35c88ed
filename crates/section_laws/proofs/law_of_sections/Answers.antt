use Rattle.keystream.specs.Keystream.{keystream}
use Rattle.section_laws.proofs.Sealing.{law_of_sections, counter_blocks}
use Rattle.section_laws.proofs.law_of_sections.Goals as goal

pub returns : goal.returns
returns c = record { keystreams = law_of_sections; keys = λ key k office serial. law_of_sections (keystream key office serial) (counter_blocks key k office serial) }
