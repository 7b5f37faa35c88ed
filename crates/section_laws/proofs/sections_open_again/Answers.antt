use Rattle.keystream.specs.Keystream.{keystream}
use Rattle.section_laws.proofs.Sealing.{opens_again, counter_blocks}
use Rattle.section_laws.proofs.sections_open_again.Goals as goal

pub returns : goal.returns
returns c = record { keystreams = opens_again; keys = λ key k office serial. opens_again (keystream key office serial) (counter_blocks key k office serial) }
