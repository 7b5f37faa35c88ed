-- What a keystream of the code stands for.
use Rattle.std.specs.Prelude.{ℕ, List}
use Rattle.aes256.specs.Cipher.{cipher}
use Rattle.keystream.specs.Keystream.{counter_block}
use Rattle.keystream.specs.declared.state.CounterMode.{CounterMode}

-- the words of counter mode under an expanded key
abbrev pub counter_words : CounterMode → ℕ → List ℕ
counter_words s j = cipher s.expanded.schedule (counter_block s.serial.office s.serial.number j)
