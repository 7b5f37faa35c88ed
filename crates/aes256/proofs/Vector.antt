-- The example of FIPS 197, computed.
use Rattle.std.proofs.Common.{refl}
use Rattle.aes.specs.Blocks.{block, ◌⊕◌}
use Rattle.aes.specs.Field.{xtime}
use Rattle.aes.specs.Round.{sub, times3, mix, SubBytes, ShiftRows, MixColumns, F}
use Rattle.aes256.specs.Cipher.{rcon, added, temp, next_byte, grow, schedule, round_key, rounds, cipher}
use Rattle.aes256.specs.Known.{VectorC3}

pub vector : VectorC3
unfolding block ◌⊕◌ xtime sub times3 mix SubBytes ShiftRows MixColumns F rcon added temp next_byte grow schedule round_key rounds cipher
vector = refl
