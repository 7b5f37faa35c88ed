-- Keystreams: a word of sixteen bytes at each place. The one in use is AES-256 in counter mode.
use Rattle.std.specs.Prelude.{ℕ, List, ◌++◌, reverse}
use Rattle.aes.specs.Blocks.{Block}
use Rattle.aes256.specs.Cipher.{AES256}
use Rattle.counts.specs.Little.{little}

-- a keystream whose words are blocks
abbrev pub OfBlocks : (ℕ → List ℕ) → Type 0
OfBlocks z = (j : ℕ) → Block (z j)

-- the block for place j: office (4 bytes) and serial (8 bytes), the lowest byte first, and j (4 bytes), the highest byte first
unfoldable pub counter_block : ℕ → ℕ → ℕ → List ℕ
counter_block office serial j = little 4 office ++ (little 8 serial ++ reverse (little 4 j))

-- the keystream of a key of 32 bytes, an office and a serial
unfoldable pub keystream : List ℕ → ℕ → ℕ → ℕ → List ℕ
keystream key office serial j = AES256 key (counter_block office serial j)
