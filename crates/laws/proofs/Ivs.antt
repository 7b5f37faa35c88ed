-- The IV of an office and a serial is a block.
use Rattle.std.proofs.Common.{ℕ, ◌++◌, replicate, refl}
use Rattle.aes.specs.Blocks.{Block}
use Rattle.counts.specs.Little.{little}
use Rattle.message.proofs.Blocks.{bytes_append, bytes_zeros, little_bytes}
use Rattle.keys.specs.Keys.{iv_of}

pub iv_block : (office serial : ℕ) → Block (iv_of office serial)
unfolding iv_of
iv_block office serial = record {
  len = refl;
  bytes = bytes_append (little 4 office) (replicate 3 0 ++ (little 8 serial ++ replicate 1 0)) (little_bytes 4 office)
      (bytes_append (replicate 3 0) (little 8 serial ++ replicate 1 0) (bytes_zeros 3) (bytes_append (little 8 serial) (replicate 1 0) (little_bytes 8 serial) (bytes_zeros 1)));
}
