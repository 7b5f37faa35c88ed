-- The words that hold zero.
use Rattle.std.proofs.Common.{◌≡◌, replicate, refl}
use Rattle.words.specs.declared.Words.{Words}
use Rattle.words.specs.Words.{bytes}

abbrev pub none : Words
none = record { 0 = 0; 1 = 0; 2 = 0; 3 = 0 }

pub bytes_none : bytes none ≡ replicate 16 0
unfolding bytes
bytes_none = refl
