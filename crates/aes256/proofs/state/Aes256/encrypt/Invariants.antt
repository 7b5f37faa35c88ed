use Rattle.std.proofs.Common.{◌≡◌}
use Rattle.words.specs.Words.{bytes}
use Rattle.aes256.specs.Cipher.{rounds}
use Rattle.aes256.proofs.state.Aes256.encrypt.Given as goal

abbrev pub invariant-loop-key : goal.invariant-loop-key
invariant-loop-key l = bytes l.s ≡ rounds l.self.schedule l.block l.key-index
