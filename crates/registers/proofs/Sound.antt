-- The registers that words stand for are blocks.
use Rattle.aes.proofs.Moved.{moved_block}
use Rattle.rounds.specs.Round.{Sound, Sigma, Undone}
use Rattle.words.proofs.Columns.{bytes_block}
use Rattle.registers.specs.declared.RegisterWords.{RegisterWords}
use Rattle.registers.specs.Registers.{regs}

pub regs_sound : {P : Type 0} (c : Sigma) → Undone c → (r : RegisterWords P) → Sound (regs c r)
regs_sound c u r = record { one = moved_block c.there _ u.there_order (bytes_block r.p1); two = bytes_block r.a2; three = bytes_block r.a3 }
