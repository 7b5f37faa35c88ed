use Rattle.std.proofs.Common.{◌≡◌, ◌-◌, length, take}
use Rattle.aes256.specs.Cipher.{grow, schedule}
use Rattle.aes256.proofs.state.Aes256.new.Given as goal

abbrev pub invariant-loop-m : goal.invariant-loop-m
invariant-loop-m l = (length l.schedule ≡ 240) × (grow (240 - l.m) (take l.m l.schedule) ≡ schedule l.key)
