use Rattle.std.proofs.Common.{◌*◌}
use Rattle.section.proofs.Masks.{Written}
use Rattle.section.proofs.masking.mask.Given as goal

abbrev pub invariant-loop-j : goal.invariant-loop-j
invariant-loop-j g l = Written (g.K.Keystream.words l.keys) l.input l.out (16 * l.j)
