-- Every value of the enum of modes stands for a good state of a lawful rule.
use Rattle.std.specs.Prelude.{◌≤◌}
use Rattle.std.proofs.Common.{arith}
use Rattle.mode.specs.Rules.{Lawful, Good}
use Rattle.smac.proofs.Singles.{whole, three_quarters, half}
use Rattle.rounds.proofs.Permutations.{sigma1_undone, sigma34_undone, sigma12_undone}
use Rattle.singles.specs.Goods.{good_of}
use Rattle.streams.specs.Goods.{lawful1x, good1x}
use Rattle.modes.specs.declared.kinds.AnyMode.{AnyMode}
use Rattle.modes.specs.declared.kinds.AnyMode.TheVariants as any
use Rattle.modes.specs.Any.{any_rule, any_state}

pub any_lawful : (m : AnyMode) → Lawful (any_rule m)
any_lawful (any.Smac1 m) = whole
any_lawful (any.Smac34 m) = three_quarters
any_lawful (any.Smac12 m) = half
any_lawful (any.Smac1xN m) = lawful1x m

pub any_good : (m : AnyMode) → Good (any_rule m) (any_state m)
any_good (any.Smac1 m) = good_of sigma1_undone m
any_good (any.Smac34 m) = good_of sigma34_undone m
any_good (any.Smac12 m) = good_of sigma12_undone m
any_good (any.Smac1xN m) = good1x m

-- `finish` has room for the largest tag
pub any_short : (m : AnyMode) → (any_rule m).largest ≤ 32
any_short (any.Smac1 m) = omega arith
any_short (any.Smac34 m) = omega arith
any_short (any.Smac12 m) = omega arith
any_short (any.Smac1xN m) = omega arith
