-- Every value of SMAC-1×n stands for a good state of a lawful rule.
use Rattle.std.specs.Prelude.{◌≤◌}
use Rattle.std.proofs.Common.{arith}
use Rattle.mode.specs.Rules.{Good, Lawful}
use Rattle.smac.specs.Smac.{smac1x}
use Rattle.smac.proofs.Many.{many, fit_flat}
use Rattle.streams.specs.declared.state.Smac1xN.{Smac1xN}
use Rattle.streams.specs.States.{state1x}
use Rattle.streams.specs.Folds.{shown, shown_long, shown_sound}

some : (m : Smac1xN) → 1 ≤ m.count.n
some m = let h = m.within in omega arith

pub lawful1x : (m : Smac1xN) → Lawful (smac1x m.count.n)
lawful1x m = many m.count.n (some m) m.count.most

pub good1x : (m : Smac1xN) → Good (smac1x m.count.n) (state1x m)
good1x m =
    let h = m.count.most in
    let l = m.long in
    record { fit = fit_flat m.count.n (some m) m.count.most (shown m.count.n m.streams) (shown_long m.count.n m.streams (omega arith)) (shown_sound _); within = m.within }

-- `finish` has room for the largest tag
pub short1x : (m : Smac1xN) → (smac1x m.count.n).largest ≤ 32
short1x m = omega arith
