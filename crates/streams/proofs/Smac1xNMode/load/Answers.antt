use Rattle.std.proofs.Common.{◌≡◌, ◌<◌, refl, ap, arith, rules}
use Rattle.mode.proofs.States.{same_state}
use Rattle.rounds.specs.Permutations.{sigma1}
use Rattle.smac.specs.Smac.{flat, stream_start}
use Rattle.registers.specs.Registers.{regs}
use Rattle.streams.specs.Folds.{empty, started}
use Rattle.streams.proofs.FromFn.{made_by}
use Rattle.streams.proofs.Smac1xNMode.load.Goals as goal

pub returns-clause-state : goal.returns-clause-state
returns-clause-state c =
    let n = c.args.setup.n in
    let key = c.args.key.now in
    let iv = c.args.iv.now in
    let most = c.args.setup.most in
    let items = c.from_fn-streams.ensures.items in
    same_state
    (ap flat
    (started n key iv c.from_fn-streams.result empty (omega (arith, items.long))
    (λ k h. made_by _ _ (λ i r. i < n → regs sigma1 r ≡ stream_start n key iv i) (λ i y q called. search rules) c.from_fn-streams.result 16 items k (omega arith) empty h)))
    refl
