use Rattle.std.proofs.Common.{◌≡◌, fold, sym, ◌∙◌, subst, rules}
use Rattle.std.proofs.lemmas.Fn.{fold_over, slice_gives, fronts}
use Rattle.std.proofs.lemmas.List.Sums.{fold_push}
use Rattle.rounds.specs.Permutations.{sigma1}
use Rattle.rounds.specs.Mixing.{zero_registers}
use Rattle.registers.specs.Registers.{regs}
use Rattle.streams.specs.Folds.{add, joined_folded}
use Rattle.streams.proofs.joined.Goals as goal

pub returns : goal.returns
returns c =
    subst (λ l. regs sigma1 c.fold.result ≡ fold add zero_registers l) c.iter.ensures.rest
    (fold_over fronts (λ y. y.now) _ (λ ys a. regs sigma1 a ≡ fold add zero_registers ys) _
    (λ ys a x b f' j k. let e = fold_push add zero_registers ys x.now in search rules)
    _ _ _ _ (slice_gives c.iter.result) c.zero.ensures c.fold.ensures.ran)
    ∙ sym (joined_folded c.args.streams.now)
