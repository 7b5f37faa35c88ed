use Rattle.std.proofs.Common.{◌≡◌, ◌++◌, sym, ap, ◌∙◌, ap₂}
use Rattle.aes.specs.Blocks.{◌⊕◌}
use Rattle.rounds.specs.Round.{Registers}
use Rattle.smac.specs.Smac.{flat, threes, joined}
use Rattle.rounds.specs.Mixing.{dummy_rounds}
use Rattle.rounds.specs.Permutations.{sigma1}
use Rattle.smac.proofs.Shapes.{threes_flat}
use Rattle.words.proofs.Zeros.{bytes_none}
use Rattle.registers.specs.Registers.{regs}
use Rattle.streams.specs.Folds.{shown}
use Rattle.streams.proofs.Smac1xNMode.finish.Goals as goal

pub returns : goal.returns
returns c =
    let m = c.args.self.now in
    let ts = shown m.count.n m.streams in
    let sum : regs sigma1 c.joined-sum.result ≡ joined (threes (flat ts)) = c.joined-sum.ensures ∙ ap joined (sym (threes_flat ts)) in
    let end : regs sigma1 c.dummy_rounds-r.result ≡ dummy_rounds sigma1 8 (joined (threes (flat ts))) = c.dummy_rounds-r.ensures ∙ ap (dummy_rounds sigma1 8) sum in
    c.pair_with.ensures
    ∙ ap₂ ◌++◌ (c.bitxor.ensures ∙ ap₂ ◌⊕◌ (ap (λ (r : Registers). r.a2) end) (ap (λ (r : Registers). r.a2) sum)) bytes_none
