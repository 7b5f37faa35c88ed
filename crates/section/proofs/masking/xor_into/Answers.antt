use Rattle.std.proofs.Common.{◌≤◌, length, sym, ◌∙◌, arith}
use Rattle.std.proofs.lemmas.List.{ext_get_or}
use Rattle.aes.specs.Blocks.{◌⊕◌}
use Rattle.section.proofs.Masks.{length_cut, get_or_cut}
use Rattle.section.proofs.masking.xor_into.Goals as goal

pub returns : goal.returns
returns c =
    let input = c.args.input.now in
    let word = c.args.word.now in
    let short : length input ≤ length word = omega arith in
    ext_get_or 0 c.loop-i.out (input ⊕ word) (omega (arith, length_cut input word short))
    (λ k h. c.loop-i.invariant k (omega arith) ∙ sym (get_or_cut input word k (omega arith) short))
