use Rattle.std.proofs.Common.{◌≡◌, ℕ, ◌+◌, ◌-◌, ◌*◌, ◌/◌, ◌≤◌, [], length, get_or, take, drop, ap, ◌∙◌, subst, arith}
use Rattle.aes.specs.Blocks.{◌⊕◌}
use Rattle.section.proofs.Masks.{Written, chunk_at, mask_block, mask_end}
use Rattle.section.proofs.masking.mask.Goals as goal

pub loop-j-preserved : goal.loop-j-preserved
loop-j-preserved g c =
    let input = c.args.input.now in
    let j : ℕ = c.loop-j.j in
    let z = g.K.Keystream.words c.args.keys.now in
    let chunks = c.as_chunks.ensures in
    let block = get_or c.as_chunks.result.0.now j [] in
    let h : 16 * j + 16 ≤ length input = omega (arith, chunks.front_len, c.loop-j-test.true) in
    let at : block ≡ take 16 (drop (16 * j) input) = ap (λ xs. get_or xs j []) chunks.front ∙ chunk_at (length input / 16) j input (omega (arith, chunks.front_len, c.loop-j-test.true)) (omega arith) in
    mask_block z input c.loop-j.out block _ j _ h (omega arith) (g.met.K.Keystream.block c.args.keys.now (3 + j)).len
    at (c.xor_into.ensures ∙ ap (λ w. block ⊕ w) c.word-word.ensures) c.loop-j.invariant

pub returns : goal.returns
returns g c =
    let input = c.args.input.now in
    let out = c.loop-j.out in
    let z = g.K.Keystream.words c.args.keys.now in
    let chunks = c.as_chunks.ensures in
    let whole = length c.as_chunks.result.0.now in
    let tail = c.as_chunks.result.1.now in
    let many : whole ≡ length input / 16 = chunks.front_len in
    let place : length input / 16 * 16 ≡ 16 * whole = omega (arith, many) in
    let ended : c.loop-j.j ≡ whole = omega (arith, c.loop-j-test.false, c.loop-j.auto.j-end) in
    let inv : Written z input out (16 * whole) = subst (λ (j : ℕ). Written z input out (16 * j)) ended c.loop-j.invariant in
    mask_end z input out tail _ whole (length out - 16 * whole) (omega (arith, many)) (omega arith) (omega (arith, many)) (g.met.K.Keystream.block c.args.keys.now (3 + whole)).len
    (chunks.back ∙ ap (λ n. drop n input) place) (c.xor_into-2.ensures ∙ ap (λ w. tail ⊕ w) c.word-word-2.ensures) inv
