use Rattle.std.proofs.Common.{◌≡◌, ℕ, ◌<◌, List, length, get_or, ◌∙◌, rules}
use Rattle.std.proofs.lemmas.Simd.{pick_l_whole}
use Rattle.words.specs.Words.{bytes}
use Rattle.words.proofs.Join.{join4}
use Rattle.words.proofs.Packed.{le_packed}
use Rattle.words.proofs.WordsFromRefArrayU816.from.Goals as goal

pub returns : goal.returns
unfolding bytes
returns c =
    let m : List ℕ = c.args.m.now in
    let small : (k : ℕ) → get_or m k 0 < 256 = λ k. search rules in
    let long : length m ≡ 16 = search rules in
    join4
    (le_packed _ _ _ _ _ c.from_le_bytes.ensures (small 0) (small 1) (small 2) (small 3))
    (le_packed _ _ _ _ _ c.from_le_bytes-2.ensures (small 4) (small 5) (small 6) (small 7))
    (le_packed _ _ _ _ _ c.from_le_bytes-3.ensures (small 8) (small 9) (small 10) (small 11))
    (le_packed _ _ _ _ _ c.from_le_bytes-4.ensures (small 12) (small 13) (small 14) (small 15))
    ∙ pick_l_whole 0 m 16 long
