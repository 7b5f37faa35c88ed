use Rattle.std.proofs.Common.{◌≡◌, ℕ, ◌/◌, List, [], ◌∷◌, length, get_or, take, drop, refl, ap, ◌∙◌, arith, length-drop, rules}
use Rattle.std.specs.Simd.{first_chunks}
use Rattle.std.proofs.lemmas.List.{take_all}
use Rattle.rounds.proofs.Round.{same}
use Rattle.registers.proofs.RegisterWords.keyed.Goals as goal

pub returns : goal.returns
returns g c =
    let key : List ℕ = c.args.key.now in
    let long : length key ≡ 32 = search rules in
    let n : length key / 16 ≡ 2 = omega arith in
    let halves : c.as_chunks.result.0.now ≡ take 16 key ∷ take 16 (drop 16 key) ∷ [] = c.as_chunks.ensures.front ∙ ap (λ (k : ℕ). first_chunks 16 k key) n in
    let rest : take 16 (drop 16 key) ≡ drop 16 key = take_all 16 (drop 16 key) (omega (arith, length-drop 16 key)) in
    c.from_bytes.ensures ∙ same (ap (λ l. get_or l 1 []) halves ∙ rest) (ap (λ l. get_or l 0 []) halves) refl
