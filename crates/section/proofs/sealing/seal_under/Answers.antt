use Rattle.std.proofs.Common.{◌≡◌, ℕ, ◌-◌, ◌++◌, length, take, drop, ap, ◌∙◌, ap₂, arith, rules}
use Rattle.std.proofs.lemmas.List.{take_at}
use Rattle.section.specs.Sections.{section_tag}
use Rattle.section.proofs.Masks.{length_masked}
use Rattle.section.proofs.Closings.{sixteen}
use Rattle.section.proofs.Splits.{behind_front}
use Rattle.section.proofs.sealing.seal_under.Goals as goal

pub returns : goal.returns
returns g c =
    let z = g.K.Keystream.words c.args.keys.now in
    let header = c.args.header.now in
    let body = c.args.body.now in
    let n : ℕ = length body in
    let front = c.mask.new.out in
    let rest = drop (n - 0) c.args.out.now in
    let long : length front ≡ n = ap length c.mask.ensures ∙ length_masked z body in
    let none : n - 0 ≡ n = omega arith in
    let cut : take (n - 0) (front ++ rest) ≡ front = ap (λ (k : ℕ). take k (front ++ rest)) none ∙ take_at front rest n long in (
      search rules,
      search rules,
      behind_front front rest c.copy_from_slice.new.self n (length (front ++ rest) - n) long (omega arith)
          ∙ ap₂ ◌++◌ c.mask.ensures (c.copy_from_slice.ensures.after ∙ c.section_tag.ensures ∙ sixteen z header _ _ c.closing-run.ensures ∙ ap (section_tag z header) (cut ∙ c.mask.ensures)),
    )
