use Rattle.std.proofs.Common.{◌≡◌, ℕ, length, replicate, sym, ap, ◌∙◌, inr, arith, rules}
use Rattle.std.proofs.lemmas.Result.{err_from_is_err_and}
use Rattle.section.proofs.Closings.{sixteen}
use Rattle.section.proofs.Splits.{is_section, no_section}
use Rattle.section.proofs.opening.open_under.Goals as goal

pub returns-in_err-verify : goal.returns-in_err-verify
returns-in_err-verify g c =
    let p = err_from_is_err_and c.from_residual.result c.from_residual.ensures.1 in
    let keys = c.args.keys.now in
    let refused = c.in_err-verify.ensures in
    let right = sixteen (g.K.Keystream.words keys) c.args.header.now c.split_at.result.0.now _ c.closing.ensures in
    let long : length c.mask.new.out ≡ length c.args.out.now = omega arith in
    rw (p.1, p.2)
    (inr (inr (
      c.drop-guard.ensures ∙ ap (λ (n : ℕ). replicate n 0) long,
      search rules,
      omega arith,
      refused.1,
      no_section (g.K.Keystream.words keys) (g.met.K.Keystream.block keys) c.args.header.now c.args.section.now c.split_at.result.0.now c.split_at.result.1.now
          (λ i. (c.type_inv.header i).fits) (λ i. (c.type_inv.section i).fits) c.split_at.ensures.by_index.0 (omega arith) (λ e. refused.0 (e ∙ sym right)),
    )))

pub returns : goal.returns
returns g c =
    let z = g.K.Keystream.words c.args.keys.now in (
      search rules,
      omega arith,
      omega (arith, ap length c.keep.ensures),
      is_section z c.args.header.now c.args.section.now c.split_at.result.0.now c.split_at.result.1.now c.keep.new.self.0
          c.split_at.ensures.by_index.0 (c.in_ok-verify.ensures ∙ sixteen z c.args.header.now c.split_at.result.0.now _ c.closing.ensures) (c.keep.ensures ∙ c.mask.ensures),
    )
