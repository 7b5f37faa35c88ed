use Rattle.std.proofs.Common.{◌+◌, ◌++◌, length, take, sym, ap, ◌∙◌, arith, length-append, length-drop, length-take}
use Rattle.std.proofs.lemmas.Slice.{take-put_mid}
use Rattle.message.proofs.state.Pending.add.Goals as goal

pub returns : goal.returns
returns c =
    let p = c.args.self.now in
    let copied = c.copy_from_slice.ensures.after in
    take-put_mid p.len _ p.bytes _ _ (ap (λ xs. p.len + length xs) (sym copied)) (omega (arith, p.ok.0, p.ok.1))
    ∙ ap (λ xs. take p.len p.bytes ++ xs) copied

pub invariant_of-self : goal.invariant_of-self
invariant_of-self c =
    let p = c.args.self.now in
    let copied = c.copy_from_slice.ensures.after in
    record { ok = (c.requires, simp (length-append, length-take, length-drop) (omega (arith, p.ok.0, p.ok.1, ap length copied))) }
