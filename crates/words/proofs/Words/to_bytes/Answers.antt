use Rattle.std.proofs.Common.{◌≡◌, ◌∙◌}
use Rattle.columns.specs.Columns.{le}
use Rattle.words.specs.Words.{bytes}
use Rattle.words.proofs.Words.to_bytes.Goals as goal

pub returns : goal.returns
unfolding bytes
returns c =
    let x = c.args.self in
    let e0 : c.copy_from_slice.new.self ≡ le x.0 = c.copy_from_slice.ensures.after ∙ c.to_le_bytes.ensures in
    let e1 : c.copy_from_slice-2.new.self ≡ le x.1 = c.copy_from_slice-2.ensures.after ∙ c.to_le_bytes-2.ensures in
    let e2 : c.copy_from_slice-3.new.self ≡ le x.2 = c.copy_from_slice-3.ensures.after ∙ c.to_le_bytes-3.ensures in
    let e3 : c.copy_from_slice-4.new.self ≡ le x.3 = c.copy_from_slice-4.ensures.after ∙ c.to_le_bytes-4.ensures in
    simp (e0, e1, e2, e3)
