use Rattle.std.proofs.Common.{◌≡◌, ◌∙◌}
use Rattle.words.specs.Words.{bytes}
use Rattle.words.proofs.Words.pair_with.Goals as goal

pub returns : goal.returns
unfolding bytes
returns c =
    let e0 : c.copy_from_slice.new.self ≡ bytes c.args.self = c.copy_from_slice.ensures.after ∙ c.to_bytes.ensures in
    let e1 : c.copy_from_slice-2.new.self ≡ bytes c.args.y = c.copy_from_slice-2.ensures.after ∙ c.to_bytes-2.ensures in
    simp (e0, e1)
