use Rattle.std.proofs.Common.{subst}
use Rattle.mode.specs.Rules.{Lawful, Good}
use Rattle.run.specs.Calls.{Open, Piece, BodyPiece, header_of, body_of}
use Rattle.replay.proofs.Handing.{performs, handed_seen}
use Rattle.replay.proofs.replay.Goals as goal

pub returns : goal.returns
returns g c =
    let m = g.M.Mode in
    let laws = g.met.M.Mode in
    let mode = c.begin-run.result.part.framing.mode in
    let begins = c.begin-run.ensures in
    performs _ _ c.args.start.now.ceiling.most.value _ _ _ _ _ _ _ _ _
    (subst (λ (z : Open). Lawful z.rule) begins (laws.lawful mode)) (subst (λ (z : Open). Good z.rule z.fed.state) begins (laws.good mode)) c.args.start.now.ceiling.most.below
    begins (handed_seen (header_of m.rule m.state) Piece _ _ _ _ c.in_ok-header.ensures) c.turn-run.ensures (handed_seen (body_of m.rule m.state) BodyPiece _ _ _ _ c.in_ok-body.ensures) c.close.ensures
