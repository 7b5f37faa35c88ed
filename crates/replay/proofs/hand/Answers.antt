use Rattle.replay.proofs.Handing.{hand_none, hand_next}
use Rattle.replay.proofs.hand.Goals as goal

pub loop-piece-init : goal.loop-piece-init
loop-piece-init g c = hand_none g.R.TakesPieces.takes _ _ c.new-answers.ensures.items

pub loop-piece-preserved : goal.loop-piece-preserved
loop-piece-preserved g c =
    hand_next g.R.TakesPieces.takes _ _ _ c.args.pieces.now c.loop-piece.piece-index _ _ _ c.piece.result
    c.loop-piece-test.true c.are_bytes.ensures c.piece.ensures c.in_ok-push.ensures.items c.loop-piece.invariant
