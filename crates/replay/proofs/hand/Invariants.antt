use Rattle.std.proofs.Common.{map, take, vec_items}
use Rattle.replay.proofs.Handing.{Handed}
use Rattle.replay.proofs.hand.Given as goal

abbrev pub invariant-loop-piece : goal.invariant-loop-piece
invariant-loop-piece g l = Handed g.R.TakesPieces.takes l.initial.run (map (λ x. x.now) (take l.piece-index l.pieces)) (vec_items l.answers) l.run
