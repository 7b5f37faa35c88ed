use Rattle.aes.proofs.Boxes.{box_published, inverse_inverts, boxes_undo, coefficients}
use Rattle.aes.proofs.Undo.{Finv_F, F_Finv, F_injective, round_injective}
use Rattle.aes.proofs.tables_and_rounds_stand.Goals as goal

pub returns : goal.returns
returns c = record {
  published = box_published;
  inverts = inverse_inverts;
  boxes = boxes_undo;
  products = coefficients;
  undo = λ x b. (Finv_F x b, F_Finv x b);
  one = F_injective;
  round = round_injective;
}
