use Rattle.smac.specs.Smac.{smac1}
use Rattle.singles.specs.States.{state1}
use Rattle.run.specs.Calls.{header_of, body_of}
use Rattle.section.proofs.Closings.{closes}
use Rattle.section.proofs.tagging.closing.Goals as goal

pub returns : goal.returns
returns g c =
    let headed = header_of (λ _. smac1) state1 c.header_piece.new.self in
    let bodied = body_of (λ _. smac1) state1 c.body_piece.new.self in
    closes (g.K.Keystream.words c.args.keys.now) c.args.header.now c.args.ciphertext.now _ _ _ c.highest.result.most.value _ headed _ bodied _
    c.highest.result.most.below (λ i. (c.type_inv.header i).fits) (λ i. (c.type_inv.ciphertext i).fits) c.word.ensures c.word-2.ensures c.word-3.ensures
    c.begin_with_registers-run.ensures c.in-Ok.ensures c.turn-run.ensures c.in-Ok-body_piece.ensures c.close.ensures
