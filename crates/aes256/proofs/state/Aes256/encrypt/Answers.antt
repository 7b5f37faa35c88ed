use Rattle.std.proofs.Common.{◌≡◌, arith, rules}
use Rattle.aes256.specs.Cipher.{cipher, rounds}
use Rattle.aes256.proofs.Steps.{rounds_more}
use Rattle.aes256.proofs.Keys.{key_at, middle_at, middle_long}
use Rattle.aes256.proofs.state.Aes256.encrypt.Goals as goal

pub loop-key-init : goal.loop-key-init
unfolding rounds
loop-key-init c =
    let k = key_at c.args.self.now.schedule _ (search rules) c.as_chunks.ensures.front 0 (omega arith) in
    cc

pub loop-key-preserved : goal.loop-key-preserved
loop-key-preserved c =
    let w = c.args.self.now.schedule in
    let n = middle_long c.as_chunks.result.0.now (search rules) in
    let k = middle_at w _ (search rules) c.as_chunks.ensures.front c.loop-key.key-index (omega (arith, n)) in
    let e = rounds_more w c.args.block.now c.loop-key.key-index in
    cc

pub returns : goal.returns
unfolding cipher
returns c =
    let n = middle_long c.as_chunks.result.0.now (search rules) in
    let k = key_at c.args.self.now.schedule _ (search rules) c.as_chunks.ensures.front 14 (omega arith) in
    let e : c.loop-key.key-index ≡ 13 = omega (arith, n) in
    cc
