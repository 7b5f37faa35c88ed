use Rattle.std.proofs.Common.{replicate, sym, refl, ap, ◌∙◌, arith, length-set}
use lib.Bits.{bit_xor}
use Rattle.aes256.specs.Cipher.{next_byte, temp}
use Rattle.aes256.proofs.Steps.{grow_start, grow_more, grow_end}
use Rattle.aes256.proofs.state.Aes256.new.Goals as goal

pub loop-m-init : goal.loop-m-init
loop-m-init c = grow_start _ _ (replicate 208 0) c.copy_from_slice.ensures.after c.told-key refl

pub loop-m-preserved : goal.loop-m-preserved
unfolding next_byte temp
loop-m-preserved c = (
  length-set c.loop-m.schedule c.loop-m.m _ ∙ c.loop-m.invariant.0,
  sym (grow_more c.loop-m.schedule c.loop-m.m _ (omega arith) (omega arith) (omega arith) (ap (bit_xor _) c.temp.ensures)) ∙ c.loop-m.invariant.1,
)

pub returns : goal.returns
returns c = grow_end c.loop-m.schedule c.args.key.now c.loop-m.m (omega arith) c.loop-m.invariant.0 c.loop-m.invariant.1
