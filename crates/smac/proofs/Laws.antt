-- The four modes are lawful.
use Rattle.std.proofs.Common.{refl}
use Rattle.mode.specs.Rules.{Rule, Lawful}
use Rattle.smac.specs.Laws.{Smac, whole, three_quarters, half, streams, ModesAreLawful}
use Rattle.smac.proofs.Singles as singles
use Rattle.smac.proofs.Many.{many}

pub lawful : (r : Rule) → Smac r → Lawful r
lawful r m = by m
  where
    by : {r : Rule} → Smac r → Lawful r
    by whole = singles.whole
    by three_quarters = singles.three_quarters
    by half = singles.half
    by (streams n some most) = many n some most

pub modes_are_lawful : ModesAreLawful
modes_are_lawful = record {
  whole_stands = record { lawful = singles.whole; has_registers = refl; has_reach = refl; has_largest = refl };
  three_quarters_stands = record { lawful = singles.three_quarters; has_registers = refl; has_reach = refl; has_largest = refl };
  half_stands = record { lawful = singles.half; has_registers = refl; has_reach = refl; has_largest = refl };
  streams_stand = λ n some most. record { lawful = many n some most; has_registers = refl; has_reach = refl; has_largest = refl };
}
