-- Counts of bytes, and a run's ceiling.
use Rattle.std.specs.Prelude.{◌≡◌, ℕ, ◌^◌, ◌<◌, ◌≤◌, Ok, Err, Result}
use Rattle.refusals.specs.declared.Refusal.{Refusal}
use Rattle.refusals.specs.Numbers.{number}
use Rattle.counts.specs.declared.state.ByteCount.{ByteCount}
use Rattle.counts.specs.declared.state.Ceiling.{Ceiling}

-- refused above 2 ^ 61 - 1
abbrev pub CeilingMade : ℕ → Result Ceiling Refusal → Type 0
CeilingMade bytes (Ok c) = (bytes < 2 ^ 61) × (c.most.value ≡ bytes)
CeilingMade bytes (Err e) = (2 ^ 61 ≤ bytes) × (number e ≡ 3)

-- so is a count of bytes that lie in memory, with the number of what passes a ceiling
abbrev pub Counted : ℕ → Result ByteCount Refusal → Type 0
Counted n (Ok b) = (n < 2 ^ 61) × (b.value ≡ n)
Counted n (Err e) = (2 ^ 61 ≤ n) × (number e ≡ 4)
