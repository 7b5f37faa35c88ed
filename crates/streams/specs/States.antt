-- What SMAC-1×n's streams stand for.
use Rattle.std.specs.Prelude.{◌≡◌, ℕ, ◌<◌, ◌≤◌, ◌⊎◌, map, take, Ok, Err, Result}
use Rattle.refusals.specs.declared.Refusal.{Refusal}
use Rattle.refusals.specs.Numbers.{number}
use Rattle.streams.specs.declared.state.StreamCount.{StreamCount}
use Rattle.mode.specs.Rules.{State}
use Rattle.smac.specs.Smac.{flat}
use Rattle.rounds.specs.Permutations.{sigma1}
use Rattle.registers.specs.Registers.{regs}
use Rattle.streams.specs.declared.state.Smac1xN.{Smac1xN}

abbrev pub state1x : Smac1xN → State
state1x m = record { regs = flat (map (regs sigma1) (take m.count.n m.streams)); place = m.place }

-- a count is refused outside 1 to 16, and otherwise is that number
abbrev pub Counted : ℕ → Result StreamCount Refusal → Type 0
Counted n (Ok c) = (1 ≤ n) × (n ≤ 16) × (c.n ≡ n)
Counted n (Err e) = ((n ≡ 0) ⊎ (16 < n)) × (number e ≡ 5)
