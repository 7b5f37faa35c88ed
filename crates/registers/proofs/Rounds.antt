-- One dummy round more.
use Rattle.std.proofs.Common.{◌≡◌, ℕ, zero, suc, ◌+◌, replicate, refl, ap, ◌∙◌, arith}
use Rattle.rounds.specs.Round.{Registers, Sigma, round, rounds}
use Rattle.rounds.specs.Mixing.{dummy}
use Rattle.rounds.specs.Mixing.{dummy_rounds}

by_suc : (c : Sigma) (n : ℕ) (s : Registers) → rounds c s (replicate (suc n) dummy) ≡ round c (rounds c s (replicate n dummy)) dummy
by_suc c zero s = refl
by_suc c (suc n) s = by_suc c n (round c s dummy)

pub dummy_rounds_none : (c : Sigma) (s : Registers) → dummy_rounds c 0 s ≡ s
unfolding dummy_rounds
dummy_rounds_none c s = refl

pub dummy_rounds_more : (c : Sigma) (n : ℕ) (s : Registers) → dummy_rounds c (n + 1) s ≡ round c (dummy_rounds c n s) dummy
unfolding dummy_rounds
dummy_rounds_more c n s = let e : n + 1 ≡ suc n = omega arith in ap (λ (k : ℕ). rounds c s (replicate k dummy)) e ∙ by_suc c n s
