-- Places of a cycle: each way stays within it, and each undoes the other.
use Rattle.std.proofs.Common.{◌≡◌, ℕ, ◌<◌, arith}
use Rattle.std.proofs.lemmas.Bool.Decides.{nat_tests}
use Rattle.rounds.specs.Cycle.{next, prev}

pub next_within : (n p : ℕ) → p < n → next n p < n
next_within n p h = grind (arith, nat_tests)

pub prev_within : (n p : ℕ) → p < n → prev n p < n
prev_within n p h = grind (arith, nat_tests)

pub prev_next : (n p : ℕ) → p < n → prev n (next n p) ≡ p
prev_next n p h = grind (arith, nat_tests)

pub next_prev : (n p : ℕ) → p < n → next n (prev n p) ≡ p
next_prev n p h = grind (arith, nat_tests)
