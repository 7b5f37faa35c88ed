-- Comparisons made plus allowance left.
use Rattle.std.proofs.Common.{◌≡◌, ℕ, ◌+◌, List, Ok, Err, Result, arith}
use Rattle.refusals.specs.declared.Refusal.{Refusal}
use Rattle.tags.specs.declared.state.Verdict.{Verdict}
use Rattle.tags.specs.Tags.{Closed, Compared}
use Rattle.laws.specs.Comparisons.{Comparisons, none, more, counts, made, LawOfComparisons}

step : (run : Closed) (received : List ℕ) (n k : ℕ) (answer : Result Verdict Refusal) → Compared run received n answer k → counts answer + k ≡ n
step run received n k (Ok v) c = omega (arith, c.1)
step run received n k (Err e) c = omega (arith, c.0)

counted : {first left : ℕ} {answers : List (Result Verdict Refusal)} → Comparisons first answers left → made answers + left ≡ first
counted none = omega arith
counted (more {n} {k} {left} {answers} run received answer c rest) = omega (arith, counted rest, step run received n k answer c)

pub law_of_comparisons : LawOfComparisons
law_of_comparisons first left answers h = counted h
