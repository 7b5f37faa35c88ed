-- One allowance, and any list of comparisons with it: of any closed runs, with any received tags.
use Rattle.std.specs.Prelude.{◌≡◌, ℕ, ◌+◌, List, [], ◌∷◌, Ok, Err, Result}
use Rattle.refusals.specs.declared.Refusal.{Refusal}
use Rattle.tags.specs.declared.state.Verdict.{Verdict}
use Rattle.tags.specs.Tags.{Closed, Compared}

-- comparisons one after another, each with what the one before left of the allowance: the first allowance, the answers, and what is left
pub data Comparisons : ℕ → List (Result Verdict Refusal) → ℕ → Type 0 where
  none : {n : ℕ} → Comparisons n [] n
  more : {n k left : ℕ} {answers : List (Result Verdict Refusal)} (run : Closed) (received : List ℕ) (answer : Result Verdict Refusal)
      → Compared run received n answer k → Comparisons k answers left → Comparisons n (answer ∷ answers) left

-- a comparison was made if it was not refused
abbrev pub counts : Result Verdict Refusal → ℕ
counts (Ok v) = 1
counts (Err e) = 0

abbrev pub made : List (Result Verdict Refusal) → ℕ
made [] = 0
made (answer ∷ answers) = counts answer + made answers

-- comparisons made plus allowance left equals the first allowance
abbrev pub LawOfComparisons : Type 0
LawOfComparisons = (first left : ℕ) (answers : List (Result Verdict Refusal)) → Comparisons first answers left → made answers + left ≡ first
