-- What tag and compare answer, and what they leave.
use Rattle.std.specs.Prelude.{◌≡◌, ℕ, ◌+◌, ◌<◌, ◌≤◌, ◌⊎◌, List, length, take, Ok, Err, Result}
use Rattle.refusals.specs.declared.Refusal.{Refusal}
use Rattle.refusals.specs.Numbers.{number}
use Rattle.mode.specs.Rules.{Rule, State}
use Rattle.tags.specs.declared.state.Verdict.{Verdict}
use Rattle.tags.specs.declared.state.Verdict.TheVariants.{Same, Differs}

-- a mode at rest: its rule, and where it stands
pub record Closed : Type 0 where
  pub rule : Rule
  pub state : State

abbrev pub rest : {M : Type 0} → (M → Rule) → (M → State) → M → Closed
rest rule state m = record { rule = rule m; state = state m }

-- a tag has two bytes at least, and at most the mode's largest
abbrev pub Admitted : Rule → ℕ → Type 0
Admitted r n = (2 ≤ n) × (n ≤ r.largest)

abbrev pub NotAdmitted : Rule → ℕ → Type 0
NotAdmitted r n = (n < 2) ⊎ (r.largest < n)

-- judging a tag's length
abbrev pub Judged : Rule → ℕ → Result (Unit {0}) Refusal → Type 0
Judged r n (Ok _) = Admitted r n
Judged r n (Err e) = NotAdmitted r n × (number e ≡ 6)

-- the tag of n bytes
abbrev pub tag_bytes : Closed → ℕ → List ℕ
tag_bytes c n = take n (c.rule.finish c.state.regs)

-- tag: the buffer before, the answer, and the buffer after
abbrev pub Tagged : Closed → List ℕ → Result (Unit {0}) Refusal → List ℕ → Type 0
Tagged c old (Ok _) new = Admitted c.rule (length old) × (new ≡ tag_bytes c (length old))
Tagged c old (Err e) new = NotAdmitted c.rule (length old) × (number e ≡ 6) × (new ≡ old)

-- spending one of an allowance: the allowance before, the answer, and the allowance after
abbrev pub Spent : ℕ → Result (Unit {0}) Refusal → ℕ → Type 0
Spent n (Ok _) left = n ≡ left + 1
Spent n (Err e) left = (n ≡ 0) × (number e ≡ 7) × (left ≡ n)

-- a verdict says whether something holds
abbrev pub Says : Verdict → Type 0 → Type 0
Says Same P = P
Says Differs P = P → ⊥

-- compare: the received tag, the allowance before, the answer, and the allowance after
abbrev pub Compared : Closed → List ℕ → ℕ → Result Verdict Refusal → ℕ → Type 0
Compared c received n (Ok v) left = Admitted c.rule (length received) × (n ≡ left + 1) × Says v (received ≡ tag_bytes c (length received))
Compared c received n (Err e) left = (left ≡ n) × ((NotAdmitted c.rule (length received) × (number e ≡ 6)) ⊎ (Admitted c.rule (length received) × (n ≡ 0) × (number e ≡ 7)))
