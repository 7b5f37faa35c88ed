-- What the calls for C answer, and what they leave.
use Rattle.std.specs.Prelude.{◌≡◌, ℕ, ◌-◌, ◌<◌, ◌≤◌, ◌⊎◌, List, ◌++◌, length, replicate, Ok, Err, Result}
use Rattle.refusals.specs.declared.Refusal.{Refusal}
use Rattle.refusals.specs.Numbers.{number, RefusedWith}
use Rattle.keys.specs.Keys.{iv_of}
use Rattle.message.specs.Whole.{MessageTagged}
use Rattle.modes.specs.declared.kinds.ModeKind.{ModeKind}
use Rattle.modes.specs.Any.{any_chosen, Coded}

-- a key as a slot holds it: zeros behind the bytes that are given
abbrev pub full_key : List ℕ → List ℕ
full_key key = key ++ replicate (32 - length key) 0

-- tagging a message: refused with 5 if there is no such mode, then with 1 for the key's length, then as tagging a message is
abbrev pub CTagged : ℕ → ℕ → List ℕ → ℕ → ℕ → List ℕ → List ℕ → List ℕ → Result (Unit {0}) Refusal → List ℕ → Type 0
CTagged mode streams key office serial header body old answer new =
    (((k : ModeKind) → Coded mode streams k → ⊥) × RefusedWith 5 answer × (new ≡ old))
    ⊎ ((k : ModeKind) × Coded mode streams k
    × ((((length key < 16) ⊎ (32 < length key)) × RefusedWith 1 answer × (new ≡ old))
    ⊎ ((16 ≤ length key) × (length key ≤ 32) × MessageTagged (any_chosen k) (full_key key) (iv_of office serial) header body old answer new)))

-- the number of an answer: 0, or that of the refusal
abbrev pub number_of : Result (Unit {0}) Refusal → ℕ
number_of (Ok _) = 0
number_of (Err e) = number e

-- a call for C answers the number of such an answer
abbrev pub AnswersNumber : (Result (Unit {0}) Refusal → Type 0) → ℕ → Type 0
AnswersNumber P n = (answer : Result (Unit {0}) Refusal) × P answer × (n ≡ number_of answer)
