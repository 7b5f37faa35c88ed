-- Calls on a header and a body that lie in memory.
use Rattle.std.specs.Prelude.{◌≡◌, ℕ, ◌+◌, ◌^◌, ◌<◌, ◌≤◌, ◌⊎◌, List, length, take, Ok, Err, Result}
use Rattle.refusals.specs.declared.Refusal.{Refusal}
use Rattle.refusals.specs.Numbers.{number}
use Rattle.mode.specs.Rules.{Rule, State, at_first, loaded, absorbed}
use Rattle.tags.specs.declared.state.Verdict.{Verdict}
use Rattle.tags.specs.Tags.{rest, Admitted, NotAdmitted, Says}
use Rattle.message.specs.Framing.{message, tag_of}

-- bytes whose bits can be counted in 64 bits
abbrev pub Countable : List ℕ → Type 0
Countable bs = length bs < 2 ^ 61

abbrev pub TooLong : List ℕ → Type 0
TooLong bs = 2 ^ 61 ≤ length bs

-- a mode before and after a whole message: from the first place on, it is led where the framed message leads
abbrev pub Taken : {M : Type 0} (rule : M → Rule) (state : M → State) → M → List ℕ → List ℕ → Result (Unit {0}) Refusal → M → Type 0
Taken rule state m header body (Ok _) n =
    Countable header
    × Countable body
    × ((regs : List (List ℕ)) → state m ≡ at_first regs → rest rule state n ≡ record { rule = rule m; state = absorbed (rule m) (at_first regs) (message (rule m) header body) })
Taken rule state m header body (Err e) n = (TooLong header ⊎ TooLong body) × (number e ≡ 4)

-- absorbing a whole message, loaded with key and IV: a mode that stands where the framed message leads
abbrev pub Led : {M : Type 0} (rule : M → Rule) (state : M → State) → Rule → List ℕ → List ℕ → List ℕ → List ℕ → Result M Refusal → Type 0
Led rule state r key iv header body (Ok m) =
    Countable header × Countable body × (rest rule state m ≡ record { rule = r; state = absorbed r (loaded r key iv) (message r header body) })
Led rule state r key iv header body (Err e) = (TooLong header ⊎ TooLong body) × (number e ≡ 4)

-- tagging it: the buffer before, the answer, and the buffer after
abbrev pub MessageTagged : Rule → List ℕ → List ℕ → List ℕ → List ℕ → List ℕ → Result (Unit {0}) Refusal → List ℕ → Type 0
MessageTagged r key iv header body old (Ok _) new =
    Countable header × Countable body × Admitted r (length old) × (new ≡ take (length old) (tag_of r key iv header body))
MessageTagged r key iv header body old (Err e) new =
    (new ≡ old) × (((TooLong header ⊎ TooLong body) × (number e ≡ 4)) ⊎ (Countable header × Countable body × NotAdmitted r (length old) × (number e ≡ 6)))

-- comparing with it: the received tag, the allowance before, the answer, and the allowance after
abbrev pub MessageCompared : Rule → List ℕ → List ℕ → List ℕ → List ℕ → List ℕ → ℕ → Result Verdict Refusal → ℕ → Type 0
MessageCompared r key iv header body received n (Ok v) left =
    Countable header × Countable body × Admitted r (length received) × (n ≡ left + 1) × Says v (received ≡ take (length received) (tag_of r key iv header body))
MessageCompared r key iv header body received n (Err e) left =
    (left ≡ n)
    × (((TooLong header ⊎ TooLong body) × (number e ≡ 4))
    ⊎ (Countable header × Countable body × ((NotAdmitted r (length received) × (number e ≡ 6)) ⊎ (Admitted r (length received) × (n ≡ 0) × (number e ≡ 7)))))
