-- The one list of refusals, and the number of each. Every contract that refuses says which number.
use Rattle.std.specs.Prelude.{◌≡◌, ℕ, Ok, Err, Result}
use Rattle.refusals.specs.declared.Refusal.{Refusal}
use Rattle.refusals.specs.declared.Refusal.TheVariants.{KeyLength, Serials, Ceiling, PastCeiling, ModeOrStreams, TagLength, Allowance, TooLarge, OutputLength, TagMismatch}

abbrev pub number : Refusal → ℕ
number KeyLength = 1
number Serials = 2
number Ceiling = 3
number PastCeiling = 4
number ModeOrStreams = 5
number TagLength = 6
number Allowance = 7
number TooLarge = 8
number OutputLength = 9
number TagMismatch = 10

-- an answer that is not refused, and one that is refused with a number
abbrev pub Accepted : {A : Type 0} → Result A Refusal → Type 0
Accepted (Ok _) = Unit {0}
Accepted (Err _) = ⊥

abbrev pub RefusedWith : {A : Type 0} → ℕ → Result A Refusal → Type 0
RefusedWith n (Ok _) = ⊥
RefusedWith n (Err e) = number e ≡ n
