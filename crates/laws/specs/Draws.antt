-- Any list of draws from one book.
use Rattle.std.specs.Prelude.{◌≡◌, ℕ, ◌+◌, ◌≤◌, List, [], ◌∷◌, Ok, Err, Result}
use Rattle.std.specs.List.{AllByRecursion}
use Rattle.refusals.specs.declared.Refusal.{Refusal}
use Rattle.keys.specs.declared.state.SerialBook.{SerialBook}
use Rattle.keys.specs.declared.state.Serial.{Serial}
use Rattle.keys.specs.declared.state.DrawnSerial.{DrawnSerial}
use Rattle.keys.specs.Keys.{comes, Draws}

-- draws one after another, each from the book that the one before left
pub data Drawings : SerialBook → List (Result DrawnSerial Refusal) → SerialBook → Type 0 where
  none : {b : SerialBook} → Drawings b [] b
  more : {b c d : SerialBook} {answers : List (Result DrawnSerial Refusal)} (answer : Result DrawnSerial Refusal) → Draws b answer c → Drawings c answers d → Drawings b (answer ∷ answers) d

-- the serials that were drawn
abbrev pub drawn : List (Result DrawnSerial Refusal) → List Serial
drawn [] = []
drawn (Ok s ∷ answers) = s.serial ∷ drawn answers
drawn (Err e ∷ answers) = drawn answers

-- each serial lies above the one before it, so that none is drawn twice
abbrev pub RisingFrom : ℕ → List Serial → Type 0
RisingFrom low [] = Unit {0}
RisingFrom low (s ∷ serials) = (low ≤ s.number) × RisingFrom (s.number + 1) serials

-- serials rise from the first, each of the book's office and none past its last
abbrev pub LawOfDraws : Type 0
LawOfDraws = (b c : SerialBook) (answers : List (Result DrawnSerial Refusal)) → Drawings b answers c
    → RisingFrom (comes b) (drawn answers) × AllByRecursion (λ s. (s.office ≡ b.office) × (s.number ≤ b.last)) (drawn answers)
