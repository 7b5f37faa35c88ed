-- Key slots, serial books, and the IV of a run.
use Rattle.std.specs.Prelude.{◌≡◌, ℕ, ◌+◌, ◌-◌, ◌<◌, ◌≤◌, ◌⊎◌, None, Some, List, ◌++◌, length, replicate, Ok, Err, Result}
use Rattle.refusals.specs.declared.Refusal.{Refusal}
use Rattle.refusals.specs.Numbers.{number}
use Rattle.counts.specs.Little.{little}
use Rattle.keys.specs.declared.state.SerialBook.{SerialBook}
use Rattle.keys.specs.declared.state.DrawnSerial.{DrawnSerial}

-- setting a key: the key before, the bytes given, the answer, the key after
abbrev pub KeySet : List ℕ → List ℕ → Result (Unit {0}) Refusal → List ℕ → Type 0
KeySet old given (Ok _) new = (16 ≤ length given) × (length given ≤ 32) × (new ≡ given ++ replicate (32 - length given) 0)
KeySet old given (Err e) new = ((length given < 16) ⊎ (32 < length given)) × (number e ≡ 1) × (new ≡ old)

-- the serial that comes next; one past the last where none does
abbrev pub comes : SerialBook → ℕ
comes b = elim b.next [ None ↦ b.last + 1 | Some n ↦ n ]

-- what a draw from b answers, and the book it leaves
abbrev pub Draws : SerialBook → Result DrawnSerial Refusal → SerialBook → Type 0
Draws b (Ok s) b' = (comes b ≤ b.last) × (s.serial.number ≡ comes b) × (s.serial.office ≡ b.office) × (comes b' ≡ comes b + 1) × (b'.last ≡ b.last) × (b'.office ≡ b.office)
Draws b (Err e) b' = (b.last < comes b) × (number e ≡ 2) × (b' ≡ b)

-- office (4 bytes), three zeros, serial (8 bytes), zero
unfoldable pub iv_of : ℕ → ℕ → List ℕ
iv_of office serial = little 4 office ++ (replicate 3 0 ++ (little 8 serial ++ replicate 1 0))
