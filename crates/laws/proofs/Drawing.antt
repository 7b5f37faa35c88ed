-- Serials drawn from one book.
use Rattle.std.proofs.Common.{◌≡◌, ℕ, ◌+◌, ◌≤◌, List, Ok, Err, Result, subst, arith}
use Rattle.std.specs.List.{AllByRecursion}
use Rattle.refusals.specs.declared.Refusal.{Refusal}
use Rattle.keys.specs.declared.state.SerialBook.{SerialBook}
use Rattle.keys.specs.declared.state.Serial.{Serial}
use Rattle.keys.specs.declared.state.DrawnSerial.{DrawnSerial}
use Rattle.keys.specs.Keys.{comes}
use Rattle.laws.specs.Draws.{Drawings, none, more, drawn, RisingFrom, LawOfDraws}

-- what holds of the serials of a book, told of one with the same office and last
abbrev Of : ℕ → ℕ → List Serial → Type 0
Of office last serials = AllByRecursion (λ s. (s.office ≡ office) × (s.number ≤ last)) serials

abbrev Rises : ℕ → ℕ → ℕ → List Serial → Type 0
Rises low office last serials = RisingFrom low serials × Of office last serials

rises : {b c : SerialBook} {answers : List (Result DrawnSerial Refusal)} → Drawings b answers c → Rises (comes b) b.office b.last (drawn answers)
rises none = (tt, tt)
rises {b = b} (more {c = c} {answers = answers} (Ok s) d rest) =
    let on = rises rest in
    let up : RisingFrom (s.serial.number + 1) (drawn answers) = subst (λ (n : ℕ). RisingFrom n (drawn answers)) (omega (arith, d.1, d.3)) on.0 in
    let same : Of b.office b.last (drawn answers) = subst (λ (o : ℕ). Of o b.last (drawn answers)) d.5 (subst (λ (l : ℕ). Of c.office l (drawn answers)) d.4 on.1) in
    ((omega (arith, d.1), up), ((d.2, omega (arith, d.0, d.1)), same))
rises (more {answers} (Err e) d rest) = subst (λ (q : SerialBook). Rises (comes q) q.office q.last (drawn answers)) d.2 (rises rest)

pub law_of_draws : LawOfDraws
law_of_draws b c answers d = rises d
