-- What sealing and opening answer, and what they leave in the output.
use Rattle.std.specs.Prelude.{◌≡◌, ℕ, ◌+◌, ◌<◌, ◌≤◌, ◌⊎◌, List, length, replicate, Ok, Err, Result, ◌≢◌}
use Rattle.refusals.specs.declared.Refusal.{Refusal}
use Rattle.refusals.specs.Numbers.{number}
use Rattle.section.specs.Sections.{section}

-- a header and a body have at most 2^20 bytes each
abbrev pub Sealable : List ℕ → List ℕ → Type 0
Sealable header body = (length header ≤ 1048576) × (length body ≤ 1048576)

abbrev pub NotSealable : List ℕ → List ℕ → Type 0
NotSealable header body = (1048576 < length header) ⊎ (1048576 < length body)

-- sealing: the output before, the answer, and the output after
abbrev pub Sealed : (ℕ → List ℕ) → List ℕ → List ℕ → List ℕ → Result (Unit {0}) Refusal → List ℕ → Type 0
Sealed z header body old (Ok _) new = Sealable header body × (length old ≡ length body + 16) × (new ≡ section z header body)
Sealed z header body old (Err e) new =
    (new ≡ old)
    × ((NotSealable header body × (number e ≡ 8)) ⊎ (Sealable header body × (length old ≢ length body + 16) × (number e ≡ 9)))

-- a received section has the tag's sixteen bytes at least, and at most 2^20 more
abbrev pub Openable : List ℕ → List ℕ → Type 0
Openable header given = (length header ≤ 1048576) × (16 ≤ length given) × (length given ≤ 1048592)

abbrev pub NotOpenable : List ℕ → List ℕ → Type 0
NotOpenable header given = (1048576 < length header) ⊎ ((length given < 16) ⊎ (1048592 < length given))

-- comparing a tag: the answer says whether it is the right one
abbrev pub Verified : Type 0 → Result (Unit {0}) Refusal → Type 0
Verified Right (Ok _) = Right
Verified Right (Err e) = (Right → ⊥) × (number e ≡ 10)

-- opening: the output before, the answer, and the output after. The output is the body whose section was given; with the refusal 10 it is
-- all zeros, and what was given is the section of no body
abbrev pub Opened : (ℕ → List ℕ) → List ℕ → List ℕ → List ℕ → Result (Unit {0}) Refusal → List ℕ → Type 0
Opened z header given old (Ok _) new =
    Openable header given × (length given ≡ length old + 16) × (length new ≡ length old) × (given ≡ section z header new)
Opened z header given old (Err e) new =
    ((new ≡ old) × NotOpenable header given × (number e ≡ 8))
    ⊎ (((new ≡ old) × Openable header given × (length given ≢ length old + 16) × (number e ≡ 9))
    ⊎ ((new ≡ replicate (length old) 0) × Openable header given × (length given ≡ length old + 16) × (number e ≡ 10)
    × ((body : List ℕ) → given ≢ section z header body)))
