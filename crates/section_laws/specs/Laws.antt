-- What holds of every section that was sealed, and of every two. z is a keystream throughout.
use Rattle.std.specs.Prelude.{◌≡◌, ℕ, List, length, Ok, Result}
use Rattle.refusals.specs.declared.Refusal.{Refusal}
use Rattle.aes.specs.Blocks.{Bytes}
use Rattle.rounds.specs.Reach.{Near}
use Rattle.mode.specs.Rules.{Good, at_first, absorbed, retraced}
use Rattle.smac.specs.Smac.{smac1}
use Rattle.message.specs.Framing.{message}
use Rattle.laws.specs.Runs.{ExactlyWhen}
use Rattle.section.specs.Sections.{masked, section_registers, closing_state, closing_registers}
use Rattle.section.specs.Calls.{Sealed, Opened}

-- a header and a body of bytes, and the section that sealing wrote of them
pub record Wrote (z : ℕ → List ℕ) (header body written : List ℕ) : Type 0 where
  pub header_bytes : Bytes header
  pub body_bytes : Bytes body
  pub old : List ℕ
  pub sealed : Sealed z header body old (Ok tt) written

-- its framed message, which holds the ciphertext
abbrev pub section_message : (ℕ → List ℕ) → List ℕ → List ℕ → List (List ℕ)
section_message z header body = message smac1 header (masked z body)

-- Opening again: whatever opening answers on what sealing wrote, with an output of the body's length, it is Ok and the output is the body.
abbrev pub OpensAgain : (ℕ → List ℕ) → Type 0
OpensAgain z = (header body written : List ℕ) → Wrote z header body written
    → (room : List ℕ) → length room ≡ length body → (answer : Result (Unit {0}) Refusal) (out : List ℕ) → Opened z header written room answer out
    → (answer ≡ Ok tt) × (out ≡ body)

-- Telling apart: let two sections have framed messages of equally many blocks that differ in at most two, no farther apart than the reach.
-- Then their closing registers are equal exactly when the headers are equal and the bodies are equal.
abbrev pub TellsApart : ℕ → (ℕ → List ℕ) → Type 0
TellsApart reach z = (header₁ body₁ written₁ header₂ body₂ written₂ : List ℕ) → Wrote z header₁ body₁ written₁ → Wrote z header₂ body₂ written₂
    → Near reach (section_message z header₁ body₁) (section_message z header₂ body₂)
    → ExactlyWhen (closing_registers z header₁ (masked z body₁) ≡ closing_registers z header₂ (masked z body₂)) ((header₁ ≡ header₂) × (body₁ ≡ body₂))

-- Walking back over the framed message from where it led gives the first three words at the first place,
abbrev pub WalksBack : (ℕ → List ℕ) → Type 0
WalksBack z = (header body written : List ℕ) → Wrote z header body written
    → retraced smac1 (closing_state z header (masked z body)) (section_message z header body) ≡ at_first (section_registers z)

-- and no other starting registers lead there over it.
abbrev pub OnlyFrom : (ℕ → List ℕ) → Type 0
OnlyFrom z = (header body written : List ℕ) → Wrote z header body written → (other : List (List ℕ)) → Good smac1 (at_first other)
    → (absorbed smac1 (at_first other) (section_message z header body)).regs ≡ closing_registers z header (masked z body) → other ≡ section_registers z

-- the law of sections under a keystream
pub record LawOfSections (reach : ℕ) (z : ℕ → List ℕ) : Type 0 where
  pub opens_again : OpensAgain z
  pub tells_apart : TellsApart reach z
  pub walks_back : WalksBack z
  pub only_from : OnlyFrom z
