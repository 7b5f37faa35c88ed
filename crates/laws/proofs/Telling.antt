-- Two runs of one mode from the same registers.
use Rattle.std.proofs.Common.{◌≡◌, ℕ, List, length, sym, ap, ◌∙◌, inl, inr}
use Rattle.std.specs.List.{AllByRecursion}
use Rattle.aes.specs.Blocks.{Block}
use Rattle.rounds.specs.Reach.{Near}
use Rattle.mode.specs.Rules.{Rule, State, Lawful, Good, at_first, absorbed, place_after}
use Rattle.message.specs.Framing.{framed, message}
use Rattle.message.proofs.Blocks.{message_blocks}
use Rattle.message.proofs.Frames.{Sizes, same_blocks_or_not, message_same}
use Rattle.keys.specs.Keys.{iv_of}
use Rattle.laws.specs.Runs.{accepted, EveryTwoRuns, EveryTwoRunsOfAKey}
use Rattle.laws.proofs.Leading.{run_leads, run_sizes, keyed_good}

-- near lists that lead to equal registers are equal
told : (r : Rule) → Lawful r → (s : State) (xs ys : List (List ℕ)) → Good r s → AllByRecursion Block xs → AllByRecursion Block ys → Near r.reach xs ys → (absorbed r s xs).regs ≡ (absorbed r s ys).regs → xs ≡ ys
told r law s xs ys g hx hy n e = elim (same_blocks_or_not xs ys) [ inl h ↦ h | inr h ↦ absurd (law.apart s xs ys g hx hy n h e) ]

-- near messages that lead to equal registers have the same header and the same body
pub messages_told : (r : Rule) → Lawful r → (regs : List (List ℕ)) → Good r (at_first regs) → (h₁ b₁ h₂ b₂ : List ℕ) → Sizes h₁ b₁ → Sizes h₂ b₂
    → Near r.reach (message r h₁ b₁) (message r h₂ b₂) → (absorbed r (at_first regs) (message r h₁ b₁)).regs ≡ (absorbed r (at_first regs) (message r h₂ b₂)).regs → (h₁ ≡ h₂) × (b₁ ≡ b₂)
messages_told r law regs good h₁ b₁ h₂ b₂ z₁ z₂ near e =
    message_same h₁ b₁ h₂ b₂ z₁ z₂ (r.due (place_after r 0 (length (framed h₁ b₁)))) (r.due (place_after r 0 (length (framed h₂ b₂))))
    (told r law (at_first regs) (message r h₁ b₁) (message r h₂ b₂) good
    (message_blocks r h₁ b₁ z₁.header_bytes z₁.body_bytes) (message_blocks r h₂ b₂ z₂.header_bytes z₂.body_bytes) near e)

pub every_two_runs : EveryTwoRuns Lawful
every_two_runs r law regs good ceiling₁ ceiling₂ header₁ body₁ header₂ body₂ end₁ end₂ run₁ run₂ near =
    let h₁ = accepted header₁ in
    let b₁ = accepted body₁ in
    let h₂ = accepted header₂ in
    let b₂ = accepted body₂ in
    let e₁ = ap (λ c. c.state.regs) (run_leads r regs ceiling₁ header₁ body₁ end₁ run₁) in
    let e₂ = ap (λ c. c.state.regs) (run_leads r regs ceiling₂ header₂ body₂ end₂ run₂) in
    let z₁ = run_sizes r regs ceiling₁ header₁ body₁ end₁ run₁ in
    let z₂ = run_sizes r regs ceiling₂ header₂ body₂ end₂ run₂ in (
      λ e. messages_told r law regs good h₁ b₁ h₂ b₂ z₁ z₂ near (sym e₁ ∙ e ∙ e₂),
      λ s. e₁ ∙ ap (λ z. (absorbed r (at_first regs) (message r z b₁)).regs) s.0 ∙ ap (λ z. (absorbed r (at_first regs) (message r h₂ z)).regs) s.1 ∙ sym e₂,
    )

pub every_two_runs_of_a_key : EveryTwoRunsOfAKey Lawful
every_two_runs_of_a_key r law key k office serial = every_two_runs r law (r.load key (iv_of office serial)) (keyed_good r law key k office serial)
