-- A run over header and ciphertext closes where the section's tag is taken.
use Rattle.std.proofs.Common.{◌≡◌, ℕ, ◌^◌, ◌<◌, List, [], ◌∷◌, Ok, ap, ◌∙◌, subst, ap₂, append-nil, arith}
use Rattle.std.proofs.lemmas.List.{take-take}
use Rattle.aes.specs.Blocks.{Bytes}
use Rattle.mode.specs.Rules.{at_first, absorbed}
use Rattle.smac.specs.Smac.{smac1}
use Rattle.tags.specs.Tags.{Closed, tag_bytes}
use Rattle.message.specs.Framing.{message}
use Rattle.run.specs.Calls.{Open, OpenBody, begun, Piece, turned, BodyPiece, closed}
use Rattle.laws.specs.Runs.{Pieces, Run, took, none, more}
use Rattle.laws.proofs.Leading.{run_leads}
use Rattle.section.specs.Sections.{section_registers, closing_state, section_tag}

-- a run that has come there
abbrev pub closing : (ℕ → List ℕ) → List ℕ → List ℕ → Closed
closing z header ciphertext = record { rule = smac1; state = closing_state z header ciphertext }

-- the calls of such a run, each part in one piece
pub closes : (z : ℕ → List ℕ) (header ciphertext w₀ w₁ w₂ : List ℕ) (ceiling : ℕ) (first headed : Open) (turning bodied : OpenBody) (end : Closed)
    → ceiling < 2 ^ 61 → Bytes header → Bytes ciphertext → w₀ ≡ z 0 → w₁ ≡ z 1 → w₂ ≡ z 2 → first ≡ begun smac1 (at_first (w₀ ∷ w₁ ∷ w₂ ∷ [])) ceiling
    → Piece first header (Ok tt) headed → turning ≡ turned headed → BodyPiece turning ciphertext (Ok tt) bodied → end ≡ closed bodied
    → end ≡ closing z header ciphertext
unfolding closing_state
closes z header ciphertext w₀ w₁ w₂ ceiling first headed turning bodied end countable bh bc e₀ e₁ e₂ begins h turns b ends =
    let regs : List (List ℕ) = section_registers z in
    let start : first ≡ begun smac1 (at_first regs) ceiling =
    begins ∙ ap₂ (λ u v. begun smac1 (at_first (u ∷ v ∷ w₂ ∷ [])) ceiling) e₀ e₁ ∙ ap (λ u. begun smac1 (at_first (z 0 ∷ z 1 ∷ u ∷ [])) ceiling) e₂ in
    let run : Run smac1 regs ceiling (took header ∷ []) (took ciphertext ∷ []) end = record {
      countable = countable;
      headed = headed;
      bodied = bodied;
      header_pieces = subst (λ (s : Open). Pieces Piece s (took header ∷ []) headed) start (more (took header) bh h none);
      body_pieces = subst (λ (s : OpenBody). Pieces BodyPiece s (took ciphertext ∷ []) bodied) turns (more (took ciphertext) bc b none);
      close = ends;
    } in
    run_leads smac1 regs ceiling (took header ∷ []) (took ciphertext ∷ []) end run
    ∙ ap₂ (λ h c. record { rule = smac1; state = absorbed smac1 (at_first regs) (message smac1 h c) }) (append-nil header) (append-nil ciphertext)

-- its tag of sixteen bytes is the section's
pub sixteen : (z : ℕ → List ℕ) (header ciphertext : List ℕ) (end : Closed) → end ≡ closing z header ciphertext → tag_bytes end 16 ≡ section_tag z header ciphertext
unfolding section_tag
sixteen z header ciphertext end e = ap (λ k. tag_bytes k 16) e ∙ take-take 16 16 _ (omega arith)
