-- The law of sections.
use Rattle.std.proofs.Common.{◌≡◌, ℕ, zero, suc, ◌+◌, List, [], ◌∷◌, length, Ok, Err, Result, sym, refl, ap, ◌∙◌, inl, inr, arith, length-append}
use lib.Bits.{xor_lt}
use Rattle.std.specs.List.{AllByRecursion}
use Rattle.refusals.specs.declared.Refusal.{Refusal}
use Rattle.aes.specs.Blocks.{Bytes, Block}
use Rattle.mode.specs.Rules.{Key, at_first, absorbed, retraced}
use Rattle.mode.proofs.States.{same_state, retraced_absorbed, absorbed_place}
use Rattle.smac.specs.Smac.{smac1}
use Rattle.smac.proofs.Singles.{whole}
use Rattle.message.proofs.Blocks.{message_blocks}
use Rattle.message.proofs.Frames.{Sizes}
use Rattle.laws.proofs.Telling.{messages_told}
use Rattle.keystream.specs.Keystream.{OfBlocks, keystream}
use Rattle.keystream.specs.Words.{keystream_blocks}
use Rattle.section.specs.Sections.{masked_from, masked, section_registers, closing_state, closing_registers, section_tag}
use Rattle.section.specs.Calls.{Opened}
use Rattle.section.proofs.Masks.{length_masked, masked_twice}
use Rattle.section.proofs.Splits.{cut_once, registers_good, tag_long}
use Rattle.section_laws.specs.Laws.{Wrote, section_message, OpensAgain, TellsApart, WalksBack, OnlyFrom, LawOfSections}

module _ (z : ℕ → List ℕ) (blocks : OfBlocks z) where
  masked_from_bytes : (i : ℕ) (bs : List ℕ) → Bytes bs → Bytes (masked_from z i bs)
  unfolding masked_from
  masked_from_bytes i [] h k = omega arith
  masked_from_bytes i (b ∷ bs) h zero = xor_lt 8 _ _ (h 0) ((blocks _).bytes _)
  masked_from_bytes i (b ∷ bs) h (suc k) = masked_from_bytes (i + 1) bs (λ n. h (suc n)) k

  masked_bytes : (body : List ℕ) → Bytes body → Bytes (masked z body)
  masked_bytes body h = masked_from_bytes 0 body h

  masked_apart : (b₁ b₂ : List ℕ) → masked z b₁ ≡ masked z b₂ → b₁ ≡ b₂
  masked_apart b₁ b₂ e = sym (masked_twice z b₁) ∙ ap (masked z) e ∙ masked_twice z b₂

  sizes : (header body written : List ℕ) → Wrote z header body written → Sizes header (masked z body)
  sizes header body written w = record {
    header = omega (arith, w.sealed.0.0);
    body = omega (arith, w.sealed.0.1, length_masked z body);
    header_bytes = w.header_bytes;
    body_bytes = masked_bytes body w.body_bytes;
  }

  all_blocks : (header body written : List ℕ) → Wrote z header body written → AllByRecursion Block (section_message z header body)
  all_blocks header body written w = message_blocks smac1 header (masked z body) w.header_bytes (masked_bytes body w.body_bytes)

  pub opens_again : OpensAgain z
  opens_again header body written w room fits answer out = by answer
    where
      long : length written ≡ length body + 16
      long =
          omega (
            arith,
            ap length w.sealed.2,
            length-append (masked z body) (section_tag z header (masked z body)),
            length_masked z body,
            tag_long z blocks header (masked z body) w.header_bytes (masked_bytes body w.body_bytes),
          )

      by : (answer : Result (Unit {0}) Refusal) → Opened z header written room answer out → (answer ≡ Ok tt) × (out ≡ body)
      by (Ok tt) o =
          let same : length (masked z out) ≡ length (masked z body) = omega (arith, length_masked z out, length_masked z body, o.2) in
          (refl, masked_apart out body (cut_once (masked z out) _ (masked z body) _ same (sym o.3 ∙ w.sealed.2)).0)
      by (Err e) (inl o) = absurd (elim o.1 [ inl h ↦ omega (arith, w.sealed.0.0) | inr h ↦ elim h [ inl short ↦ omega (arith, long) | inr far ↦ omega (arith, long, w.sealed.0.1) ] ])
      by (Err e) (inr (inl o)) = absurd (o.2 (omega (arith, long)))
      by (Err e) (inr (inr o)) = absurd (o.4 body w.sealed.2)

  pub tells_apart : TellsApart 3 z
  unfolding closing_state
  tells_apart h₁ b₁ s₁ h₂ b₂ s₂ w₁ w₂ near = (
    λ e.
        let same = messages_told smac1 whole (section_registers z) (registers_good z blocks) h₁ (masked z b₁) h₂ (masked z b₂) (sizes h₁ b₁ s₁ w₁) (sizes h₂ b₂ s₂ w₂) near e in
        (same.0, masked_apart b₁ b₂ same.1),
    λ same. ap (λ h. closing_registers z h (masked z b₁)) same.0 ∙ ap (λ b. closing_registers z h₂ (masked z b)) same.1,
  )

  pub walks_back : WalksBack z
  unfolding closing_state
  walks_back header body written w =
      retraced_absorbed smac1 whole (at_first (section_registers z)) (section_message z header body) (registers_good z blocks) (all_blocks header body written w)

  pub only_from : OnlyFrom z
  unfolding closing_state
  only_from header body written w other good e =
      let M = section_message z header body in
      let start = at_first (section_registers z) in
      let all = all_blocks header body written w in
      let same : absorbed smac1 (at_first other) M ≡ absorbed smac1 start M = same_state e (absorbed_place smac1 (at_first other) M ∙ sym (absorbed_place smac1 start M)) in
      ap (λ s. s.regs) (sym (retraced_absorbed smac1 whole (at_first other) M good all) ∙ ap (λ s. retraced smac1 s M) same ∙ walks_back header body written w)

pub law_of_sections : (z : ℕ → List ℕ) → OfBlocks z → LawOfSections 3 z
law_of_sections z blocks = record {
  opens_again = opens_again z blocks;
  tells_apart = tells_apart z blocks;
  walks_back = walks_back z blocks;
  only_from = only_from z blocks;
}

-- counter mode is a keystream of blocks
pub counter_blocks : (key : List ℕ) → Key key → (office serial : ℕ) → OfBlocks (keystream key office serial)
counter_blocks key k office serial = keystream_blocks key k.len k.bytes office serial
