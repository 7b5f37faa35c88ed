-- A section is cut into ciphertext and tag in one way.
use Rattle.std.proofs.Common.{◌≡◌, ℕ, zero, suc, ◌+◌, ◌≤◌, List, [], ◌∷◌, ◌++◌, length, take, drop, sym, refl, ap, ◌∙◌, subst, ap₂, arith, length-append}
use borrow.Rule.Slice.PartMut.{put_mid}
use Rattle.std.proofs.lemmas.List.{take_at, drop_at, drop-drop, drop_all, append-nil}
use Rattle.std.specs.List.{AllByRecursion}
use Rattle.aes.specs.Blocks.{Bytes, Block}
use Rattle.mode.specs.Rules.{Rule, State, Lawful, Good, at_first, after, absorbed}
use Rattle.mode.proofs.States.{after_good}
use Rattle.smac.specs.Smac.{smac1}
use Rattle.smac.proofs.Singles.{whole}
use Rattle.message.specs.Framing.{message}
use Rattle.message.proofs.Blocks.{message_blocks}
use Rattle.keystream.specs.Keystream.{OfBlocks}
use Rattle.section.specs.Sections.{masked, section_registers, closing_state, section_tag, section}
use Rattle.section.proofs.Masks.{masked_twice}

-- lists that begin with parts of one length
pub cut_once : (a b c d : List ℕ) → length a ≡ length c → a ++ b ≡ c ++ d → (a ≡ c) × (b ≡ d)
cut_once a b c d l e = (
  sym (take_at a b (length a) refl) ∙ ap (take (length a)) e ∙ take_at c d (length a) (sym l),
  sym (drop_at a b (length a) refl) ∙ ap (drop (length a)) e ∙ drop_at c d (length a) (sym l),
)

bytes_front : (xs ys : List ℕ) → Bytes (xs ++ ys) → Bytes xs
bytes_front [] ys h i = omega arith
bytes_front (x ∷ xs) ys h zero = h 0
bytes_front (x ∷ xs) ys h (suc i) = bytes_front xs ys (λ k. h (suc k)) i

-- a front, and what is then written behind it
pub behind_front : (front rest written : List ℕ) (n k : ℕ) → length front ≡ n → length (front ++ rest) ≤ n + k → put_mid n k (front ++ rest) written ≡ front ++ written
behind_front front rest written n k l h =
    let past : drop k (drop n (front ++ rest)) ≡ [] = drop-drop k n (front ++ rest) ∙ drop_all (n + k) (front ++ rest) h in
    ap₂ (λ f p. f ++ (written ++ p)) (take_at front rest n l) past ∙ ap (λ w. front ++ w) (append-nil written)

absorbed_good : (r : Rule) → Lawful r → (s : State) (bs : List (List ℕ)) → Good r s → AllByRecursion Block bs → Good r (absorbed r s bs)
absorbed_good r law s [] g h = g
absorbed_good r law s (b ∷ bs) g h = absorbed_good r law (after r s b) bs (after_good r law s b g h.0) h.1

module _ (z : ℕ → List ℕ) where
  -- a keystream of blocks starts SMAC-1 well
  pub registers_good : OfBlocks z → Good smac1 (at_first (section_registers z))
  registers_good blocks = record { fit = record { many = refl; blocks = (blocks 0, (blocks 1, (blocks 2, tt))) }; within = omega arith }

  pub tag_long : OfBlocks z → (header ciphertext : List ℕ) → Bytes header → Bytes ciphertext → length (section_tag z header ciphertext) ≡ 16
  unfolding closing_state section_tag
  tag_long blocks header ciphertext bh bc =
      whole.tag_long _ (absorbed_good smac1 whole (at_first (section_registers z)) (message smac1 header ciphertext) (registers_good blocks) (message_blocks smac1 header ciphertext bh bc)).fit

  -- what was given is the section of the body that its ciphertext gives, if its tag is the right one
  pub is_section : (header given ciphertext tag body : List ℕ) → given ≡ ciphertext ++ tag → tag ≡ section_tag z header ciphertext → body ≡ masked z ciphertext → given ≡ section z header body
  is_section header given ciphertext tag body eg et eb =
      let back : masked z body ≡ ciphertext = ap (masked z) eb ∙ masked_twice z ciphertext in
      eg ∙ ap (λ t. ciphertext ++ t) et ∙ ap (λ c. c ++ section_tag z header c) (sym back)

  -- and else of none
  pub no_section : OfBlocks z → (header given ciphertext tag : List ℕ) → Bytes header → Bytes given → given ≡ ciphertext ++ tag → length tag ≡ 16
      → (tag ≡ section_tag z header ciphertext → ⊥) → (body : List ℕ) → given ≡ section z header body → ⊥
  no_section blocks header given ciphertext tag bh bg eg long other body es =
      let m : List ℕ = masked z body in
      let t : List ℕ = section_tag z header m in
      let bm : Bytes m = bytes_front m t (subst Bytes es bg) in
      let n : length ciphertext ≡ length m =
      omega (arith, ap length eg, ap length es, length-append ciphertext tag, length-append m t, tag_long blocks header m bh bm) in
      let same = cut_once ciphertext tag m t n (sym eg ∙ es) in
      other (same.1 ∙ ap (section_tag z header) (sym same.0))
