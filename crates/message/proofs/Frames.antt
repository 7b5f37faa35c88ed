-- A framed message tells its header and its body.
use Rattle.std.proofs.Common.{◌≡◌, ℕ, zero, suc, ◌-◌, ◌*◌, ◌^◌, ◌<◌, Bool, true, false, cond, eqb, ◌⊎◌, List, [], ◌∷◌, ◌++◌, length, get_or, drop, replicate, sym, refl, ap, ◌∙◌, inl, inr, append_assoc, append-nil, arith, length-append}
use Rattle.std.proofs.lemmas.Bool.{cases_eq}
use Rattle.std.proofs.lemmas.List.{nil_from_length}
use Rattle.counts.specs.Little.{little}
use Rattle.counts.proofs.Bytes.{little_apart}
use Rattle.aes.specs.Blocks.{Bytes}
use Rattle.message.specs.Framing.{cut, flushed, padded, length_block, framed, zero_block}

-- what is accepted is bytes, and can be counted
pub record Sizes (h b : List ℕ) : Type 0 where
  pub header : length h < 2 ^ 61
  pub body : length b < 2 ^ 61
  pub header_bytes : Bytes h
  pub body_bytes : Bytes b

-- two lists that begin with lists of one length
front_same : {A : Type 0} (a b c d : List A) → length a ≡ length b → a ++ c ≡ b ++ d → (a ≡ b) × (c ≡ d)
front_same [] [] c d l e = (refl, e)
front_same [] (y ∷ b) c d l e = absurd (omega arith)
front_same (x ∷ a) [] c d l e = absurd (omega arith)
front_same (x ∷ a) (y ∷ b) c d l e =
    let h : x ≡ y = cc in
    let t : a ++ c ≡ b ++ d = cc in
    let r = front_same a b c d (omega arith) t in
    let r₀ : a ≡ b = r.0 in
    (cc, r.1)

flushed_same : (p q : List ℕ) (X Y : List (List ℕ)) → length p ≡ length q → flushed p ++ X ≡ flushed q ++ Y → (p ≡ q) × (X ≡ Y)
flushed_same [] [] X Y l e = (refl, e)
flushed_same [] (y ∷ q) X Y l e = absurd (omega arith)
flushed_same (x ∷ p) [] X Y l e = absurd (omega arith)
flushed_same (x ∷ p) (y ∷ q) X Y l e =
    let h : (x ∷ p) ++ replicate (16 - length (x ∷ p)) 0 ≡ (y ∷ q) ++ replicate (16 - length (y ∷ q)) 0 = cc in
    let t : X ≡ Y = cc in
    ((front_same (x ∷ p) (y ∷ q) _ _ l h).0, t)

cut_same : (p q bs cs : List ℕ) (X Y : List (List ℕ)) → length p ≡ length q → length bs ≡ length cs → cut p bs ++ X ≡ cut q cs ++ Y → (p ++ bs ≡ q ++ cs) × (X ≡ Y)
cut_same p q [] [] X Y l n e =
    let r = flushed_same p q X Y l e in
    (append-nil p ∙ r.0 ∙ sym (append-nil q), r.1)
cut_same p q [] (y ∷ cs) X Y l n e = absurd (omega arith)
cut_same p q (x ∷ bs) [] X Y l n e = absurd (omega arith)
cut_same p q (x ∷ bs) (y ∷ cs) X Y l n e =
    let p' = p ++ x ∷ [] in
    let q' = q ++ y ∷ [] in
    let t : eqb (length q) 15 ≡ eqb (length p) 15 = ap (λ k. eqb k 15) (sym l) in
    let e' : cond (eqb (length p) 15) (p' ∷ cut [] bs) (cut p' bs) ++ X ≡ cond (eqb (length p) 15) (q' ∷ cut [] cs) (cut q' cs) ++ Y =
    e ∙ ap (λ v. cond v (q' ∷ cut [] cs) (cut q' cs) ++ Y) t in
    let l' : length p' ≡ length q' = omega (arith, length-append p (x ∷ []), length-append q (y ∷ [])) in
    let Case : Bool → Type 0 = λ v. cond v (p' ∷ cut [] bs) (cut p' bs) ++ X ≡ cond v (q' ∷ cut [] cs) (cut q' cs) ++ Y → (p' ++ bs ≡ q' ++ cs) × (X ≡ Y) in
    let cases : Case (eqb (length p) 15) =
    elim (eqb (length p) 15) as Case [
      | true ↦ λ w.
          let h : p' ≡ q' = cc in
          let u : cut [] bs ++ X ≡ cut [] cs ++ Y = cc in
          let r = cut_same [] [] bs cs X Y refl (omega arith) u in
          let r₀ : bs ≡ cs = r.0 in
          (ap (λ z. z ++ bs) h ∙ ap (λ z. q' ++ z) r₀, r.1)
      | false ↦ λ w. cut_same p' q' bs cs X Y l' (omega arith) w
    ] in
    let r = cases e' in
    (sym (append_assoc p (x ∷ []) bs) ∙ r.0 ∙ append_assoc q (y ∷ []) cs, r.1)

-- a block among zero blocks is one
in_zero_blocks : (n : ℕ) (ys : List (List ℕ)) (d : List ℕ) (zs : List (List ℕ)) → replicate n zero_block ≡ ys ++ d ∷ zs → d ≡ zero_block
in_zero_blocks zero [] d zs e = let z : ◌≡◌ {A = ℕ} 0 1 = cc in absurd (omega arith)
in_zero_blocks zero (y ∷ ys) d zs e = let z : ◌≡◌ {A = ℕ} 0 1 = cc in absurd (omega arith)
in_zero_blocks (suc n) [] d zs e = sym (ap (λ l. get_or l 0 []) e)
in_zero_blocks (suc n) (y ∷ ys) d zs e = in_zero_blocks n ys d zs (ap (drop 1) e)

-- the last block that is not zero, and what stands before it
last_same : (xs ys : List (List ℕ)) (c d : List ℕ) (m n : ℕ) → (c ≡ zero_block → ⊥) → (d ≡ zero_block → ⊥) → xs ++ c ∷ replicate m zero_block ≡ ys ++ d ∷ replicate n zero_block → (xs ≡ ys) × (c ≡ d)
last_same [] [] c d m n hc hd e = (refl, ap (λ l. get_or l 0 []) e)
last_same [] (y ∷ ys) c d m n hc hd e = absurd (hd (in_zero_blocks m ys d (replicate n zero_block) (ap (drop 1) e)))
last_same (x ∷ xs) [] c d m n hc hd e = absurd (hc (in_zero_blocks n xs c (replicate m zero_block) (ap (drop 1) (sym e))))
last_same (x ∷ xs) (y ∷ ys) c d m n hc hd e =
    let r = last_same xs ys c d m n hc hd (ap (drop 1) e) in
    (ap (λ z. z ∷ xs) (ap (λ l. get_or l 0 []) e) ∙ ap (λ z. y ∷ z) r.0, r.1)

same? : (xs ys : List ℕ) → (xs ≡ ys) ⊎ (xs ≡ ys → ⊥)
same? [] [] = inl refl
same? [] (y ∷ ys) = inr (λ e. let z : ◌≡◌ {A = ℕ} 0 1 = cc in omega arith)
same? (x ∷ xs) [] = inr (λ e. let z : ◌≡◌ {A = ℕ} 0 1 = cc in omega arith)
same? (x ∷ xs) (y ∷ ys) =
    elim (cases_eq x y) [
      | inl e ↦ elim (same? xs ys) [ inl f ↦ inl (cc) | inr f ↦ inr (λ w. f (ap (drop 1) w)) ]
      | inr e ↦ inr (λ w. e (ap (λ l. get_or l 0 0) w))
    ]

pub same_blocks_or_not : (xs ys : List (List ℕ)) → (xs ≡ ys) ⊎ (xs ≡ ys → ⊥)
same_blocks_or_not [] [] = inl refl
same_blocks_or_not [] (y ∷ ys) = inr (λ e. let z : ◌≡◌ {A = ℕ} 0 1 = cc in omega arith)
same_blocks_or_not (x ∷ xs) [] = inr (λ e. let z : ◌≡◌ {A = ℕ} 0 1 = cc in omega arith)
same_blocks_or_not (x ∷ xs) (y ∷ ys) =
    elim (same? x y) [
      | inl e ↦ elim (same_blocks_or_not xs ys) [ inl f ↦ inl (cc) | inr f ↦ inr (λ w. f (ap (drop 1) w)) ]
      | inr e ↦ inr (λ w. e (ap (λ l. get_or l 0 []) w))
    ]

-- length blocks tell the lengths
length_block_same : (a b c d : ℕ) → a < 2 ^ 61 → b < 2 ^ 61 → c < 2 ^ 61 → d < 2 ^ 61 → length_block a b ≡ length_block c d → (a ≡ c) × (b ≡ d)
length_block_same a b c d ha hb hc hd e =
    let r = front_same (little 8 (8 * a)) (little 8 (8 * c)) (little 8 (8 * b)) (little 8 (8 * d)) refl e in
    let f : 8 * a ≡ 8 * c = little_apart 8 (8 * a) (8 * c) (omega arith) (omega arith) r.0 in
    let g : 8 * b ≡ 8 * d = little_apart 8 (8 * b) (8 * d) (omega arith) (omega arith) r.1 in
    (omega arith, omega arith)

regroup : (P Q Z : List (List ℕ)) (c : List ℕ) → (P ++ (Q ++ c ∷ [])) ++ Z ≡ (P ++ Q) ++ c ∷ Z
regroup P Q Z c = append_assoc P (Q ++ c ∷ []) Z ∙ ap (λ z. P ++ z) (append_assoc Q (c ∷ []) Z) ∙ sym (append_assoc P Q (c ∷ Z))

module _ (h₁ b₁ h₂ b₂ : List ℕ) (z₁ : Sizes h₁ b₁) (z₂ : Sizes h₂ b₂) (n₁ n₂ : ℕ) where
  c₁ : List ℕ
  c₁ = length_block (length h₁) (length b₁)

  c₂ : List ℕ
  c₂ = length_block (length h₂) (length b₂)

  nothing_first : framed h₁ b₁ ++ replicate n₁ zero_block ≡ framed h₂ b₂ ++ replicate n₂ zero_block → c₁ ≡ zero_block → (h₁ ≡ h₂) × (b₁ ≡ b₂)
  unfolding c₁ c₂
  nothing_first e w =
      let l = length_block_same (length h₁) (length b₁) 0 0 z₁.header z₁.body (omega arith) (omega arith) w in
      let eh : h₁ ≡ [] = nil_from_length h₁ l.0 in
      let eb : b₁ ≡ [] = nil_from_length b₁ l.1 in
      let f : framed h₁ b₁ ≡ zero_block ∷ [] = ap (λ z. framed z b₁) eh ∙ ap (framed []) eb in
      let g : replicate (suc n₁) zero_block ≡ (padded h₂ ++ padded b₂) ++ c₂ ∷ replicate n₂ zero_block =
      ap (λ z. z ++ replicate n₁ zero_block) (sym f) ∙ e ∙ regroup (padded h₂) (padded b₂) (replicate n₂ zero_block) c₂ in
      let l₂ = length_block_same (length h₂) (length b₂) 0 0 z₂.header z₂.body (omega arith) (omega arith) (in_zero_blocks (suc n₁) (padded h₂ ++ padded b₂) c₂ (replicate n₂ zero_block) g) in
      (eh ∙ sym (nil_from_length h₂ l₂.0), eb ∙ sym (nil_from_length b₂ l₂.1))

  something : framed h₁ b₁ ++ replicate n₁ zero_block ≡ framed h₂ b₂ ++ replicate n₂ zero_block → (c₁ ≡ zero_block → ⊥) → (c₂ ≡ zero_block → ⊥) → (h₁ ≡ h₂) × (b₁ ≡ b₂)
  unfolding c₁ c₂
  something e w₁ w₂ =
      let r = last_same (padded h₁ ++ padded b₁) (padded h₂ ++ padded b₂) c₁ c₂ n₁ n₂ w₁ w₂
      (sym (regroup (padded h₁) (padded b₁) (replicate n₁ zero_block) c₁) ∙ e ∙ regroup (padded h₂) (padded b₂) (replicate n₂ zero_block) c₂) in
      let l = length_block_same (length h₁) (length b₁) (length h₂) (length b₂) z₁.header z₁.body z₂.header z₂.body r.1 in
      let s = cut_same [] [] h₁ h₂ (padded b₁) (padded b₂) refl l.0 r.0 in
      let t = cut_same [] [] b₁ b₂ [] [] refl l.1 (append-nil (padded b₁) ∙ s.1 ∙ sym (append-nil (padded b₂))) in
      (s.0, t.0)

pub message_same : (h₁ b₁ h₂ b₂ : List ℕ) → Sizes h₁ b₁ → Sizes h₂ b₂ → (n₁ n₂ : ℕ) → framed h₁ b₁ ++ replicate n₁ zero_block ≡ framed h₂ b₂ ++ replicate n₂ zero_block → (h₁ ≡ h₂) × (b₁ ≡ b₂)
unfolding c₁ c₂
message_same h₁ b₁ h₂ b₂ z₁ z₂ n₁ n₂ e =
    elim (same? (length_block (length h₁) (length b₁)) zero_block) [
      | inl w ↦ nothing_first h₁ b₁ h₂ b₂ z₁ z₂ n₁ n₂ e w
      | inr w ↦ elim (same? (length_block (length h₂) (length b₂)) zero_block) [
        | inl v ↦ let r = nothing_first h₂ b₂ h₁ b₁ z₂ z₁ n₂ n₁ (sym e) v in (sym r.0, sym r.1)
        | inr v ↦ something h₁ b₁ h₂ b₂ z₁ z₂ n₁ n₂ e w v
      ]
    ]
