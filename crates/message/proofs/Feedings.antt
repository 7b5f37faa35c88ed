-- Bytes fed in parts are bytes fed at once, and whole blocks go straight to the mode.
use Rattle.std.proofs.Common.{◌≡◌, ℕ, zero, suc, ◌+◌, ◌-◌, ◌*◌, ◌/◌, ◌<◌, ◌≤◌, Bool, true, false, cond, eqb, List, [], ◌∷◌, ◌++◌, length, take, drop, replicate, sym, refl, ap, ◌∙◌, append_assoc, append-nil, arith, length-append, length-drop, take-append-drop, length-take, drop-drop, eq-eqb, ne_eqb}
use Rattle.std.proofs.lemmas.List.{drop-replicate, take-append-le, take_all}
use Rattle.std.proofs.lemmas.Slice.{take-put_mid, drop-put_mid}
use borrow.Rule.Slice.PartMut.{put_mid}
use Rattle.std.specs.Simd.{first_chunks}
use Rattle.mode.specs.Rules.{Rule, State, after, absorbed}
use Rattle.message.specs.Framing.{cut, flushed, padded}
use Rattle.message.specs.Feeding.{Fed, fed, fed_of, fed_byte, flush, held}
use Rattle.message.specs.declared.state.Pending.{Pending}

pub flushed_some : (p : List ℕ) → 0 < length p → flushed p ≡ (p ++ replicate (16 - length p) 0) ∷ []
flushed_some [] h = absurd (omega arith)
flushed_some (x ∷ p) h = refl

pub flushed_none : (p : List ℕ) → length p ≡ 0 → flushed p ≡ []
flushed_none [] h = refl
flushed_none (x ∷ p) h = absurd (omega arith)

pub held_length : (p : Pending) → length (held p) ≡ p.len
held_length p = simp length-take (omega (arith, p.ok.0, p.ok.1))

drop_whole : (a b : List ℕ) (n : ℕ) → length a ≡ n → drop n (a ++ b) ≡ b
drop_whole [] b zero h = refl
drop_whole [] b (suc n) h = absurd (omega arith)
drop_whole (x ∷ a) b zero h = absurd (omega arith)
drop_whole (x ∷ a) b (suc n) h = drop_whole a b n (omega arith)

-- a block of the bytes that wait, of more bytes, and of zeros, as two writes make it
pub block_filled : (s k : ℕ) (w m a b : List ℕ) → a ≡ w → b ≡ m → s ≡ length w → k ≡ (s + length m) - s → s + length m ≤ 16 →
    put_mid s k (a ++ drop s (replicate 16 0)) b ≡ (w ++ m) ++ replicate (16 - length (w ++ m)) 0
block_filled s k w m a b ea eb es ek h =
    let n = s + length m in
    let xs = a ++ drop s (replicate 16 0) in
    let la : length a ≡ s = omega (arith, ap length ea) in
    let lb : length b ≡ length m = ap length eb in
    let l : s ≤ length xs = omega (arith, length-append a (drop s (replicate 16 0))) in
    let all : s + length m ≡ length (w ++ m) = omega (arith, length-append w m) in
    let front : take n (put_mid s k xs b) ≡ w ++ m =
    take-put_mid s k xs b n (omega arith) l ∙ ap (λ z. take s xs ++ z) eb ∙ ap (λ z. z ++ m) (take-append-le s a (drop s (replicate 16 0)) (omega arith) ∙ take_all s a (omega arith) ∙ ea) in
    let back : drop n (put_mid s k xs b) ≡ replicate (16 - length (w ++ m)) 0 =
    drop-put_mid s k xs b n (omega arith) l (omega arith)
    ∙ sym (drop-drop (length m) s xs)
    ∙ ap (drop (length m)) (drop_whole a (drop s (replicate 16 0)) s la)
    ∙ drop-drop (length m) s (replicate 16 0)
    ∙ ap (λ z. drop z (replicate 16 0)) all
    ∙ drop-replicate (length (w ++ m)) 16 0 in
    sym (take-append-drop n (put_mid s k xs b)) ∙ ap (λ z. z ++ drop n (put_mid s k xs b)) front ∙ ap (λ z. (w ++ m) ++ z) back

module _ (r : Rule) where
  pub fed_append : (s : Fed) (xs ys : List ℕ) → fed r s (xs ++ ys) ≡ fed r (fed r s xs) ys
  fed_append s [] ys = refl
  fed_append s (x ∷ xs) ys = fed_append (fed_byte r s.state s.waiting x) xs ys

  one_stays : (m : State) (p : List ℕ) (x : ℕ) (xs : List ℕ) → (length p ≡ 15 → ⊥) → fed r (fed_of m p) (x ∷ xs) ≡ fed r (fed_of m (p ++ x ∷ [])) xs
  one_stays m p x xs h = ap (λ (v : Bool). fed r (cond v (fed_of (after r m (p ++ x ∷ [])) []) (fed_of m (p ++ x ∷ []))) xs) (ne_eqb (length p) 15 h)

  one_fills : (m : State) (p : List ℕ) (x : ℕ) (xs : List ℕ) → length p ≡ 15 → fed r (fed_of m p) (x ∷ xs) ≡ fed r (fed_of (after r m (p ++ x ∷ [])) []) xs
  one_fills m p x xs h = ap (λ (v : Bool). fed r (cond v (fed_of (after r m (p ++ x ∷ [])) []) (fed_of m (p ++ x ∷ []))) xs) (eq-eqb (length p) 15 h)

  -- bytes that do not complete a block
  pub fed_short : (m : State) (p xs : List ℕ) → length p + length xs < 16 → fed r (fed_of m p) xs ≡ fed_of m (p ++ xs)
  fed_short m p [] h = ap (fed_of m) (sym (append-nil p))
  fed_short m p (x ∷ xs) h =
      one_stays m p x xs (λ e. omega arith)
      ∙ fed_short m (p ++ x ∷ []) xs (omega (arith, length-append p (x ∷ [])))
      ∙ ap (fed_of m) (append_assoc p (x ∷ []) xs)

  -- bytes that complete a block
  pub fed_full : (m : State) (p xs : List ℕ) → length p < 16 → length p + length xs ≡ 16 → fed r (fed_of m p) xs ≡ fed_of (after r m (p ++ xs)) []
  fed_full m p [] l h = absurd (omega arith)
  fed_full m p (x ∷ []) l h = one_fills m p x [] (omega arith)
  fed_full m p (x ∷ y ∷ xs) l h =
      one_stays m p x (y ∷ xs) (λ e. omega arith)
      ∙ fed_full m (p ++ x ∷ []) (y ∷ xs) (omega (arith, length-append p (x ∷ []))) (omega (arith, length-append p (x ∷ [])))
      ∙ ap (λ bs. fed_of (after r m bs) []) (append_assoc p (x ∷ []) (y ∷ xs))

  -- whole blocks, and what is left
  pub fed_chunks : (k : ℕ) (m : State) (xs : List ℕ) → k * 16 ≤ length xs →
      fed r (fed_of m []) xs ≡ fed r (fed_of (absorbed r m (first_chunks 16 k xs)) []) (drop (k * 16) xs)
  fed_chunks zero m xs h = refl
  fed_chunks (suc k) m xs h =
      let e : suc k * 16 ≡ 16 + k * 16 = omega arith in
      let l : length (take 16 xs) ≡ 16 = simp length-take (omega arith) in
      ap (fed r (fed_of m [])) (sym (take-append-drop 16 xs))
      ∙ fed_append (fed_of m []) (take 16 xs) (drop 16 xs)
      ∙ ap (λ s. fed r s (drop 16 xs)) (fed_full m [] (take 16 xs) (omega arith) (omega arith))
      ∙ fed_chunks k (after r m (take 16 xs)) (drop 16 xs) (simp length-drop (omega arith))
      ∙ ap (fed r (fed_of (absorbed r m (first_chunks 16 (suc k) xs)) [])) (drop-drop (k * 16) 16 xs ∙ ap (λ n. drop n xs) (sym e))

  -- at the end of a part, what was fed is what the padded bytes lead to
  pub fed_cut : (m : State) (p xs : List ℕ) → absorbed r m (cut p xs) ≡ flush r (fed r (fed_of m p) xs)
  fed_cut m p [] = refl
  fed_cut m p (x ∷ xs) =
      let P : Bool → Type 0 = λ v. absorbed r m (cond v ((p ++ x ∷ []) ∷ cut [] xs) (cut (p ++ x ∷ []) xs)) ≡ flush r (fed r (cond v (fed_of (after r m (p ++ x ∷ [])) []) (fed_of m (p ++ x ∷ []))) xs) in
      elim (eqb (length p) 15) as P [ true ↦ fed_cut (after r m (p ++ x ∷ [])) [] xs | false ↦ fed_cut m (p ++ x ∷ []) xs ]

  -- a piece that begins where a block does
  pub fed_aligned : (m m' : State) (bytes : List ℕ) (whole : List (List ℕ)) (tail h : List ℕ) →
      whole ≡ first_chunks 16 (length bytes / 16) bytes → tail ≡ drop (length bytes / 16 * 16) bytes → length tail < 16 →
      m' ≡ absorbed r m whole → h ≡ tail → fed_of m' h ≡ fed r (fed_of m []) bytes
  fed_aligned m m' bytes whole tail h ew et l em eh =
      let k = length bytes / 16 in
      let a : fed r (fed_of m []) bytes ≡ fed r (fed_of (absorbed r m (first_chunks 16 k bytes)) []) (drop (k * 16) bytes) = fed_chunks k m bytes (omega arith) in
      let b : fed r (fed_of m' []) tail ≡ fed_of m' tail = fed_short m' [] tail (omega arith) in
      let e : m' ≡ absorbed r m (first_chunks 16 k bytes) = em ∙ ap (absorbed r m) ew in
      ap (fed_of m') eh ∙ sym b ∙ ap (λ x. fed r (fed_of x []) tail) e ∙ ap (fed r (fed_of (absorbed r m (first_chunks 16 k bytes)) [])) et ∙ sym a

  -- a piece whose front completes the pending block
  pub fed_topped : (m m' : State) (p bytes front back block : List ℕ) (s : Fed) →
      length p < 16 → length p + length front ≡ 16 → bytes ≡ front ++ back → block ≡ p ++ front → m' ≡ after r m block →
      s ≡ fed r (fed_of m' []) back → s ≡ fed r (fed_of m p) bytes
  fed_topped m m' p bytes front back block s l f eb ek em es =
      es ∙ ap (λ x. fed r (fed_of x []) back) (em ∙ ap (after r m) ek)
      ∙ ap (λ x. fed r x back) (sym (fed_full m p front l f))
      ∙ sym (fed_append (fed_of m p) front back)
      ∙ ap (fed r (fed_of m p)) (sym eb)

  -- a whole part: its whole blocks, and then what is left, filled up with zeros
  pub part_absorbed : (m m' : State) (part : List ℕ) (whole : List (List ℕ)) (tail : List ℕ) →
      whole ≡ first_chunks 16 (length part / 16) part → tail ≡ drop (length part / 16 * 16) part → length tail < 16 →
      m' ≡ absorbed r m whole → absorbed r m' (flushed tail) ≡ absorbed r m (padded part)
  part_absorbed m m' part whole tail ew et l em = sym (fed_cut m [] part ∙ ap (flush r) (sym (fed_aligned m m' part whole tail tail ew et l em refl)))
