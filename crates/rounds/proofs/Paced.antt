-- A mode of some pace does the rounds of a longer list of blocks, so its reach is the rounds' reach less the blocks of its own.
use Rattle.std.proofs.Common.{◌≡◌, ℕ, zero, suc, ◌+◌, ◌<◌, ◌≤◌, Bool, true, false, cond, eqb, ltb, List, [], ◌∷◌, ◌++◌, length, get_or, sym, refl, ap, ◌∙◌, subst, ap₂, inl, inr, le_of_suc-le-suc, not-suc-le-zero, suc-add, zero-add, arith, ltb→lt}
use Rattle.std.specs.List.{AllByRecursion}
use Rattle.std.proofs.lemmas.List.{append_cancel_left}
use Rattle.std.proofs.ByRecursion.{All-append}
use Rattle.std.proofs.lemmas.Bool.Decides.{nat_tests}
use Rattle.aes.specs.Blocks.{Block}
use Rattle.rounds.specs.Round.{Registers, Sound, Sigma, Undone, round, rounds}
use Rattle.rounds.specs.Cycle.{next}
use Rattle.rounds.specs.Reach.{Reaches}
use Rattle.aes.proofs.Blocks.{is_bytes}
use Rattle.aes.proofs.Sweep.{sweep}
use Rattle.rounds.proofs.Near.{Once, Twice, once_same, twice_near}
use Rattle.rounds.proofs.Reach.{reach}
use Rattle.rounds.specs.Paced.{Pace, smac_3/4}
use Rattle.rounds.specs.Mixing.{dummy}

rounds_append : (c : Sigma) (s : Registers) (xs ys : List (List ℕ)) → rounds c s (xs ++ ys) ≡ rounds c (rounds c s xs) ys
rounds_append c s [] ys = refl
rounds_append c s (x ∷ xs) ys = rounds_append c (round c s x) xs ys

-- ---- lists that agree but in one place or two
module _ {A : Type 0} where
  once_weaker : (m n : ℕ) (xs ys : List A) → m ≤ n → Once m xs ys → Once n xs ys
  once_weaker zero n xs ys h o = subst (λ zs. Once n xs zs) o (once_same n xs)
  once_weaker (suc m) zero xs ys h o = absurd (not-suc-le-zero h)
  once_weaker (suc m) (suc n) [] [] h o = tt
  once_weaker (suc m) (suc n) [] (y ∷ ys) h o = o
  once_weaker (suc m) (suc n) (x ∷ xs) [] h o = o
  once_weaker (suc m) (suc n) (x ∷ xs) (y ∷ ys) h (inl p) = inl p
  once_weaker (suc m) (suc n) (x ∷ xs) (y ∷ ys) h (inr p) = inr (p.0, once_weaker m n xs ys (le_of_suc-le-suc h) p.1)

  once_behind : (zs : List A) (n : ℕ) (xs ys : List A) → Once n xs ys → Once (length zs + n) (zs ++ xs) (zs ++ ys)
  once_behind [] n xs ys o = rw zero-add o
  once_behind (z ∷ zs) n xs ys o = rw suc-add (inr (refl, once_behind zs n xs ys o))

  twice_behind : (zs : List A) (n : ℕ) (xs ys : List A) → Twice n xs ys → Twice n (zs ++ xs) (zs ++ ys)
  twice_behind [] n xs ys o = o
  twice_behind (z ∷ zs) n xs ys o = inr (refl, twice_behind zs n xs ys o)

head_or : List ℕ → List (List ℕ) → List ℕ
head_or d [] = d
head_or d (x ∷ xs) = x

rest_of : List (List ℕ) → List (List ℕ)
rest_of [] = []
rest_of (x ∷ xs) = xs

-- registers, and a place of the cycle
pub record Meaning : Type 0 where
  pub registers : Registers
  pub place : ℕ

unfoldable pub absorb : Sigma → Pace → Meaning → List ℕ → Meaning
absorb c mode m b = record { registers = rounds c m.registers (b ∷ mode.own m.place); place = next mode.cycle m.place }

abbrev pub absorbs : Sigma → Pace → Meaning → List (List ℕ) → Meaning
absorbs c mode m [] = m
absorbs c mode m (b ∷ bs) = absorbs c mode (absorb c mode m b) bs

-- the registers that a list of blocks leads to
abbrev pub led : Sigma → Pace → Meaning → List (List ℕ) → Registers
led c mode m bs = (absorbs c mode m bs).registers

pub record Held (mode : Pace) (m : Meaning) : Type 0 where
  pub sound : Sound m.registers
  pub within : m.place < mode.cycle

module _ (mode : Pace) where
  -- the blocks given with those of the mode's own
  abbrev expand : ℕ → List (List ℕ) → List (List ℕ)
  expand p [] = []
  expand p (b ∷ bs) = b ∷ (mode.own p ++ expand (next mode.cycle p) bs)

  led_rounds : (c : Sigma) (m : Meaning) (bs : List (List ℕ)) → led c mode m bs ≡ rounds c m.registers (expand m.place bs)
  unfolding absorb
  led_rounds c m [] = refl
  led_rounds c m (b ∷ bs) =
      led_rounds c (absorb c mode m b) bs ∙ sym (rounds_append c (round c m.registers b) (mode.own m.place) (expand (next mode.cycle m.place) bs))

  -- how far apart two blocks come to stand that are r apart, the first at place p
  abbrev pub gap : ℕ → ℕ → ℕ
  gap zero p = zero
  gap (suc r) p = length (mode.own p) + suc (gap r (next mode.cycle p))

  once_expand : (r p : ℕ) (xs ys : List (List ℕ)) → Once r xs ys → Once (gap r p) (mode.own p ++ expand (next mode.cycle p) xs) (mode.own p ++ expand (next mode.cycle p) ys)
  once_expand zero p xs ys o = ap (λ zs. mode.own p ++ expand (next mode.cycle p) zs) o
  once_expand (suc r) p [] [] o = once_same (gap (suc r) p) (mode.own p ++ [])
  once_expand (suc r) p [] (y ∷ ys) o = absurd o
  once_expand (suc r) p (x ∷ xs) [] o = absurd o
  once_expand (suc r) p (x ∷ xs) (y ∷ ys) (inl e) =
      once_behind (mode.own p) (suc (gap r (next mode.cycle p))) (expand (next mode.cycle p) (x ∷ xs)) (expand (next mode.cycle p) (y ∷ ys))
      (inl (ap (λ zs. mode.own (next mode.cycle p) ++ expand (next mode.cycle (next mode.cycle p)) zs) e))
  once_expand (suc r) p (x ∷ xs) (y ∷ ys) (inr e) =
      once_behind (mode.own p) (suc (gap r (next mode.cycle p))) (expand (next mode.cycle p) (x ∷ xs)) (expand (next mode.cycle p) (y ∷ ys))
      (inr (e.0, once_expand r (next mode.cycle p) xs ys e.1))

  twice_expand : (r n : ℕ) → ((p : ℕ) → gap r p ≤ n) → (p : ℕ) (xs ys : List (List ℕ)) → Twice r xs ys → Twice n (expand p xs) (expand p ys)
  twice_expand r n h p [] [] t = tt
  twice_expand r n h p [] (y ∷ ys) t = t
  twice_expand r n h p (x ∷ xs) [] t = t
  twice_expand r n h p (x ∷ xs) (y ∷ ys) (inl o) = inl (once_weaker (gap r p) n (mode.own p ++ expand (next mode.cycle p) xs) (mode.own p ++ expand (next mode.cycle p) ys) (h p) (once_expand r p xs ys o))
  twice_expand r n h p (x ∷ xs) (y ∷ ys) (inr e) = inr (e.0, twice_behind (mode.own p) n (expand (next mode.cycle p) xs) (expand (next mode.cycle p) ys) (twice_expand r n h (next mode.cycle p) xs ys e.1))

  expand_injective : (p : ℕ) (xs ys : List (List ℕ)) → length xs ≡ length ys → expand p xs ≡ expand p ys → xs ≡ ys
  unfolding head_or rest_of
  expand_injective p [] [] long e = refl
  expand_injective p [] (y ∷ ys) long e = absurd (omega arith)
  expand_injective p (x ∷ xs) [] long e = absurd (omega arith)
  expand_injective p (x ∷ xs) (y ∷ ys) long e =
      ap₂ {C = List (List ℕ)} (λ a b. a ∷ b) (ap (head_or x) e)
      (expand_injective (next mode.cycle p) xs ys (omega arith) (append_cancel_left (mode.own p) (expand (next mode.cycle p) xs) (expand (next mode.cycle p) ys) (ap rest_of e)))

  expand_blocks : ((p : ℕ) → AllByRecursion Block (mode.own p)) → (p : ℕ) (xs : List (List ℕ)) → AllByRecursion Block xs → AllByRecursion Block (expand p xs)
  expand_blocks h p [] k = tt
  expand_blocks h p (x ∷ xs) k = (k.0, All-append Block (mode.own p) (expand (next mode.cycle p) xs) (h p) (expand_blocks h (next mode.cycle p) xs k.1))

  pub mode_reach : (c : Sigma) → Undone c → ((p : ℕ) → AllByRecursion Block (mode.own p)) → (r : ℕ) → ((p : ℕ) → gap r p ≤ 3) → Reaches r (Held mode) (led c mode)
  mode_reach c l blocks r short m xs ys km kxs kys n ne e =
      let p = m.place in
      let f = expand_blocks blocks p in
      ne (expand_injective p xs ys n.long
      (reach c l m.registers (expand p xs) (expand p ys) km.sound (f xs kxs) (f ys kys) (twice_expand r 3 short p xs ys (twice_near r xs ys n))
      (sym (led_rounds c m xs) ∙ e ∙ led_rounds c m ys)))

pub dummy_block : Block dummy
unfolding dummy
dummy_block = is_bytes dummy refl (λ k h. ltb→lt _ _ (sweep (λ k. ltb (get_or dummy k 0) 256) 16 tt k h))

-- after two blocks in a row at most one of the mode's own
pub three_short : (p : ℕ) → gap smac_3/4 2 p ≤ 3
three_short p = by (eqb p 2) (eqb (next 3 p) 2) refl refl
  where
    by : (a b : Bool) → eqb p 2 ≡ a → eqb (next 3 p) 2 ≡ b → gap smac_3/4 2 p ≤ 3
    by true true e f = grind (arith, nat_tests)
    by true false e f = rw (e, f) (omega arith)
    by false true e f = rw (e, f) (omega arith)
    by false false e f = rw (e, f) (omega arith)

pub three_blocks : (p : ℕ) → AllByRecursion Block (smac_3/4.own p)
three_blocks p = either (eqb p 2)
  where
    either : (b : Bool) → AllByRecursion Block (cond b (dummy ∷ []) [])
    either true = (dummy_block, tt)
    either false = tt
