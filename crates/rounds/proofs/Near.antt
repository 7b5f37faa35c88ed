-- Lists that agree but in one place or two, by recursion: what proofs go by.
use Rattle.std.proofs.Common.{◌≡◌, ℕ, zero, suc, ◌+◌, ◌<◌, ◌≤◌, ◌≢◌, ◌⊎◌, List, [], ◌∷◌, length, get_or, refl, inl, inr, le_of_suc-le-suc, not-suc-le-zero, arith}
use Rattle.std.proofs.lemmas.List.{same_lists}
use Rattle.rounds.specs.Reach.{Near}

module _ {A : Type 0} where
  -- the same but at one place, which is one of the first r
  abbrev pub Once : ℕ → List A → List A → Type 0
  Once zero xs ys = xs ≡ ys
  Once (suc r) [] [] = Unit {0}
  Once (suc r) [] (y ∷ ys) = ⊥
  Once (suc r) (x ∷ xs) [] = ⊥
  Once (suc r) (x ∷ xs) (y ∷ ys) = (xs ≡ ys) ⊎ ((x ≡ y) × Once r xs ys)

  -- the same but at two places, at most r apart
  abbrev pub Twice : ℕ → List A → List A → Type 0
  Twice r [] [] = Unit {0}
  Twice r [] (y ∷ ys) = ⊥
  Twice r (x ∷ xs) [] = ⊥
  Twice r (x ∷ xs) (y ∷ ys) = Once r xs ys ⊎ ((x ≡ y) × Twice r xs ys)

  pub once_same : (r : ℕ) (xs : List A) → Once r xs xs
  once_same zero xs = refl
  once_same (suc r) [] = tt
  once_same (suc r) (x ∷ xs) = inl refl

  once_at : (r : ℕ) (xs ys : List A) (j : ℕ) → length xs ≡ length ys → j < r → ((k : ℕ) (d : A) → k ≢ j → get_or xs k d ≡ get_or ys k d) → Once r xs ys
  once_at zero xs ys j long h others = absurd (not-suc-le-zero h)
  once_at (suc r) [] [] j long h others = tt
  once_at (suc r) [] (y ∷ ys) j long h others = omega arith
  once_at (suc r) (x ∷ xs) [] j long h others = omega arith
  once_at (suc r) (x ∷ xs) (y ∷ ys) zero long h others =
      inl (same_lists xs ys (omega arith) (λ k d l. others (suc k) d (omega arith)))
  once_at (suc r) (x ∷ xs) (y ∷ ys) (suc j) long h others =
      inr (others zero x (omega arith), once_at r xs ys j (omega arith) (le_of_suc-le-suc h) (λ k d ne. others (suc k) d (omega arith)))

  twice_at : (r : ℕ) (xs ys : List A) (i j : ℕ) → length xs ≡ length ys → i ≤ j → j ≤ i + r → ((k : ℕ) (d : A) → k ≢ i → k ≢ j → get_or xs k d ≡ get_or ys k d) → Twice r xs ys
  twice_at r [] [] i j long le near others = tt
  twice_at r [] (y ∷ ys) i j long le near others = omega arith
  twice_at r (x ∷ xs) [] i j long le near others = omega arith
  twice_at r (x ∷ xs) (y ∷ ys) zero zero long le near others =
      inl (rw (same_lists xs ys (omega arith) (λ k d l. others (suc k) d (omega arith) (omega arith))) (once_same r ys))
  twice_at r (x ∷ xs) (y ∷ ys) zero (suc j) long le near others =
      inl (once_at r xs ys j (omega arith) (omega arith) (λ k d ne. others (suc k) d (omega arith) (omega arith)))
  twice_at r (x ∷ xs) (y ∷ ys) (suc i) zero long le near others = absurd (not-suc-le-zero le)
  twice_at r (x ∷ xs) (y ∷ ys) (suc i) (suc j) long le near others =
      inr (others zero x (omega arith) (omega arith), twice_at r xs ys i j (omega arith) (omega arith) (omega arith) (λ k d ni nj. others (suc k) d (omega arith) (omega arith)))

  pub twice_near : (r : ℕ) (xs ys : List A) → Near r xs ys → Twice r xs ys
  twice_near r xs ys n = twice_at r xs ys n.first n.second n.long n.order n.apart n.others
