-- Every n-th element of a list.
use Rattle.std.proofs.Common.{◌≡◌, ℕ, zero, suc, ◌+◌, ◌*◌, ◌/◌, ◌%◌, ◌<◌, ◌≤◌, ◌≢◌, ◌⊎◌, List, [], ◌∷◌, length, get_or, sym, refl, ap, ◌∙◌, inl, inr, mod-lt, mod-eq_of_lt, suc-mul, add-mul, le_of_mul-le-mul_right, arith}
use native.Mathlib.Nat.{mod-add-div', add-mul-mod_self_right}
use native.Mathlib.Decide.{ℕ_discrete}
use Rattle.std.specs.List.{AllByRecursion}
use Rattle.std.proofs.lemmas.List.{same_lists}
use Rattle.rounds.specs.Reach.{Near}

module _ (k : ℕ) where
  -- whether place i falls to the part that starts at w
  hit : (w i : ℕ) → w < suc k → ((q : ℕ) × (w + q * suc k ≡ i)) ⊎ ((q : ℕ) → w + q * suc k ≢ i)
  hit w i h = by (ℕ_discrete (i % suc k) w)
    where
      by : Dec (i % suc k ≡ w) → ((q : ℕ) × (w + q * suc k ≡ i)) ⊎ ((q : ℕ) → w + q * suc k ≢ i)
      by (yes e) = inl (i / suc k, ap (λ (a : ℕ). a + i / suc k * suc k) (sym e) ∙ mod-add-div' i (suc k))
      by (no n) = inr (λ q e. n (ap (λ (a : ℕ). a % suc k) (sym e) ∙ add-mul-mod_self_right w q (suc k) ∙ mod-eq_of_lt h))

  smaller : (p q : ℕ) → p * suc k ≤ q * suc k → p ≤ q
  smaller p q h = le_of_mul-le-mul_right h (omega arith)

  same_turn : (p q : ℕ) → p * suc k ≡ q * suc k → p ≡ q
  same_turn p q e =
      let a = smaller p q (omega arith) in
      let b = smaller q p (omega arith) in
      omega arith

module _ {A : Type 0} (k : ℕ) where
  -- element w, and every (k + 1)-st after it
  abbrev pub part : ℕ → List A → List A
  part w [] = []
  part zero (x ∷ xs) = x ∷ part k xs
  part (suc w) (x ∷ xs) = part w xs

  pub get_d_part : (w : ℕ) (xs : List A) (q : ℕ) (d : A) → get_or (part w xs) q d ≡ get_or xs (w + q * suc k) d
  get_d_part w [] q d = refl
  get_d_part zero (x ∷ xs) zero d =
      let e : zero ≡ zero + zero * suc k = omega arith in
      ap (λ (i : ℕ). get_or (x ∷ xs) i d) e
  get_d_part zero (x ∷ xs) (suc q) d =
      let e : suc (k + q * suc k) ≡ zero + suc q * suc k = omega (arith, suc-mul q (suc k)) in
      get_d_part k xs q d ∙ ap (λ (i : ℕ). get_or (x ∷ xs) i d) e
  get_d_part (suc w) (x ∷ xs) q d =
      let e : suc (w + q * suc k) ≡ suc w + q * suc k = omega arith in
      get_d_part w xs q d ∙ ap (λ (i : ℕ). get_or (x ∷ xs) i d) e

  pub length_part : (w : ℕ) (xs ys : List A) → length xs ≡ length ys → length (part w xs) ≡ length (part w ys)
  length_part w [] [] e = refl
  length_part w [] (y ∷ ys) e = absurd (omega arith)
  length_part w (x ∷ xs) [] e = absurd (omega arith)
  length_part zero (x ∷ xs) (y ∷ ys) e = ap suc (length_part k xs ys (omega arith))
  length_part (suc w) (x ∷ xs) (y ∷ ys) e = length_part w xs ys (omega arith)

  pub all_part : (P : A → Type 0) (w : ℕ) (xs : List A) → AllByRecursion P xs → AllByRecursion P (part w xs)
  all_part P w [] h = tt
  all_part P zero (x ∷ xs) h = (h.0, all_part P k xs h.1)
  all_part P (suc w) (x ∷ xs) h = all_part P w xs h.1

  pub near_part : (xs ys : List A) (w : ℕ) → w < suc k → Near (3 * suc k) xs ys → Near 3 (part w xs) (part w ys)
  near_part xs ys w h n = by (hit k w n.first h) (hit k w n.second h)
    where
      long : length (part w xs) ≡ length (part w ys)
      long = length_part w xs ys n.long

      kept : (q : ℕ) (d : A) → w + q * suc k ≢ n.first → w + q * suc k ≢ n.second → get_or (part w xs) q d ≡ get_or (part w ys) q d
      kept q d f g = get_d_part w xs q d ∙ n.others (w + q * suc k) d f g ∙ sym (get_d_part w ys q d)

      miss : (q p i : ℕ) → w + q * suc k ≡ i → p ≢ q → w + p * suc k ≢ i
      miss q p i e ne f = ne (same_turn k p q (omega arith))

      by : ((q : ℕ) × (w + q * suc k ≡ n.first)) ⊎ ((q : ℕ) → w + q * suc k ≢ n.first) → ((q : ℕ) × (w + q * suc k ≡ n.second)) ⊎ ((q : ℕ) → w + q * suc k ≢ n.second) → Near 3 (part w xs) (part w ys)
      by (inl a) (inl b) = record {
        long = long;
        first = a.0;
        second = b.0;
        order = smaller k a.0 b.0 (omega (arith, a.1, b.1, n.order));
        apart = smaller k b.0 (a.0 + 3) (omega (arith, a.1, b.1, n.apart, add-mul a.0 3 (suc k)));
        others = λ q d f g. kept q d (miss a.0 q n.first a.1 f) (miss b.0 q n.second b.1 g);
      }
      by (inl a) (inr g) = record {
        long = long;
        first = a.0;
        second = a.0;
        order = omega arith;
        apart = omega arith;
        others = λ q d f _. kept q d (miss a.0 q n.first a.1 f) (g q);
      }
      by (inr f) (inl b) = record {
        long = long;
        first = b.0;
        second = b.0;
        order = omega arith;
        apart = omega arith;
        others = λ q d g _. kept q d (f q) (miss b.0 q n.second b.1 g);
      }
      by (inr f) (inr g) = record {
        long = long;
        first = 0;
        second = 0;
        order = omega arith;
        apart = omega arith;
        others = λ q d _ _. kept q d (f q) (g q);
      }

  -- lists of which each part is the same are the same
  pub same_parts : (xs ys : List A) → length xs ≡ length ys → ((w : ℕ) → w < suc k → part w xs ≡ part w ys) → xs ≡ ys
  same_parts xs ys long h = same_lists xs ys long at
    where
      at : (i : ℕ) (d : A) → i < length xs → get_or xs i d ≡ get_or ys i d
      at i d _ =
          let w = i % suc k in
          let q = i / suc k in
          let home : w + q * suc k ≡ i = mod-add-div' i (suc k) in
          ap (λ (j : ℕ). get_or xs j d) (sym home) ∙ sym (get_d_part w xs q d)
          ∙ ap (λ zs. get_or zs q d) (h w (mod-lt i (omega arith))) ∙ get_d_part w ys q d ∙ ap (λ (j : ℕ). get_or ys j d) home
