-- What `from_fn` makes with a closure that calls leave as it is.
use Rattle.std.proofs.Common.{ℕ, zero, suc, ◌+◌, ◌≡◌, ◌<◌, List, get_or, sym, refl, subst, add-zero, zero-add, not-suc-le-zero, arith}
use Rattle.std.specs.Array.{IsFromFnResultFrom, IsFromFnResult}
use denote.Param.Members.{Mut, Called}

module _ {F B : Type 0} (g : Mut F (ℕ × Unit {0}) B) (f : F) (R : ℕ → B → Type 0) (acts : (i : ℕ) (y : B) (q : F) → Called g f (i, tt) y q → (q ≡ f) × R i y) where
  from : (ys : List B) (n i : ℕ) (p : F) → p ≡ f → IsFromFnResultFrom g p ys i n → (k : ℕ) → k < n → (d : B) → R (i + k) (get_or ys (i + k) d)
  from ys zero i p same m k l d = absurd (not-suc-le-zero l)
  from ys (suc n) i p same m zero l d =
      let a = acts i m.1 m.0 (subst (λ v. Called g v (i, tt) m.1 m.0) same m.3) in
      rw add-zero (subst (R i) (sym (m.2.1 d)) a.1)
  from ys (suc n) i p same m (suc k) l d =
      let a = acts i m.1 m.0 (subst (λ v. Called g v (i, tt) m.1 m.0) same m.3) in
      let one : i + 1 + k ≡ i + suc k = omega arith in
      subst (λ j. R j (get_or ys j d)) one (from ys n (i + 1) m.0 a.0 m.4 k (omega arith) d)

  -- each element is one that the closure may give at its index
  pub made_by : (ys : List B) (n : ℕ) → IsFromFnResult g f ys n → (k : ℕ) → k < n → (d : B) → R k (get_or ys k d)
  made_by ys n m k l d = rw zero-add at (from ys n 0 f refl m.each k l d)
