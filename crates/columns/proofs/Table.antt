-- A rule of a table, proved at all of its entries by one computed test.
use Rattle.std.proofs.Common.{◌≡◌, ℕ, zero, suc, ◌+◌, ◌<◌, Bool, true, T, List, [], ◌∷◌, map, length, get_or, sym, ◌∙◌, subst, le_of_suc-le-suc, not-suc-le-zero, add-zero, add-suc, suc-add, zero-add, arith}
use lib.Lanes.{number_l}
use Rattle.std.specs.List.{range_with_len}
use Rattle.aes.proofs.Sweep.{both, both_left, both_right}
use Rattle.aes.specs.Field.{xtime}
use Rattle.aes.specs.Round.{sub, times3}
use Rattle.columns.specs.Columns.{le, entry}
use Rattle.columns.proofs.Bytes.{same, same_eq}

-- the test f passes at each entry of the list and its place, counted from i
abbrev every : (ℕ → ℕ → Bool) → ℕ → List ℕ → Bool
every f i [] = true
every f i (x ∷ xs) = both (f i x) (every f (suc i) xs)

from : (f : ℕ → ℕ → Bool) (xs : List ℕ) (i : ℕ) → T (every f i xs) → (k : ℕ) → k < length xs → T (f (i + k) (get_or xs k 0))
from f [] i t k h = absurd (not-suc-le-zero h)
from f (x ∷ xs) i t zero h = subst (λ (m : ℕ). T (f m x)) (sym (add-zero i)) (both_left (f i x) (every f (suc i) xs) t)
from f (x ∷ xs) i t (suc k) h =
    subst (λ (m : ℕ). T (f m (get_or xs k 0))) (suc-add i k ∙ sym (add-suc i k))
    (from f xs (suc i) (both_right (f i x) (every f (suc i) xs) t) k (le_of_suc-le-suc h))

at : (f : ℕ → ℕ → Bool) (xs : List ℕ) → T (every f 0 xs) → (k : ℕ) → k < length xs → T (f k (get_or xs k 0))
at f xs t k h = subst (λ (m : ℕ). T (f m (get_or xs k 0))) (zero-add k) (from f xs 0 t k h)

-- the table of 256 words whose entry n has the bytes that a rule gives
abbrev pub table : (ℕ → List ℕ) → List ℕ
table entry = map (λ n. number_l 256 (entry n)) (range_with_len 0 256)

pub entries : (entry : ℕ → List ℕ) → T (every (λ n w. same (le w) (entry n)) 0 (table entry)) → (k : ℕ) → k < length (table entry) → le (get_or (table entry) k 0) ≡ entry k
entries entry t k h = same_eq _ _ (at (λ n w. same (le w) (entry n)) (table entry) t k h)

-- the four tables, and what each entry of each holds
abbrev pub tables : List (List ℕ)
tables = table (entry 0) ∷ table (entry 1) ∷ table (entry 2) ∷ table (entry 3) ∷ []

pub entry_at : (row b : ℕ) → row < 4 → b < 256 → le (get_or (get_or tables row []) b 0) ≡ entry row b
unfolding sub xtime times3
entry_at zero b r h = entries (entry 0) tt b h
entry_at (suc zero) b r h = entries (entry 1) tt b h
entry_at (suc (suc zero)) b r h = entries (entry 2) tt b h
entry_at (suc (suc (suc zero))) b r h = entries (entry 3) tt b h
entry_at (suc (suc (suc (suc row)))) b r h = absurd (omega arith)
