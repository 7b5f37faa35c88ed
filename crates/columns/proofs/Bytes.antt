-- The bytes of a word: equality by a test, and the exclusive or of two words.
use Rattle.std.proofs.Common.{◌≡◌, ℕ, ◌/◌, ◌%◌, Bool, true, false, T, eqb, List, [], ◌∷◌, refl, ap, ◌∙◌, eqb→eq}
use lib.Bits.{bit_xor, xor_mod, xor_shr}
use lib.Lanes.{zip2}
use Rattle.columns.specs.Columns.{le}
use Rattle.aes.proofs.Sweep.{both, both_left, both_right}

-- two lists are equal, as a test
abbrev pub same : List ℕ → List ℕ → Bool
same [] [] = true
same [] (y ∷ ys) = false
same (x ∷ xs) [] = false
same (x ∷ xs) (y ∷ ys) = both (eqb x y) (same xs ys)

pub same_eq : (xs ys : List ℕ) → T (same xs ys) → xs ≡ ys
same_eq [] [] t = refl
same_eq [] (y ∷ ys) t = absurd t
same_eq (x ∷ xs) [] t = absurd t
same_eq (x ∷ xs) (y ∷ ys) t =
    let e : x ≡ y = eqb→eq x y (both_left (eqb x y) (same xs ys) t) in
    let r : xs ≡ ys = same_eq xs ys (both_right (eqb x y) (same xs ys) t) in
    cc

pub le_xor : (u v : ℕ) → le (bit_xor u v) ≡ zip2 bit_xor (le u) (le v)
le_xor u v =
    let e0 : bit_xor u v % 256 ≡ bit_xor (u % 256) (v % 256) = xor_mod u v 8 in
    let e1 : bit_xor u v / 256 % 256 ≡ bit_xor (u / 256 % 256) (v / 256 % 256) =
    ap (λ (n : ℕ). n % 256) (xor_shr u v 8) ∙ xor_mod (u / 256) (v / 256) 8 in
    let e2 : bit_xor u v / 65536 % 256 ≡ bit_xor (u / 65536 % 256) (v / 65536 % 256) =
    ap (λ (n : ℕ). n % 256) (xor_shr u v 16) ∙ xor_mod (u / 65536) (v / 65536) 8 in
    let e3 : bit_xor u v / 16777216 % 256 ≡ bit_xor (u / 16777216 % 256) (v / 16777216 % 256) =
    ap (λ (n : ℕ). n % 256) (xor_shr u v 24) ∙ xor_mod (u / 16777216) (v / 16777216) 8 in
    cc

zip4 : (ps qs rs ss xs ys zs ws : List ℕ) → ps ≡ xs → qs ≡ ys → rs ≡ zs → ss ≡ ws → zip2 bit_xor (zip2 bit_xor (zip2 bit_xor ps qs) rs) ss ≡ zip2 bit_xor (zip2 bit_xor (zip2 bit_xor xs ys) zs) ws
zip4 ps qs rs ss xs ys zs ws p q r s = cc

pub le_xor4 : (a b c d : ℕ) (xs ys zs ws : List ℕ) → le a ≡ xs → le b ≡ ys → le c ≡ zs → le d ≡ ws → le (bit_xor (bit_xor (bit_xor a b) c) d) ≡ zip2 bit_xor (zip2 bit_xor (zip2 bit_xor xs ys) zs) ws
le_xor4 a b c d xs ys zs ws p q r s =
    le_xor (bit_xor (bit_xor a b) c) d
    ∙ ap (λ (l : List ℕ). zip2 bit_xor l (le d)) (le_xor (bit_xor a b) c ∙ ap (λ (l : List ℕ). zip2 bit_xor l (le c)) (le_xor a b))
    ∙ zip4 (le a) (le b) (le c) (le d) xs ys zs ws p q r s
