-- The bytes of a word that was made of four bytes, and a list of sixteen by its places.
--
use Rattle.std.proofs.Common.{◌≡◌, ℕ, ◌+◌, ◌*◌, ◌/◌, ◌%◌, ◌<◌, [], ◌∷◌, ap, ◌∙◌, mod-eq_of_lt, arith}
use Rattle.std.proofs.lemmas.Nat.{div-add-mod', div-mul-add, mod-mul-add, shr_below, shr-shr}
use Rattle.columns.specs.Columns.{le}

-- a quotient and then a remainder pick out the digit q of n
digit : (n p u q lo : ℕ) → n ≡ (u * 256 + q) * p + lo → lo < p → q < 256 → n / p % 256 ≡ q
digit n p u q lo e h k =
    ap (λ (x : ℕ). x % 256) (ap (λ (x : ℕ). x / p) e ∙ div-mul-add (u * 256 + q) p lo h) ∙ mod-mul-add u 256 q k

pub le_packed : (w a b c d : ℕ) → w ≡ a + b * 256 + c * 65536 + d * 16777216 → a < 256 → b < 256 → c < 256 → d < 256 → le w ≡ a ∷ b ∷ c ∷ d ∷ []
le_packed w a b c d e p q r s =
    let e0 : w % 256 ≡ a = ap (λ (x : ℕ). x % 256) (omega arith) ∙ mod-mul-add (b + c * 256 + d * 65536) 256 a p in
    let e1 : w / 256 % 256 ≡ b = digit w 256 (c + d * 256) b a (omega arith) p q in
    let e2 : w / 65536 % 256 ≡ c = digit w 65536 d c (a + b * 256) (omega arith) (omega arith) r in
    let e3 : w / 16777216 % 256 ≡ d = digit w 16777216 0 d (a + b * 256 + c * 65536) (omega arith) (omega arith) s in
    cc

-- the bytes of a word say which word it is
pub packed_le : (w : ℕ) → w < 4294967296 → w ≡ w % 256 + (w / 256 % 256) * 256 + (w / 65536 % 256) * 65536 + (w / 16777216 % 256) * 16777216
packed_le w h =
    let s1 : w / 256 * 256 + w % 256 ≡ w = div-add-mod' w 256 in
    let s2 : w / 256 / 256 * 256 + w / 256 % 256 ≡ w / 256 = div-add-mod' (w / 256) 256 in
    let s3 : w / 65536 / 256 * 256 + w / 65536 % 256 ≡ w / 65536 = div-add-mod' (w / 65536) 256 in
    let t2 : w / 256 / 256 ≡ w / 65536 = shr-shr w 8 8 in
    let t3 : w / 65536 / 256 ≡ w / 16777216 = shr-shr w 16 8 in
    let b : w / 16777216 < 256 = shr_below w 8 24 h in
    let m : w / 16777216 % 256 ≡ w / 16777216 = mod-eq_of_lt b in
    omega arith
