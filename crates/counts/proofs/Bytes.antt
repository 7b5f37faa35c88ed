-- The bytes that write a number, and the number that bytes write.
use Rattle.std.proofs.Common.{◌≡◌, ℕ, zero, suc, ◌*◌, ◌/◌, ◌^◌, ◌<◌, length, sym, refl, ap, ◌∙◌, arith}
use native.Mathlib.Numerals.{unary_clauses}
use Rattle.counts.specs.Little.{le, little}

-- what is written is read again
pub le_little : (k n : ℕ) → n < 256 ^ k → le (little k n) ≡ n
le_little zero n h = omega arith
le_little (suc k) n h =
    let p : n < 256 ^ k * 256 = simp unary_clauses at h in
    let q : n / 256 < 256 ^ k = omega arith in
    let r = le_little k (n / 256) q in
    omega arith

-- so different numbers are written differently
pub little_apart : (k m n : ℕ) → m < 256 ^ k → n < 256 ^ k → little k m ≡ little k n → m ≡ n
little_apart k m n hm hn e = sym (le_little k m hm) ∙ (ap le e ∙ le_little k n hn)

pub length_little : (k n : ℕ) → length (little k n) ≡ k
length_little zero n = refl
length_little (suc k) n = ap suc (length_little k (n / 256))
