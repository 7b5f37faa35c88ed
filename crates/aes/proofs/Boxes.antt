-- The two tables, each rule by one computed test at all 256 bytes.
use Rattle.std.proofs.Common.{◌≡◌, ℕ, zero, suc, ◌<◌, T, eqb, ltb, refl, not-suc-le-zero, arith, eqb→eq, leb→le}
use Rattle.aes.specs.Field.{xtime, ◌•◌, inverse, affine}
use Rattle.aes.specs.Round.{sub, sub_inv, times3, times, BoxIsPublished, InverseInverts, BoxesUndoEachOther, CoefficientsAreProducts}
use Rattle.aes.proofs.Sweep.{up_to, sweep}

-- a test of equality that passes at every byte
all_equal : (f g : ℕ → ℕ) → T (up_to (λ b. eqb (f b) (g b)) 256) → (b : ℕ) → b < 256 → f b ≡ g b
all_equal f g t b h = eqb→eq (f b) (g b) (sweep (λ k. eqb (f k) (g k)) 256 t b h)

all_small : (f : ℕ → ℕ) → T (up_to (λ b. ltb (f b) 256) 256) → (b : ℕ) → b < 256 → f b < 256
all_small f t b h = leb→le _ _ (sweep (λ k. ltb (f k) 256) 256 t b h)

pub sub_inv_sub : (b : ℕ) → b < 256 → sub_inv (sub b) ≡ b
unfolding sub sub_inv
sub_inv_sub = all_equal (λ b. sub_inv (sub b)) (λ b. b) tt

pub sub_sub_inv : (b : ℕ) → b < 256 → sub (sub_inv b) ≡ b
unfolding sub sub_inv
sub_sub_inv = all_equal (λ b. sub (sub_inv b)) (λ b. b) tt

pub boxes_undo : BoxesUndoEachOther
boxes_undo b h = (sub_inv_sub b h, sub_sub_inv b h)

pub sub_lt : (b : ℕ) → b < 256 → sub b < 256
unfolding sub
sub_lt = all_small sub tt

pub sub_inv_lt : (b : ℕ) → b < 256 → sub_inv b < 256
unfolding sub_inv
sub_inv_lt = all_small sub_inv tt

pub box_published : BoxIsPublished
unfolding sub xtime ◌•◌ inverse affine
box_published = all_equal sub (λ b. affine (inverse b)) tt

pub inverse_inverts : InverseInverts
unfolding xtime ◌•◌ inverse
inverse_inverts = (refl, at)
  where
    at : (b : ℕ) → 0 < b → b < 256 → b • inverse b ≡ 1
    at zero h l = absurd (not-suc-le-zero h)
    at (suc k) h l = eqb→eq _ _ (sweep (λ n. eqb (suc n • inverse (suc n)) 1) 255 tt k (omega arith))

pub coefficients : CoefficientsAreProducts
unfolding xtime ◌•◌ times3 times
coefficients b h = record {
  by2 = all_equal xtime (λ c. 2 • c) tt b h;
  by3 = all_equal times3 (λ c. 3 • c) tt b h;
  by = λ c l. all_equal (times c) (λ b. c • b) (sweep (λ c. up_to (λ b. eqb (times c b) (c • b)) 256) 16 tt c l) b h;
}
