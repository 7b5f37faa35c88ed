-- Multiplication by each coefficient is linear over exclusive or, at every number.
use Rattle.std.proofs.Common.{◌≡◌, ℕ, zero, suc, ◌+◌, ◌*◌, ◌/◌, ◌%◌, ◌^◌, ◌<◌, Bool, T, eqb, ◌⊎◌, sym, refl, ap, ◌∙◌, ap₂, inl, inr, arith, eqb→eq, zero-mul, one-mul}
use lib.Bits.{bit_xor, xor_assoc, xor_comm, xor_mod, xor_shr, xor_block, xor_lt, xor_zero_r}
use Rattle.aes.specs.Field.{xtime, product}
use Rattle.aes.specs.Round.{times3, times, mix, unmix}
use Rattle.aes.proofs.Sweep.{both, both_left, both_right, up_to, sweep}

-- two pairs, by rows or by columns
pub swap_middle : (a b c d : ℕ) → bit_xor (bit_xor a b) (bit_xor c d) ≡ bit_xor (bit_xor a c) (bit_xor b d)
swap_middle a b c d =
    xor_assoc a b (bit_xor c d)
    ∙ ap (bit_xor a) (sym (xor_assoc b c d) ∙ ap (λ (x : ℕ). bit_xor x d) (xor_comm b c) ∙ xor_assoc c b d)
    ∙ sym (xor_assoc a c (bit_xor b d))

doubled : (a b : ℕ) → bit_xor a b * 2 ≡ bit_xor (a * 2) (b * 2)
doubled a b =
    let e : bit_xor (a * 2 ^ 1 + 0) (b * 2 ^ 1 + 0) ≡ bit_xor a b * 2 ^ 1 + bit_xor 0 0 = xor_block 1 a b 0 0 (omega arith) (omega arith) in
    let p : a * 2 ^ 1 + 0 ≡ a * 2 = omega arith in
    let q : b * 2 ^ 1 + 0 ≡ b * 2 = omega arith in
    let r : bit_xor a b * 2 ^ 1 + 0 ≡ bit_xor a b * 2 = omega arith in
    sym r ∙ sym e ∙ ap₂ bit_xor p q

bit : (n : ℕ) → n < 2 → (n ≡ 0) ⊎ (n ≡ 1)
bit n h = grind arith

carry : (a b : ℕ) → a < 2 → b < 2 → bit_xor a b * 27 ≡ bit_xor (a * 27) (b * 27)
carry a b h k =
    elim (bit a h) [
      | inl p ↦ elim (bit b k) [ inl q ↦ rw (p, q) | inr q ↦ rw (p, q) ]
      | inr p ↦ elim (bit b k) [ inl q ↦ rw (p, q) | inr q ↦ rw (p, q) ]
    ]

pub xtime_xor : (a b : ℕ) → xtime (bit_xor a b) ≡ bit_xor (xtime a) (xtime b)
unfolding xtime
xtime_xor a b =
    let low : bit_xor a b * 2 % 256 ≡ bit_xor (a * 2 % 256) (b * 2 % 256) = ap (λ (x : ℕ). x % 256) (doubled a b) ∙ xor_mod (a * 2) (b * 2) 8 in
    let top : bit_xor a b / 128 % 2 ≡ bit_xor (a / 128 % 2) (b / 128 % 2) = ap (λ (x : ℕ). x % 2) (xor_shr a b 7) ∙ xor_mod (a / 128) (b / 128) 1 in
    ap₂ (λ (x y : ℕ). bit_xor x (y * 27)) low top
    ∙ ap (bit_xor (bit_xor (a * 2 % 256) (b * 2 % 256))) (carry (a / 128 % 2) (b / 128 % 2) (omega arith) (omega arith))
    ∙ swap_middle (a * 2 % 256) (b * 2 % 256) (a / 128 % 2 * 27) (b / 128 % 2 * 27)

abbrev pub Linear : (ℕ → ℕ) → Type 0
Linear f = (a b : ℕ) → f (bit_xor a b) ≡ bit_xor (f a) (f b)

sum_linear : (f g : ℕ → ℕ) → Linear f → Linear g → Linear (λ x. bit_xor (f x) (g x))
sum_linear f g p q a b = ap₂ bit_xor (p a b) (q a b) ∙ swap_middle (f a) (f b) (g a) (g b)

id_linear : Linear (λ x. x)
id_linear a b = refl

pub times3_xor : Linear times3
unfolding times3
times3_xor = sum_linear xtime (λ x. x) xtime_xor id_linear

bit_linear : (m : ℕ) → Linear (λ x. m % 2 * x)
bit_linear m a b =
    elim (bit (m % 2) (omega arith)) [
      | inl e ↦ rw (e, zero-mul (bit_xor a b), zero-mul a, zero-mul b) refl
      | inr e ↦ rw (e, one-mul (bit_xor a b), one-mul a, one-mul b) refl
    ]

product_linear : (n c : ℕ) → Linear (λ x. product n x c)
product_linear zero c a b = refl
product_linear (suc n) c a b =
    ap₂ bit_xor (bit_linear c a b) (ap (λ (x : ℕ). product n x (c / 2)) (xtime_xor a b) ∙ product_linear n (c / 2) (xtime a) (xtime b))
    ∙ swap_middle (c % 2 * a) (c % 2 * b) (product n (xtime a) (c / 2)) (product n (xtime b) (c / 2))

pub times_xor : (c : ℕ) → Linear (times c)
unfolding times
times_xor c = product_linear 4 c

-- the same of a function of a column
abbrev pub Linear4 : (ℕ → ℕ → ℕ → ℕ → ℕ) → Type 0
Linear4 f =
    (a a' b b' c c' d d' : ℕ) → f (bit_xor a a') (bit_xor b b') (bit_xor c c') (bit_xor d d') ≡ bit_xor (f a b c d) (f a' b' c' d')

four : (f g h k : ℕ → ℕ) → Linear f → Linear g → Linear h → Linear k → Linear4 (λ a b c d. bit_xor (bit_xor (f a) (g b)) (bit_xor (h c) (k d)))
four f g h k p q r s a a' b b' c c' d d' =
    ap₂ bit_xor (ap₂ bit_xor (p a a') (q b b') ∙ swap_middle (f a) (f a') (g b) (g b'))
    (ap₂ bit_xor (r c c') (s d d') ∙ swap_middle (h c) (h c') (k d) (k d'))
    ∙ swap_middle (bit_xor (f a) (g b)) (bit_xor (f a') (g b')) (bit_xor (h c) (k d)) (bit_xor (h c') (k d'))

pub mix_xor : Linear4 mix
unfolding mix
mix_xor = four xtime times3 (λ x. x) (λ x. x) xtime_xor times3_xor id_linear id_linear

pub unmix_xor : Linear4 unmix
unfolding unmix
unmix_xor = four (times 14) (times 11) (times 13) (times 9) (times_xor 14) (times_xor 11) (times_xor 13) (times_xor 9)

-- one map of a column after another, at the first row
abbrev pub around : (f g : ℕ → ℕ → ℕ → ℕ → ℕ) → ℕ → ℕ → ℕ → ℕ → ℕ
around f g a b c d = f (g a b c d) (g b c d a) (g c d a b) (g d a b c)

around_xor : (f g : ℕ → ℕ → ℕ → ℕ → ℕ) → Linear4 f → Linear4 g → Linear4 (around f g)
around_xor f g p q a a' b b' c c' d d' =
    simp (q a a' b b' c c' d d', q b b' c c' d d' a a', q c c' d d' a a' b b', q d d' a a' b b' c c')
    (p (g a b c d) (g a' b' c' d') (g b c d a) (g b' c' d' a') (g c d a b) (g c' d' a' b') (g d a b c) (g d' a' b' c'))

-- a linear map of a column that keeps a byte in the first row and drops one in another is the column's first byte
abbrev keeps : (ℕ → ℕ → ℕ → ℕ → ℕ) → ℕ → Bool
keeps f x = both (both (eqb (f x 0 0 0) x) (eqb (f 0 x 0 0) 0)) (both (eqb (f 0 0 x 0) 0) (eqb (f 0 0 0 x) 0))

first : (f : ℕ → ℕ → ℕ → ℕ → ℕ) → Linear4 f → T (up_to (keeps f) 256) → (a b c d : ℕ) → a < 256 → b < 256 → c < 256 → d < 256 → f a b c d ≡ a
first f p t a b c d ha hb hc hd =
    let at : (x : ℕ) → x < 256 → T (keeps f x) = sweep (keeps f) 256 t in
    let e0 : f a 0 0 0 ≡ a = eqb→eq _ _ (both_left (eqb (f a 0 0 0) a) _ (both_left _ _ (at a ha))) in
    let e1 : f 0 b 0 0 ≡ 0 = eqb→eq _ _ (both_right (eqb (f b 0 0 0) b) _ (both_left _ _ (at b hb))) in
    let e2 : f 0 0 c 0 ≡ 0 = eqb→eq _ _ (both_left (eqb (f 0 0 c 0) 0) _ (both_right (both (eqb (f c 0 0 0) c) (eqb (f 0 c 0 0) 0)) _ (at c hc))) in
    let e3 : f 0 0 0 d ≡ 0 = eqb→eq _ _ (both_right (eqb (f 0 0 d 0) 0) _ (both_right (both (eqb (f d 0 0 0) d) (eqb (f 0 d 0 0) 0)) _ (at d hd))) in
    let s0 : f (bit_xor a 0) b c d ≡ bit_xor (f a 0 0 0) (f 0 b c d) = p a 0 0 b 0 c 0 d in
    let s1 : f 0 (bit_xor b 0) c d ≡ bit_xor (f 0 b 0 0) (f 0 0 c d) = p 0 0 b 0 0 c 0 d in
    let s2 : f 0 0 (bit_xor c 0) d ≡ bit_xor (f 0 0 c 0) (f 0 0 0 d) = p 0 0 0 0 c 0 0 d in
    let z0 : f a b c d ≡ f (bit_xor a 0) b c d = ap (λ (x : ℕ). f x b c d) (sym (xor_zero_r a)) in
    let z1 : f 0 b c d ≡ f 0 (bit_xor b 0) c d = ap (λ (x : ℕ). f 0 x c d) (sym (xor_zero_r b)) in
    let z2 : f 0 0 c d ≡ f 0 0 (bit_xor c 0) d = ap (λ (x : ℕ). f 0 0 x d) (sym (xor_zero_r c)) in
    let r2 : f 0 0 c d ≡ 0 = z2 ∙ s2 ∙ ap₂ bit_xor e2 e3 in
    let r1 : f 0 b c d ≡ 0 = z1 ∙ s1 ∙ ap₂ bit_xor e1 r2 in
    z0 ∙ s0 ∙ ap₂ bit_xor e0 r1 ∙ xor_zero_r a

pub unmix_mix : (a b c d : ℕ) → a < 256 → b < 256 → c < 256 → d < 256 → around unmix mix a b c d ≡ a
unfolding xtime times3 times mix unmix
unmix_mix = first (around unmix mix) (around_xor unmix mix unmix_xor mix_xor) tt

pub mix_unmix : (a b c d : ℕ) → a < 256 → b < 256 → c < 256 → d < 256 → around mix unmix a b c d ≡ a
unfolding xtime times3 times mix unmix
mix_unmix = first (around mix unmix) (around_xor mix unmix mix_xor unmix_xor) tt

-- ---- bytes stay bytes

pub xor_byte : (a b : ℕ) → a < 256 → b < 256 → bit_xor a b < 256
xor_byte a b = xor_lt 8 a b

pub xtime_lt : (b : ℕ) → xtime b < 256
unfolding xtime
xtime_lt b = xor_byte (b * 2 % 256) (b / 128 % 2 * 27) (omega arith) (omega arith)

pub times3_lt : (b : ℕ) → b < 256 → times3 b < 256
unfolding times3
times3_lt b h = xor_byte _ _ (xtime_lt b) h

pub mix_lt : (a b c d : ℕ) → a < 256 → b < 256 → c < 256 → d < 256 → mix a b c d < 256
unfolding mix
mix_lt a b c d p q r s = xor_byte _ _ (xor_byte _ _ (xtime_lt a) (times3_lt b q)) (xor_byte _ _ r s)

-- a bit times a byte
bit_lt : (m b : ℕ) → b < 256 → m % 2 * b < 256
bit_lt m b h = elim (bit (m % 2) (omega arith)) [ inl e ↦ rw e (omega arith) | inr e ↦ rw e (omega arith) ]

product_lt : (n b c : ℕ) → b < 256 → product n b c < 256
product_lt zero b c h = omega arith
product_lt (suc n) b c h = xor_byte _ _ (bit_lt c b h) (product_lt n (xtime b) (c / 2) (xtime_lt b))

times_lt : (c b : ℕ) → b < 256 → times c b < 256
unfolding times
times_lt c b h = product_lt 4 b c h

pub unmix_lt : (a b c d : ℕ) → a < 256 → b < 256 → c < 256 → d < 256 → unmix a b c d < 256
unfolding unmix
unmix_lt a b c d p q r s = xor_byte _ _ (xor_byte _ _ (times_lt 14 a p) (times_lt 11 b q)) (xor_byte _ _ (times_lt 13 c r) (times_lt 9 d s))
