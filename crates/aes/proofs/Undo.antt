-- F and Finv undo each other on blocks.
use Rattle.std.proofs.Common.{◌≡◌, ℕ, ◌+◌, ◌*◌, ◌%◌, ◌<◌, Bool, T, eqb, List, length, get_or, sym, ap, ◌∙◌, arith, eqb→eq}
use Rattle.aes.specs.Blocks.{Block}
use Rattle.aes.specs.Round.{RoundOneToOne, below, columns, each, spread, sub, sub_inv, mix, unmix, SubBytes, ShiftRows, MixColumns, F, InvSubBytes, InvShiftRows, InvMixColumns, Finv}
use Rattle.aes.proofs.Blocks.{get_or_block, is_block, block_same, block_bytes}
use Rattle.aes.proofs.Sweep.{up_to, sweep}
use Rattle.aes.proofs.Xor.{cancel, cancel_left}
use Rattle.aes.proofs.Boxes.{sub_inv_sub, sub_sub_inv, sub_lt, sub_inv_lt}
use Rattle.aes.proofs.Field.{unmix_mix, mix_unmix, mix_lt, unmix_lt, around}

each_each : (f g : ℕ → ℕ) → ((b : ℕ) → b < 256 → f (g b) ≡ b) → (x : List ℕ) → Block x → each f (each g x) ≡ x
each_each f g e x b =
    sym (is_block _ x b.len (λ k h. sym (ap f (get_or_block (λ i. g (get_or x i 0)) k h) ∙ e (get_or x k 0) (b.bytes k))))

pub InvSub_Sub : (x : List ℕ) → Block x → InvSubBytes (SubBytes x) ≡ x
unfolding SubBytes InvSubBytes
InvSub_Sub = each_each sub_inv sub sub_inv_sub

pub Sub_InvSub : (x : List ℕ) → Block x → SubBytes (InvSubBytes x) ≡ x
unfolding SubBytes InvSubBytes
Sub_InvSub = each_each sub sub_inv sub_sub_inv

-- the two shifts undo each other at each place, and steps down a column add up
abbrev home : ℕ → ℕ → ℕ → Bool
home m n k = eqb (n * (m * k % 16) % 16) k

spread_spread : (m n : ℕ) → T (up_to (home m n) 16) → (x : List ℕ) → length x ≡ 16 → spread m (spread n x) ≡ x
spread_spread m n t x long =
    sym (is_block _ x long (λ k h.
    let e : n * (m * k % 16) % 16 ≡ k = eqb→eq _ _ (sweep (home m n) 16 t k h) in
    sym (get_or_block (λ i. get_or x (n * i % 16) 0) (m * k % 16) (omega arith) ∙ ap (λ (i : ℕ). get_or x i 0) e)))

pub InvShift_Shift : (x : List ℕ) → length x ≡ 16 → InvShiftRows (ShiftRows x) ≡ x
unfolding ShiftRows InvShiftRows
InvShift_Shift = spread_spread 13 5 tt

pub Shift_InvShift : (x : List ℕ) → length x ≡ 16 → ShiftRows (InvShiftRows x) ≡ x
unfolding ShiftRows InvShiftRows
Shift_InvShift = spread_spread 5 13 tt

abbrev adds : ℕ → ℕ → ℕ → Bool
adds m n k = eqb (below m (below n k)) (below ((m + n) % 4) k)

below_below : (m n k : ℕ) → m < 4 → n < 4 → k < 16 → below m (below n k) ≡ below ((m + n) % 4) k
below_below m n k a b c =
    eqb→eq _ _
    (sweep (adds m n) 16
    (sweep (λ n. up_to (adds m n) 16) 4 (sweep (λ m. up_to (λ n. up_to (adds m n) 16) 4) 4 tt m a) n b) k c)

-- the byte k rows below place i
abbrev at : List ℕ → ℕ → ℕ → ℕ
at x m k = get_or x (below m k) 0

columns_at : (g : ℕ → ℕ → ℕ → ℕ → ℕ) (x : List ℕ) (m k : ℕ) → m < 4 → k < 16
    → at (columns g x) m k ≡ g (at x m k) (at x ((1 + m) % 4) k) (at x ((2 + m) % 4) k) (at x ((3 + m) % 4) k)
columns_at g x m k a h =
    get_or_block _ (below m k) (omega arith)
    ∙ simp (below_below 1 m k (omega arith) a h, below_below 2 m k (omega arith) a h, below_below 3 m k (omega arith) a h)

below_zero : (k : ℕ) → below 0 k ≡ k
below_zero k = omega arith

pub columns_columns : (f g : ℕ → ℕ → ℕ → ℕ → ℕ) (x : List ℕ) → columns f (columns g x) ≡ columns (around f g) x
columns_columns f g x =
    block_same _ _ (λ k h.
    let e0 : get_or (columns g x) k 0 ≡ g (get_or x k 0) (at x 1 k) (at x 2 k) (at x 3 k) = get_or_block _ k h in
    let z : at x 0 k ≡ get_or x k 0 = ap (λ (i : ℕ). get_or x i 0) (below_zero k) in
    let e1 : at (columns g x) 1 k ≡ g (at x 1 k) (at x 2 k) (at x 3 k) (at x 0 k) = columns_at g x 1 k (omega arith) h in
    let e2 : at (columns g x) 2 k ≡ g (at x 2 k) (at x 3 k) (at x 0 k) (at x 1 k) = columns_at g x 2 k (omega arith) h in
    let e3 : at (columns g x) 3 k ≡ g (at x 3 k) (at x 0 k) (at x 1 k) (at x 2 k) = columns_at g x 3 k (omega arith) h in
    cc (z, e0, e1, e2, e3))

columns_first : (f : ℕ → ℕ → ℕ → ℕ → ℕ) → ((a b c d : ℕ) → a < 256 → b < 256 → c < 256 → d < 256 → f a b c d ≡ a)
    → (x : List ℕ) → Block x → columns f x ≡ x
columns_first f p x b =
    sym (is_block _ x b.len (λ k h.
    sym (p (get_or x k 0) (at x 1 k) (at x 2 k) (at x 3 k) (b.bytes k) (b.bytes (below 1 k)) (b.bytes (below 2 k)) (b.bytes (below 3 k)))))

pub InvMix_Mix : (x : List ℕ) → Block x → InvMixColumns (MixColumns x) ≡ x
unfolding MixColumns InvMixColumns
InvMix_Mix x b = columns_columns unmix mix x ∙ columns_first (around unmix mix) unmix_mix x b

pub Mix_InvMix : (x : List ℕ) → Block x → MixColumns (InvMixColumns x) ≡ x
unfolding MixColumns InvMixColumns
Mix_InvMix x b = columns_columns mix unmix x ∙ columns_first (around mix unmix) mix_unmix x b

-- ---- blocks stay blocks

Sub_block : (x : List ℕ) → Block x → Block (SubBytes x)
unfolding SubBytes
Sub_block x b = block_bytes _ (λ k h. sub_lt _ (b.bytes k))

InvSub_block : (x : List ℕ) → Block x → Block (InvSubBytes x)
unfolding InvSubBytes
InvSub_block x b = block_bytes _ (λ k h. sub_inv_lt _ (b.bytes k))

Shift_block : (x : List ℕ) → Block x → Block (ShiftRows x)
unfolding ShiftRows
Shift_block x b = block_bytes _ (λ k h. b.bytes (5 * k % 16))

InvShift_block : (x : List ℕ) → Block x → Block (InvShiftRows x)
unfolding InvShiftRows
InvShift_block x b = block_bytes _ (λ k h. b.bytes (13 * k % 16))

columns_block : (f : ℕ → ℕ → ℕ → ℕ → ℕ) → ((a b c d : ℕ) → a < 256 → b < 256 → c < 256 → d < 256 → f a b c d < 256)
    → (x : List ℕ) → Block x → Block (columns f x)
columns_block f p x b =
    block_bytes _ (λ k h. p _ _ _ _ (b.bytes k) (b.bytes (below 1 k)) (b.bytes (below 2 k)) (b.bytes (below 3 k)))

Mix_block : (x : List ℕ) → Block x → Block (MixColumns x)
unfolding MixColumns
Mix_block = columns_block mix mix_lt

InvMix_block : (x : List ℕ) → Block x → Block (InvMixColumns x)
unfolding InvMixColumns
InvMix_block = columns_block unmix unmix_lt

pub F_block : (x : List ℕ) → Block x → Block (F x)
unfolding F
F_block x b = Mix_block _ (Shift_block _ (Sub_block x b))

pub Finv_block : (x : List ℕ) → Block x → Block (Finv x)
unfolding Finv
Finv_block x b = InvSub_block _ (InvShift_block _ (InvMix_block x b))

pub Finv_F : (x : List ℕ) → Block x → Finv (F x) ≡ x
unfolding F Finv
Finv_F x b =
    let s = Sub_block x b in
    ap (λ (y : List ℕ). InvSubBytes (InvShiftRows y)) (InvMix_Mix (ShiftRows (SubBytes x)) (Shift_block _ s))
    ∙ ap InvSubBytes (InvShift_Shift (SubBytes x) s.len)
    ∙ InvSub_Sub x b

pub F_Finv : (x : List ℕ) → Block x → F (Finv x) ≡ x
unfolding F Finv
F_Finv x b =
    let m = InvMix_block x b in
    ap (λ (y : List ℕ). MixColumns (ShiftRows y)) (Sub_InvSub (InvShiftRows (InvMixColumns x)) (InvShift_block _ m))
    ∙ ap MixColumns (Shift_InvShift (InvMixColumns x) m.len)
    ∙ Mix_InvMix x b

pub F_injective : (x y : List ℕ) → Block x → Block y → F x ≡ F y → x ≡ y
F_injective x y b d e = sym (Finv_F x b) ∙ ap Finv e ∙ Finv_F y d

pub round_injective : RoundOneToOne
round_injective x y k l bx by bk bl = (
  λ e. F_injective x y bx by (cancel (F x) (F y) k (F_block x bx) (F_block y by) bk e),
  λ e. cancel_left k l (F x) bk bl (F_block x bx) e,
)
