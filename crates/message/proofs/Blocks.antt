-- A framed message is made of blocks.
use Rattle.std.proofs.Common.{◌≡◌, ℕ, zero, suc, ◌+◌, ◌-◌, ◌*◌, ◌/◌, ◌<◌, Bool, true, false, cond, eqb, List, [], ◌∷◌, ◌++◌, length, replicate, refl, arith, length-append, eqb-true}
use lib.ListN.{length-replicate}
use borrow.Author.Tests.{eqb-false}
use Rattle.std.specs.List.{AllByRecursion}
use Rattle.std.proofs.ByRecursion.{All-append}
use Rattle.aes.specs.Blocks.{Bytes, Block}
use Rattle.mode.specs.Rules.{Rule, place_after}
use Rattle.counts.specs.Little.{little}
use Rattle.message.specs.Framing.{cut, flushed, padded, length_block, framed, message, zero_block}

pub bytes_append : (xs ys : List ℕ) → Bytes xs → Bytes ys → Bytes (xs ++ ys)
bytes_append [] ys hx hy i = hy i
bytes_append (x ∷ xs) ys hx hy zero = hx 0
bytes_append (x ∷ xs) ys hx hy (suc i) = bytes_append xs ys (λ k. hx (suc k)) hy i

pub bytes_all : (xs : List ℕ) → AllByRecursion (λ (x : ℕ). x < 256) xs → Bytes xs
bytes_all [] h i = omega arith
bytes_all (x ∷ xs) h zero = h.0
bytes_all (x ∷ xs) h (suc i) = bytes_all xs h.1 i

pub bytes_none : Bytes []
bytes_none i = omega arith

pub bytes_zeros : (n : ℕ) → Bytes (replicate n 0)
bytes_zeros zero i = bytes_none i
bytes_zeros (suc n) zero = omega arith
bytes_zeros (suc n) (suc i) = bytes_zeros n i

flushed_blocks : (p : List ℕ) → length p < 16 → Bytes p → AllByRecursion Block (flushed p)
flushed_blocks [] l h = tt
flushed_blocks (x ∷ p) l h =
    let e : length ((x ∷ p) ++ replicate (16 - length (x ∷ p)) 0) ≡ 16 = simp (length-append, length-replicate) (omega arith) in
    (record { len = e; bytes = bytes_append (x ∷ p) (replicate (16 - length (x ∷ p)) 0) h (bytes_zeros (16 - length (x ∷ p))) }, tt)

one_byte : (x : ℕ) → x < 256 → Bytes (x ∷ [])
one_byte x h = bytes_all (x ∷ []) (h, tt)

pub cut_blocks : (p bs : List ℕ) → length p < 16 → Bytes p → Bytes bs → AllByRecursion Block (cut p bs)
cut_blocks p [] l hp hb = flushed_blocks p l hp
cut_blocks p (x ∷ bs) l hp hb =
    let q = p ++ x ∷ [] in
    let hq : Bytes q = bytes_append p (x ∷ []) hp (one_byte x (hb 0)) in
    let hr : Bytes bs = λ i. hb (suc i) in
    let n : length q ≡ length p + 1 = length-append p (x ∷ []) in
    let Case : Bool → Type 0 = λ v. eqb (length p) 15 ≡ v → AllByRecursion Block (cond v (q ∷ cut [] bs) (cut q bs)) in
    let cases : Case (eqb (length p) 15) =
    elim (eqb (length p) 15) as Case [
      | true ↦ λ e. (record { len = omega (arith, eqb-true (length p) 15 e); bytes = hq }, cut_blocks [] bs (omega arith) bytes_none hr)
      | false ↦ λ e. let ne : length p ≡ 15 → ⊥ = eqb-false (length p) 15 e in cut_blocks q bs (omega arith) hq hr
    ] in
    cases refl

pub little_bytes : (k x : ℕ) → Bytes (little k x)
little_bytes zero x i = bytes_none i
little_bytes (suc k) x zero = omega arith
little_bytes (suc k) x (suc i) = little_bytes k (x / 256) i

pub framed_blocks : (h b : List ℕ) → Bytes h → Bytes b → AllByRecursion Block (framed h b)
framed_blocks h b hh hb =
    All-append Block (padded h) (padded b ++ length_block (length h) (length b) ∷ []) (cut_blocks [] h (omega arith) bytes_none hh)
    (All-append Block (padded b) (length_block (length h) (length b) ∷ []) (cut_blocks [] b (omega arith) bytes_none hb)
    (record { len = refl; bytes = bytes_append (little 8 (8 * length h)) (little 8 (8 * length b)) (little_bytes 8 (8 * length h)) (little_bytes 8 (8 * length b)) }, tt))

zero_blocks : (n : ℕ) → AllByRecursion Block (replicate n zero_block)
zero_blocks zero = tt
zero_blocks (suc n) = (record { len = refl; bytes = bytes_zeros 16 }, zero_blocks n)

pub message_blocks : (r : Rule) (h b : List ℕ) → Bytes h → Bytes b → AllByRecursion Block (message r h b)
message_blocks r h b hh hb =
    let n = r.due (place_after r 0 (length (framed h b))) in
    All-append Block (framed h b) (replicate n zero_block) (framed_blocks h b hh hb) (zero_blocks n)
