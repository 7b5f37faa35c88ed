-- Changes of place that undo one another.
use Rattle.std.proofs.Common.{◌≡◌, ℕ, ◌<◌, Bool, true, false, ◌&&◌, T, ltb, List, [], ◌∷◌, length, get_or, sym, refl, ap, ◌∙◌, subst, ap₂, arith, ltb→lt}
use lib.Lanes.{pick_l, all_below}
use lib.ListN.{length-map}
use Rattle.std.specs.List.{range_with_len, AllByRecursion}
use Rattle.std.proofs.lemmas.List.{get_or-map}
use Rattle.std.proofs.lemmas.Simd.{pick_l_whole}
use Rattle.aes.proofs.Blocks.{is_bytes}
use Rattle.aes.proofs.Xor.{get_or_xor}
use Rattle.aes.specs.Blocks.{Block, Order, Inverse, moved, ◌⊕◌}

both : (a b : Bool) → T (a && b) → T a × T b
both true b t = (tt, t)
both false b t = absurd t

pub below_all : (n : ℕ) (ks : List ℕ) → T (all_below n ks) → AllByRecursion (λ k. k < n) ks
below_all n [] t = tt
below_all n (k ∷ ks) t =
    let h = both (ltb k n) (all_below n ks) t in
    (ltb→lt k n h.0, below_all n ks h.1)

-- one change of place after another is the change by the moved order
after : (p ks b : List ℕ) → AllByRecursion (λ k. k < length p) ks → pick_l 0 (pick_l 0 b p) ks ≡ pick_l 0 b (pick_l 0 p ks)
after p [] b h = refl
after p (k ∷ ks) b h = ap₂ {C = List ℕ} (λ u v. u ∷ v) (get_or-map (λ j. get_or b j 0) p k 0 0 h.0) (after p ks b h.1)

undone : (p q b : List ℕ) → length p ≡ 16 → T (all_below 16 q) → moved q p ≡ range_with_len 0 16 → Block b → moved q (moved p b) ≡ b
unfolding moved
undone p q b long below e kb =
    after p q b (rw long (below_all 16 q below)) ∙ ap (pick_l 0 b) e ∙ pick_l_whole 0 b 16 kb.len

module _ (p q : List ℕ) (inv : Inverse p q) where
  pub moved_back : (b : List ℕ) → Block b → moved q (moved p b) ≡ b
  moved_back b kb = undone p q b inv.there_order.whole inv.back_order.below inv.home kb

  pub moved_there : (b : List ℕ) → Block b → moved p (moved q b) ≡ b
  moved_there b kb = undone q p b inv.back_order.whole inv.there_order.below inv.away kb

pub moved_block : (p b : List ℕ) → Order p → Block b → Block (moved p b)
unfolding moved
moved_block p b o kb =
    is_bytes (pick_l 0 b p) (length-map p (λ k. get_or b k 0) ∙ o.whole)
    (λ i h. subst (λ (n : ℕ). n < 256) (sym (get_or-map (λ j. get_or b j 0) p i 0 0 (omega (arith, o.whole)))) (kb.bytes (get_or p i 0)))

-- a change of places goes through exclusive or
pub moved_xor : (p a b : List ℕ) → length a ≡ length b → moved p (a ⊕ b) ≡ moved p a ⊕ moved p b
unfolding moved ◌⊕◌
moved_xor [] a b e = refl
moved_xor (k ∷ ks) a b e = ap₂ {C = List ℕ} (λ u v. u ∷ v) (get_or_xor a b k e) (moved_xor ks a b e)
