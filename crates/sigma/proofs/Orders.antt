-- A change of places as a block of its bytes.
use Rattle.std.proofs.Common.{◌≡◌, ℕ, ◌<◌, List, get_or, ◌∙◌, arith}
use lib.ListN.{length-map}
use Rattle.std.proofs.lemmas.List.{get_or-map}
use Rattle.std.proofs.ByRecursion.{All-get_or}
use Rattle.aes.specs.Blocks.{Order, block, moved}
use Rattle.aes.proofs.Blocks.{is_block}
use Rattle.aes.proofs.Moved.{below_all}

pub moved_is : (order b : List ℕ) → Order order → moved order b ≡ block (λ i. get_or b (get_or order i 0) 0)
unfolding moved
moved_is order b o =
    is_block (λ i. get_or b (get_or order i 0) 0) _ (length-map order (λ k. get_or b k 0) ∙ o.whole)
    (λ k h. get_or-map (λ j. get_or b j 0) order k 0 0 (omega (arith, o.whole)))

pub place_below : (order : List ℕ) → Order order → (i : ℕ) → i < 16 → get_or order i 0 < 16
place_below order o i h = All-get_or (λ k. k < 16) order i 0 (omega (arith, o.whole)) (below_all 16 order o.below)
