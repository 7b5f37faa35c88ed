-- The chunks of the schedule are the round keys.
use Rattle.std.proofs.Common.{◌≡◌, ℕ, zero, suc, ◌+◌, ◌*◌, ◌/◌, ◌<◌, List, [], length, get_or, take, drop, refl, ap, ◌∙◌, not-suc-le-zero, add_comm, arith}
use Rattle.std.specs.Simd.{first_chunks}
use Rattle.std.proofs.lemmas.List.{drop-drop, get_or-take, get_or-drop, length-take-le, length-drop}
use Rattle.std.proofs.lemmas.Simd.{length-chunk, get_or-chunk}
use Rattle.aes.proofs.Blocks.{is_block}
use Rattle.aes256.specs.Cipher.{round_key}

-- chunk r of sixteen
chunk_at : (k : ℕ) (w : List ℕ) (r : ℕ) → r < k → get_or (first_chunks 16 k w) r [] ≡ take 16 (drop (16 * r) w)
chunk_at zero w r h = absurd (not-suc-le-zero h)
chunk_at (suc k) w zero h = refl
chunk_at (suc k) w (suc r) h =
    let e : 16 + 16 * r ≡ 16 * suc r = omega arith in
    chunk_at k (drop 16 w) r (omega arith) ∙ ap (take 16) (drop-drop (16 * r) 16 w ∙ ap (λ (n : ℕ). drop n w) e)

-- of the 240 bytes of a schedule
pub key_at : (w : List ℕ) (keys : List (List ℕ)) → length w ≡ 240 → keys ≡ first_chunks 16 (length w / 16) w →
    (r : ℕ) → r < 15 → get_or keys r [] ≡ round_key w r
unfolding round_key
key_at w keys n e r h =
    ap (λ ks. get_or ks r []) e
    ∙ chunk_at (length w / 16) w r (omega arith)
    ∙ is_block _ (take 16 (drop (16 * r) w)) (length-chunk (16 * r) 16 w (omega arith)) (λ k l. get_or-chunk (16 * r) 16 w k 0 l)

-- the keys between the first and the last
pub middle_at : (w : List ℕ) (keys : List (List ℕ)) → length w ≡ 240 → keys ≡ first_chunks 16 (length w / 16) w →
    (r : ℕ) → r < 13 → get_or (take 13 (drop 1 keys)) r [] ≡ round_key w (r + 1)
middle_at w keys n e r h =
    get_or-take 13 (drop 1 keys) r [] h ∙ get_or-drop 1 keys r [] ∙ ap (λ (k : ℕ). get_or keys k []) (add_comm 1 r) ∙ key_at w keys n e (r + 1) (omega arith)

pub middle_long : (keys : List (List ℕ)) → length keys ≡ 15 → length (take 13 (drop 1 keys)) ≡ 13
middle_long keys n = let l : length (drop 1 keys) ≡ 14 = length-drop 1 keys ∙ omega arith in length-take-le 13 (drop 1 keys) (omega arith)
