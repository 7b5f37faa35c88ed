-- The words of counter mode are blocks.
use Rattle.std.specs.Prelude.{◌≡◌, ℕ, zero, suc, ◌+◌, ◌-◌, ◌*◌, ◌/◌, ◌%◌, ◌^◌, ◌<◌, ◌≤◌, Bool, true, false, cond, ◌⊎◌, List, [], ◌∷◌, ◌++◌, length, ◌==◌, slice_index}
use Rattle.std.proofs.Common.{sym, subst, inl, inr, arith, length-append}
use Rattle.std.proofs.lemmas.Nat.{xor_lt}
use Rattle.std.proofs.Math.Pow.{pow-lt}
use Rattle.std.proofs.lemmas.List.{get_or_past}
use Rattle.aes.specs.Blocks.{Bytes, Block}
use Rattle.aes.specs.Tables.{sbox}
use Rattle.aes.specs.Round.{sub, SubBytes, ShiftRows}
use Rattle.aes.proofs.Blocks.{block_bytes}
use Rattle.aes.proofs.Boxes.{sub_lt}
use Rattle.aes.proofs.Xor.{xor_block}
use Rattle.aes256.specs.Cipher.{rcon, added, temp, rotated, next_byte, grow, schedule, round_key, rounds, cipher}
use Rattle.keystream.specs.Keystream.{OfBlocks, counter_block, keystream}

-- the S-box gives a byte, whatever it is asked
sub_byte : (b : ℕ) → sub b < 256
unfolding sub
sub_byte b = elim within [ inl h ↦ sub_lt b h | inr h ↦ subst (λ (n : ℕ). n < 256) (sym (get_or_past sbox b 0 h)) (omega arith) ]
  where
    within : (b < 256) ⊎ (256 ≤ b)
    within = grind arith

either : (t : Bool) (x y : ℕ) → x < 256 → y < 256 → cond t x y < 256
either true x y hx hy = hx
either false x y hx hy = hy

rcon_byte : (m : ℕ) → m < 240 → rcon m < 256
unfolding rcon
rcon_byte m h =
    let low : m / 32 - 1 < 8 = omega arith in
    either (m % 4 == 0) (2 ^ (m / 32 - 1)) 0 (pow-lt low) (omega arith)

next_byte_byte : (m : ℕ) (w : List ℕ) → m < 240 → Bytes w → next_byte m w < 256
unfolding next_byte temp added
next_byte_byte m w h b =
    xor_lt 8 _ _ (b (m - 32))
    (either (m / 4 % 8 == 0) _ _ (xor_lt 8 _ _ (sub_byte (slice_index w (rotated m))) (rcon_byte m h))
    (either (m / 4 % 8 == 4) _ _ (sub_byte (slice_index w (m - 4))) (b (m - 4))))

one_more : (w : List ℕ) (x : ℕ) → Bytes w → x < 256 → Bytes (w ++ x ∷ [])
one_more [] x h l zero = l
one_more [] x h l (suc i) = omega arith
one_more (y ∷ w) x h l zero = h 0
one_more (y ∷ w) x h l (suc i) = one_more w x (λ k. h (suc k)) l i

grow_bytes : (n : ℕ) (w : List ℕ) → length w + n ≤ 240 → Bytes w → Bytes (grow n w)
unfolding grow
grow_bytes zero w h b = b
grow_bytes (suc n) w h b =
    grow_bytes n (w ++ next_byte (length w) w ∷ []) (omega (arith, length-append w (next_byte (length w) w ∷ [])))
    (one_more w (next_byte (length w) w) b (next_byte_byte (length w) w (omega arith) b))

pub schedule_bytes : (key : List ℕ) → length key ≡ 32 → Bytes key → Bytes (schedule key)
unfolding schedule
schedule_bytes key n b = grow_bytes 208 key (omega arith) b

-- the last round leaves a block, whatever went in
pub cipher_block : (w x : List ℕ) → Bytes w → Block (cipher w x)
unfolding cipher ShiftRows SubBytes round_key
cipher_block w x b =
    let inner : Block (SubBytes (rounds w x 13)) = block_bytes _ (λ k h. sub_byte (slice_index (rounds w x 13) k)) in
    xor_block _ _ (block_bytes _ (λ k h. inner.bytes (5 * k % 16))) (block_bytes _ (λ k h. b (16 * 14 + k)))

pub keystream_blocks : (key : List ℕ) → length key ≡ 32 → Bytes key → (office serial : ℕ) → OfBlocks (keystream key office serial)
unfolding keystream
keystream_blocks key n b office serial j = cipher_block (schedule key) (counter_block office serial j) (schedule_bytes key n b)
