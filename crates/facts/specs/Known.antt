-- Facts of the definitions that the checker computes: published and independent values, and numbers that a wrong definition would miss.
use Rattle.std.specs.Prelude.{◌≡◌, ℕ, zero, suc, ◌-◌, ◌*◌, ◌/◌, ◌%◌, ◌^◌, List, [], ◌∷◌, ◌++◌, map, length, replicate, Result, slice_index, slice_index_or}
use Rattle.std.specs.List.{range_with_len}
use Rattle.refusals.specs.declared.Refusal.{Refusal}
use Rattle.refusals.specs.Numbers.{Accepted, RefusedWith}
use Rattle.aes.specs.Round.{sub}
use Rattle.rounds.specs.Mixing.{zero_registers, dummy_rounds}
use Rattle.rounds.specs.Permutations.{sigma34}
use Rattle.mode.specs.Rules.{State, absorbed}
use Rattle.smac.specs.Smac.{smac1, smac34, smac12, smac1x, patched}
use Rattle.counts.specs.Little.{little}
use Rattle.counts.specs.declared.state.Ceiling.{Ceiling}
use Rattle.counts.specs.Ceilings.{CeilingMade}
use Rattle.message.specs.Framing.{framed, zero_block, tag_of}

-- the n bytes that write x, the highest first: a list of bytes as hexadecimal shows it
abbrev pub big : ℕ → ℕ → List ℕ
big zero x = []
big (suc n) x = x / 256 ^ n % 256 ∷ big n x

pub record KnownFacts : Type 0 where
  -- the first published vector of SMAC-1
  pub published_1_1 : tag_of smac1 (big 32 0x0000000000000000000000000000000000000000000000000000000000000000) (big 16 0x00000000000000000000000000000000) [] [] ≡ big 16 0xd82c49ea4681ca1fba9793495f9a6085
  -- the fourth published vector of SMAC-1
  pub published_1_4 : tag_of smac1 (big 32 0x000102030405060708090a0b0c0d0e0f101112131415161718191a1b1c1d1e1f) (big 16 0xfffefdfcfbfaf9f8f7f6f5f4f3f2f1f0) (big 19 0x0102030405060708090a0b0c0d0e0f10111213) (big 13 0x1415161718191a1b1c1d1e1f20) ≡ big 16 0xc344521699482d93283c03ec7c3db8b5
  -- the fourth published vector of SMAC-3/4
  pub published_3/4_4 : tag_of smac34 (big 32 0x000102030405060708090a0b0c0d0e0f101112131415161718191a1b1c1d1e1f) (big 16 0xfffefdfcfbfaf9f8f7f6f5f4f3f2f1f0) (big 19 0x0102030405060708090a0b0c0d0e0f10111213) (big 13 0x1415161718191a1b1c1d1e1f20) ≡ big 20 0x696ed0a99e04843a596da5b6257ddbde656d1904
  -- the fourth published vector of SMAC-1/2
  pub published_1/2_4 : tag_of smac12 (big 32 0x000102030405060708090a0b0c0d0e0f101112131415161718191a1b1c1d1e1f) (big 16 0xfffefdfcfbfaf9f8f7f6f5f4f3f2f1f0) (big 19 0x0102030405060708090a0b0c0d0e0f10111213) (big 13 0x1415161718191a1b1c1d1e1f20) ≡ big 32 0xf7c36bbf8344906e17cacb970e375026dc06992b750e0866f65479edd02e3ca4
  -- SMAC-1×1, from an independent implementation
  pub independent_1 : tag_of (smac1x 1) (big 32 0xe3e58e1078a4c8653948050c499fedaa0ad7c17dd2c0e7c3f8d91a652e3916a2) (big 16 0x5d8157876cad0f0b83ced532fc285500) (big 16 0xfa9b5066a6831bba3c5a84908aa66c6f) (big 17 0x2c3ccb1d164635da70d37663fd889986ad) ≡ big 16 0x0449774d3a87aba3657c091d1aafd359
  -- SMAC-1×4, from an independent implementation
  pub independent_4 : tag_of (smac1x 4) (big 32 0x2d44424016ba3963ebffef4977ee64a530fee88d0160eb76ec0956322296792a) (big 16 0x1008b9ae2dae7589c44f5a9f1791ab00) (big 16 0xf054501431c00785cf8423b1af28373f) (big 17 0x79925c106179ba9b6e62306e483b2767de) ≡ big 16 0xad6bf82f50f056048ac50b9ae2c0904b
  -- the S-box of 53h is EDh
  pub sbox_53h : sub 0x53 ≡ 0xED
  -- a dummy round on zero registers in SMAC-3/4 gives A1 with 01h at byte 7 only
  pub dummy_round : (dummy_rounds sigma34 1 zero_registers).a1 ≡ replicate 7 0 ++ 1 ∷ replicate 8 0
  -- the empty message is one zero block before fill
  pub empty_message : framed [] [] ≡ zero_block ∷ []
  -- a header of 16 and a body of 17 bytes are four blocks before fill, the last 80h, seven zeros, 88h, seven zeros
  pub four_blocks : (h b : ℕ) → length (framed (replicate 16 h) (replicate 17 b)) ≡ 4
  pub fourth_block : (h b : ℕ) → slice_index_or (framed (replicate 16 h) (replicate 17 b)) 3 [] ≡ (0x80 ∷ replicate 7 0) ++ (0x88 ∷ replicate 7 0)
  -- of a body of 536,870,912 bytes the bit count is 00h four times, 01h, three zeros
  pub bit_count : little 8 (8 * 536870912) ≡ replicate 4 0 ++ 1 ∷ replicate 3 0
  -- a ceiling of 2^61 − 1 is accepted, and 2^61 is refused with 3
  pub highest_ceiling : (r : Result Ceiling Refusal) → CeilingMade (2 ^ 61 - 1) r → Accepted r
  pub past_ceilings : (r : Result Ceiling Refusal) → CeilingMade (2 ^ 61) r → RefusedWith 3 r
  -- with four streams, byte 15 of the IVs is 48 to 51
  pub stream_ivs : (iv : List ℕ) → length iv ≡ 16 → map (λ k. slice_index (patched 4 k iv) 15) (range_with_len 0 4) ≡ 48 ∷ 49 ∷ 50 ∷ 51 ∷ []
  -- with four streams, five blocks from the first place are followed by a fill of 3
  pub five_blocks : (s : State) (b : List ℕ) → s.place ≡ 0 → (smac1x 4).due (absorbed (smac1x 4) s (replicate 5 b)).place ≡ 3
