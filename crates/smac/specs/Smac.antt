-- The four modes, as their definitions have them.
use Rattle.std.specs.Prelude.{ℕ, ◌+◌, ◌-◌, ◌*◌, cond, List, [], ◌∷◌, ◌++◌, map, take, fold, ◌==◌, slice_index_or, slice_set}
use Rattle.std.specs.List.{range_with_len}
use Rattle.aes.specs.Blocks.{◌⊕◌}
use Rattle.rounds.specs.Round.{Registers, Sigma, blank, round, unround, rounds, unrounds}
use Rattle.rounds.specs.Mixing.{◌⊞◌, zero_registers, dummy_rounds, mixed, keyed}
use Rattle.rounds.specs.Permutations.{sigma1, sigma34, sigma12}
use Rattle.rounds.specs.Paced.{Pace, smac_1, smac_3/4, smac_1/2}
use Rattle.mode.specs.Rules.{Rule}

-- ---- a mode's list of registers, three to a stream

abbrev pub threes : List (List ℕ) → List Registers
threes (a ∷ b ∷ c ∷ rest) = record { a1 = a; a2 = b; a3 = c } ∷ threes rest
threes (a ∷ b ∷ []) = []
threes (a ∷ []) = []
threes [] = []

abbrev pub flat : List Registers → List (List ℕ)
flat [] = []
flat (s ∷ ss) = s.a1 ∷ s.a2 ∷ s.a3 ∷ flat ss

-- the registers of the only stream
abbrev pub three : List (List ℕ) → Registers
three rs = slice_index_or (threes rs) 0 blank

abbrev pub only : Registers → List (List ℕ)
only s = flat (s ∷ [])

-- ---- SMAC-1, SMAC-3/4 and SMAC-1/2

-- three registers: load is key and IV, mixed; a block does its round and then the dummy round that the pace has at its place;
-- finish mixes, and the tag is the first bytes of A2 and then A3
abbrev pub paced : Sigma → Pace → ℕ → ℕ → Rule
paced c pace far long = record {
  count = 3;
  cycle = pace.cycle;
  reach = far;
  largest = long;
  load = λ key iv. only (mixed c (keyed key iv));
  step = λ p rs b. only (rounds c (three rs) (b ∷ pace.own p));
  undo = λ p rs b. only (unrounds c (three rs) (b ∷ pace.own p));
  due = λ p. 0;
  finish = λ rs. take long ((mixed c (three rs)).a2 ++ (mixed c (three rs)).a3);
}

abbrev pub smac1 : Rule
smac1 = paced sigma1 smac_1 3 16

abbrev pub smac34 : Rule
smac34 = paced sigma34 smac_3/4 2 20

abbrev pub smac12 : Rule
smac12 = paced sigma12 smac_1/2 1 32

-- ---- SMAC-1×n

-- the IV of stream k of n: byte 15 is 16 × (n − 1) + k
abbrev pub patched : ℕ → ℕ → List ℕ → List ℕ
patched n k iv = slice_set iv 15 (16 * (n - 1) + k)

-- stream k loaded: key and its IV, eight dummy rounds, and then the registers that stream 0 is loaded with are xored in
unfoldable pub stream_start : ℕ → List ℕ → List ℕ → ℕ → Registers
stream_start n key iv k = dummy_rounds sigma1 8 (keyed key (patched n k iv)) ⊞ keyed key (patched n 0 iv)

-- the exclusive or of all streams, each after six dummy rounds
unfoldable pub joined : List Registers → Registers
joined ss = fold (λ t s. t ⊞ dummy_rounds sigma1 6 s) zero_registers ss

-- n streams: block i does a round in stream i mod n; fill brings the blocks to a multiple of n;
-- finish keeps A2 of the joined streams, does eight dummy rounds, and the tag is the new A2 xor the kept one
abbrev pub smac1x : ℕ → Rule
smac1x n = record {
  count = 3 * n;
  cycle = n;
  reach = 3 * n;
  largest = 16;
  load = λ key iv. flat (map (stream_start n key iv) (range_with_len 0 n));
  step = λ p rs b. flat (slice_set (threes rs) p (round sigma1 (slice_index_or (threes rs) p blank) b));
  undo = λ p rs b. flat (slice_set (threes rs) p (unround sigma1 (slice_index_or (threes rs) p blank) b));
  due = λ p. cond (p == 0) 0 (n - p);
  finish = λ rs. (dummy_rounds sigma1 8 (joined (threes rs))).a2 ⊕ (joined (threes rs)).a2;
}
