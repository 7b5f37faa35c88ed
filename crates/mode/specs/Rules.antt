-- What a mode is, and the laws that it keeps. The types of a rule's fields say what depends on what.
use Rattle.std.specs.Prelude.{◌≡◌, ℕ, zero, suc, ◌<◌, ◌≤◌, ◌≢◌, List, [], ◌∷◌, length}
use Rattle.std.specs.List.{AllByRecursion}
use Rattle.aes.specs.Blocks.{Bytes, Block}
use Rattle.rounds.specs.Cycle.{next, prev}
use Rattle.rounds.specs.Reach.{Near}

-- a mode, as its definition has it
pub record Rule : Type 0 where
  -- how many registers, how many places in its cycle, its reach, and the bytes of its largest tag
  pub count : ℕ
  pub cycle : ℕ
  pub reach : ℕ
  pub largest : ℕ
  -- the registers from key and IV
  pub load : List ℕ → List ℕ → List (List ℕ)
  -- the registers after a block at a place, and before it
  pub step : ℕ → List (List ℕ) → List ℕ → List (List ℕ)
  pub undo : ℕ → List (List ℕ) → List ℕ → List (List ℕ)
  -- fill: how many zero blocks are still due at a place
  pub due : ℕ → ℕ
  -- the largest tag, from the registers
  pub finish : List (List ℕ) → List ℕ

-- where a mode stands: its registers, and its place in its cycle
pub record State : Type 0 where
  pub regs : List (List ℕ)
  pub place : ℕ

-- registers at the first place of the cycle, where every run starts
abbrev pub at_first : List (List ℕ) → State
at_first regs = record { regs = regs; place = 0 }

abbrev pub loaded : Rule → List ℕ → List ℕ → State
loaded r key iv = at_first (r.load key iv)

-- a block absorbed, and a block walked back; the place moves by itself
abbrev pub after : Rule → State → List ℕ → State
after r s b = record { regs = r.step s.place s.regs b; place = next r.cycle s.place }

abbrev pub before : Rule → State → List ℕ → State
before r s b = record { regs = r.undo (prev r.cycle s.place) s.regs b; place = prev r.cycle s.place }

-- a list of blocks absorbed, the first block first
abbrev pub absorbed : Rule → State → List (List ℕ) → State
absorbed r s [] = s
absorbed r s (b ∷ bs) = absorbed r (after r s b) bs

-- a list of blocks walked back, the last block first
abbrev pub retraced : Rule → State → List (List ℕ) → State
retraced r s [] = s
retraced r s (b ∷ bs) = before r (retraced r s bs) b

-- the place n blocks after place p
abbrev pub place_after : Rule → ℕ → ℕ → ℕ
place_after r p zero = p
place_after r p (suc n) = place_after r (next r.cycle p) n

-- as many registers as the rule has, each a block
pub record Fit (r : Rule) (rs : List (List ℕ)) : Type 0 where
  pub many : length rs ≡ r.count
  pub blocks : AllByRecursion Block rs

-- and a place within the cycle
pub record Good (r : Rule) (s : State) : Type 0 where
  pub fit : Fit r s.regs
  pub within : s.place < r.cycle

-- a key, as every mode is loaded with: 32 bytes
pub record Key (key : List ℕ) : Type 0 where
  pub len : length key ≡ 32
  pub bytes : Bytes key

-- the laws of a mode
pub record Lawful (r : Rule) : Type 0 where
  pub starts : 0 < r.cycle
  pub few : (p : ℕ) → p < r.cycle → r.due p ≤ 15
  -- load, step and undo keep the registers fit
  pub load_fit : (key iv : List ℕ) → Key key → Block iv → Fit r (r.load key iv)
  pub step_fit : (p : ℕ) (rs : List (List ℕ)) (b : List ℕ) → p < r.cycle → Fit r rs → Block b → Fit r (r.step p rs b)
  pub undo_fit : (p : ℕ) (rs : List (List ℕ)) (b : List ℕ) → p < r.cycle → Fit r rs → Block b → Fit r (r.undo p rs b)
  -- walking back the block just absorbed restores the registers, and so does absorbing the block just walked back
  pub undo_step : (p : ℕ) (rs : List (List ℕ)) (b : List ℕ) → p < r.cycle → Fit r rs → Block b → r.undo p (r.step p rs b) b ≡ rs
  pub step_undo : (p : ℕ) (rs : List (List ℕ)) (b : List ℕ) → p < r.cycle → Fit r rs → Block b → r.step p (r.undo p rs b) b ≡ rs
  -- from one good state, lists of blocks that differ, but only in one or two blocks at most reach apart, never lead to equal registers
  pub apart : (s : State) (xs ys : List (List ℕ)) → Good r s → AllByRecursion Block xs → AllByRecursion Block ys → Near r.reach xs ys → xs ≢ ys
      → (absorbed r s xs).regs ≢ (absorbed r s ys).regs
  -- finish gives the largest tag
  pub tag_long : (rs : List (List ℕ)) → Fit r rs → length (r.finish rs) ≡ r.largest

-- walking back over blocks, from where absorbing them led, gives the start
abbrev pub WalksBack : Rule → State → List (List ℕ) → State → Type 0
WalksBack r end blocks start = (s : State) → Good r s → AllByRecursion Block blocks → end ≡ absorbed r s blocks → start ≡ s
