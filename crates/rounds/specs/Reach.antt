-- Lists that agree but in one or two places, and what it is to tell such lists apart.
use Rattle.std.specs.Prelude.{◌≡◌, ℕ, ◌+◌, ◌≤◌, ◌≢◌, List, length, slice_index_or}
use Rattle.std.specs.List.{AllByRecursion}
use Rattle.aes.specs.Blocks.{Block}
use Rattle.rounds.specs.Round.{Registers, Sound, Sigma, Undone, round, unround, rounds}

-- lists of equal length, the same at every place but two, which are at most r apart
pub record Near {A : Type 0} (r : ℕ) (xs ys : List A) : Type 0 where
  pub long : length xs ≡ length ys
  pub first : ℕ
  pub second : ℕ
  pub order : first ≤ second
  pub apart : second ≤ first + r
  pub others : (k : ℕ) (d : A) → k ≢ first → k ≢ second → slice_index_or xs k d ≡ slice_index_or ys k d

-- from one good state, two lists of blocks that differ, but only in one or two blocks at most r apart, never lead to the same
abbrev pub Reaches : {S R : Type 0} → ℕ → (S → Type 0) → (S → List (List ℕ) → R) → Type 0
Reaches {S} {R} r Good run = (s : S) (xs ys : List (List ℕ)) → Good s → AllByRecursion Block xs → AllByRecursion Block ys → Near r xs ys → xs ≢ ys → run s xs ≢ run s ys

-- walking back the block just absorbed restores the registers, and so does absorbing the block just walked back
abbrev pub WalkingBackARound : Type 0
WalkingBackARound = (c : Sigma) → Undone c → (s : Registers) (m : List ℕ) → Sound s → Block m → (unround c (round c s m) m ≡ s) × (round c (unround c s m) m ≡ s)

-- plain rounds tell lists apart that differ in one or two blocks, at most three apart
abbrev pub RoundsTellApart : Type 0
RoundsTellApart = (c : Sigma) → Undone c → Reaches 3 Sound (rounds c)
