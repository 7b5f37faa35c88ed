-- The round of three registers, and the way back.
use Rattle.std.specs.Prelude.{ℕ, List, [], ◌∷◌}
use Rattle.aes.specs.Blocks.{Block, Inverse, ◌⊕◌, moved}
use Rattle.aes.specs.Round.{AESR, Finv}

pub record Registers : Type 0 where
  pub a1 : List ℕ
  pub a2 : List ℕ
  pub a3 : List ℕ

-- each register holds a block
pub record Sound (s : Registers) : Type 0 where
  pub one : Block s.a1
  pub two : Block s.a2
  pub three : Block s.a3

abbrev pub blank : Registers
blank = record { a1 = []; a2 = []; a3 = [] }

-- sigma as the order that it puts bytes in, beside the order that undoes it
pub record Sigma : Type 0 where
  pub there : List ℕ
  pub back : List ℕ

abbrev pub Undone : Sigma → Type 0
Undone c = Inverse c.there c.back

-- a round with block m reads the old registers only: A1 = sigma(A2 + A3 + m), A2 = AESR(A1, m), A3 = AESR(A2, m)
unfoldable pub round : Sigma → Registers → List ℕ → Registers
round c s m = record {
  a1 = moved c.there (s.a2 ⊕ s.a3 ⊕ m);
  a2 = AESR s.a1 m;
  a3 = AESR s.a2 m;
}

-- the registers that the round with block m made s from
unfoldable pub unround : Sigma → Registers → List ℕ → Registers
unround c s m = record {
  a1 = Finv (s.a2 ⊕ m);
  a2 = Finv (s.a3 ⊕ m);
  a3 = moved c.back s.a1 ⊕ Finv (s.a3 ⊕ m) ⊕ m;
}

-- the rounds of a list of blocks, the first block first
abbrev pub rounds : Sigma → Registers → List (List ℕ) → Registers
rounds c s [] = s
rounds c s (m ∷ ms) = rounds c (round c s m) ms

-- the way back over a list of blocks, the last block first
abbrev pub unrounds : Sigma → Registers → List (List ℕ) → Registers
unrounds c s [] = s
unrounds c s (m ∷ ms) = unround c (unrounds c s ms) m
