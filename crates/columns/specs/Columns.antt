-- The bytes of a word, the entries of the four tables, and the column that four bytes give.
use Rattle.std.specs.Prelude.{ℕ, zero, suc, ◌/◌, ◌%◌, List, [], ◌∷◌}
use Rattle.aes.specs.Field.{xtime}
use Rattle.aes.specs.Round.{sub, times3, mix}

-- the four bytes of a word, the lowest first
abbrev pub le : ℕ → List ℕ
le w = (w % 256) ∷ (w / 256 % 256) ∷ (w / 65536 % 256) ∷ (w / 16777216 % 256) ∷ []

-- the last of four bytes comes to the front
abbrev pub turned : List ℕ → List ℕ
turned (a ∷ b ∷ c ∷ d ∷ []) = d ∷ a ∷ b ∷ c ∷ []
turned _ = []

-- what a byte in the first row gives to the column, and one that stands a row further down
abbrev pub entry : ℕ → ℕ → List ℕ
entry zero x = xtime (sub x) ∷ sub x ∷ sub x ∷ times3 (sub x) ∷ []
entry (suc row) x = turned (entry row x)

-- SubBytes and MixColumns of the four bytes of one column
abbrev pub column : ℕ → ℕ → ℕ → ℕ → List ℕ
column p q s t =
    mix (sub p) (sub q) (sub s) (sub t) ∷ mix (sub q) (sub s) (sub t) (sub p) ∷ mix (sub s) (sub t) (sub p) (sub q) ∷ mix (sub t) (sub p) (sub q) (sub s) ∷ []
