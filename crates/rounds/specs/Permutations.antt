-- The three permutations of bytes, each with the one that undoes it: sigma puts byte pi(i) of its input at place i.
use Rattle.std.specs.Prelude.{ℕ, List, [], ◌∷◌}
use Rattle.rounds.specs.Round.{Sigma, Undone}

-- SMAC-1 and SMAC-1×n: its own inverse
unfoldable pub pi_1 : List ℕ
pi_1 = 0 ∷ 7 ∷ 14 ∷ 11 ∷ 4 ∷ 13 ∷ 10 ∷ 1 ∷ 8 ∷ 15 ∷ 6 ∷ 3 ∷ 12 ∷ 5 ∷ 2 ∷ 9 ∷ []

-- SMAC-3/4
unfoldable pub pi_3/4 : List ℕ
pi_3/4 = 7 ∷ 14 ∷ 15 ∷ 10 ∷ 12 ∷ 13 ∷ 3 ∷ 0 ∷ 4 ∷ 6 ∷ 1 ∷ 5 ∷ 8 ∷ 11 ∷ 2 ∷ 9 ∷ []

unfoldable pub pi_3/4_back : List ℕ
pi_3/4_back = 7 ∷ 10 ∷ 14 ∷ 6 ∷ 8 ∷ 11 ∷ 9 ∷ 0 ∷ 12 ∷ 15 ∷ 3 ∷ 13 ∷ 4 ∷ 5 ∷ 1 ∷ 2 ∷ []

-- SMAC-1/2
unfoldable pub pi_1/2 : List ℕ
pi_1/2 = 0 ∷ 11 ∷ 7 ∷ 14 ∷ 6 ∷ 4 ∷ 1 ∷ 15 ∷ 9 ∷ 3 ∷ 8 ∷ 5 ∷ 13 ∷ 2 ∷ 10 ∷ 12 ∷ []

unfoldable pub pi_1/2_back : List ℕ
pi_1/2_back = 0 ∷ 6 ∷ 13 ∷ 9 ∷ 5 ∷ 11 ∷ 4 ∷ 2 ∷ 10 ∷ 8 ∷ 14 ∷ 1 ∷ 15 ∷ 12 ∷ 3 ∷ 7 ∷ []

abbrev pub sigma1 : Sigma
sigma1 = record { there = pi_1; back = pi_1 }

abbrev pub sigma34 : Sigma
sigma34 = record { there = pi_3/4; back = pi_3/4_back }

abbrev pub sigma12 : Sigma
sigma12 = record { there = pi_1/2; back = pi_1/2_back }

-- each permutation is undone by the one beside it
abbrev pub SigmasAreUndone : Type 0
SigmasAreUndone = Undone sigma1 × Undone sigma34 × Undone sigma12
