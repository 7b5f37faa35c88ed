-- What the modes are called.
use Rattle.std.specs.Prelude.{◌≡◌, ℕ, List, ◌++◌, Ok, Result, MatchResult, codes}
use Rattle.std.specs.Str.Parse.{IsNumeral, digits_value, without_leading_plus}
use Rattle.std.specs.Fmt.{decimal}
use Rattle.refusals.specs.declared.Refusal.{Refusal}
use Rattle.refusals.specs.Numbers.{number}
use Rattle.modes.specs.declared.kinds.ModeKind.{ModeKind}
use Rattle.modes.specs.declared.kinds.ModeKind.TheVariants as kind

-- how a mode is printed
abbrev pub name : ModeKind → List ℕ
name kind.Smac1 = codes "smac-1"
name kind.Smac34 = codes "smac-3/4"
name kind.Smac12 = codes "smac-1/2"
name (kind.Smac1xN c) = codes "smac-1x" ++ decimal c.n

-- a name of SMAC-1×n: after smac-1x the number n in digits, before which a plus may stand
abbrev pub Streams : List ℕ → ℕ → Type 0
Streams text n = (rest : List ℕ) × (text ≡ codes "smac-1x" ++ rest) × IsNumeral 10 (without_leading_plus rest) × (digits_value 10 (without_leading_plus rest) ≡ n)

-- the names of a mode: the one it is printed by, and for SMAC-1×n others, as smac-1x04
abbrev pub Names : List ℕ → ModeKind → Type 0
Names text kind.Smac1 = text ≡ codes "smac-1"
Names text kind.Smac34 = text ≡ codes "smac-3/4"
Names text kind.Smac12 = text ≡ codes "smac-1/2"
Names text (kind.Smac1xN c) = Streams text c.n

-- reading a name: what is printed of a mode is read as one that is printed so; a mode is read only from one of its names; and what is
-- no mode's name is refused with 5
abbrev pub NameRead : List ℕ → Result ModeKind Refusal → Type 0
NameRead text r =
    ((k : ModeKind) → text ≡ name k → (found : ModeKind) × (r ≡ Ok found) × (name found ≡ text))
    × MatchResult r (Names text) (λ e. (number e ≡ 5) × ((k : ModeKind) → ¬ (Names text k)))
