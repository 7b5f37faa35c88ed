-- The rule and the state of any of the four modes.
use Rattle.std.specs.Prelude.{◌≡◌, ℕ, Ok, Err, Result}
use Rattle.refusals.specs.declared.Refusal.{Refusal}
use Rattle.refusals.specs.Numbers.{number}
use Rattle.mode.specs.Rules.{Rule, State}
use Rattle.smac.specs.Smac.{smac1, smac34, smac12, smac1x}
use Rattle.singles.specs.States.{state_of}
use Rattle.streams.specs.States.{state1x}
use Rattle.modes.specs.declared.kinds.ModeKind.{ModeKind}
use Rattle.modes.specs.declared.kinds.ModeKind.TheVariants as kind
use Rattle.modes.specs.declared.kinds.AnyMode.{AnyMode}
use Rattle.modes.specs.declared.kinds.AnyMode.TheVariants as any

abbrev pub any_chosen : ModeKind → Rule
any_chosen kind.Smac1 = smac1
any_chosen kind.Smac34 = smac34
any_chosen kind.Smac12 = smac12
any_chosen (kind.Smac1xN c) = smac1x c.n

abbrev pub any_rule : AnyMode → Rule
any_rule (any.Smac1 m) = smac1
any_rule (any.Smac34 m) = smac34
any_rule (any.Smac12 m) = smac12
any_rule (any.Smac1xN m) = smac1x m.count.n

abbrev pub any_state : AnyMode → State
any_state (any.Smac1 m) = state_of m
any_state (any.Smac34 m) = state_of m
any_state (any.Smac12 m) = state_of m
any_state (any.Smac1xN m) = state1x m

-- a mode's code and its number of streams, 0 where it has none
abbrev pub code : ModeKind → ℕ
code kind.Smac1 = 1
code kind.Smac34 = 2
code kind.Smac12 = 3
code (kind.Smac1xN c) = 4

abbrev pub stream_count : ModeKind → ℕ
stream_count kind.Smac1 = 0
stream_count kind.Smac34 = 0
stream_count kind.Smac12 = 0
stream_count (kind.Smac1xN c) = c.n

abbrev pub Coded : ℕ → ℕ → ModeKind → Type 0
Coded c n k = (code k ≡ c) × (stream_count k ≡ n)

-- choosing a mode by code and streams: refused with 5 if no mode has them
abbrev pub KindChosen : ℕ → ℕ → Result ModeKind Refusal → Type 0
KindChosen c n (Ok k) = Coded c n k
KindChosen c n (Err e) = ((k : ModeKind) → Coded c n k → ⊥) × (number e ≡ 5)
