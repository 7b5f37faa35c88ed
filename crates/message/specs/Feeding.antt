-- Bytes that reach a mode through a block of waiting bytes.
use Rattle.std.specs.Prelude.{ℕ, cond, List, [], ◌∷◌, ◌++◌, length, take, replicate, ◌==◌}
use Rattle.mode.specs.Rules.{Rule, State, after, absorbed}
use Rattle.message.specs.Framing.{flushed, zero_block}
use Rattle.message.specs.declared.state.Framing.{Framing}
use Rattle.message.specs.declared.state.Pending.{Pending}

-- a mode's state, and the bytes that wait for a whole block
pub record Fed : Type 0 where
  pub state : State
  pub waiting : List ℕ

abbrev pub fed_of : State → List ℕ → Fed
fed_of s p = record { state = s; waiting = p }

-- a byte joins the waiting ones; sixteen are absorbed
abbrev pub fed_byte : Rule → State → List ℕ → ℕ → Fed
fed_byte r s p b = cond (length p == 15) (fed_of (after r s (p ++ b ∷ [])) []) (fed_of s (p ++ b ∷ []))

abbrev pub fed : Rule → Fed → List ℕ → Fed
fed r s [] = s
fed r s (b ∷ bs) = fed r (fed_byte r s.state s.waiting b) bs

-- the end of a part: what waits is filled up with zeros, and absorbed
abbrev pub flush : Rule → Fed → State
flush r s = absorbed r s.state (flushed s.waiting)

-- the zero blocks that are due
abbrev pub filled : Rule → State → State
filled r s = absorbed r s (replicate (r.due s.place) zero_block)

-- the bytes that wait
abbrev pub held : Pending → List ℕ
held p = take p.len p.bytes

-- where a part under way stands
abbrev pub fed_in : {M S : Type 0} → (M → State) → Framing M S → Fed
fed_in state f = fed_of (state f.mode) (held f.pending)
