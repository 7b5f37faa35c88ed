-- A run whose pieces are handed in as lists: how each was answered, and what holds of the run.
use Rattle.std.specs.Prelude.{◌≡◌, ℕ, List, [], ◌∷◌, Ok, Err, vec_items, Result}
use Rattle.refusals.specs.declared.Refusal.{Refusal}
use Rattle.rounds.specs.Reach.{Near}
use Rattle.mode.specs.Rules.{Rule, State, Lawful, Good, at_first}
use Rattle.tags.specs.Tags.{Closed}
use Rattle.keys.specs.Keys.{iv_of}
use Rattle.keys.specs.declared.state.Serial.{Serial}
use Rattle.message.specs.Framing.{message}
use Rattle.run.specs.Calls.{closed_of}
use Rattle.laws.specs.Runs.{Call, took, refused, accepted, Run, Stands, ExactlyWhen}
use Rattle.replay.specs.declared.state.Replayed.{Replayed}

-- how a piece was answered
abbrev pub Answer : Type 0
Answer = Result (Unit {0}) Refusal

-- a piece with its answer
abbrev pub call : List ℕ → Answer → Call
call p (Ok _) = took p
call p (Err e) = refused p e

-- pieces with their answers, one for each
pub data Answered : List (List ℕ) → List Answer → List Call → Type 0 where
  none : Answered [] [] []
  more : {pieces : List (List ℕ)} {answers : List Answer} {calls : List Call} (p : List ℕ) (a : Answer) → Answered pieces answers calls → Answered (p ∷ pieces) (a ∷ answers) (call p a ∷ calls)

-- what a replay did: calls that are these pieces with these answers, a run of them, and what holds of it
pub record Replays (r : Rule) (regs : List (List ℕ)) (ceiling : ℕ) (header body : List (List ℕ)) (header_answers body_answers : List Answer) (end : Closed) : Type 0 where
  pub lawful : Lawful r
  pub starts : Good r (at_first regs)
  pub header_calls : List Call
  pub body_calls : List Call
  pub header_answered : Answered header header_answers header_calls
  pub body_answered : Answered body body_answers body_calls
  pub run : Run r regs ceiling header_calls body_calls end
  pub stands : Stands r regs ceiling header_calls body_calls end (message r (accepted header_calls) (accepted body_calls))

module _ {M S : Type 0} (rule : M → Rule) (state : M → State) where
  abbrev pub ReplaysAs : Rule → List (List ℕ) → ℕ → List (List ℕ) → List (List ℕ) → Replayed M S → Type 0
  ReplaysAs r regs ceiling header body done = Replays r regs ceiling header body (vec_items done.header) (vec_items done.body) (closed_of rule state done.run)

  -- two replays of one mode under one key, office and serial, told apart
  pub record Both (r : Rule) (regs : List (List ℕ)) (ceiling : ℕ) (header₁ body₁ header₂ body₂ : List (List ℕ)) (one two : Replayed M S) : Type 0 where
    pub first : ReplaysAs r regs ceiling header₁ body₁ one
    pub second : ReplaysAs r regs ceiling header₂ body₂ two
    pub told :
        Near r.reach (message r (accepted first.header_calls) (accepted first.body_calls)) (message r (accepted second.header_calls) (accepted second.body_calls))
        → ExactlyWhen ((closed_of rule state one.run).state.regs ≡ (closed_of rule state two.run).state.regs)
        ((accepted first.header_calls ≡ accepted second.header_calls) × (accepted first.body_calls ≡ accepted second.body_calls))

  -- the same, under a key and a serial
  abbrev pub ReplaysUnder : Rule → List ℕ → Serial → ℕ → List (List ℕ) → List (List ℕ) → Replayed M S → Type 0
  ReplaysUnder r key serial ceiling header body done = ReplaysAs r (r.load key (iv_of serial.office serial.number)) ceiling header body done

  abbrev pub BothUnder : Rule → List ℕ → Serial → ℕ → List (List ℕ) → List (List ℕ) → List (List ℕ) → List (List ℕ) → Replayed M S → Replayed M S → Type 0
  BothUnder r key serial ceiling header₁ body₁ header₂ body₂ one two = Both r (r.load key (iv_of serial.office serial.number)) ceiling header₁ body₁ header₂ body₂ one two
