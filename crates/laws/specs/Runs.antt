-- Whole runs: begin, any list of header pieces, turn, any list of body pieces, close. What holds of every one, and of every two.
use Rattle.std.specs.Prelude.{◌≡◌, ℕ, ◌+◌, ◌^◌, ◌<◌, ◌≤◌, List, [], ◌∷◌, ◌++◌, length, take, Ok, Err, Result}
use Rattle.refusals.specs.declared.Refusal.{Refusal}
use Rattle.refusals.specs.Numbers.{number}
use Rattle.aes.specs.Blocks.{Bytes}
use Rattle.rounds.specs.Reach.{Near}
use Rattle.mode.specs.Rules.{Rule, Good, Key, at_first, absorbed, retraced}
use Rattle.tags.specs.Tags.{Closed, Admitted, Tagged}
use Rattle.message.specs.Framing.{message, tag_of_blocks}
use Rattle.keys.specs.Keys.{iv_of}
use Rattle.run.specs.Calls.{Open, OpenBody, begun, Piece, turned, BodyPiece, closed}

-- ---- a run

-- a piece that was handed in, and how the call was answered
pub data Call : Type 0 where
  took : List ℕ → Call
  refused : List ℕ → Refusal → Call

abbrev pub piece : Call → List ℕ
piece (took p) = p
piece (refused p e) = p

abbrev pub answer : Call → Result (Unit {0}) Refusal
answer (took p) = Ok tt
answer (refused p e) = Err e

-- pieces of bytes handed in one after another, each to what the one before left; Step is what the piece call promises
pub data Pieces {S : Type 0} (Step : S → List ℕ → Result (Unit {0}) Refusal → S → Type 0) : S → List Call → S → Type 0 where
  none : {s : S} → Pieces Step s [] s
  more : {s t u : S} {calls : List Call} (call : Call) → Bytes (piece call) → Step s (piece call) (answer call) t → Pieces Step t calls u → Pieces Step s (call ∷ calls) u

-- a run of the mode r from starting registers: begun, Piece, turned, BodyPiece and closed are what the five calls promise
pub record Run (r : Rule) (regs : List (List ℕ)) (ceiling : ℕ) (header body : List Call) (end : Closed) : Type 0 where
  pub countable : ceiling < 2 ^ 61
  pub headed : Open
  pub bodied : OpenBody
  pub header_pieces : Pieces Piece (begun r (at_first regs) ceiling) header headed
  pub body_pieces : Pieces BodyPiece (turned headed) body bodied
  pub close : end ≡ closed bodied

-- ---- what holds of it

-- a part's accepted bytes: those of its pieces not refused, joined in call order
abbrev pub accepted : List Call → List ℕ
accepted [] = []
accepted (took p ∷ calls) = p ++ accepted calls
accepted (refused p e ∷ calls) = accepted calls

-- the calls without those refused
abbrev pub unrefused : List Call → List Call
unrefused [] = []
unrefused (took p ∷ calls) = took p ∷ unrefused calls
unrefused (refused p e ∷ calls) = unrefused calls

-- a call is refused, with 4, exactly when the bytes accepted before it, with the piece, would pass the ceiling
abbrev pub Judged : ℕ → List Call → Call → Type 0
Judged ceiling earlier (took p) = length (accepted earlier) + length p ≤ ceiling
Judged ceiling earlier (refused p e) = (ceiling < length (accepted earlier) + length p) × (number e ≡ 4)

abbrev pub AllJudged : ℕ → List Call → Type 0
AllJudged ceiling calls = (earlier later : List Call) (call : Call) → calls ≡ earlier ++ call ∷ later → Judged ceiling earlier call

-- of a run, M being the framed message of the accepted bytes
pub record Stands (r : Rule) (regs : List (List ℕ)) (ceiling : ℕ) (header body : List Call) (end : Closed) (M : List (List ℕ)) : Type 0 where
  pub header_refusals : AllJudged ceiling header
  pub body_refusals : AllJudged ceiling body
  -- refused pieces leave nothing behind: without them the run ends the same
  pub no_trace : Run r regs ceiling (unrefused header) (unrefused body) end
  -- close leaves the closing registers: those that absorbing M leads to from the starting ones
  pub rule : end.rule ≡ r
  pub leads : end.state ≡ absorbed r (at_first regs) M
  -- walking back: over M it gives the start, and no other starting registers lead there over M
  pub walks_back : retraced r end.state M ≡ at_first regs
  pub only_from : (other : List (List ℕ)) → Good r (at_first other) → (absorbed r (at_first other) M).regs ≡ end.state.regs → other ≡ regs
  -- and so the tag: of any admitted length, it is the first bytes of the tag that is defined for M
  pub tagged : (old new : List ℕ) (a : Result (Unit {0}) Refusal) → Tagged end old a new → Admitted r (length old) → (a ≡ Ok tt) × (new ≡ take (length old) (tag_of_blocks r regs M))

-- ---- the laws, of every mode that is allowed

-- every run from good starting registers
abbrev pub EveryRun : (Rule → Type 0) → Type 0
EveryRun Allowed = (r : Rule) → Allowed r → (regs : List (List ℕ)) → Good r (at_first regs) → (ceiling : ℕ) (header body : List Call) (end : Closed)
    → Run r regs ceiling header body end → Stands r regs ceiling header body end (message r (accepted header) (accepted body))

-- every run under a key, an office and a serial
abbrev pub EveryRunOfAKey : (Rule → Type 0) → Type 0
EveryRunOfAKey Allowed = (r : Rule) → Allowed r → (key : List ℕ) → Key key → (office serial ceiling : ℕ) (header body : List Call) (end : Closed)
    → Run r (r.load key (iv_of office serial)) ceiling header body end
    → Stands r (r.load key (iv_of office serial)) ceiling header body end (message r (accepted header) (accepted body))

abbrev pub ExactlyWhen : Type 0 → Type 0 → Type 0
ExactlyWhen A B = (A → B) × (B → A)

-- Telling apart: let two runs of one mode have the same starting registers, and framed messages of equally many blocks that differ in at most two, no farther
-- apart than the mode's reach. Then their closing registers are equal exactly when the accepted headers are equal and the accepted bodies are equal.
abbrev pub ToldApart : Rule → List (List ℕ) → Type 0
ToldApart r regs = (ceiling₁ ceiling₂ : ℕ) (header₁ body₁ header₂ body₂ : List Call) (end₁ end₂ : Closed)
    → Run r regs ceiling₁ header₁ body₁ end₁ → Run r regs ceiling₂ header₂ body₂ end₂
    → Near r.reach (message r (accepted header₁) (accepted body₁)) (message r (accepted header₂) (accepted body₂))
    → ExactlyWhen (end₁.state.regs ≡ end₂.state.regs) ((accepted header₁ ≡ accepted header₂) × (accepted body₁ ≡ accepted body₂))

abbrev pub EveryTwoRuns : (Rule → Type 0) → Type 0
EveryTwoRuns Allowed = (r : Rule) → Allowed r → (regs : List (List ℕ)) → Good r (at_first regs) → ToldApart r regs

-- of two runs under one key, one office and one serial
abbrev pub EveryTwoRunsOfAKey : (Rule → Type 0) → Type 0
EveryTwoRunsOfAKey Allowed = (r : Rule) → Allowed r → (key : List ℕ) → Key key → (office serial : ℕ) → ToldApart r (r.load key (iv_of office serial))

-- the law of runs
pub record LawOfRuns (Allowed : Rule → Type 0) : Type 0 where
  pub one : EveryRun Allowed
  pub one_key : EveryRunOfAKey Allowed
  pub two : EveryTwoRuns Allowed
  pub two_key : EveryTwoRunsOfAKey Allowed
