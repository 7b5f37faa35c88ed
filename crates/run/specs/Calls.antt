-- What each call of a run does to what the run holds. A call's contract is one of these relations, and so is the law of runs about them.
use Rattle.std.specs.Prelude.{◌≡◌, ℕ, ◌+◌, ◌<◌, ◌≤◌, List, [], length, Ok, Err, Result}
use Rattle.refusals.specs.declared.Refusal.{Refusal}
use Rattle.refusals.specs.Numbers.{number}
use Rattle.mode.specs.Rules.{Rule, State, after, retraced}
use Rattle.tags.specs.Tags.{Closed, rest}
use Rattle.message.specs.Framing.{length_block}
use Rattle.message.specs.Feeding.{Fed, fed, fed_of, fed_in, flush, filled}
use Rattle.run.specs.declared.state.Part.{Part}
use Rattle.run.specs.declared.state.HeaderRun.{HeaderRun}
use Rattle.run.specs.declared.state.BodyRun.{BodyRun}
use Rattle.run.specs.declared.state.ClosedRun.{ClosedRun}

-- a part under way, header or body: what was fed to the mode, how many bytes of the part were accepted, and the most there may be
pub record Open : Type 0 where
  pub rule : Rule
  pub fed : Fed
  pub count : ℕ
  pub ceiling : ℕ

-- the body under way, after a header of some bytes
pub record OpenBody : Type 0 where
  pub header : ℕ
  pub part : Open

-- begin, from a state: the header, with nothing accepted
abbrev pub begun : Rule → State → ℕ → Open
begun r s ceiling = record { rule = r; fed = fed_of s []; count = 0; ceiling = ceiling }

-- a piece is taken whole, or refused with nothing changed
abbrev pub taken : Open → List ℕ → Open
taken s piece = record { rule = s.rule; fed = fed s.rule s.fed piece; count = s.count + length piece; ceiling = s.ceiling }

abbrev pub Piece : Open → List ℕ → Result (Unit {0}) Refusal → Open → Type 0
Piece s piece (Ok _) t = (s.count + length piece ≤ s.ceiling) × (t ≡ taken s piece)
Piece s piece (Err e) t = (s.ceiling < s.count + length piece) × (t ≡ s) × (number e ≡ 4)

-- turn: the header is filled up to a whole block, and the body begins with nothing accepted
abbrev pub turned : Open → OpenBody
turned s = record { header = s.count; part = begun s.rule (flush s.rule s.fed) s.ceiling }

-- a body piece leaves the header's count
abbrev pub BodyPiece : OpenBody → List ℕ → Result (Unit {0}) Refusal → OpenBody → Type 0
BodyPiece s piece answer t = (t.header ≡ s.header) × Piece s.part piece answer t.part

-- close: the body is filled up likewise, then come the length block and the zero blocks that are due
abbrev pub closed : OpenBody → Closed
closed s = record {
  rule = s.part.rule;
  state = filled s.part.rule (after s.part.rule (flush s.part.rule s.part.fed) (length_block s.header s.part.count));
}

-- walking back from a closed run, over blocks
abbrev pub walked_back : Closed → List (List ℕ) → Closed
walked_back c blocks = record { rule = c.rule; state = retraced c.rule c.state blocks }

-- what the structs of the code stand for
module _ {M S : Type 0} (rule : M → Rule) (state : M → State) where
  abbrev pub part_of : Part M S → Open
  part_of p = record { rule = rule p.framing.mode; fed = fed_in state p.framing; count = p.count.value; ceiling = p.ceiling.most.value }

  abbrev pub header_of : HeaderRun M S → Open
  header_of h = part_of h.part

  abbrev pub body_of : BodyRun M S → OpenBody
  body_of b = record { header = b.header.value; part = part_of b.part }

  abbrev pub closed_of : ClosedRun M S → Closed
  closed_of c = rest rule state c.mode
