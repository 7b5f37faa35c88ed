-- One piece more, at the end of a chain; and a whole run put together.
use Rattle.std.proofs.Common.{◌≡◌, ℕ, ◌+◌, ◌^◌, ◌<◌, ◌≤◌, List, [], ◌∷◌, ◌++◌, map, length, get_or, take, Ok, Err, Result, sym, ap, ◌∙◌, subst, Bor}
use mathlib.Core.List.{map-append}
use Rattle.std.proofs.lemmas.List.{take_more, take_all}
use Rattle.refusals.specs.declared.Refusal.{Refusal}
use Rattle.aes.specs.Blocks.{Bytes}
use Rattle.mode.specs.Rules.{Rule, Lawful, Good, at_first}
use Rattle.tags.specs.Tags.{Closed}
use Rattle.run.specs.Calls.{Open, OpenBody, begun, Piece, turned, BodyPiece, closed}
use Rattle.laws.specs.Runs.{Call, took, refused, piece, answer, Pieces, none, more, Run}
use Rattle.laws.proofs.Leading.{every_run}
use Rattle.replay.specs.Replays.{Answer, call, Answered, Replays}
use Rattle.replay.specs.Replays as replays

answered_last : {pieces : List (List ℕ)} {answers : List Answer} {calls : List Call} → Answered pieces answers calls → (p : List ℕ) (a : Answer)
    → Answered (pieces ++ p ∷ []) (answers ++ a ∷ []) (calls ++ call p a ∷ [])
answered_last replays.none p a = replays.more p a replays.none
answered_last (replays.more q b rest) p a = replays.more q b (answered_last rest p a)

module _ {S : Type 0} (Step : S → List ℕ → Result (Unit {0}) Refusal → S → Type 0) where
  pieces_last : {s t u : S} {calls : List Call} → Pieces Step s calls t → (c : Call) → Bytes (piece c) → Step t (piece c) (answer c) u → Pieces Step s (calls ++ c ∷ []) u
  pieces_last none c b step = more c b step none
  pieces_last (more d e first rest) c b step = more d e first (pieces_last rest c b step)

  -- pieces handed in so far, with their answers, and the chain that they are
  abbrev pub Handed : S → List (List ℕ) → List Answer → S → Type 0
  Handed s pieces answers t = (calls : List Call) × Answered pieces answers calls × Pieces Step s calls t

  pub one_more : (s t u : S) (pieces : List (List ℕ)) (answers : List Answer) (p : List ℕ) (a : Answer)
      → Bytes p → Step t p a u → Handed s pieces answers t → Handed s (pieces ++ p ∷ []) (answers ++ a ∷ []) u
  one_more s t u pieces answers p (Ok tt) b step h = (h.0 ++ took p ∷ [], answered_last h.1 p (Ok tt), pieces_last h.2 (took p) b step)
  one_more s t u pieces answers p (Err e) b step h = (h.0 ++ refused p e ∷ [], answered_last h.1 p (Err e), pieces_last h.2 (refused p e) b step)

  -- the loop over pieces: its start, its step and its end
  pub hand_none : (s : S) (answers : List Answer) → answers ≡ [] → Handed s [] answers s
  hand_none s answers e = ([], subst (λ xs. Answered [] xs []) (sym e) replays.none, none)

  pub hand_next : (s t u : S) (ps : List (Bor (List ℕ))) (i : ℕ) (d : Bor (List ℕ)) (answers later : List Answer) (a : Answer)
      → i < length ps → Bytes (get_or ps i d).now → Step t (get_or ps i d).now a u → later ≡ answers ++ a ∷ []
      → Handed s (map (λ x. x.now) (take i ps)) answers t → Handed s (map (λ x. x.now) (take (i + 1) ps)) later u
  hand_next s t u ps i d answers later a h b step el handed =
      let p = (get_or ps i d).now in
      let ep : map (λ x. x.now) (take (i + 1) ps) ≡ map (λ x. x.now) (take i ps) ++ p ∷ [] = ap (map (λ x. x.now)) (take_more ps i d h) ∙ map-append (λ x. x.now) (take i ps) (get_or ps i d ∷ []) in
      let one = one_more s t u (map (λ x. x.now) (take i ps)) answers p a b step handed in
      subst (λ (qs : List (List ℕ)). Handed s qs later u) (sym ep) (subst (λ (xs : List Answer). Handed s (map (λ x. x.now) (take i ps) ++ p ∷ []) xs u) (sym el) one)

  pub hand_all : (s t : S) (ps : List (Bor (List ℕ))) (i : ℕ) (answers : List Answer) → length ps ≤ i → Handed s (map (λ x. x.now) (take i ps)) answers t → Handed s (map (λ x. x.now) ps) answers t
  hand_all s t ps i answers h handed = subst (λ (qs : List (Bor (List ℕ))). Handed s (map (λ x. x.now) qs) answers t) (take_all i ps h) handed

-- a chain of steps, seen through what the steps are told of
seen : {S T : Type 0} (f : S → T) (Step : T → List ℕ → Answer → T → Type 0) {s t : S} {calls : List Call} → Pieces (λ x p a y. Step (f x) p a (f y)) s calls t → Pieces Step (f s) calls (f t)
seen f Step none = none
seen f Step (more c b step rest) = more c b step (seen f Step rest)

pub handed_seen : {S T : Type 0} (f : S → T) (Step : T → List ℕ → Answer → T → Type 0) (s t : S) (pieces : List (List ℕ)) (answers : List Answer)
    → Handed (λ x p a y. Step (f x) p a (f y)) s pieces answers t → Handed Step (f s) pieces answers (f t)
handed_seen f Step s t pieces answers h = (h.0, h.1, seen f Step h.2)

-- the calls of a run, put together
pub performs : (r : Rule) (regs : List (List ℕ)) (ceiling : ℕ) (header body : List (List ℕ)) (header_answers body_answers : List Answer) (first headed : Open) (turning bodied : OpenBody) (end : Closed) →
    Lawful r → Good r (at_first regs) → ceiling < 2 ^ 61 → first ≡ begun r (at_first regs) ceiling → Handed Piece first header header_answers headed → turning ≡ turned headed
    → Handed BodyPiece turning body body_answers bodied → end ≡ closed bodied → Replays r regs ceiling header body header_answers body_answers end
performs r regs ceiling header body header_answers body_answers first headed turning bodied end law good countable eb h et b ec =
    let run : Run r regs ceiling h.0 b.0 end = record {
      countable = countable;
      headed = headed;
      bodied = bodied;
      header_pieces = subst (λ (z : Open). Pieces Piece z h.0 headed) eb h.2;
      body_pieces = subst (λ (z : OpenBody). Pieces BodyPiece z b.0 bodied) et b.2;
      close = ec;
    } in
    record {
      lawful = law;
      starts = good;
      header_calls = h.0;
      body_calls = b.0;
      header_answered = h.1;
      body_answered = b.1;
      run = run;
      stands = every_run r law regs good ceiling h.0 b.0 end run;
    }
