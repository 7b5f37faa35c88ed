-- Chains of pieces: what they take, what they count, and which of them are refused.
use Rattle.std.proofs.Common.{◌≡◌, ℕ, ◌+◌, ◌≤◌, List, [], ◌∷◌, ◌++◌, length, sym, refl, ap, ◌∙◌, subst, add-zero, arith, length-append}
use Rattle.aes.specs.Blocks.{Bytes}
use Rattle.message.specs.Feeding.{fed}
use Rattle.message.proofs.Feedings.{fed_append}
use Rattle.message.proofs.Blocks.{bytes_append, bytes_none}
use Rattle.run.specs.Calls.{Open, OpenBody, taken, Piece, BodyPiece}
use Rattle.laws.specs.Runs.{Call, took, refused, piece, answer, accepted, unrefused, Pieces, none, more, Judged, AllJudged}

-- body pieces are pieces of the body, and leave the header's count
pub body_part : {s t : OpenBody} {calls : List Call} → Pieces BodyPiece s calls t → Pieces Piece s.part calls t.part
body_part none = none
body_part (more call b step rest) = more call b step.1 (body_part rest)

pub header_kept : {s t : OpenBody} {calls : List Call} → Pieces BodyPiece s calls t → t.header ≡ s.header
header_kept none = refl
header_kept (more call b step rest) = header_kept rest ∙ step.0

-- what was accepted has been taken
pub part_taken : {s t : Open} {calls : List Call} → Pieces Piece s calls t → t ≡ taken s (accepted calls)
part_taken {s} none =
    ap (λ n. record { rule = s.rule; fed = s.fed; count = n; ceiling = s.ceiling }) (sym (add-zero s.count))
part_taken {s} (more {calls} (took p) b step rest) =
    let n : (s.count + length p) + length (accepted calls) ≡ s.count + length (p ++ accepted calls) = omega (arith, length-append p (accepted calls)) in
    part_taken rest ∙ ap (λ z. taken z (accepted calls)) step.1
    ∙ ap (λ f. record { rule = s.rule; fed = f; count = (s.count + length p) + length (accepted calls); ceiling = s.ceiling }) (sym (fed_append s.rule s.fed p (accepted calls)))
    ∙ ap (λ k. record { rule = s.rule; fed = fed s.rule s.fed (p ++ accepted calls); count = k; ceiling = s.ceiling }) n
part_taken (more {calls} (refused p e) b step rest) = part_taken rest ∙ ap (λ z. taken z (accepted calls)) step.1

pub part_bytes : {s t : Open} {calls : List Call} → Pieces Piece s calls t → Bytes (accepted calls)
part_bytes none = bytes_none
part_bytes (more {calls} (took p) b step rest) = bytes_append p (accepted calls) b (part_bytes rest)
part_bytes (more (refused p e) b step rest) = part_bytes rest

-- and it fits the ceiling
pub part_fits : {s t : Open} {calls : List Call} → Pieces Piece s calls t → s.count ≤ s.ceiling → t.count ≤ t.ceiling
part_fits none h = h
part_fits (more (took p) b step rest) h = part_fits rest (subst (λ (z : Open). z.count ≤ z.ceiling) (sym step.1) step.0)
part_fits (more (refused p e) b step rest) h = part_fits rest (subst (λ (z : Open). z.count ≤ z.ceiling) (sym step.1) h)

-- refused pieces leave nothing behind
pub part_unrefused : {s t : Open} {calls : List Call} → Pieces Piece s calls t → Pieces Piece s (unrefused calls) t
part_unrefused none = none
part_unrefused (more (took p) b step rest) = more (took p) b step (part_unrefused rest)
part_unrefused {t = u} (more {calls} (refused p e) b step rest) = subst (λ (z : Open). Pieces Piece z (unrefused calls) u) step.1 (part_unrefused rest)

-- pieces of the body, with the header's count beside each state again
pub with_header : (n : ℕ) {s t : Open} {calls : List Call} → Pieces Piece s calls t → Pieces BodyPiece (record { header = n; part = s }) calls (record { header = n; part = t })
with_header n none = none
with_header n (more {t} call b step rest) = more {t = record { header = n; part = t }} call b (refl, step) (with_header n rest)

-- the step of a call in the middle
part_step : (earlier later : List Call) (call : Call) {s u : Open} → Pieces Piece s (earlier ++ call ∷ later) u →
    (t : Open) × (Pieces Piece s earlier t × ((t' : Open) × Piece t (piece call) (answer call) t'))
part_step [] later call {s = s} (more {t = t} _ b step rest) = (s, (none, (t, step)))
part_step (e ∷ earlier) later call (more _ b step rest) =
    let r = part_step earlier later call rest in
    (r.0, (more e b step r.1.0, r.1.1))

judged_step : (s t t' : Open) (earlier : List Call) (call : Call) → s.count ≡ 0 → t ≡ taken s (accepted earlier) → Piece t (piece call) (answer call) t' → Judged s.ceiling earlier call
judged_step s t t' earlier (took p) z e step =
    let n : t.count ≡ s.count + length (accepted earlier) = ap (λ q. q.count) e in
    let c : t.ceiling ≡ s.ceiling = ap (λ q. q.ceiling) e in
    omega (arith, step.0)
judged_step s t t' earlier (refused p e) z f step =
    let n : t.count ≡ s.count + length (accepted earlier) = ap (λ q. q.count) f in
    let c : t.ceiling ≡ s.ceiling = ap (λ q. q.ceiling) f in
    (omega (arith, step.0), step.2)

pub part_judged : {s u : Open} {calls : List Call} → s.count ≡ 0 → Pieces Piece s calls u → AllJudged s.ceiling calls
part_judged {s} {u} z run earlier later call e =
    let r = part_step earlier later call (subst (λ (cs : List Call). Pieces Piece s cs u) e run) in
    judged_step s r.0 r.1.1.0 earlier call z (part_taken r.1.0) r.1.1.1
