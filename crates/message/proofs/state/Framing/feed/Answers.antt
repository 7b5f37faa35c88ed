use Rattle.std.proofs.Common.{◌+◌, ◌-◌, ◌<◌, ◌≡◌, ◌++◌, length, replicate, sym, ap, ◌∙◌, arith, append-nil, length-append, take-append-drop}
use Rattle.message.specs.Feeding.{fed, fed_of, held}
use Rattle.message.proofs.Feedings.{fed_short, fed_topped, held_length}
use Rattle.message.proofs.state.Framing.feed.Goals as goal

pub returns-in_default-clause-fed : goal.returns-in_default-clause-fed
returns-in_default-clause-fed g c =
    let m = g.M.Mode in
    let f = c.args.self.now in
    let l : length (held f.pending) + length c.args.bytes.now < 16 = omega (arith, held_length f.pending, f.pending.ok.0, c.in_default.ensures.cases) in
    ap (fed_of (m.state f.mode)) c.add.ensures ∙ sym (fed_short (m.rule f.mode) (m.state f.mode) (held f.pending) c.args.bytes.now l)

pub returns-clause-fed : goal.returns-clause-fed
returns-clause-fed g c =
    let m = g.M.Mode in
    let f = c.args.self.now in
    let r = m.rule f.mode in
    let p = held f.pending in
    let back = c.in-Some.back.now in
    let front = c.in-Some.front.now in
    let parts = c.in-Some.ensures.cases in
    let l : length p + length front ≡ 16 = omega (arith, held_length f.pending, f.pending.ok.0, parts.3) in
    let whole : c.args.bytes.now ≡ front ++ back = cc (take-append-drop (16 - f.pending.len) c.args.bytes.now, parts.1, parts.2) in
    let none : 16 - length (p ++ front) ≡ 0 = omega (arith, length-append p front) in
    fed_topped r (m.state f.mode) (m.state c.absorb.new.self) p c.args.bytes.now front back c.block_with-block.result _
    (omega (arith, held_length f.pending, f.pending.ok.0)) l whole
    (c.block_with-block.ensures ∙ ap (λ n. (p ++ front) ++ replicate n 0) none ∙ append-nil (p ++ front)) c.absorb.ensures.state
    (c.feed_aligned-2.ensures.fed
    ∙ ap (λ q. fed q (fed_of (m.state c.absorb.new.self) (held c.none-self.result)) back) c.absorb.ensures.rule
    ∙ ap (λ w. fed r (fed_of (m.state c.absorb.new.self) w) back) c.none-self.ensures)
