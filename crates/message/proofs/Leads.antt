-- Where the parts of a framed message lead, one after the other.
use Rattle.std.proofs.Common.{◌≡◌, ℕ, List, [], ◌∷◌, ◌++◌, length, replicate, Ok, Err, Result, sym, ap, ◌∙◌, subst, inr}
use Rattle.refusals.specs.declared.Refusal.{Refusal}
use Rattle.mode.specs.Rules.{Rule, State, at_first, loaded, after, absorbed, place_after}
use Rattle.mode.proofs.States.{absorbed_append, absorbed_place}
use Rattle.tags.specs.declared.state.Verdict.{Verdict}
use Rattle.tags.specs.Tags.{Closed, Tagged, Compared}
use Rattle.message.specs.Framing.{padded, length_block, framed, message, zero_block}
use Rattle.message.specs.Feeding.{Fed, fed, fed_of, flush, filled}
use Rattle.message.proofs.Feedings.{fed_cut}
use Rattle.message.specs.Whole.{Countable, MessageTagged, MessageCompared}

-- a part that was fed and flushed
pub part_leads : (r r₁ : Rule) (s : State) (f : Fed) (c : Closed) (part : List ℕ) → r₁ ≡ r → f ≡ fed r (fed_of s []) part → c ≡ record { rule = r₁; state = flush r₁ f } →
    c ≡ record { rule = r; state = absorbed r s (padded part) }
part_leads r r₁ s f c part er ef ec =
    let state : flush r₁ f ≡ absorbed r s (padded part) = ap (λ q. flush q f) er ∙ ap (flush r) ef ∙ sym (fed_cut r s [] part) in
    ec ∙ (λ i. record { rule = er i; state = state i })

framed_leads : (r : Rule) (m : State) (h b : List ℕ) → absorbed r m (framed h b) ≡ after r (absorbed r (absorbed r m (padded h)) (padded b)) (length_block (length h) (length b))
framed_leads r m h b =
    let last = length_block (length h) (length b) ∷ [] in
    absorbed_append r m (padded h) (padded b ++ last) ∙ absorbed_append r (absorbed r m (padded h)) (padded b) last

-- both parts, the length block and the fill: the framed message
pub message_leads : (r : Rule) (regs : List (List ℕ)) (h b : List ℕ) →
    filled r (after r (absorbed r (absorbed r (at_first regs) (padded h)) (padded b)) (length_block (length h) (length b))) ≡ absorbed r (at_first regs) (message r h b)
message_leads r regs h b =
    let m = at_first regs in
    let end = after r (absorbed r (absorbed r m (padded h)) (padded b)) (length_block (length h) (length b)) in
    let f : absorbed r m (framed h b) ≡ end = framed_leads r m h b in
    let p : end.place ≡ place_after r 0 (length (framed h b)) = ap (λ z. z.place) (sym f) ∙ absorbed_place r m (framed h b) in
    let zeros = replicate (r.due (place_after r 0 (length (framed h b)))) zero_block in
    ap (λ k. absorbed r end (replicate (r.due k) zero_block)) p
    ∙ ap (λ z. absorbed r z zeros) (sym f)
    ∙ sym (absorbed_append r m (framed h b) zeros)

-- the calls that absorb a whole message: two parts, the length block, the fill
pub calls_lead : (r r₁ r₂ r₃ r₄ : Rule) (regs : List (List ℕ)) (h b last : List ℕ) (s₀ s₁ s₂ s₃ s₄ : State) (n k : ℕ) →
    s₀ ≡ at_first regs → r₁ ≡ r → s₁ ≡ absorbed r s₀ (padded h) → r₂ ≡ r₁ → s₂ ≡ absorbed r₁ s₁ (padded b) →
    n ≡ length h → k ≡ length b → last ≡ length_block n k → r₃ ≡ r₂ → s₃ ≡ after r₂ s₂ last → r₄ ≡ r₃ → s₄ ≡ filled r₃ s₃ →
    ◌≡◌ {A = Closed} (record { rule = r₄; state = s₄ }) (record { rule = r; state = absorbed r (at_first regs) (message r h b) })
calls_lead r r₁ r₂ r₃ r₄ regs h b last s₀ s₁ s₂ s₃ s₄ n k f₀ e₁ f₁ e₂ f₂ en ek el e₃ f₃ e₄ f₄ =
    let m = at_first regs in
    let g₁ : s₁ ≡ absorbed r m (padded h) = f₁ ∙ ap (λ z. absorbed r z (padded h)) f₀ in
    let g₂ : s₂ ≡ absorbed r (absorbed r m (padded h)) (padded b) = f₂ ∙ ap (λ q. absorbed q s₁ (padded b)) e₁ ∙ ap (λ z. absorbed r z (padded b)) g₁ in
    let gl : last ≡ length_block (length h) (length b) = el ∙ ap (λ z. length_block z k) en ∙ ap (length_block (length h)) ek in
    let g₃ : s₃ ≡ after r (absorbed r (absorbed r m (padded h)) (padded b)) (length_block (length h) (length b)) =
    f₃ ∙ ap (λ q. after q s₂ last) (e₂ ∙ e₁) ∙ ap (λ z. after r z last) g₂ ∙ ap (after r (absorbed r (absorbed r m (padded h)) (padded b))) gl in
    let g₄ : s₄ ≡ absorbed r m (message r h b) = f₄ ∙ ap (λ q. filled q s₃) (e₃ ∙ e₂ ∙ e₁) ∙ ap (filled r) g₃ ∙ message_leads r regs h b in
    let g : r₄ ≡ r = e₄ ∙ e₃ ∙ e₂ ∙ e₁ in
    λ i. record { rule = g i; state = g₄ i }

-- a mode that was loaded, and then led
pub loaded_led : (r : Rule) (key iv h b : List ℕ) (s : State) (r₀ : Rule) (c : Closed) →
    r₀ ≡ r → s ≡ loaded r key iv → ((regs : List (List ℕ)) → s ≡ at_first regs → c ≡ record { rule = r₀; state = absorbed r₀ (at_first regs) (message r₀ h b) }) →
    c ≡ record { rule = r; state = absorbed r (loaded r key iv) (message r h b) }
loaded_led r key iv h b s r₀ c er es led = led (r.load key iv) es ∙ ap (λ q. record { rule = q; state = absorbed q (loaded r key iv) (message q h b) }) er

pub whole_tagged : (r : Rule) (key iv h b : List ℕ) (end : Closed) (old new : List ℕ) (a : Result (Unit {0}) Refusal) →
    end ≡ record { rule = r; state = absorbed r (loaded r key iv) (message r h b) } → Countable h → Countable b → Tagged end old a new → MessageTagged r key iv h b old a new
whole_tagged r key iv h b end old new a e ch cb t =
    by a (subst (λ (c : Closed). Tagged c old a new) e t)
  where
    by : (a : Result (Unit {0}) Refusal) → Tagged (record { rule = r; state = absorbed r (loaded r key iv) (message r h b) }) old a new → MessageTagged r key iv h b old a new
    by (Ok x) t = (ch, cb, t.0, t.1)
    by (Err e) t = (t.2, inr (ch, cb, t.0, t.1))

pub whole_compared : (r : Rule) (key iv h b : List ℕ) (end : Closed) (received : List ℕ) (n left : ℕ) (a : Result Verdict Refusal) →
    end ≡ record { rule = r; state = absorbed r (loaded r key iv) (message r h b) } → Countable h → Countable b → Compared end received n a left → MessageCompared r key iv h b received n a left
whole_compared r key iv h b end received n left a e ch cb t =
    by a (subst (λ (c : Closed). Compared c received n a left) e t)
  where
    by : (a : Result Verdict Refusal) → Compared (record { rule = r; state = absorbed r (loaded r key iv) (message r h b) }) received n a left → MessageCompared r key iv h b received n a left
    by (Ok v) t = (ch, cb, t.0, t.1, t.2)
    by (Err e) t = (t.0, inr (ch, cb, t.1))
