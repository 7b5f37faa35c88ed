-- What every run leads to, the way back, and its tag.
use Rattle.std.proofs.Common.{◌≡◌, ℕ, ◌+◌, List, [], length, take, Ok, Err, Result, sym, refl, ap, ◌∙◌, subst, inl, inr, arith}
use Rattle.std.specs.List.{AllByRecursion}
use Rattle.refusals.specs.declared.Refusal.{Refusal}
use Rattle.aes.specs.Blocks.{Block}
use Rattle.mode.specs.Rules.{Rule, State, Lawful, Good, Key, at_first, after, absorbed, retraced}
use Rattle.mode.proofs.States.{same_state, loaded_good, retraced_absorbed, absorbed_place}
use Rattle.tags.specs.Tags.{Closed, Admitted, Tagged}
use Rattle.message.specs.Framing.{padded, length_block, message}
use Rattle.message.specs.Feeding.{fed, fed_of, flush, filled}
use Rattle.message.proofs.Feedings.{fed_cut}
use Rattle.message.proofs.Leads.{message_leads}
use Rattle.message.proofs.Blocks.{message_blocks}
use Rattle.message.proofs.Frames.{Sizes}
use Rattle.keys.specs.Keys.{iv_of}
use Rattle.run.specs.Calls.{Open, OpenBody, begun, taken, turned, closed}
use Rattle.laws.specs.Runs.{Call, accepted, unrefused, Run, Judged, AllJudged, EveryRun, EveryRunOfAKey}
use Rattle.laws.proofs.Ivs.{iv_block}
use Rattle.laws.proofs.Pieces.{body_part, header_kept, with_header, part_taken, part_bytes, part_fits, part_unrefused, part_judged}

same_body : {s t : OpenBody} → s.header ≡ t.header → s.part ≡ t.part → s ≡ t
same_body p q = λ i. record { header = p i; part = q i }

-- what the calls lead to, if h and b were taken
taken_leads : (r : Rule) (regs : List (List ℕ)) (ceiling : ℕ) (h b : List ℕ) (headed : Open) (bodied : OpenBody) →
    headed ≡ taken (begun r (at_first regs) ceiling) h → bodied.header ≡ headed.count → bodied.part ≡ taken (turned headed).part b →
    closed bodied ≡ record { rule = r; state = absorbed r (at_first regs) (message r h b) }
taken_leads r regs ceiling h b headed bodied eh en eb =
    let m : State = at_first regs in
    let mid : State = absorbed r m (padded h) in
    let n₁ : bodied.header ≡ length h = let e : headed.count ≡ 0 + length h = ap (λ z. z.count) eh in omega arith in
    let n₂ : 0 + length b ≡ length b = omega arith in
    let part : bodied.part ≡ taken (begun r mid ceiling) b = eb ∙ ap (λ z. taken (turned z).part b) eh ∙ ap (λ z. taken (begun r z ceiling) b) (sym (fed_cut r m [] h)) in
    let whole : bodied ≡ record { header = length h; part = taken (begun r mid ceiling) b } = same_body n₁ part in
    ap closed whole
    ∙ ap (λ k. record { rule = r; state = filled r (after r (flush r (fed r (fed_of mid []) b)) (length_block (length h) k)) }) n₂
    ∙ ap (λ z. record { rule = r; state = filled r (after r z (length_block (length h) (length b))) }) (sym (fed_cut r mid [] b))
    ∙ ap (λ z. record { rule = r; state = z }) (message_leads r regs h b)

module _ (r : Rule) (regs : List (List ℕ)) (ceiling : ℕ) (header body : List Call) (end : Closed) (run : Run r regs ceiling header body end) where
  pub run_leads : end ≡ record { rule = r; state = absorbed r (at_first regs) (message r (accepted header) (accepted body)) }
  run_leads =
      run.close
      ∙ taken_leads r regs ceiling (accepted header) (accepted body) run.headed run.bodied (part_taken run.header_pieces) (header_kept run.body_pieces) (part_taken (body_part run.body_pieces))

  header_ceiling : run.headed.ceiling ≡ ceiling
  header_ceiling = ap (λ z. z.ceiling) (part_taken run.header_pieces)

  pub run_sizes : Sizes (accepted header) (accepted body)
  run_sizes =
      let b : run.bodied.part ≡ taken (turned run.headed).part (accepted body) = part_taken (body_part run.body_pieces) in
      let c₁ : run.headed.ceiling ≡ ceiling = header_ceiling in
      let n₁ : run.headed.count ≡ 0 + length (accepted header) = ap (λ z. z.count) (part_taken run.header_pieces) in
      let c₂ : run.bodied.part.ceiling ≡ run.headed.ceiling = ap (λ z. z.ceiling) b in
      let n₂ : run.bodied.part.count ≡ 0 + length (accepted body) = ap (λ z. z.count) b in
      record {
        header = omega (arith, part_fits run.header_pieces (omega arith), run.countable);
        body = omega (arith, part_fits (body_part run.body_pieces) (omega arith), run.countable);
        header_bytes = part_bytes run.header_pieces;
        body_bytes = part_bytes (body_part run.body_pieces);
      }

  run_untraced : Run r regs ceiling (unrefused header) (unrefused body) end
  run_untraced = record {
    countable = run.countable;
    headed = run.headed;
    bodied = record { header = run.headed.count; part = run.bodied.part };
    header_pieces = part_unrefused run.header_pieces;
    body_pieces = with_header run.headed.count (part_unrefused (body_part run.body_pieces));
    close = run.close ∙ ap (λ n. closed (record { header = n; part = run.bodied.part })) (header_kept run.body_pieces);
  }

  body_judged : AllJudged ceiling body
  body_judged earlier later call q =
      subst (λ (c : ℕ). Judged c earlier call) header_ceiling (part_judged refl (body_part run.body_pieces) earlier later call q)

-- a tag of an admitted length
leads_tag : (r : Rule) (s : State) (end : Closed) → end ≡ record { rule = r; state = s } → (old new : List ℕ) (a : Result (Unit {0}) Refusal)
    → Tagged end old a new → Admitted r (length old) → (a ≡ Ok tt) × (new ≡ take (length old) (r.finish s.regs))
leads_tag r s end e old new a t = by a (subst (λ (c : Closed). Tagged c old a new) e t)
  where
    by : (a : Result (Unit {0}) Refusal) → Tagged (record { rule = r; state = s }) old a new → Admitted r (length old) → (a ≡ Ok tt) × (new ≡ take (length old) (r.finish s.regs))
    by (Ok tt) t h = (refl, t.1)
    by (Err x) t h = absurd (elim t.0 [ inl short ↦ omega (arith, h.0) | inr long ↦ omega (arith, h.1) ])

pub every_run : EveryRun Lawful
every_run r law regs good ceiling header body end run =
    let M = message r (accepted header) (accepted body) in
    let e = run_leads r regs ceiling header body end run in
    let z = run_sizes r regs ceiling header body end run in
    let all : AllByRecursion Block M = message_blocks r (accepted header) (accepted body) z.header_bytes z.body_bytes in
    let back : retraced r (absorbed r (at_first regs) M) M ≡ at_first regs = retraced_absorbed r law (at_first regs) M good all in
    record {
      header_refusals = part_judged refl run.header_pieces;
      body_refusals = body_judged r regs ceiling header body end run;
      no_trace = run_untraced r regs ceiling header body end run;
      rule = ap (λ c. c.rule) e;
      leads = ap (λ c. c.state) e;
      walks_back = ap (λ c. retraced r c.state M) e ∙ back;
      only_from = λ other o q.
          let same : absorbed r (at_first other) M ≡ absorbed r (at_first regs) M =
          same_state (q ∙ ap (λ c. c.state.regs) e) (absorbed_place r (at_first other) M ∙ sym (absorbed_place r (at_first regs) M)) in
          ap (λ s. s.regs) (sym (retraced_absorbed r law (at_first other) M o all) ∙ ap (λ s. retraced r s M) same ∙ back);
      tagged = leads_tag r (absorbed r (at_first regs) M) end e;
    }

-- key, office and serial load good registers
pub keyed_good : (r : Rule) → Lawful r → (key : List ℕ) → Key key → (office serial : ℕ) → Good r (at_first (r.load key (iv_of office serial)))
keyed_good r law key k office serial = loaded_good r law key (iv_of office serial) k (iv_block office serial)

pub every_run_of_a_key : EveryRunOfAKey Lawful
every_run_of_a_key r law key k office serial = every_run r law (r.load key (iv_of office serial)) (keyed_good r law key k office serial)
