-- States of a lawful rule: they stay good, and each way undoes the other.
use Rattle.std.proofs.Common.{◌≡◌, ℕ, List, [], ◌∷◌, ◌++◌, length, refl, ap, ◌∙◌}
use Rattle.aes.specs.Blocks.{Block}
use Rattle.rounds.specs.Cycle.{prev}
use Rattle.rounds.proofs.Cycle.{next_within, prev_within, prev_next, next_prev}
use Rattle.std.specs.List.{AllByRecursion}
use Rattle.mode.specs.Rules.{Rule, State, Good, Key, Lawful, loaded, after, before, absorbed, retraced, place_after}

pub same_state : {s t : State} → s.regs ≡ t.regs → s.place ≡ t.place → s ≡ t
same_state p q = λ i. record { regs = p i; place = q i }

-- a call that leaves the rule
pub under : {q r : Rule} {s t : State} {b : List ℕ} → q ≡ r → t ≡ after q s b → t ≡ after r s b
under {q} {r} {s} {t} {b} e f = f ∙ ap (λ z. after z s b) e

module _ (r : Rule) (l : Lawful r) where
  pub loaded_good : (key iv : List ℕ) → Key key → Block iv → Good r (loaded r key iv)
  loaded_good key iv h b = record { fit = l.load_fit key iv h b; within = l.starts }

  pub after_good : (s : State) (b : List ℕ) → Good r s → Block b → Good r (after r s b)
  after_good s b g k = record { fit = l.step_fit s.place s.regs b g.within g.fit k; within = next_within _ _ g.within }

  pub before_good : (s : State) (b : List ℕ) → Good r s → Block b → Good r (before r s b)
  before_good s b g k =
      let h = prev_within r.cycle s.place g.within in
      record { fit = l.undo_fit _ s.regs b h g.fit k; within = h }

  pub before_after : (s : State) (b : List ℕ) → Good r s → Block b → before r (after r s b) b ≡ s
  before_after s b g k =
      let e = prev_next r.cycle s.place g.within in
      same_state (ap (λ (p : ℕ). r.undo p (r.step s.place s.regs b) b) e ∙ l.undo_step s.place s.regs b g.within g.fit k) e

  pub after_before : (s : State) (b : List ℕ) → Good r s → Block b → after r (before r s b) b ≡ s
  after_before s b g k =
      same_state (l.step_undo (prev r.cycle s.place) s.regs b (prev_within _ _ g.within) g.fit k) (next_prev r.cycle s.place g.within)

-- walking back over a list that ends with b begins with b
pub retraced_last : (r : Rule) (s : State) (bs : List (List ℕ)) (b : List ℕ) → retraced r s (bs ++ b ∷ []) ≡ retraced r (before r s b) bs
retraced_last r s [] b = refl
retraced_last r s (c ∷ bs) b = ap (λ t. before r t c) (retraced_last r s bs b)

-- walking back over what was absorbed
pub retraced_absorbed : (r : Rule) → Lawful r → (s : State) (bs : List (List ℕ)) → Good r s → AllByRecursion Block bs → retraced r (absorbed r s bs) bs ≡ s
retraced_absorbed r law s [] g h = refl
retraced_absorbed r law s (b ∷ bs) g h =
    ap (λ z. before r z b) (retraced_absorbed r law (after r s b) bs (after_good r law s b g h.0) h.1) ∙ before_after r law s b g h.0

pub absorbed_append : (r : Rule) (s : State) (xs ys : List (List ℕ)) → absorbed r s (xs ++ ys) ≡ absorbed r (absorbed r s xs) ys
absorbed_append r s [] ys = refl
absorbed_append r s (x ∷ xs) ys = absorbed_append r (after r s x) xs ys

pub absorbed_place : (r : Rule) (s : State) (bs : List (List ℕ)) → (absorbed r s bs).place ≡ place_after r s.place (length bs)
absorbed_place r s [] = refl
absorbed_place r s (b ∷ bs) = absorbed_place r (after r s b) bs
