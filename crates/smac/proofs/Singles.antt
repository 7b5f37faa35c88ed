-- The laws of the modes of three registers.
use Rattle.std.proofs.Common.{◌≡◌, ℕ, ◌<◌, ◌≤◌, List, [], ◌∷◌, sym, refl, ap, ◌∙◌, arith, length-append}
use Rattle.std.specs.List.{AllByRecursion}
use Rattle.std.proofs.lemmas.List.{length-take-le}
use Rattle.aes.specs.Blocks.{Block}
use Rattle.rounds.specs.Round.{Registers, Sound, Sigma, Undone}
use Rattle.rounds.proofs.Round.{rounds_sound, unrounds_sound, unrounds_rounds, rounds_unrounds}
use Rattle.rounds.specs.Paced.{Pace, smac_1, smac_3/4, smac_1/2}
use Rattle.rounds.proofs.Paced.{Meaning, absorb, absorbs, led, gap, mode_reach, dummy_block, three_blocks, three_short}
use Rattle.rounds.proofs.Permutations.{sigma1_undone, sigma34_undone, sigma12_undone}
use Rattle.mode.specs.Rules.{Rule, State, Fit, Lawful, absorbed}
use Rattle.mode.proofs.States.{same_state}
use Rattle.smac.specs.Smac.{three, only, paced, smac1, smac34, smac12}
use Rattle.rounds.specs.Mixing.{keyed, mixed}
use Rattle.rounds.specs.Permutations.{sigma1, sigma34, sigma12}
use Rattle.smac.proofs.Shapes.{only_three, sound_three, sound_keyed, sound_mixed}

module _ (c : Sigma) (l : Undone c) (pace : Pace) (far long : ℕ) where
  abbrev rule : Rule
  rule = paced c pace far long

  pub fit_only : (s : Registers) → Sound s → Fit rule (only s)
  fit_only s k = record { many = refl; blocks = (k.one, (k.two, (k.three, tt))) }

  -- the state that registers and a place stand for
  abbrev lift : Meaning → State
  lift m = record { regs = only m.registers; place = m.place }

  lifted : (m : Meaning) (bs : List (List ℕ)) → absorbed rule (lift m) bs ≡ lift (absorbs c pace m bs)
  unfolding absorb
  lifted m [] = refl
  lifted m (b ∷ bs) = lifted (absorb c pace m b) bs

  pub lawful : 0 < pace.cycle → long ≤ 32 → ((p : ℕ) → AllByRecursion Block (pace.own p)) → ((p : ℕ) → gap pace far p ≤ 3) → Lawful rule
  lawful some short blocks near = record {
    starts = some;
    few = λ p h. omega arith;
    load_fit = λ key iv h b. fit_only (mixed c (keyed key iv)) (sound_mixed c l (keyed key iv) (sound_keyed key iv h b));
    step_fit = λ p rs b h f k. fit_only _ (rounds_sound c l (three rs) (b ∷ pace.own p) (sound f) (k, blocks p));
    undo_fit = λ p rs b h f k. fit_only _ (unrounds_sound c l (three rs) (b ∷ pace.own p) (sound f) (k, blocks p));
    undo_step = λ p rs b h f k. ap only (unrounds_rounds c l (b ∷ pace.own p) (three rs) (sound f) (k, blocks p)) ∙ only_three rs f.many;
    step_undo = λ p rs b h f k. ap only (rounds_unrounds c l (b ∷ pace.own p) (three rs) (sound f) (k, blocks p)) ∙ only_three rs f.many;
    apart = λ s xs ys g kx ky n ne e.
        let m : Meaning = record { registers = three s.regs; place = s.place } in
        let home : lift m ≡ s = same_state (only_three s.regs g.fit.many) refl in
        let to : (bs : List (List ℕ)) → (absorbed rule s bs).regs ≡ only (led c pace m bs) = λ bs. ap (λ t. (absorbed rule t bs).regs) (sym home) ∙ ap (λ t. t.regs) (lifted m bs) in
        mode_reach pace c l blocks far near m xs ys (record { sound = sound g.fit; within = g.within }) kx ky n ne
        (ap three (sym (to xs) ∙ e ∙ to ys));
    tag_long = λ rs f.
        let k = sound_mixed c l (three rs) (sound f) in
        length-take-le long _ (omega (arith, length-append (mixed c (three rs)).a2 (mixed c (three rs)).a3, k.two.len, k.three.len));
  }
    where
      sound : {rs : List (List ℕ)} → Fit rule rs → Sound (three rs)
      sound {rs} f = sound_three rs f.many f.blocks

pub whole : Lawful smac1
whole = lawful sigma1 sigma1_undone smac_1 3 16 (omega arith) (omega arith) (λ p. tt) (λ p. omega arith)

pub three_quarters : Lawful smac34
three_quarters = lawful sigma34 sigma34_undone smac_3/4 2 20 (omega arith) (omega arith) three_blocks three_short

pub half : Lawful smac12
half = lawful sigma12 sigma12_undone smac_1/2 1 32 (omega arith) (omega arith) (λ p. (dummy_block, tt)) (λ p. omega arith)
