-- Streams that take the blocks in turn: each does the rounds of its part of them, so the reach is n times that of the rounds.
use Rattle.std.proofs.Common.{◌≡◌, ℕ, zero, suc, ◌+◌, ◌-◌, ◌*◌, ◌<◌, cond, ltb, leb, ◌≢◌, List, [], ◌∷◌, length, get_or, set, sym, refl, ap, ◌∙◌, ap₂, not-suc-le-zero, arith, length-set}
use Rattle.std.specs.List.{AllByRecursion}
use Rattle.std.proofs.lemmas.List.{get_or-set_same, get_or-set_other}
use Rattle.std.proofs.ByRecursion.{All-get_or, All-set}
use Rattle.std.proofs.lemmas.Bool.Decides.{nat_tests}
use Rattle.aes.specs.Blocks.{Block}
use Rattle.rounds.specs.Round.{Registers, Sound, Sigma, Undone, blank, round, rounds}
use Rattle.rounds.specs.Cycle.{next}
use Rattle.rounds.specs.Reach.{Reaches}
use Rattle.rounds.proofs.Near.{twice_near}
use Rattle.rounds.proofs.Reach.{reach}
use Rattle.rounds.proofs.Round.{round_sound}
use Rattle.rounds.proofs.Cycle.{next_within}
use Rattle.rounds.proofs.Parts.{part, all_part, near_part, same_parts}

-- streams of registers, and the one whose turn it is
pub record Streams : Type 0 where
  pub streams : List Registers
  pub turn : ℕ

unfoldable pub take : Sigma → ℕ → Streams → List ℕ → Streams
take c n m b = record { streams = set m.streams m.turn (round c (get_or m.streams m.turn blank) b); turn = next n m.turn }

abbrev pub takes : Sigma → ℕ → Streams → List (List ℕ) → Streams
takes c n m [] = m
takes c n m (b ∷ bs) = takes c n (take c n m b) bs

abbrev pub leads : Sigma → ℕ → Streams → List (List ℕ) → List Registers
leads c n m bs = (takes c n m bs).streams

pub record Ready (n : ℕ) (m : Streams) : Type 0 where
  pub count : length m.streams ≡ n
  pub within : m.turn < n
  pub sound : AllByRecursion Sound m.streams

-- how many blocks come before the next one of stream j
abbrev wait : ℕ → ℕ → ℕ → ℕ
wait n t j = cond (leb t j) (j - t) (j + n - t)

wait_zero : (n t j : ℕ) → t < n → j < n → wait n t j ≡ 0 → j ≡ t
wait_zero n t j ht hj e = grind (arith, nat_tests)

wait_again : (k t : ℕ) → t < suc k → wait (suc k) (next (suc k) t) t ≡ k
wait_again k t ht = grind (arith, nat_tests)

wait_other : (n t j w : ℕ) → t < n → j < n → wait n t j ≡ suc w → j ≢ t
wait_other n t j w ht hj e = grind (arith, nat_tests)

wait_less : (n t j w : ℕ) → t < n → j < n → wait n t j ≡ suc w → wait n (next n t) j ≡ w
wait_less n t j w ht hj e = grind (arith, nat_tests)

-- the stream that waits for w blocks
abbrev served : ℕ → ℕ → ℕ → ℕ
served n t w = cond (ltb (t + w) n) (t + w) (t + w - n)

served_within : (n t w : ℕ) → t < n → w < n → served n t w < n
served_within n t w ht hw = grind (arith, nat_tests)

wait_served : (n t w : ℕ) → t < n → w < n → wait n t (served n t w) ≡ w
wait_served n t w ht hw = grind (arith, nat_tests)

module _ (c : Sigma) (l : Undone c) (k : ℕ) where
  pub take_ready : (m : Streams) (b : List ℕ) → Ready (suc k) m → Block b → Ready (suc k) (take c (suc k) m b)
  unfolding take
  take_ready m b r kb = record {
    count = length-set m.streams m.turn (round c (get_or m.streams m.turn blank) b) ∙ r.count;
    within = next_within (suc k) m.turn r.within;
    sound = All-set Sound m.streams m.turn (round c (get_or m.streams m.turn blank) b)
        (round_sound c l (get_or m.streams m.turn blank) b (All-get_or Sound m.streams m.turn blank (omega arith) r.sound) kb) r.sound;
  }

  took : (m : Streams) (b : List ℕ) → Ready (suc k) m → get_or (take c (suc k) m b).streams m.turn blank ≡ round c (get_or m.streams m.turn blank) b
  unfolding take
  took m b r = get_or-set_same m.streams m.turn (round c (get_or m.streams m.turn blank) b) blank (omega (arith, r.count, r.within))

  left : (m : Streams) (b : List ℕ) (j : ℕ) → j ≢ m.turn → get_or (take c (suc k) m b).streams j blank ≡ get_or m.streams j blank
  unfolding take
  left m b j ne = get_or-set_other m.streams m.turn j (round c (get_or m.streams m.turn blank) b) blank ne

  turned : (m : Streams) (b : List ℕ) → (take c (suc k) m b).turn ≡ next (suc k) m.turn
  unfolding take
  turned m b = refl

  stream : (bs : List (List ℕ)) (m : Streams) (j w : ℕ) → Ready (suc k) m → AllByRecursion Block bs → j < suc k → wait (suc k) m.turn j ≡ w → get_or (leads c (suc k) m bs) j blank ≡ rounds c (get_or m.streams j blank) (part k w bs)
  stream [] m j w r kbs hj e = refl
  stream (b ∷ bs) m j zero r kbs hj e =
      let at : j ≡ m.turn = wait_zero (suc k) m.turn j r.within hj e in
      let m2 = take c (suc k) m b in
      let ew : wait (suc k) m2.turn j ≡ k = ap₂ (wait (suc k)) (turned m b) at ∙ wait_again k m.turn r.within in
      stream bs m2 j k (take_ready m b r kbs.0) kbs.1 hj ew
      ∙ ap (λ s. rounds c s (part k k bs)) (ap (λ (i : ℕ). get_or m2.streams i blank) at ∙ took m b r ∙ ap (λ (i : ℕ). round c (get_or m.streams i blank) b) (sym at))
  stream (b ∷ bs) m j (suc w) r kbs hj e =
      let m2 = take c (suc k) m b in
      let ew : wait (suc k) m2.turn j ≡ w = ap (λ (t : ℕ). wait (suc k) t j) (turned m b) ∙ wait_less (suc k) m.turn j w r.within hj e in
      stream bs m2 j w (take_ready m b r kbs.0) kbs.1 hj ew
      ∙ ap (λ s. rounds c s (part k w bs)) (left m b j (wait_other (suc k) m.turn j w r.within hj e))

  reaches : Reaches (3 * suc k) (Ready (suc k)) (leads c (suc k))
  reaches m xs ys r kxs kys n ne e =
      ne (same_parts k xs ys n.long (λ w hw.
      let j = served (suc k) m.turn w in
      let hj = served_within (suc k) m.turn w r.within hw in
      let ew = wait_served (suc k) m.turn w r.within hw in
      let hl : j < length m.streams = omega (arith, r.count) in
      let sx = stream xs m j w r kxs hj ew in
      let sy = stream ys m j w r kys hj ew in
      reach c l (get_or m.streams j blank) (part k w xs) (part k w ys) (All-get_or Sound m.streams j blank hl r.sound)
      (all_part k Block w xs kxs) (all_part k Block w ys kys) (twice_near 3 (part k w xs) (part k w ys) (near_part k xs ys w hw n))
      (sym sx ∙ ap (λ ss. get_or ss j blank) e ∙ sy)))

pub streams_reach : (c : Sigma) → Undone c → (n : ℕ) → Reaches (3 * n) (Ready n) (leads c n)
streams_reach c l zero = λ m xs ys r kxs kys n ne e. absurd (not-suc-le-zero r.within)
streams_reach c l (suc k) = reaches c l k
