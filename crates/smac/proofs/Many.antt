-- The laws of SMAC-1×n.
use Rattle.std.proofs.Common.{◌≡◌, ℕ, ◌*◌, ◌<◌, ◌≤◌, ltb, List, [], ◌∷◌, map, length, get_or, set, replicate, fold, sym, refl, ap, ◌∙◌, subst, arith, ltb→lt, length-set}
use Rattle.std.specs.List.{range_with_len, AllByRecursion}
use Rattle.std.proofs.lemmas.Bool.Decides.{nat_tests}
use Rattle.std.proofs.lemmas.List.{get_or-set_same, set-set, set-get_or}
use Rattle.std.proofs.ByRecursion.{All-get_or, All-set, All-from_get_or}
use Rattle.std.proofs.lemmas.List.FromFn.{length-map-range_with_len, get_or-map-range_with_len}
use Rattle.aes.specs.Blocks.{Block}
use Rattle.aes.proofs.Blocks.{is_bytes}
use Rattle.aes.proofs.Sweep.{sweep}
use Rattle.aes.proofs.Xor.{xor_block}
use Rattle.rounds.specs.Round.{Registers, Sound, blank, round, unround}
use Rattle.rounds.proofs.Round.{round_sound, unround_sound, unround_round, round_unround}
use Rattle.rounds.proofs.Streams.{Streams, take as takes1, takes, leads, streams_reach}
use Rattle.rounds.proofs.Permutations.{sigma1_undone}
use Rattle.mode.specs.Rules.{Rule, State, Fit, Lawful, Key, after, absorbed}
use Rattle.mode.proofs.States.{same_state}
use Rattle.smac.specs.Smac.{threes, flat, patched, stream_start, joined, smac1x}
use Rattle.rounds.specs.Mixing.{keyed, zero_registers, ◌⊞◌, dummy_rounds}
use Rattle.rounds.specs.Permutations.{sigma1}
use Rattle.smac.proofs.Shapes.{threes_flat, flat_threes, length_threes, length_flat, sound_threes, blocks_flat, sound_keyed, patched_block, sound_xor, sound_dummy_rounds}

-- a change of element t, and a second that undoes it
there_and_back : (ss : List Registers) (t : ℕ) (f g : Registers → Registers) → t < length ss → g (f (get_or ss t blank)) ≡ get_or ss t blank → set (set ss t (f (get_or ss t blank))) t (g (get_or (set ss t (f (get_or ss t blank))) t blank)) ≡ ss
there_and_back ss t f g h e =
    set-set ss t (f (get_or ss t blank)) (g (get_or (set ss t (f (get_or ss t blank))) t blank))
    ∙ ap (λ s. set ss t (g s)) (get_or-set_same ss t (f (get_or ss t blank)) blank h) ∙ ap (set ss t) e ∙ set-get_or ss t blank

small_zero : (k : ℕ) → k < 16 → get_or (replicate 16 0) k 0 < 256
small_zero k h = ltb→lt _ _ (sweep (λ k. ltb (get_or (replicate 16 0) k 0) 256) 16 tt k h)

zero_registers_sound : Sound zero_registers
zero_registers_sound =
    let z : Block (replicate 16 0) = is_bytes (replicate 16 0) refl small_zero in
    record { one = z; two = z; three = z }

folded_sound : (f : Registers → Registers → Registers) → ((t s : Registers) → Sound t → Sound s → Sound (f t s)) → (t : Registers) (ss : List Registers) → Sound t → AllByRecursion Sound ss → Sound (fold f t ss)
folded_sound f h t [] k ks = k
folded_sound f h t (s ∷ ss) k ks = folded_sound f h (f t s) ss (h t s k ks.0) ks.1

pub joined_sound : (ss : List Registers) → AllByRecursion Sound ss → Sound (joined ss)
unfolding joined
joined_sound ss ks =
    folded_sound (λ t s. t ⊞ dummy_rounds sigma1 6 s) (λ t s kt k. sound_xor t (dummy_rounds sigma1 6 s) kt (sound_dummy_rounds sigma1 sigma1_undone 6 s k)) zero_registers ss zero_registers_sound ks

pub start_sound : (n : ℕ) (key iv : List ℕ) (k : ℕ) → n ≤ 16 → k < n → Key key → Block iv → Sound (stream_start n key iv k)
unfolding stream_start
start_sound n key iv k hn hk h b =
    let own = sound_keyed key (patched n k iv) h (patched_block n k iv (omega arith) b) in
    let first = sound_keyed key (patched n 0 iv) h (patched_block n 0 iv (omega arith) b) in
    sound_xor (dummy_rounds sigma1 8 (keyed key (patched n k iv))) (keyed key (patched n 0 iv)) (sound_dummy_rounds sigma1 sigma1_undone 8 _ own) first

module _ (n : ℕ) (some : 1 ≤ n) (most : n ≤ 16) where
  abbrev rule : Rule
  rule = smac1x n

  pub fit_flat : (ss : List Registers) → length ss ≡ n → AllByRecursion Sound ss → Fit rule (flat ss)
  fit_flat ss e k = record { many = length_flat ss ∙ ap (λ (m : ℕ). 3 * m) e; blocks = blocks_flat ss k }

  abbrev lift : Streams → State
  lift m = record { regs = flat m.streams; place = m.turn }

  stepped : (m : Streams) (b : List ℕ) → after rule (lift m) b ≡ lift (takes1 sigma1 n m b)
  unfolding takes1
  stepped m b =
      ap (λ ss. record { regs = flat (set ss m.turn (round sigma1 (get_or ss m.turn blank) b)); place = (lift (takes1 sigma1 n m b)).place }) (threes_flat m.streams)

  lifted : (m : Streams) (bs : List (List ℕ)) → absorbed rule (lift m) bs ≡ lift (takes sigma1 n m bs)
  lifted m [] = refl
  lifted m (b ∷ bs) = ap (λ s. absorbed rule s bs) (stepped m b) ∙ lifted (takes1 sigma1 n m b) bs

  long : {rs : List (List ℕ)} → Fit rule rs → length (threes rs) ≡ n
  long {rs} f = length_threes n rs f.many

  sounds : {rs : List (List ℕ)} → Fit rule rs → AllByRecursion Sound (threes rs)
  sounds {rs} f = sound_threes rs f.blocks

  sound_at : {rs : List (List ℕ)} → Fit rule rs → (p : ℕ) → p < n → Sound (get_or (threes rs) p blank)
  sound_at {rs} f p h = All-get_or Sound (threes rs) p blank (omega (arith, long f)) (sounds f)

  -- another element at place p
  fit_set : (rs : List (List ℕ)) (p : ℕ) (s : Registers) → Fit rule rs → Sound s → Fit rule (flat (set (threes rs) p s))
  fit_set rs p s f k = fit_flat (set (threes rs) p s) (length-set (threes rs) p s ∙ long f) (All-set Sound (threes rs) p s k (sounds f))

  starts_at : (key iv : List ℕ) → Key key → Block iv → AllByRecursion Sound (map (stream_start n key iv) (range_with_len 0 n))
  starts_at key iv h b =
      let f = stream_start n key iv in
      let e = length-map-range_with_len f 0 n in
      All-from_get_or Sound (map f (range_with_len 0 n)) blank (λ k l.
      let hk : k < n = omega arith in
      subst Sound (sym (get_or-map-range_with_len f 0 n k k blank hk (omega arith))) (start_sound n key iv k most hk h b))

  pub many : Lawful rule
  many = record {
    starts = some;
    few = λ p h. grind (arith, nat_tests);
    load_fit = λ key iv h b. fit_flat _ (length-map-range_with_len (stream_start n key iv) 0 n) (starts_at key iv h b);
    step_fit = λ p rs b h f k. fit_set rs p _ f (round_sound sigma1 sigma1_undone (get_or (threes rs) p blank) b (sound_at f p h) k);
    undo_fit = λ p rs b h f k. fit_set rs p _ f (unround_sound sigma1 sigma1_undone (get_or (threes rs) p blank) b (sound_at f p h) k);
    undo_step = λ p rs b h f k.
        ap (λ ss. flat (set ss p (unround sigma1 (get_or ss p blank) b))) (threes_flat _)
        ∙ ap flat (there_and_back (threes rs) p (λ s. round sigma1 s b) (λ s. unround sigma1 s b) (omega (arith, long f)) (unround_round sigma1 sigma1_undone _ b (sound_at f p h) k))
        ∙ flat_threes n rs f.many;
    step_undo = λ p rs b h f k.
        ap (λ ss. flat (set ss p (round sigma1 (get_or ss p blank) b))) (threes_flat _)
        ∙ ap flat (there_and_back (threes rs) p (λ s. unround sigma1 s b) (λ s. round sigma1 s b) (omega (arith, long f)) (round_unround sigma1 sigma1_undone _ b (sound_at f p h) k))
        ∙ flat_threes n rs f.many;
    apart = λ s xs ys g kx ky near ne e.
        let m : Streams = record { streams = threes s.regs; turn = s.place } in
        let home : lift m ≡ s = same_state (flat_threes n s.regs g.fit.many) refl in
        let to : (bs : List (List ℕ)) → (absorbed rule s bs).regs ≡ flat (leads sigma1 n m bs) = λ bs. ap (λ t. (absorbed rule t bs).regs) (sym home) ∙ ap (λ t. t.regs) (lifted m bs) in
        streams_reach sigma1 sigma1_undone n m xs ys (record { count = long g.fit; within = g.within; sound = sounds g.fit }) kx ky near ne
        (sym (threes_flat (leads sigma1 n m xs)) ∙ ap threes (sym (to xs) ∙ e ∙ to ys) ∙ threes_flat (leads sigma1 n m ys));
    tag_long = λ rs f.
        let j = joined_sound (threes rs) (sounds f) in
        (xor_block _ _ (sound_dummy_rounds sigma1 sigma1_undone 8 (joined (threes rs)) j).two j.two).len;
  }
