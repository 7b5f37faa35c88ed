-- Folds and edits of streams.
use Rattle.std.specs.Prelude.{◌≡◌, ℕ, ◌<◌, ◌≤◌, List, [], ◌∷◌, map, length, take, set, fold, slice_index_or, slice_set, refl}
use Rattle.std.proofs.Common.{sym, ap, ◌∙◌, arith}
use Rattle.std.proofs.Math.Seq.{take-set-lt}
use Rattle.std.specs.List.{range_with_len, AllByRecursion}
use Rattle.std.proofs.lemmas.List.{get_or-map, get_or-take, length-take-le, length-map, map-set}
use Rattle.std.proofs.lemmas.List.FromFn.{fill_by_all}
use Rattle.aes.specs.Blocks.{moved}
use Rattle.rounds.specs.Round.{Registers, Sound}
use Rattle.rounds.specs.Permutations.{pi_1}
use Rattle.rounds.specs.Round.{blank}
use Rattle.rounds.proofs.Permutations.{sigma1_undone}
use Rattle.rounds.specs.Permutations.{sigma1}
use Rattle.rounds.specs.Mixing.{zero_registers, ◌⊞◌, dummy_rounds}
use Rattle.smac.specs.Smac.{joined, flat, threes, stream_start}
use Rattle.smac.proofs.Shapes.{threes_flat}
use Rattle.words.specs.Words.{bytes}
use Rattle.sigma.specs.declared.Whole.{Whole}
use Rattle.registers.specs.declared.RegisterWords.{RegisterWords}
use Rattle.registers.specs.Registers.{regs}
use Rattle.registers.proofs.Sound.{regs_sound}
use Rattle.words.proofs.Zeros.{none}

abbrev pub empty : RegisterWords Whole
empty = record { p1 = none; a2 = none; a3 = none; permuted = record {} }

pub empty_zero : regs sigma1 empty ≡ zero_registers
unfolding bytes moved pi_1
empty_zero = refl

abbrev pub add : Registers → RegisterWords Whole → Registers
add t s = t ⊞ dummy_rounds sigma1 6 (regs sigma1 s)

folded_map : (ss : List (RegisterWords Whole)) (t : Registers) → fold (λ t s. t ⊞ dummy_rounds sigma1 6 s) t (map (regs sigma1) ss) ≡ fold add t ss
folded_map [] t = refl
folded_map (s ∷ ss) t = folded_map ss (add t s)

pub joined_folded : (ss : List (RegisterWords Whole)) → joined (map (regs sigma1) ss) ≡ fold add zero_registers ss
unfolding joined
joined_folded ss = folded_map ss zero_registers

-- what the first n streams stand for
abbrev pub shown : ℕ → List (RegisterWords Whole) → List Registers
shown n ss = map (regs sigma1) (take n ss)

pub shown_long : (n : ℕ) (ss : List (RegisterWords Whole)) → n ≤ length ss → length (shown n ss) ≡ n
shown_long n ss h = length-map (take n ss) (regs sigma1) ∙ length-take-le n ss h

pub shown_sound : (ss : List (RegisterWords Whole)) → AllByRecursion Sound (map (regs sigma1) ss)
shown_sound [] = tt
shown_sound (s ∷ ss) = (regs_sound sigma1 sigma1_undone s, shown_sound ss)

pub shown_at : (n : ℕ) (ss : List (RegisterWords Whole)) (k : ℕ) (d : RegisterWords Whole) → k < n → n ≤ length ss → slice_index_or (shown n ss) k blank ≡ regs sigma1 (slice_index_or ss k d)
shown_at n ss k d h long =
    get_or-map (regs sigma1) (take n ss) k d blank (omega (arith, length-take-le n ss long)) ∙ ap (regs sigma1) (get_or-take n ss k d h)

-- one stream changed
pub changed : (n : ℕ) (ss : List (RegisterWords Whole)) (p : ℕ) (r d : RegisterWords Whole) (f : Registers → Registers) → p < n → n ≤ length ss → regs sigma1 r ≡ f (regs sigma1 (slice_index_or ss p d))
    → flat (shown n (slice_set ss p r)) ≡ flat (slice_set (threes (flat (shown n ss))) p (f (slice_index_or (threes (flat (shown n ss))) p blank)))
changed n ss p r d f h long e =
    ap flat
    (ap (map (regs sigma1)) (take-set-lt n ss p r h)
    ∙ map-set (regs sigma1) (take n ss) p r
    ∙ ap (set (shown n ss) p) (e ∙ ap f (sym (shown_at n ss p d h long)))
    ∙ ap (λ ts. set ts p (f (slice_index_or ts p blank))) (sym (threes_flat (shown n ss))))

-- the streams loaded
pub started : (n : ℕ) (key iv : List ℕ) (ss : List (RegisterWords Whole)) (d : RegisterWords Whole) → n ≤ length ss → ((k : ℕ) → k < n → regs sigma1 (slice_index_or ss k d) ≡ stream_start n key iv k)
    → shown n ss ≡ map (stream_start n key iv) (range_with_len 0 n)
started n key iv ss d long each =
    fill_by_all (stream_start n key iv) (shown n ss) n blank (shown_long n ss long) (λ k h. shown_at n ss k d h long ∙ each k h)
