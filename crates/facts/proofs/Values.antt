-- The facts, computed.
use Rattle.std.proofs.Common.{◌≡◌, ℕ, ◌-◌, ◌^◌, List, length, get_or, set, Ok, Err, Result, refl, arith}
use Rattle.std.proofs.lemmas.List.{get_or-set_same}
use Rattle.refusals.specs.declared.Refusal.{Refusal}
use Rattle.refusals.specs.Numbers.{Accepted, RefusedWith}
use Rattle.aes.specs.Blocks.{block, ◌⊕◌, moved}
use Rattle.aes.specs.Field.{xtime}
use Rattle.aes.specs.Round.{sub, times3, mix, SubBytes, ShiftRows, MixColumns, F}
use Rattle.rounds.specs.Round.{round}
use Rattle.rounds.specs.Mixing.{dummy, dummy_rounds, ◌⊞◌, mixed}
use Rattle.rounds.specs.Permutations.{pi_1, pi_3/4, pi_1/2}
use Rattle.smac.specs.Smac.{stream_start, joined}
use Rattle.counts.specs.declared.state.Ceiling.{Ceiling}
use Rattle.counts.specs.Ceilings.{CeilingMade}
use Rattle.facts.specs.Known.{KnownFacts}

highest : (r : Result Ceiling Refusal) → CeilingMade (2 ^ 61 - 1) r → Accepted r
highest (Ok c) h = tt
highest (Err e) h = omega (arith, h.0)

past : (r : Result Ceiling Refusal) → CeilingMade (2 ^ 61) r → RefusedWith 3 r
past (Ok c) h = omega (arith, h.0)
past (Err e) h = h.1

stream_iv : (iv : List ℕ) → length iv ≡ 16 → (v : ℕ) → get_or (set iv 15 v) 15 0 ≡ v
stream_iv iv h v = get_or-set_same iv 15 v 0 (omega arith)

pub known_facts : KnownFacts
unfolding block ◌⊕◌ moved sub xtime times3 mix SubBytes ShiftRows MixColumns F round pi_1 pi_3/4 pi_1/2 dummy ◌⊞◌ dummy_rounds mixed stream_start joined
known_facts = record {
  published_1_1 = refl;
  published_1_4 = refl;
  published_3/4_4 = refl;
  published_1/2_4 = refl;
  independent_1 = refl;
  independent_4 = refl;
  sbox_53h = refl;
  dummy_round = refl;
  empty_message = refl;
  four_blocks = λ h b. refl;
  fourth_block = λ h b. refl;
  bit_count = refl;
  highest_ceiling = highest;
  past_ceilings = past;
  stream_ivs = λ iv h. rw (stream_iv iv h 48, stream_iv iv h 49, stream_iv iv h 50, stream_iv iv h 51);
  five_blocks = λ s b e. rw e refl;
}
