use Rattle.std.proofs.Common.{rules, ◌≡◌, ℕ, ◌^◌, ◌<◌, List, codes, arith}
use Rattle.modes.specs.Names.{Streams, Names}
use Rattle.modes.specs.declared.kinds.ModeKind.{ModeKind}
use Rattle.modes.specs.declared.kinds.ModeKind.TheVariants as kind
use Rattle.modes.proofs.names.ModeKindFromStr.from_str.Goals as goal

unnamed : (text : List ℕ) → ¬ (text ≡ codes "smac-1") → ¬ (text ≡ codes "smac-3/4") → ¬ (text ≡ codes "smac-1/2") → ((n : ℕ) → n < 2 ^ 8 → ¬ (Streams text n)) → (k : ModeKind) → ¬ (Names text k)
unnamed text one two three streams kind.Smac1 h = one h
unnamed text one two three streams kind.Smac34 h = two h
unnamed text one two three streams kind.Smac12 h = three h
unnamed text one two three streams (kind.Smac1xN c) h =
    let most = c.most in
    streams c.n (omega arith) h

-- src/names.rt:61:31
pub returns-in_err-streams-in_default : goal.returns-in_err-streams-in_default
returns-in_err-streams-in_default c = search (rules, unnamed)
