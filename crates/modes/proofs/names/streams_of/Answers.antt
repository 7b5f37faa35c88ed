use Rattle.std.proofs.Common.{rules, ◌≡◌, ap, ◌∙◌, arith}
use Rattle.std.specs.Fmt.{decimal}
use Rattle.std.specs.Result.{result_ok}
use Rattle.std.proofs.lemmas.Fmt.{parse-decimal}
use Rattle.modes.proofs.names.streams_of.Goals as goal

pub returns-clause-printed : goal.returns-clause-printed
returns-clause-printed c = λ n small e.
    let rest : c.in_ok-strip_prefix.field-0.now ≡ decimal n = search rules in
    c.ok.ensures.value ∙ ap result_ok (parse-decimal 8 n c.in_ok-strip_prefix.field-0.now c.parse.result small (omega arith) rest c.parse.ensures.value.0)
