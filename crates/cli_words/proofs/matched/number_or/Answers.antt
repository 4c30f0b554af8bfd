use Rattle.std.proofs.Common.{ℕ, Option, sym, ap, ◌∙◌}
use Rattle.std.specs.Prelude.{unwrap_or}
use Rattle.std.specs.Result.{result_ok}
use Rattle.std.specs.Str.Parse.{without_leading_plus}
use Rattle.cli_words.proofs.Numerals.{parsed_number}
use Rattle.cli_words.proofs.matched.number_or.Goals as goal

pub returns-in-Ok : goal.returns-in-Ok
returns-in-Ok c =
    sym (ap (λ r. unwrap_or (result_ok r) c.args.other) c.in-Ok.is)
    ∙ ap (λ (o : Option ℕ). unwrap_or o c.args.other) (parsed_number (without_leading_plus c.args.text.now) c.parse.result c.parse.ensures.value.0)

pub returns-in-Err : goal.returns-in-Err
returns-in-Err c =
    sym (ap (λ r. unwrap_or (result_ok r) c.args.other) c.in-Err.is)
    ∙ ap (λ (o : Option ℕ). unwrap_or o c.args.other) (parsed_number (without_leading_plus c.args.text.now) c.parse.result c.parse.ensures.value.0)
