use Rattle.std.proofs.Common.{sym, ◌∙◌}
use Rattle.cli_words.proofs.Numerals.{parsed_magnitude, digits_are_text}
use Rattle.cli_words.proofs.list.magnitude.Goals as goal

pub returns-in-Ok : goal.returns-in-Ok
returns-in-Ok c =
    c.ok.ensures.value ∙ parsed_magnitude c.args.digits.now c.in-Ok.text.now c.parse.result c.in-Ok.ensures.cases.0 (sym c.are_digits.ensures ∙ c.if-not-are_digits.false) c.parse.ensures.value.0

pub returns-in-Err : goal.returns-in-Err
returns-in-Err c = absurd (c.in-Err.ensures.cases.0 (digits_are_text c.args.digits.now (sym c.are_digits.ensures ∙ c.if-not-are_digits.false)))
