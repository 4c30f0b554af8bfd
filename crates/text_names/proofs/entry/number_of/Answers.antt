use Rattle.std.proofs.Common.{decimal, sym, subst, ap, ◌∙◌, arith}
use Rattle.std.specs.Prelude.{IsUtf8}
use Rattle.std.specs.Result.{result_ok}
use Rattle.std.proofs.lemmas.Str.{IsUtf8-from_ascii}
use Rattle.std.proofs.lemmas.Fmt.{IsAscii-decimal, parse-decimal}
use Rattle.text_names.proofs.entry.number_of.Goals as goal

pub returns-in-Err : goal.returns-in-Err
returns-in-Err c = λ n h e.
    let is_text = subst IsUtf8 (sym e) (IsUtf8-from_ascii (decimal n) (IsAscii-decimal n (omega arith))) in
    absurd (c.in-Err.ensures.cases.0 is_text)

pub returns-in-Ok : goal.returns-in-Ok
returns-in-Ok c = λ n h e.
    let parsed = parse-decimal 32 n c.in-Ok.text.now c.parse.result h (omega arith) (c.in-Ok.ensures.cases.0 ∙ e) c.parse.ensures.value.0 in
    c.ok.ensures.value ∙ ap result_ok parsed
