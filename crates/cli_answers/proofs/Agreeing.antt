-- What is lowered agrees with its source, so both may be compared.
use Rattle.std.proofs.Common.{◌≡◌, ◌<◌, ℕ, List, length, Ok, Err, refl, subst, arith}
use Rattle.std.specs.Prelude.{◌^◌, IfOk, Result}
use Rattle.cli_answers.specs.Answers.{AreAgreeing, IsComparedOf, IsComparison, IsInput, options_of}
use Rattle.cli_compare.specs.cli_runs.cli_entries.declared.verdict.Answer.{Answer}
use Rattle.cli_words.specs.declared.words.RunWords.{RunWords}
use Rattle.cli_compare.specs.compiler.Lowering.{IsLowering}
use Rattle.cli_compare.specs.compiler.Printed.{HasFewNames}
use Rattle.cli_compare.specs.compiler.declared.lowered.Lowering.{Lowering}
use Rattle.cli_compare.proofs.compiler_theorem.theorem.Texts.{texts_kept}
use Rattle.ir_base.specs.declared.status.Options.{Options}

pub are_agreeing : (options : Options) (bytes : List ℕ) (l : Lowering) → IsInput bytes → IsLowering options bytes l
    → HasFewNames l → AreAgreeing l
are_agreeing options bytes (Lowering.Done l) input low few =
    let short : length bytes < 2 ^ 31 = omega (arith, input.few) in
    (texts_kept options bytes input.are short l low few).lowered
are_agreeing options bytes (Lowering.Syntax items) input low few = tt
are_agreeing options bytes (Lowering.Refused m rule place) input low few = tt

pub comparison_by : {E : Type 0} (bytes : List ℕ) (w : RunWords) (options : Options) (l : Lowering)
    (r : Result Answer E) → options ≡ options_of w.plain → IsLowering options bytes l → HasFewNames l
    → IfOk r (λ a. IsComparedOf l w a) → IfOk r (λ a. IsComparison bytes w a)
comparison_by bytes w options l (Ok a) same low few is = record {
  lowering = l;
  lowered = subst (λ (o : Options). IsLowering o bytes l) same low;
  few = few;
  is = is;
}
comparison_by bytes w options l (Err e) same low few is = is
