-- What is answered, where the first broken rule or the lowering is told.
use Rattle.std.proofs.Common.{◌≡◌, ℕ, Bool, List, Option, Ok, Err, subst}
use Rattle.std.specs.Prelude.{Result, IfOk}
use Rattle.ir_base.specs.declared.status.Options.{Options}
use Rattle.cli_answers.specs.Answers.{IsMadeOf, IsMadeOfAcceptance, IsMadeOfRefusal, IsMadeOfRules, check_answer, checked_run, options_of}
use Rattle.cli_compare.specs.cli_runs.cli_entries.declared.verdict.Answer.{Answer}
use Rattle.cli_words.specs.declared.words.RunWords.{RunWords}
use Rattle.rule_all.specs.Refused.{IsRefused}
use Rattle.ir_model.specs.declared.module.Module.{Module}
use Rattle.cli_compare.specs.compiler.Lowering.{IsLowering}
use Rattle.cli_compare.specs.compiler.NoCoroutine.{LeavesNoCoroutine}
use Rattle.cli_compare.specs.compiler.Printed.{HasFewNames, IsReadPlain}
use Rattle.cli_compare.specs.compiler.declared.lowered.Lowering.{Lowering}
use Rattle.cli_compare.specs.frame_acceptance.Acceptance.{IsAcceptance, IsRefusedFor}
use Rattle.cli_compare.specs.frame_acceptance.declared.accepting.Acceptance.{Acceptance}
use Rattle.rule_modules.specs.declared.order.Refusal.{Refusal}
use Rattle.rule_names.specs.declared.stage.Stage.{Stage}

pub run_where_checked : {E : Type 0} (m : Module) (w : RunWords) (refusal : Option Refusal) (r : Result Answer E) → IsRefused Stage.Plain m refusal → IfOk r (λ a. a ≡ checked_run refusal m w) → IfOk r (λ a. IsMadeOfRules Stage.Plain m (λ x. checked_run x m w) a)
run_where_checked m w refusal (Ok a) refused is = record { refusal = refusal; refused = refused; is = is }
run_where_checked m w refusal (Err e) refused is = is

pub checked_by : {E : Type 0} (stage : Stage) (m : Module) (refusal : Option Refusal) (r : Result Answer E) → IsRefused stage m refusal → IfOk r (λ a. a ≡ check_answer m refusal) → IfOk r (λ a. IsMadeOfRules stage m (check_answer m) a)
checked_by stage m refusal (Ok a) refused is = record { refusal = refusal; refused = refused; is = is }
checked_by stage m refusal (Err e) refused is = is

pub made_by : {E : Type 0} (plain : Bool) (options : Options) (bytes : List ℕ) (make : Lowering → Answer) (l : Lowering)
    (r : Result Answer E) → options ≡ options_of plain → IsLowering options bytes l → HasFewNames l → LeavesNoCoroutine l
    → IsReadPlain l → IfOk r (λ a. a ≡ make l) → IfOk r (λ a. IsMadeOf plain bytes make a)
made_by plain options bytes make l (Ok a) same lowered few none printed is =
    record {
      lowering = l;
      lowered = subst (λ (o : Options). IsLowering o bytes l) same lowered;
      few = few;
      none = none;
      printed = printed;
      is = is;
    }
made_by plain options bytes make l (Err e) same lowered few none printed is = is

pub refused_by : {E : Type 0} (m : Module) (refusal : Option Refusal) (r : Result Answer E) → IsRefusedFor m refusal → IfOk r (λ a. a ≡ check_answer m refusal) → IfOk r (λ a. IsMadeOfRefusal m (check_answer m) a)
refused_by m refusal (Ok a) refused is = record { refusal = refusal; refused = refused; is = is }
refused_by m refusal (Err e) refused is = is

pub accepted_by : {E : Type 0} (m : Module) (share : Bool) (make : Acceptance → Answer) (x : Acceptance) (r : Result Answer E) → IsAcceptance m share x → IfOk r (λ a. a ≡ make x) → IfOk r (λ a. IsMadeOfAcceptance m share make a)
accepted_by m share make x (Ok a) accepted is = record { acceptance = x; accepted = accepted; is = is }
accepted_by m share make x (Err e) accepted is = is
