-- A machine with the facts of its module shows what is seen of the source.
use Rattle.std.proofs.Common.{◌≡◌, ◌∙◌, ℕ, ℤ, List, Ok, Err, refl, sym, ap, subst}
use Rattle.std.specs.Prelude.{IfOk, Result}
use Rattle.flow_facts.specs.HaveFacts.{HaveFacts}
use Rattle.ir_base.specs.declared.outcome.Outcome.{Outcome}
use Rattle.ir_base.specs.declared.outcome.Word.{Word}
use Rattle.ir_model.specs.declared.module.Frame.{Frame}
use Rattle.ir_model.specs.declared.module.Function.{Function}
use Rattle.ir_model.specs.declared.module.Module.{Module}
use Rattle.ir_paths.specs.declared.point.Facts.{Facts}
use Rattle.run_source.specs.Machines.{SourceRun, machine_at, ran, run_of}
use Rattle.run_source.specs.declared.machine.SourceMachine.{SourceMachine}
use Rattle.run_source_facts.proofs.Steps.{seen-same}
use Rattle.run_step.specs.Runs.{Seen}
use Rattle.run_whole.specs.Source.{IsStarted, ShowsSource, seen_now}

module _ (m : Module) (sizes : List Frame) (entry : ℕ) (args : List Word) (answers : List ℤ) where
  started : (facts : List Facts) → HaveFacts m.functions facts → (r : SourceRun)
      → r ≡ machine_at (record { code = m; sizes = sizes; answers = answers; facts = facts }) entry args 0
      → IsStarted m sizes entry args answers r
  started facts have r is =
      subst (IsStarted m sizes entry args answers) (sym is) (record {
        code = refl;
        seen = λ n. seen-same m sizes answers facts entry args n have;
      })

  pub started_by : {E : Type 0} (facts : List Facts) (functions : List Function) (r : Result SourceMachine E)
      → functions ≡ m.functions → HaveFacts functions facts
      → IfOk r (λ s. run_of s ≡ machine_at (record { code = m; sizes = sizes; answers = answers; facts = facts }) entry args 0)
      → IfOk r (λ s. IsStarted m sizes entry args answers (run_of s))
  started_by facts functions (Ok s) same have is =
      started facts (subst (λ (fs : List Function). HaveFacts fs facts) same have) (run_of s) is
  started_by facts functions (Err e) same have is = is

  pub shows_source : (steps : ℕ) (r : SourceRun) (s : SourceMachine) (outcome : Outcome)
      → IsStarted m sizes entry args answers r → run_of s ≡ ran steps r → outcome ≡ s.state.outcome
      → ShowsSource m sizes entry args answers steps (record { machine = s; outcome = outcome })
  shows_source steps r s outcome is done told =
      let seen = ap (λ (x : SourceRun). seen_now x) done ∙ is.seen steps in
      record {
        code = ap (λ (x : SourceRun). x.given.code) done ∙ is.code;
        seen = seen;
        outcome = told ∙ ap (λ (x : Seen). x.outcome) seen;
      }
