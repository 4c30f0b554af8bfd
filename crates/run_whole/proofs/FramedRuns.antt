-- A machine with the facts of its module shows what is seen of the framed module.
use Rattle.std.proofs.Common.{◌≡◌, ◌∙◌, ℕ, ℤ, List, Ok, Err, refl, sym, ap, subst}
use Rattle.std.specs.Prelude.{IfOk, Result}
use Rattle.frame_layout.specs.declared.layout.Layouts.{Layouts}
use Rattle.ir_base.specs.declared.outcome.Outcome.{Outcome}
use Rattle.ir_base.specs.declared.outcome.Word.{Word}
use Rattle.ir_model.specs.declared.module.Function.{Function}
use Rattle.ir_model.specs.declared.module.Module.{Module}
use Rattle.ir_paths.specs.declared.point.Facts.{Facts}
use Rattle.run_framed.specs.Machines.{FramedRun, machine_at, ran, run_of}
use Rattle.run_framed.specs.declared.machine.FramedMachine.{FramedMachine}
use Rattle.run_framed_facts.proofs.Steps.{seen-same}
use Rattle.run_framed_facts.specs.FramedFacts.{HaveFramedFacts, given_with}
use Rattle.run_step.specs.Runs.{Seen}
use Rattle.run_whole.specs.Framed.{IsStarted, ShowsFramed, seen_now}

module _ (m : Module) (layouts : Layouts) (entry : ℕ) (args : List Word) (answers : List ℤ) where
  started : (facts : List Facts) → HaveFramedFacts m.functions facts → (r : FramedRun)
      → r ≡ machine_at (given_with m layouts.coroutines answers facts) entry args 0
      → IsStarted m layouts entry args answers r
  started facts have r is =
      subst (IsStarted m layouts entry args answers) (sym is) (record {
        code = refl;
        seen = λ n. seen-same m layouts answers facts entry args n have;
      })

  pub started_by : {E : Type 0} (facts : List Facts) (functions : List Function) (r : Result FramedMachine E)
      → functions ≡ m.functions → HaveFramedFacts functions facts
      → IfOk r (λ s. run_of s ≡ machine_at (given_with m layouts.coroutines answers facts) entry args 0)
      → IfOk r (λ s. IsStarted m layouts entry args answers (run_of s))
  started_by facts functions (Ok s) same have is =
      started facts (subst (λ (fs : List Function). HaveFramedFacts fs facts) same have) (run_of s) is
  started_by facts functions (Err e) same have is = is

  pub shows_framed : (steps : ℕ) (r : FramedRun) (s : FramedMachine) (outcome : Outcome)
      → IsStarted m layouts entry args answers r → run_of s ≡ ran steps r → outcome ≡ s.state.outcome
      → ShowsFramed m layouts entry args answers steps (record { machine = s; outcome = outcome })
  shows_framed steps r s outcome is done told =
      let seen = ap (λ (x : FramedRun). seen_now x) done ∙ is.seen steps in
      record {
        code = ap (λ (x : FramedRun). x.given.given.code) done ∙ is.code;
        seen = seen;
        outcome = told ∙ ap (λ (x : Seen). x.outcome) seen;
      }
