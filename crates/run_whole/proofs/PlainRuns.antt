-- A machine shows what is seen of its module.
use Rattle.std.proofs.Common.{◌≡◌, ◌∙◌, ℕ, ℤ, List, ap}
use Rattle.ir_base.specs.declared.outcome.Outcome.{Outcome}
use Rattle.ir_base.specs.declared.outcome.Word.{Word}
use Rattle.ir_model.specs.declared.module.Module.{Module}
use Rattle.run_plain.specs.Machines.{PlainRun, machine_at, ran, run_of}
use Rattle.run_plain.specs.Plain.{PlainGiven}
use Rattle.run_plain.specs.declared.machine.PlainMachine.{PlainMachine}
use Rattle.run_step.specs.Runs.{Seen}
use Rattle.run_whole.specs.Plain.{ShowsPlain, seen_now}

module _ (m : Module) (entry : ℕ) (args : List Word) (answers : List ℤ) where
  abbrev given : PlainGiven
  given = record { code = m; answers = answers }

  pub shows_plain : (steps : ℕ) (r : PlainRun) (s : PlainMachine) (outcome : Outcome)
      → r ≡ machine_at given entry args 0 → run_of s ≡ ran steps r → outcome ≡ s.state.outcome
      → ShowsPlain m entry args answers steps (record { machine = s; outcome = outcome })
  shows_plain steps r s outcome is done told =
      let now : run_of s ≡ machine_at given entry args steps = done ∙ ap (λ (x : PlainRun). ran steps x) is in
      let seen = ap (λ (x : PlainRun). seen_now x) now in
      record {
        code = ap (λ (x : PlainRun). x.given.code) now;
        seen = seen;
        outcome = told ∙ ap (λ (x : Seen). x.outcome) seen;
      }
