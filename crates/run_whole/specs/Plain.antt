-- What the machine of a module without coroutines shows.
use Rattle.std.specs.Prelude.{◌≡◌, ℕ, ℤ, List}
use Rattle.ir_base.specs.declared.outcome.Word.{Word}
use Rattle.ir_model.specs.declared.module.Module.{Module}
use Rattle.run_plain.specs.Machines.{PlainRun, run_of}
use Rattle.run_plain.specs.Plain.{PlainAt}
use Rattle.run_step.specs.Runs.{Seen, seen_of}
use Rattle.run_whole.specs.declared.plain.PlainView.{PlainView}

-- what is seen of a machine as it stands
abbrev pub seen_now : PlainRun → Seen
seen_now r = seen_of r.given.code r.state.world r.state.outcome

-- it is seen of the machine what is seen of the module after so many steps
pub record ShowsPlain (m : Module) (entry : ℕ) (args : List Word) (answers : List ℤ) (steps : ℕ)
    (v : PlainView) : Type 0 where
  pub code : (run_of v.machine).given.code ≡ m
  pub seen : seen_now (run_of v.machine) ≡ PlainAt m entry args answers steps
  pub outcome : v.outcome ≡ (PlainAt m entry args answers steps).outcome
