-- What the machine of a framed module shows.
use Rattle.std.specs.Prelude.{◌≡◌, ℕ, ℤ, List}
use Rattle.frame_layout.specs.declared.layout.Layouts.{Layouts}
use Rattle.ir_base.specs.declared.outcome.Word.{Word}
use Rattle.ir_model.specs.declared.module.Module.{Module}
use Rattle.run_framed.specs.Framed.{FramedAt}
use Rattle.run_framed.specs.Machines.{FramedRun, ran, run_of}
use Rattle.run_step.specs.Runs.{Seen, seen_of}
use Rattle.run_whole.specs.declared.framed.FramedView.{FramedView}

-- what is seen of a machine as it stands
abbrev pub seen_now : FramedRun → Seen
seen_now r = seen_of r.given.given.code r.state.world r.state.outcome

-- after n steps it is seen of the machine what is seen of the framed module
pub record IsStarted (m : Module) (layouts : Layouts) (entry : ℕ) (args : List Word) (answers : List ℤ)
    (r : FramedRun) : Type 0 where
  pub code : r.given.given.code ≡ m
  pub seen : (n : ℕ) → seen_now (ran n r) ≡ FramedAt m layouts entry args answers n

-- it is seen of the machine what is seen of the framed module after so many steps
pub record ShowsFramed (m : Module) (layouts : Layouts) (entry : ℕ) (args : List Word) (answers : List ℤ)
    (steps : ℕ) (v : FramedView) : Type 0 where
  pub code : (run_of v.machine).given.given.code ≡ m
  pub seen : seen_now (run_of v.machine) ≡ FramedAt m layouts entry args answers steps
  pub outcome : v.outcome ≡ (FramedAt m layouts entry args answers steps).outcome
