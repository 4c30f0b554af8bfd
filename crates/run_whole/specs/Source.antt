-- What a source's machine shows.
use Rattle.std.specs.Prelude.{◌≡◌, ℕ, ℤ, List}
use Rattle.ir_base.specs.declared.outcome.Word.{Word}
use Rattle.ir_model.specs.declared.module.Frame.{Frame}
use Rattle.ir_model.specs.declared.module.Module.{Module}
use Rattle.run_source.specs.Machines.{SourceRun, ran, run_of}
use Rattle.run_source.specs.Source.{SourceAt}
use Rattle.run_step.specs.Runs.{Seen, seen_of}
use Rattle.run_whole.specs.declared.source.SourceView.{SourceView}

-- what is seen of a machine as it stands
abbrev pub seen_now : SourceRun → Seen
seen_now r = seen_of r.given.code r.state.world r.state.outcome

-- after n steps it is seen of the machine what is seen of the source
pub record IsStarted (m : Module) (sizes : List Frame) (entry : ℕ) (args : List Word) (answers : List ℤ)
    (r : SourceRun) : Type 0 where
  pub code : r.given.code ≡ m
  pub seen : (n : ℕ) → seen_now (ran n r) ≡ SourceAt m sizes entry args answers n

-- it is seen of the machine what is seen of the source after so many steps
pub record ShowsSource (m : Module) (sizes : List Frame) (entry : ℕ) (args : List Word) (answers : List ℤ)
    (steps : ℕ) (v : SourceView) : Type 0 where
  pub code : (run_of v.machine).given.code ≡ m
  pub seen : seen_now (run_of v.machine) ≡ SourceAt m sizes entry args answers steps
  pub outcome : v.outcome ≡ (SourceAt m sizes entry args answers steps).outcome
