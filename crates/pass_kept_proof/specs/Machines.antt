-- The machines of the source meaning, and of that in which a resume hands on only some of the values that were kept.
use Rattle.std.specs.Prelude.{ℕ, ℤ, List}
use Rattle.run_agreement.specs.Machines.{Machine}
use Rattle.ir_base.specs.declared.outcome.Word.{Word}
use Rattle.run_source.specs.Source.{first_state, given, step, step_by}
use Rattle.run_source.specs.declared.state.State.{State}
use Rattle.ir_model.specs.declared.module.Frame.{Frame}
use Rattle.ir_model.specs.declared.module.Module.{Module}
use Rattle.pass_kept_proof.specs.Kept.{Keep, continue_keeping}
use Rattle.run_step.specs.Runs.{seen_of}

-- what is seen of it after n steps is SourceAt
abbrev pub source_machine : Module → List Frame → ℕ → List Word → List ℤ → Machine State
source_machine m sizes entry args answers =
    record {
      start = first_state m entry args;
      step = step (given m sizes answers);
      seen = λ s. seen_of m s.world s.outcome;
    }

-- what is seen of it after n steps is KeptAt
abbrev pub kept_machine : Module → Keep → List Frame → ℕ → List Word → List ℤ → Machine State
kept_machine m keep sizes entry args answers =
    let g = given m sizes answers in
    record {
      start = first_state m entry args;
      step = step_by g (continue_keeping g keep);
      seen = λ s. seen_of m s.world s.outcome;
    }
