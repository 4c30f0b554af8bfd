-- The machine of the source meaning, and the states that stand beside each other in the runs of the first pass's
-- three passes.
use Rattle.std.specs.Prelude.{◌≡◌, ℕ, ℤ, List}
use Rattle.rule_laws.specs.run_agreement.Costs.{IsNear, Through}
use Rattle.rule_laws.specs.run_agreement.Machines.{Machine}
use Rattle.rule_laws.specs.ir_base.declared.outcome.Word.{Word}
use Rattle.rule_laws.specs.run_source.Source.{first_state, given, step}
use Rattle.rule_laws.specs.run_source.declared.state.State.{State}
use Rattle.pass_early.specs.Early.{early_module}
use Rattle.run_states.specs.shortened.Shortened.{short_state}
use Rattle.pass_early_proof.specs.early.renaming.Passes.{named_module, renamed_module}
use Rattle.pass_early_proof.specs.early.save_states.SavedState.{saved_state}
use Rattle.run_states.specs.sound_states.Sound.{IsSound}
use Rattle.ir_model.specs.declared.module.Frame.{Frame}
use Rattle.ir_model.specs.declared.module.Module.{Module}
use Rattle.rule_laws.specs.run_step.Runs.{seen_of}

-- what is seen of it after n steps is SourceAt
abbrev pub source_machine : Module → List Frame → ℕ → List Word → List ℤ → Machine State
source_machine m sizes entry args answers =
    record {
      start = first_state m entry args;
      step = step (given m sizes answers);
      seen = λ s. seen_of m s.world s.outcome;
    }

-- the first is the second with its values cut to the names of their functions
pub record IsShortOf (m : Module) (s t : State) : Type 0 where
  pub is : s ≡ short_state m t
  pub sound : IsSound m s

abbrev pub IsSameState : State → State → Type 0
IsSameState s t = t ≡ s

-- the second is the first where saves are written out
pub record IsSavedOf (m : Module) (s t : State) : Type 0 where
  pub is : t ≡ saved_state m s
  pub holds : IsSound m s

-- the module whose saves are written out last
abbrev pub unsaved_module : Module → Module
unsaved_module m = renamed_module (named_module m)

-- a state of a source, and that of what the first pass makes of it
abbrev pub IsEarlyOf : Module → State → State → Type 0
IsEarlyOf m = Through (IsShortOf m) (IsSavedOf (unsaved_module m))

-- the same, or one step away from it
abbrev pub IsNearlyEarlyOf : Module → List Frame → ℕ → List Word → List ℤ → State → State → Type 0
IsNearlyEarlyOf m sizes entry args answers =
    Through (IsShortOf m) (IsNear (source_machine (early_module m) sizes entry args answers) 2
    (IsSavedOf (unsaved_module m)))
