-- The states that stand beside each other where coroutines' edges have blocks.
use Rattle.std.specs.Prelude.{◌≡◌, ℕ, ℤ, List}
use Rattle.pass_early_proof.specs.run_agreement.Costs.{IsNear, Through}
use Rattle.pass_early_proof.specs.ir_base.declared.outcome.Word.{Word}
use Rattle.pass_early_proof.specs.run_source.declared.state.State.{State}
use Rattle.pass_early.specs.Early.{early_module}
use Rattle.pass_early_proof.specs.early.early_states.Beside.{IsEarlyOf, IsNearlyEarlyOf, source_machine}
use Rattle.pass_early_proof.specs.run_states.sound_states.Sound.{IsSound}
use Rattle.pass_edges_proof.specs.edges.states.MovedState.{edges_split, moved_state}
use Rattle.ir_model.specs.declared.module.Frame.{Frame}
use Rattle.ir_model.specs.declared.module.Module.{Module}

-- the second is the first with its places moved
pub record IsSplitOf (m : Module) (s t : State) : Type 0 where
  pub is : t ≡ moved_state m s
  pub holds : IsSound m s

-- the same, or one step away from it
abbrev pub IsNearlySplitOf : Module → List Frame → ℕ → List Word → List ℤ → State → State → Type 0
IsNearlySplitOf m sizes entry args answers = IsNear (source_machine (edges_split m) sizes entry args answers) 2
    (IsSplitOf m)

-- a state of a source, and that of what the first pass makes of it with blocks on edges
abbrev pub IsEarlySplitOf : Module → State → State → Type 0
IsEarlySplitOf m = Through (IsEarlyOf m) (IsSplitOf (early_module m))

abbrev pub IsNearlyEarlySplitOf : Module → List Frame → ℕ → List Word → List ℤ → State → State → Type 0
IsNearlyEarlySplitOf m sizes entry args answers =
    Through (IsNearlyEarlyOf m sizes entry args answers) (IsNearlySplitOf (early_module m) sizes entry args answers)
