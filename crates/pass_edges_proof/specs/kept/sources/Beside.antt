-- The states of a source that breaks no rule, and those where a resume hands on only what is needed behind it.
use Rattle.std.specs.Prelude.{ℕ, ℤ, List}
use Rattle.pass_early_proof.specs.run_agreement.Costs.{Through}
use Rattle.pass_early_proof.specs.ir_base.declared.outcome.Word.{Word}
use Rattle.pass_early_proof.specs.run_source.Source.{given}
use Rattle.pass_early_proof.specs.run_source.declared.state.State.{State}
use Rattle.pass_early.specs.Early.{early_module}
use Rattle.pass_edges_proof.specs.edges.simulation.Beside.{IsEarlySplitOf, IsNearlyEarlySplitOf}
use Rattle.pass_edges_proof.specs.edges.states.MovedState.{edges_split}
use Rattle.ir_model.specs.declared.module.Frame.{Frame}
use Rattle.ir_model.specs.declared.module.Module.{Module}
use Rattle.pass_kept_proof.specs.Related.{HandsOver}

-- a state of a source, and that of the module with saves written out and blocks on edges, in which values that aren't
-- needed may differ
abbrev pub IsKeptOf : Module → List Frame → List ℤ → State → State → Type 0
IsKeptOf m sizes answers = Through (IsEarlySplitOf m) (HandsOver (given (edges_split (early_module m)) sizes answers))

-- the same, or a step or two away from it
abbrev pub IsNearlyKeptOf : Module → List Frame → ℕ → List Word → List ℤ → State → State → Type 0
IsNearlyKeptOf m sizes entry args answers =
    Through (IsNearlyEarlySplitOf m sizes entry args answers)
    (HandsOver (given (edges_split (early_module m)) sizes answers))
