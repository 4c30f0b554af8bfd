-- What a step of a source gives, and one of the module whose coroutines' edges have blocks.
use Rattle.std.specs.Prelude.{ℤ, List, Ok, Err, Result, ◌≡◌, ◌⊎◌}
use Rattle.pass_early_proof.specs.ir_base.declared.cause.Cause.{Cause}
use Rattle.pass_early_proof.specs.ir_base.declared.outcome.Outcome.{Outcome}
use Rattle.pass_early_proof.specs.run_source.Source.{given, step}
use Rattle.pass_early_proof.specs.run_source.declared.state.State.{State}
use Rattle.pass_edges_proof.specs.edges.states.MovedState.{edges_split, moved_state}
use Rattle.ir_model.specs.declared.module.Frame.{Frame}
use Rattle.ir_model.specs.declared.module.Module.{Module}

-- u shows what s shows, and its next step comes to where s is then
pub record IsBefore (m : Module) (sizes : List Frame) (answers : List ℤ) (s u : State) : Type 0 where
  pub running : u.outcome ≡ Outcome.Running
  pub world : u.world ≡ s.world
  pub goes_on : step (given (edges_split m) sizes answers) u ≡ moved_state m s

-- the same cause; or the state where the other one is then, or a step before it
abbrev pub IsNear : Module → List Frame → List ℤ → Result State Cause → Result State Cause → Type 0
IsNear m sizes answers (Err c) (Err d) = d ≡ c
IsNear m sizes answers (Err c) (Ok u) = ⊥
IsNear m sizes answers (Ok s) (Err d) = ⊥
IsNear m sizes answers (Ok s) (Ok u) = (u ≡ moved_state m s) ⊎ IsBefore m sizes answers s u
