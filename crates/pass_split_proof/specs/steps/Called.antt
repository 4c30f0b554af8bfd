-- A part has called the part that goes on with an instance, and waits.
use Rattle.std.specs.Prelude.{◌≡◌, ℕ, ◌+◌, ◌<◌, ◌≤◌, false, [], ◌∷◌, None, Some, length}
use Rattle.pass_proofs.specs.ir_base.declared.outcome.Outcome.{Outcome}
use Rattle.pass_proofs.specs.ir_model.Names.{function_at}
use Rattle.pass_proofs.specs.pass_intrinsics.Shapes.{given_name}
use Rattle.pass_proofs.specs.pass_intrinsics.declared.shape.Part.{Part}
use Rattle.pass_split_proof.specs.states.Activations.{IsBehind, IsPlaced}
use Rattle.pass_split_proof.specs.states.Going.{placed_at}
use Rattle.pass_split_proof.specs.states.Instances.{part_position, shape_at}
use Rattle.pass_split_proof.specs.states.Memories.{homes_of}
use Rattle.pass_split_proof.specs.states.Related.{AreRelated}
use Rattle.pass_split_proof.specs.states.Values.{AreValuesOf}
use Rattle.pass_proofs.specs.run_agreement.Machines.{iterate}
use Rattle.pass_proofs.specs.run_framed.Framed.{FramedGiven}
use Rattle.pass_proofs.specs.run_memory.declared.pointer.Value.{Value}
use Rattle.run_access_worked.specs.run_plain.Plain.{PlainGiven, counted, plain_called, plain_step}
use Rattle.run_access_worked.specs.run_plain.declared.state.PlainState.{PlainState}
use Rattle.pass_proofs.specs.run_source.State.{frame_address_of}
use Rattle.pass_proofs.specs.run_source.declared.state.Instance.{Instance}
use Rattle.pass_proofs.specs.run_source.declared.state.Mode.{Mode}
use Rattle.pass_proofs.specs.run_source.declared.state.State.{State}
use Rattle.pass_proofs.specs.run_step.Values.{Env, value_in}

-- At most three steps have led to the call. On the way nothing was another but names of the part's own. It waits where
-- the framed run waits behind its resume or destroy.
pub record HasCalled (g : FramedGiven) (h : PlainGiven) (s : State) (t : PlainState) (r : AreRelated g h s t)
    (x : Instance) (part : Part) : Type 0 where
  pub calls : ℕ
  pub few : calls ≤ 3
  pub some : 0 < calls
  pub piece : ℕ
  pub offset : ℕ
  pub values : Env
  pub comes : iterate (plain_step h) calls t ≡ counted h (part_position g x.coroutine part) (record t {
    top = plain_called h.code (part_position g x.coroutine part) (frame_address_of x ∷ []) None;
    below = placed_at t.top piece offset values ∷ t.below;
  })
  pub quiet : (i : ℕ) → i < calls → ((iterate (plain_step h) i t).outcome ≡ Outcome.Running)
      × ((iterate (plain_step h) i t).world ≡ t.world)
  pub kept : AreValuesOf (function_at g.given.code s.top.func) (homes_of s.world.memory) s.top.values values
  pub long : length values ≡ length t.top.values
  pub begin : (i : ℕ) → s.top.instance ≡ Some i
      → value_in values r.top.shape.begin ≡ value_in t.top.values r.top.shape.begin
  pub given : (frame : Value) → s.top.mode ≡ Mode.GivenRamp frame
      → value_in values (given_name (shape_at g s.top.func)) ≡ value_in t.top.values (given_name (shape_at g
      s.top.func))
  pub waiting : IsPlaced r.top.shape r.top.part (function_at g.given.code s.top.func) (function_at h.code t.top.func)
      (record s.top { at = s.top.at + 1 }) (placed_at t.top piece offset values) s.top.mode
  pub behind : IsBehind (function_at g.given.code s.top.func) false (record s.top { at = s.top.at + 1 })
