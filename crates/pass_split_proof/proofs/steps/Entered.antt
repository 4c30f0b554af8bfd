-- A call of a function, or of the ramp of a coroutine, in both runs.
use Rattle.std.proofs.Common.{◌≡◌, ℕ, ◌+◌, Bool, true, false, List, Option, Some, refl, sym, ap, ◌∙◌, if◌then◌else◌}
use Rattle.std.proofs.lemmas.Bool.{false≢true}
use Rattle.pass_proofs.specs.ir_model.Names.{function_at}
use Rattle.pass_proofs.specs.pass_intrinsics.declared.shape.Part.{Part}
use Rattle.pass_split_proof.proofs.states.Advanced.{same_frames}
use Rattle.pass_split_proof.proofs.states.Values.{entries_stand, entry_length}
use Rattle.pass_split_proof.proofs.steps.Calls.{pushes_related}
use Rattle.pass_split_proof.specs.states.Activations.{Inside, IsBehind, IsBeside, IsPlaced, RunsPart, is_entering}
use Rattle.pass_split_proof.specs.states.Going.{placed_at}
use Rattle.pass_split_proof.specs.states.Instances.{part_position}
use Rattle.pass_split_proof.specs.states.Memories.{homes_of}
use Rattle.pass_split_proof.specs.states.Related.{AreRelated}
use Rattle.pass_split_proof.specs.steps.Calls.{IsCallee}
use Rattle.pass_proofs.specs.run_framed.Framed.{FramedGiven}
use Rattle.pass_proofs.specs.run_laws.embedded.Related.{AreValues}
use Rattle.pass_proofs.specs.run_laws.memory.Pointers.{Home}
use Rattle.pass_proofs.specs.run_memory.declared.pointer.Value.{Value}
use Rattle.run_access_worked.specs.run_plain.Plain.{PlainGiven, plain_call, plain_called}
use Rattle.run_access_worked.specs.run_plain.declared.state.PlainState.{PlainState}
use Rattle.pass_proofs.specs.run_source.Source.{called, enter, mode_of}
use Rattle.pass_proofs.specs.run_source.declared.state.Instance.{Instance}
use Rattle.pass_proofs.specs.run_source.declared.state.Mode.{Mode}
use Rattle.pass_proofs.specs.run_source.declared.state.State.{State}

kind_of_mode : (coroutine : Bool) → RunsPart (if coroutine then Mode.Ramp else Mode.Plain) Part.Ramp
kind_of_mode true = refl
kind_of_mode false = refl

pub mode_settled : (coroutine : Bool) → is_entering (if coroutine then Mode.Ramp else Mode.Plain) ≡ false
mode_settled true = refl
mode_settled false = refl

module _ (g : FramedGiven) (h : PlainGiven) (instances : List Instance) (homes : List Home) (func : ℕ)
    (args others : List Value) (result : Option ℕ) where
  -- the activation of a function that begins
  pub callee_beside : IsCallee g h.code func → AreValues homes args others
      → IsBeside g h.code instances homes (called g.given.code func args result
      (mode_of (function_at g.given.code func))) (plain_called h.code (part_position g func Part.Ramp) others
      result)
  callee_beside c stand = record {
    shape = c.shape;
    part = Part.Ramp;
    coded = c.coded;
    shaped = c.shaped;
    runs = kind_of_mode (function_at g.given.code func).coroutine;
    func = refl;
    place = Inside (mode_of (function_at g.given.code func)) (mode_settled (function_at g.given.code func).coroutine)
        c.place;
    values = entries_stand (function_at g.given.code func) (function_at h.code (part_position g func Part.Ramp)) homes
        args others c.params c.names stand;
    whole = entry_length (function_at g.given.code func) args;
    room = entry_length (function_at h.code (part_position g func Part.Ramp)) others;
    frame = λ i own. absurd (cc);
    result = refl;
    slots = refl;
    own = λ coroutine. tt;
  }

module _ (g : FramedGiven) (h : PlainGiven) (s : State) (t : PlainState) (r : AreRelated g h s t) (func : ℕ)
    (args others : List Value) (result : Option ℕ) where
  pub calls_related : IsCallee g h.code func → AreValues (homes_of s.world.memory) args others
      → is_entering s.top.mode ≡ false
      → IsPlaced r.top.shape r.top.part (function_at g.given.code s.top.func) (function_at h.code t.top.func)
      (record s.top { at = s.top.at + 1 }) (placed_at t.top t.top.block (t.top.at + 1) t.top.values) s.top.mode
      → IsBehind (function_at g.given.code s.top.func) false (record s.top { at = s.top.at + 1 })
      → (result ≡ Some r.top.shape.begin → ⊥)
      → AreRelated g h (enter g.given s func args result) (plain_call h t (part_position g func Part.Ramp) others
      result false)
  calls_related callee stand mode place behind free = pushes_related g h s t r s.instances t.world.memory
      (called g.given.code func args result (mode_of (function_at g.given.code func)))
      (plain_called h.code (part_position g func Part.Ramp) others result)
      t.top.block (t.top.at + 1) t.top.values mode r.world.memory r.frames (same_frames s.instances)
      (callee_beside g h s.instances (homes_of s.world.memory) func args others result callee stand)
      (λ from label e. absurd (false≢true (sym (mode_settled (function_at g.given.code func).coroutine)
      ∙ ap is_entering e)))
      r.top.values refl (λ i own. refl) place behind free
