-- A call that asks for a frame or its promise, which the framed run and its part are at.
use Rattle.std.specs.Prelude.{◌≡◌, ℕ, true, Some, find, slice_get}
use Rattle.pass_proofs.specs.frame_layout.declared.layout.PlacedField.{PlacedField}
use Rattle.pass_proofs.specs.ir_model.declared.operand.Intrinsic.{Intrinsic}
use Rattle.pass_split_proof.specs.states.Instances.{IsLaidOut, is_held}
use Rattle.pass_split_proof.specs.states.Related.{AreRelated}
use Rattle.pass_split_proof.specs.steps.Resuming.{IsAtWaking}
use Rattle.pass_split_proof.specs.steps.Woken.{IsWoken}
use Rattle.pass_proofs.specs.run_framed.Framed.{FramedGiven, is_promise_kind, layout_of}
use Rattle.pass_proofs.specs.run_memory.declared.pointer.Value.{Value}
use Rattle.run_access_worked.specs.run_plain.Plain.{PlainGiven}
use Rattle.run_access_worked.specs.run_plain.declared.state.PlainState.{PlainState}
use Rattle.pass_proofs.specs.run_source.declared.state.Instance.{Instance}
use Rattle.pass_proofs.specs.run_source.declared.state.State.{State}

-- The framed run is at a call of one of the two with an address, and the part is at the same place. The name of the
-- frame isn't set.
pub record IsAsking (g : FramedGiven) (h : PlainGiven) (s : State) (t : PlainState) (r : AreRelated g h s t)
    (x : Intrinsic) : Type 0 where
  pub at : IsAtWaking g h s t r x
  pub others : at.result ≡ Some r.top.shape.begin → ⊥

-- the frame of the instance whose address this is is there, if it is Suspended
abbrev pub IsFrameThere : State → Value → Type 0
IsFrameThere s p = (w : IsWoken s p) → is_held s.world.memory w.instance ≡ true

-- The frame of a coroutine is laid out, and its promise stands 16 bytes behind its start (`IsGoodLayout`).
pub record HasPromiseInFront (g : FramedGiven) (func : ℕ) : Type 0 where
  pub laid : IsLaidOut g func
  pub offset : (x : PlacedField) → find (λ y. is_promise_kind y.kind) (layout_of g.layouts func).fields ≡ Some x
      → x.offset ≡ 16

-- so it is with each instance
abbrev pub ArePromisesInFront : FramedGiven → State → Type 0
ArePromisesInFront g s = (i : ℕ) (x : Instance) → slice_get s.instances i ≡ Some x → HasPromiseInFront g x.coroutine
