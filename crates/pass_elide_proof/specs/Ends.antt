-- What is asked at coro.end.
use Rattle.std.specs.Prelude.{◌≡◌, ◌≢◌, ◌+◌, ℕ, Bool, true, false, List, ◌∷◌, slice_get, Some, None, Option}
use Rattle.pass_elide_proof.specs.Edges.{GivesNone, IsNoAnswer}
use Rattle.pass_elide_proof.specs.Elision.{Elision, differs_in, framed, function_in, rooms}
use Rattle.pass_elide_proof.specs.Match.{AreElided, HasAlloca, Sides, sides}
use Rattle.pass_elide_proof.specs.Places.{front_at}
use Rattle.pass_proofs.specs.ir_base.declared.outcome.Outcome.{Outcome}
use Rattle.pass_proofs.specs.ir_model.Ty.{Ty}
use Rattle.pass_proofs.specs.ir_model.declared.instr.Instr.{Instr}
use Rattle.pass_proofs.specs.ir_model.declared.operand.Arg.{Arg}
use Rattle.pass_proofs.specs.ir_model.declared.operand.Callee.{Callee}
use Rattle.pass_proofs.specs.ir_model.declared.operand.Intrinsic.{Intrinsic}
use Rattle.pass_proofs.specs.run_framed.Framed.{is_given}
use Rattle.pass_proofs.specs.run_laws.changed.Changed.{Each}
use Rattle.pass_proofs.specs.run_laws.memory.Pointers.{Home}
use Rattle.pass_proofs.specs.run_memory.Memory.{same_kind}
use Rattle.pass_proofs.specs.run_memory.declared.block.Kind.{Kind}
use Rattle.pass_proofs.specs.run_memory.declared.block.MemoryBlock.{MemoryBlock}
use Rattle.pass_proofs.specs.run_source.State.{function_of}
use Rattle.pass_proofs.specs.run_source.declared.state.Activation.{Activation}
use Rattle.pass_proofs.specs.run_source.declared.state.Instance.{Instance}
use Rattle.pass_proofs.specs.run_source.declared.state.Mode.{Mode}
use Rattle.pass_proofs.specs.run_source.declared.state.State.{State}
use Rattle.pass_proofs.specs.run_step.Step.{AtInstr, fetch}
use Rattle.pass_proofs.specs.run_step.Values.{pointer_to, value_in}
use Rattle.pass_proofs.specs.run_step.declared.world.Slot.{Slot}

-- the frame lies in an alloca of an activation
pub record LiesInAlloca (homes : List Home) (hides : ℕ → Bool) (d : Sides) (y : Instance) : Type 0 where
  pub activation : Activation
  pub own : List Slot
  pub instr : Instr
  pub alloca : HasAlloca homes hides d activation own instr
  pub block : alloca.block ≡ y.block

-- The instances that both activations have. The framed run's frame lies in no stack block, and the other one's lies in
-- an alloca if it was given.
pub record HaveOwn (e : Elision) (s t : State) (r : AreElided e s t) : Type 0 where
  pub number : ℕ
  pub first : Instance
  pub second : Instance
  pub own : s.top.instance ≡ Some number
  pub there : slice_get s.instances number ≡ Some first
  pub beside : slice_get t.instances number ≡ Some second
  pub heap : is_given s.world.memory first ≡ false
  pub lies : is_given t.world.memory second ≡ true → LiesInAlloca r.homes r.hides (sides s t) second

-- both runs are at coro.end of a function whose calls give no frames
pub record IsAtCoroEnd (e : Elision) (s t : State) (r : AreElided e s t) (result : Option ℕ) (must_tail : Bool)
    (ty : Option Ty) (args : List Arg) : Type 0 where
  pub runs : s.outcome ≡ Outcome.Running
  pub there : fetch (function_of (framed e).given s) s.top.block s.top.at
      ≡ AtInstr (Instr.Call result must_tail ty (Callee.Intrinsic Intrinsic.CoroEnd) args)
  pub none : GivesNone e s.top.func
  pub beside : t.top.block ≡ s.top.block
  pub stands : t.top.at ≡ front_at (rooms e s.top.func) (function_in e s.top.func) s.top.block s.top.at
  pub own : HaveOwn e s t r

-- in a ramp, which goes on
pub record IsAtRampEnd (e : Elision) (s t : State) (r : AreElided e s t) (result : Option ℕ) (must_tail : Bool)
    (ty : Option Ty) (args : List Arg) : Type 0 where
  pub ends : IsAtCoroEnd e s t r result must_tail ty args
  pub ramp : s.top.mode ≡ Mode.Ramp
  pub answers : (v : ℕ) → result ≡ Some v → IsNoAnswer (e.shape s.top.func) v
  pub holds : (e.shape s.top.func).holds s.top.block (s.top.at + 1) ≡ (e.shape s.top.func).holds s.top.block s.top.at
  pub kept : (v name : ℕ) → result ≡ Some v → (e.shape s.top.func).holds s.top.block s.top.at ≡ Some name → name ≢ v

-- in a ramp that hasn't begun, which goes on too
pub record IsAtEarlyEnd (e : Elision) (s t : State) (result : Option ℕ) (must_tail : Bool) (ty : Option Ty)
    (args : List Arg) : Type 0 where
  pub runs : s.outcome ≡ Outcome.Running
  pub there : fetch (function_of (framed e).given s) s.top.block s.top.at
      ≡ AtInstr (Instr.Call result must_tail ty (Callee.Intrinsic Intrinsic.CoroEnd) args)
  pub none : GivesNone e s.top.func
  pub beside : t.top.block ≡ s.top.block
  pub stands : t.top.at ≡ front_at (rooms e s.top.func) (function_in e s.top.func) s.top.block s.top.at
  pub ramp : s.top.mode ≡ Mode.Ramp
  pub alone : s.top.instance ≡ None
  pub answers : (v : ℕ) → result ≡ Some v → IsNoAnswer (e.shape s.top.func) v
  pub holds : (e.shape s.top.func).holds s.top.block (s.top.at + 1) ≡ (e.shape s.top.func).holds s.top.block s.top.at
  pub kept : (v name : ℕ) → result ≡ Some v → (e.shape s.top.func).holds s.top.block s.top.at ≡ Some name → name ≢ v

-- in a resumed activation, which returns to its caller

-- The block of a slot is no stack block and has no frame. The name of its alloca has its address.
pub record IsOwnSlot (e : Elision) (s : State) (z : Slot) : Type 0 where
  pub there : MemoryBlock
  pub is_there : slice_get s.world.memory z.block ≡ Some there
  pub kind : same_kind there.kind Kind.Stack ≡ false
  pub own : (i : ℕ) (x : Instance) → slice_get s.instances i ≡ Some x → x.block ≢ z.block
  pub address : value_in s.top.values z.alloca ≡ pointer_to z.block
  pub alike : (ramp given : Bool) → differs_in (e.shape s.top.func) ramp given z.alloca ≡ false

pub record IsAtResumedEnd (e : Elision) (s t : State) (r : AreElided e s t) (result : Option ℕ) (must_tail : Bool)
    (ty : Option Ty) (args : List Arg) : Type 0 where
  pub ends : IsAtCoroEnd e s t r result must_tail ty args
  pub resumed : s.top.mode ≡ Mode.Resumed
  pub no_result : s.top.result ≡ None
  pub caller : Activation
  pub callers : List Activation
  pub below : s.below ≡ caller ∷ callers
  pub slots : Each (IsOwnSlot e s) s.top.slots
  -- each frame begins a block, as where the sites are in functions that are no coroutines
  pub starts : (i : ℕ) (y : Instance) → slice_get t.instances i ≡ Some y → y.start ≡ 0
