-- Where frames are freed: what is asked of the calls of deallocators.
use Rattle.std.specs.Option.{option_map_or}
use Rattle.std.specs.Prelude.{◌≡◌, ◌≢◌, ◌+◌, ℕ, Bool, true, false, List, length, slice_get, Some, None, Ok, Option}
use Rattle.elide_shape.specs.Calls.{deals}
use Rattle.elide_shape.specs.declared.calls.Dealing.{Dealing}
use Rattle.pass_elide_proof.specs.Edges.{GivesNone, IsAlike}
use Rattle.pass_elide_proof.specs.Elision.{Elision, Shape, framed, function_in, rooms}
use Rattle.pass_elide_proof.specs.Match.{IsAtEnd, IsNoGivenFrame, instance_in, sides, was_given}
use Rattle.pass_elide_proof.specs.Places.{allocas_ahead, front_at, own_at, room_at}
use Rattle.pass_proofs.specs.ir_base.declared.outcome.Outcome.{Outcome}
use Rattle.pass_proofs.specs.ir_model.Ty.{Ty}
use Rattle.pass_proofs.specs.ir_model.declared.instr.Instr.{Instr}
use Rattle.pass_proofs.specs.ir_model.declared.operand.Allocator.{Allocator}
use Rattle.pass_proofs.specs.ir_model.declared.operand.Arg.{Arg}
use Rattle.pass_proofs.specs.ir_model.declared.operand.Callee.{Callee}
use Rattle.pass_proofs.specs.ir_model.declared.operand.Operand.{Operand}
use Rattle.pass_proofs.specs.ir_paths.Windows.{operand_at}
use Rattle.pass_proofs.specs.run_framed.Framed.{framed_next, is_given}
use Rattle.pass_proofs.specs.run_memory.declared.pointer.Offset.{Offset}
use Rattle.pass_proofs.specs.run_memory.declared.pointer.Pointer.{Pointer}
use Rattle.pass_proofs.specs.run_memory.declared.pointer.Value.{Value}
use Rattle.pass_proofs.specs.run_source.Source.{deallocate}
use Rattle.pass_proofs.specs.run_source.State.{function_of, gives}
use Rattle.pass_proofs.specs.run_source.declared.state.Instance.{Instance}
use Rattle.pass_proofs.specs.run_source.declared.state.State.{State}
use Rattle.pass_proofs.specs.run_step.Step.{AtInstr, fetch}
use Rattle.pass_proofs.specs.run_step.Values.{address, arg_values, nth, value_in}

-- ---- the frame of the activation's instance, which was given in the second run

-- a deallocator is called with what coro.free gave
pub record FreesGiven (e : Elision) (s t : State) (a : Allocator) (result : Option ℕ) (must_tail : Bool)
    (ty : Option Ty) (args : List Arg) : Type 0 where
  pub runs : s.outcome ≡ Outcome.Running
  pub frees : deals Dealing.Frees a ≡ true
  pub there : fetch (function_of (framed e).given s) s.top.block s.top.at
      ≡ AtInstr (Instr.Call result must_tail ty (Callee.Allocator a) args)
  pub none : GivesNone e s.top.func
  pub name : ℕ
  pub takes : operand_at args 0 ≡ Operand.Local name
  pub is_freed : (e.shape s.top.func).freed name ≡ true
  -- the instance was given its frame
  pub given : option_map_or (is_given t.world.memory) (instance_in t.instances t.top.instance) false ≡ true
  pub holds : (e.shape s.top.func).holds s.top.block (s.top.at + 1) ≡ (e.shape s.top.func).holds s.top.block s.top.at
  -- the framed run isn't undefined here
  pub after : State
  pub goes : deallocate s (address (value_in s.top.values name)) ≡ Ok after

-- the second run waits at the test for null
pub record IsAtFree (e : Elision) (s t : State) (a : Allocator) (result : Option ℕ) (must_tail : Bool)
    (ty : Option Ty) (args : List Arg) : Type 0 where
  pub frees : FreesGiven e s t a result must_tail ty args
  pub waits : (e.shape s.top.func).frees s.top.block ≡ Some t.top.block
  pub stays : IsAtEnd e t.top

-- there is no test, and the second run calls the deallocator too
pub record IsAtFreeOfNull (e : Elision) (s t : State) (a : Allocator) (result : Option ℕ) (must_tail : Bool)
    (ty : Option Ty) (args : List Arg) : Type 0 where
  pub frees : FreesGiven e s t a result must_tail ty args
  pub beside : t.top.block ≡ s.top.block
  pub stands : t.top.at ≡ front_at (rooms e s.top.func) (function_in e s.top.func) s.top.block s.top.at

-- ---- what else stands in the block that frees

-- a name of what is made where a frame is freed
pub record IsPassedOver (x : Shape) (v : ℕ) : Type 0 where
  pub passed : x.passed v ≡ true
  pub need : x.need v ≡ false
  pub freed : x.freed v ≡ false
  pub tested : x.tested v ≡ None

-- the framed run sets such a name, and the other one waits at the test for null
pub record IsAtPassed (e : Elision) (s t : State) (result : Option ℕ) (w : Value) : Type 0 where
  pub runs : s.outcome ≡ Outcome.Running
  pub goes : framed_next (framed e) s (fetch (function_of (framed e).given s) s.top.block s.top.at)
      ≡ Ok (gives s result w)
  pub given : was_given (sides s t) t.top ≡ true
  pub waits : (e.shape s.top.func).frees s.top.block ≡ Some t.top.block
  pub stays : IsAtEnd e t.top
  pub none : GivesNone e s.top.func
  pub passed : (v : ℕ) → result ≡ Some v → IsPassedOver (e.shape s.top.func) v
  -- the name of a block that is held isn't set
  pub holds : (e.shape s.top.func).holds s.top.block (s.top.at + 1) ≡ (e.shape s.top.func).holds s.top.block s.top.at
  pub kept : (v name : ℕ) → result ≡ Some v → (e.shape s.top.func).holds s.top.block s.top.at ≡ Some name → name ≢ v

-- ---- a block that both runs free

-- a deallocator is called with what stands for the same in both runs
pub record IsAtFreeBeside (e : Elision) (s t : State) (a : Allocator) (result : Option ℕ) (must_tail : Bool)
    (ty : Option Ty) (args : List Arg) : Type 0 where
  pub runs : s.outcome ≡ Outcome.Running
  pub frees : deals Dealing.Frees a ≡ true
  pub there : fetch (function_of (framed e).given s) s.top.block s.top.at
      ≡ AtInstr (Instr.Call result must_tail ty (Callee.Allocator a) args)
  pub beside : t.top.block ≡ s.top.block
  pub stands : t.top.at ≡ own_at (rooms e s.top.func) (function_in e s.top.func) s.top.block s.top.at
  pub made : length t.top.slots
      ≡ length s.top.slots + length (allocas_ahead (rooms e s.top.func) (function_in e s.top.func))
  -- the call gives no frame
  pub room : room_at (rooms e s.top.func) (function_in e s.top.func) s.top.block s.top.at
      (Instr.Call result must_tail ty (Callee.Allocator a) args) ≡ None
  pub alike : IsAlike e s t (operand_at args 0)
  -- it is no frame that was given in the second run
  pub own : (block : ℕ) (o : Offset)
      → address (nth (arg_values e.code s.top.values args) 0) ≡ Value.Ptr (Pointer.At block o)
      → IsNoGivenFrame (sides s t) block
  -- each frame begins a block, as where the sites are in functions that are no coroutines
  pub starts : (i : ℕ) (y : Instance) → slice_get t.instances i ≡ Some y → y.start ≡ 0
  pub holds : (e.shape s.top.func).holds s.top.block (s.top.at + 1) ≡ (e.shape s.top.func).holds s.top.block s.top.at
  -- the framed run isn't undefined here
  pub after : State
  pub goes : deallocate s (address (nth (arg_values e.code s.top.values args) 0)) ≡ Ok after
