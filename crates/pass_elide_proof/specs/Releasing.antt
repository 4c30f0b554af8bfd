-- An instance that was released and isn't freed has the topmost activation, which is about to free it.
use Rattle.std.specs.Prelude.{◌≡◌, ◌⊎◌, ◌+◌, ◌<◌, ℕ, Bool, true, false, not, List, [], ◌∷◌, length, slice_get, Some, None, Ok, Option, if◌then◌else◌}
use Rattle.elide_shape.specs.Calls.{deals}
use Rattle.elide_shape.specs.Frees.{is_null_test}
use Rattle.elide_shape.specs.declared.calls.Dealing.{Dealing}
use Rattle.pass_elide.specs.declared.given.GivenFrame.{GivenFrame}
use Rattle.pass_elide_proof.specs.Edges.{IsAlike, phis_at}
use Rattle.pass_elide_proof.specs.Elision.{Elision, Shape, function_in, rooms}
use Rattle.pass_elide_proof.specs.Places.{instrs_of, room_at}
use Rattle.pass_proofs.specs.ir_base.declared.name.Name.{Name}
use Rattle.pass_proofs.specs.ir_base.declared.ops.Pred.{Pred}
use Rattle.pass_proofs.specs.ir_model.Names.{function_at, noalloc_of, position_of}
use Rattle.pass_proofs.specs.ir_model.Ty.{Ty, ptr}
use Rattle.pass_proofs.specs.ir_model.declared.instr.Instr.{Instr}
use Rattle.pass_proofs.specs.ir_model.declared.instr.Terminator.{Terminator}
use Rattle.pass_proofs.specs.ir_model.declared.module.Function.{Function}
use Rattle.pass_proofs.specs.ir_model.declared.module.Module.{Module}
use Rattle.pass_proofs.specs.ir_model.declared.operand.Allocator.{Allocator}
use Rattle.pass_proofs.specs.ir_model.declared.operand.Arg.{Arg}
use Rattle.pass_proofs.specs.ir_model.declared.operand.Callee.{Callee}
use Rattle.pass_proofs.specs.ir_model.declared.operand.Intrinsic.{Intrinsic}
use Rattle.pass_proofs.specs.ir_model.declared.operand.Operand.{Operand}
use Rattle.pass_proofs.specs.ir_parts.Contents.{result_of}
use Rattle.pass_proofs.specs.ir_paths.Windows.{operand_at}
use Rattle.pass_proofs.specs.run_framed.Framed.{given_ramp, is_given}
use Rattle.pass_proofs.specs.run_laws.changed.Changed.{Each}
use Rattle.pass_proofs.specs.run_memory.declared.pointer.Value.{Value}
use Rattle.pass_proofs.specs.run_source.Source.{deallocate}
use Rattle.pass_proofs.specs.run_source.State.{frame_address_of}
use Rattle.pass_proofs.specs.run_source.declared.state.Activation.{Activation}
use Rattle.pass_proofs.specs.run_source.declared.state.Instance.{Instance}
use Rattle.pass_proofs.specs.run_source.declared.state.Mode.{Mode}
use Rattle.pass_proofs.specs.run_source.declared.state.State.{State}
use Rattle.pass_proofs.specs.run_step.Step.{AtInstr, AtTerm, fetch}
use Rattle.pass_proofs.specs.run_step.Values.{Env, address, arg_values, nth, truth_value, value_in}

-- ---- what stands between a coro.free and its deallocation

-- an instruction that calls nothing and makes no block, or a call of coro.size
abbrev pub is_calm : Instr → Bool
is_calm (Instr.Call result must_tail ty (Callee.Intrinsic Intrinsic.CoroSizeI32) args) = true
is_calm (Instr.Call result must_tail ty (Callee.Intrinsic Intrinsic.CoroSizeI64) args) = true
is_calm (Instr.Call result must_tail ty callee args) = false
is_calm (Instr.Alloca name ty align) = false
is_calm i = true

-- a test for null by its name, which is eq or ne
pub record NullTest : Type 0 where
  pub name : ℕ
  pub is_eq : Bool

-- the instruction sets neither the name that is freed nor a test of it
pub record Spares (i : Instr) (v : ℕ) (test : Option NullTest) : Type 0 where
  pub freed : result_of i ≡ Some v → ⊥
  pub tested : (x : NullTest) → test ≡ Some x → result_of i ≡ Some x.name → ⊥

-- From a place on a name is handed to a deallocator: at once, behind calm instructions, and where tests say that it
-- isn't null.
pub data IsFreedSoon (f : Function) (v : ℕ) : Option NullTest → ℕ → ℕ → Type 0 where
  Frees : (test : Option NullTest) (block at : ℕ) (result : Option ℕ) (must_tail : Bool) (ty : Option Ty)
      (a : Allocator) (args : List Arg)
      → fetch f block at ≡ AtInstr (Instr.Call result must_tail ty (Callee.Allocator a) args)
      → deals Dealing.Frees a ≡ true → operand_at args 0 ≡ Operand.Local v → IsFreedSoon f v test block at
  Passes : (test : Option NullTest) (block at : ℕ) (i : Instr) → fetch f block at ≡ AtInstr i → is_calm i ≡ true
      → Spares i v test → IsFreedSoon f v test block (at + 1) → IsFreedSoon f v test block at
  Tests : (block at : ℕ) (x : NullTest) (a b : Operand)
      → fetch f block at ≡ AtInstr (Instr.Icmp x.name (if x.is_eq then Pred.Eq else Pred.Ne) ptr a b)
      → is_null_test v a b ≡ true → (x.name ≡ v → ⊥) → IsFreedSoon f v (Some x) block (at + 1)
      → IsFreedSoon f v None block at
  Branches : (block at : ℕ) (x : NullTest) (one other : ℕ)
      → fetch f block at ≡ AtTerm (Terminator.Branch (Operand.Local x.name) one other)
      → phis_at f (position_of f (if x.is_eq then other else one)) ≡ []
      → IsFreedSoon f v None (position_of f (if x.is_eq then other else one)) 0 → IsFreedSoon f v (Some x) block at
  Jumps : (test : Option NullTest) (block at label : ℕ) → fetch f block at ≡ AtTerm (Terminator.Jump label)
      → phis_at f (position_of f label) ≡ [] → IsFreedSoon f v test (position_of f label) 0
      → IsFreedSoon f v test block at

-- what a coro.free of the function gives has a name of the shape, and is handed to a deallocator right after it
pub record IsFreedBehind (f : Function) (x : Shape) (block at : ℕ) (result : Option ℕ) : Type 0 where
  pub name : ℕ
  pub given : result ≡ Some name
  pub freed : x.freed name ≡ true
  pub soon : IsFreedSoon f name None block (at + 1)

abbrev pub FreesAtOnce : Function → Shape → Type 0
FreesAtOnce f x =
    (block at : ℕ) (result : Option ℕ) (must_tail : Bool) (ty : Option Ty) (args : List Arg)
    → fetch f block at ≡ AtInstr (Instr.Call result must_tail ty (Callee.Intrinsic Intrinsic.CoroFree) args)
    → IsFreedBehind f x block at result

-- ---- states

abbrev pub IsOrPoison : Value → Value → Type 0
IsOrPoison v w = (v ≡ Value.Poison) ⊎ (v ≡ w)

-- the test says that it isn't null
abbrev pub IsAnswered : Env → Option NullTest → Type 0
IsAnswered values None = Unit {0}
IsAnswered values (Some x) = IsOrPoison (value_in values x.name) (truth_value (not x.is_eq))

-- the topmost activation is that of the instance, and is about to free it
pub record IsReleasing (e : Elision) (s : State) (number : ℕ) (x : Instance) : Type 0 where
  pub instance : s.top.instance ≡ Some number
  pub name : ℕ
  pub freed : (e.shape s.top.func).freed name ≡ true
  pub address : IsOrPoison (value_in s.top.values name) (frame_address_of x)
  pub test : Option NullTest
  pub answer : IsAnswered s.top.values test
  pub place : IsFreedSoon (function_in e s.top.func) name test s.top.block s.top.at

-- so it is with each that was released and isn't freed
abbrev pub HaveReleased : Elision → State → Type 0
HaveReleased e s =
    (number : ℕ) (x : Instance) → slice_get s.instances number ≡ Some x
    → FreesAtOnce (function_in e x.coroutine) (e.shape x.coroutine) → x.released ≡ true → x.freed ≡ false
    → IsReleasing e s number x

-- each frame that was given is that of a coroutine that frees at once
abbrev pub GivenFreeAtOnce : Elision → State → Type 0
GivenFreeAtOnce e t =
    (number : ℕ) (y : Instance) → slice_get t.instances number ≡ Some y → is_given t.world.memory y ≡ true
    → FreesAtOnce (function_in e y.coroutine) (e.shape y.coroutine)

-- ---- a deallocation of both runs

-- a deallocator is called with what stands for the same, and the framed run isn't undefined there
pub record IsAtSameFree (e : Elision) (s t : State) (a : Allocator) (result : Option ℕ) (must_tail : Bool)
    (ty : Option Ty) (args : List Arg) : Type 0 where
  pub frees : deals Dealing.Frees a ≡ true
  pub there : fetch (function_in e s.top.func) s.top.block s.top.at
      ≡ AtInstr (Instr.Call result must_tail ty (Callee.Allocator a) args)
  pub alike : IsAlike e s t (operand_at args 0)
  pub after : State
  pub goes : deallocate s (address (nth (arg_values e.code s.top.values args) 0)) ≡ Ok after

-- ---- coroutines that are given frames

-- each ramp that was given its frame, and each instance, is of a coroutine of which a fact holds
abbrev pub AreOfCallees : (ℕ → Type 0) → State → Type 0
AreOfCallees Is t =
    ((number : ℕ) (y : Instance) → slice_get t.instances number ≡ Some y
    → (y.block < length t.world.memory) × (is_given t.world.memory y ≡ true → Is y.coroutine))
    × Each (λ (c : Activation). (frame : Value) → c.mode ≡ Mode.GivenRamp frame → Is c.func) (t.top ∷ t.below)

-- it holds of each coroutine that a call of the module gives its frame
abbrev pub HoldsOfCallees : (ℕ → Type 0) → Module → Type 0
HoldsOfCallees Is m =
    (func block at callee : ℕ) (result : Option ℕ) (must_tail : Bool) (ty : Option Ty) (n : Name) (args : List Arg)
    → fetch (function_at m func) block at ≡ AtInstr (Instr.Call result must_tail ty (Callee.Named n) args)
    → given_ramp m n ≡ Some callee → Is callee

-- its coro.free is followed by the deallocation
abbrev pub IsFreeing : Elision → ℕ → Type 0
IsFreeing e func = FreesAtOnce (function_in e func) (e.shape func)

-- it holds of each coroutine whose call has a room
abbrev pub HoldsOfRooms : (ℕ → Type 0) → Elision → Type 0
HoldsOfRooms Is e =
    (func block at callee : ℕ) (result : Option ℕ) (must_tail : Bool) (ty : Option Ty) (n : Name) (args : List Arg)
    (r : GivenFrame)
    → slice_get (instrs_of (function_in e func) block) at ≡ Some (Instr.Call result must_tail ty (Callee.Named n) args)
    → room_at (rooms e func) (function_in e func) block at (Instr.Call result must_tail ty (Callee.Named n) args)
    ≡ Some r → given_ramp e.code (noalloc_of n) ≡ Some callee → Is callee
