-- Calls in both runs: what is asked of the two states and of what stands at their place.
use Rattle.std.specs.Prelude.{◌≡◌, ◌+◌, ◌⊎◌, ◌≤◌, ℕ, Bool, true, false, List, [], length, slice_get, Some, None, Option}
use Rattle.elide_sites.specs.Sites.{IsDestroyed}
use Rattle.pass_elide.specs.declared.given.GivenFrame.{GivenFrame}
use Rattle.pass_elide_proof.specs.Elision.{Elision, Shape, differs_in, function_in, function_in_elided, rooms}
use Rattle.pass_elide_proof.specs.Invariant.{IsSiteOf}
use Rattle.pass_elide_proof.specs.Match.{AreElided, HasAlloca, is_given_mode, sides, was_given}
use Rattle.pass_elide_proof.specs.Places.{allocas_ahead, front_at, instrs_of, own_at, put_by, room_at}
use Rattle.pass_proofs.specs.ir_base.declared.name.Name.{Name}
use Rattle.pass_proofs.specs.ir_base.declared.outcome.Outcome.{Outcome}
use Rattle.pass_proofs.specs.ir_model.Names.{function_named, noalloc_of}
use Rattle.pass_proofs.specs.ir_model.Ty.{Ty}
use Rattle.pass_proofs.specs.ir_model.declared.instr.Instr.{Instr}
use Rattle.pass_proofs.specs.ir_model.declared.module.Block.{Block}
use Rattle.pass_proofs.specs.ir_model.declared.module.Function.{Function}
use Rattle.pass_proofs.specs.ir_model.declared.module.Param.{Param}
use Rattle.pass_proofs.specs.ir_model.declared.operand.Arg.{Arg}
use Rattle.pass_proofs.specs.ir_model.declared.operand.Callee.{Callee}
use Rattle.pass_proofs.specs.ir_model.declared.operand.Operand.{Operand}
use Rattle.pass_proofs.specs.ir_paths.declared.point.Point.{Point}
use Rattle.pass_proofs.specs.run_framed.Framed.{given_ramp}
use Rattle.pass_proofs.specs.run_laws.changed.Changed.{Each, values_of}
use Rattle.pass_proofs.specs.run_memory.declared.pointer.Pointer.{Pointer}
use Rattle.pass_proofs.specs.run_memory.declared.pointer.Value.{Value}
use Rattle.pass_proofs.specs.run_source.declared.state.Mode.{Mode}
use Rattle.pass_proofs.specs.run_source.declared.state.State.{State}
use Rattle.pass_proofs.specs.run_step.Step.{fits_function, has_markers, is_alignment}
use Rattle.pass_proofs.specs.run_step.Values.{value_in}

-- ---- both at what stands at a place itself

-- the second state, back at the front of what is put before the place of the first
abbrev pub at_front : Elision → State → State → State
at_front e s t =
    record t {
      top = record t.top {
        at = front_at (rooms e s.top.func) (function_in e s.top.func) s.top.block s.top.at;
      };
    }

-- The second run has executed what is put before the place. But for that they stand beside each other.
pub record AreReady (e : Elision) (s t : State) : Type 0 where
  pub beside : AreElided e s (at_front e s t)
  pub block : t.top.block ≡ s.top.block
  pub at : t.top.at ≡ own_at (rooms e s.top.func) (function_in e s.top.func) s.top.block s.top.at
  pub made : Each (HasAlloca beside.homes beside.hides (sides s t) t.top beside.top.own)
      (allocas_ahead (rooms e s.top.func) (function_in e s.top.func))
  pub many : length beside.top.own ≡ length (allocas_ahead (rooms e s.top.func) (function_in e s.top.func))

-- ---- what an instruction reads

-- the names that differ in the topmost activations
abbrev pub differing : Elision → State → State → ℕ → Bool
differing e s t =
    differs_in (e.shape s.top.func) (is_given_mode t.top.mode) (was_given (sides s t) t.top)

-- an operand that is no name which differs
abbrev pub IsAlike : (ℕ → Bool) → Operand → Type 0
IsAlike differs (Operand.Local v) = differs v ≡ false
IsAlike differs _ = Unit {0}

-- no block comes to be held by what stands at the place, or is held no more
abbrev pub HoldsStill : Elision → State → Type 0
HoldsStill e s =
    (e.shape s.top.func).holds s.top.block (s.top.at + 1) ≡ (e.shape s.top.func).holds s.top.block s.top.at

-- ---- calls of functions and of ramps that allocate

-- the function of a module that is called, which is no ramp that is given its frame
abbrev pub CallsTo : Elision → State → State → Option Ty → List Arg → ℕ → Callee → Type 0
CallsTo e s t ty args func (Callee.Named n) =
    (function_named e.code n ≡ Some func) × (given_ramp e.code n ≡ None)
CallsTo e s t ty args func (Callee.Local v) =
    (differing e s t v ≡ false)
    × (value_in s.top.values v ≡ Value.Ptr (Pointer.Func func))
    × (fits_function ty args (slice_get e.code.functions func) ≡ true)
CallsTo e s t ty args func _ = ⊥

-- what is asked of a call that gives its callee no frame
pub record IsAtCall (e : Elision) (s t : State) : Type 0 where
  pub runs : s.outcome ≡ Outcome.Running
  pub result : Option ℕ
  pub must_tail : Bool
  pub ty : Option Ty
  pub callee : Callee
  pub args : List Arg
  pub there : slice_get (instrs_of (function_in e s.top.func) s.top.block) s.top.at
      ≡ Some (Instr.Call result must_tail ty callee args)
  pub none : room_at (rooms e s.top.func) (function_in e s.top.func) s.top.block s.top.at
      (Instr.Call result must_tail ty callee args) ≡ None
  pub func : ℕ
  pub calls : CallsTo e s t ty args func callee
  pub reads : Each (IsAlike (differing e s t)) (values_of args)
  pub holds : HoldsStill e s

-- ---- calls of ramps that are given an alloca

-- a name in which a ramp that is given its frame differs
abbrev pub IsSetApart : Shape → ℕ → Type 0
IsSetApart x v = (x.need v ≡ true) ⊎ ((x.freed v ≡ true) ⊎ ((is_eq : Bool) × (x.tested v ≡ Some is_eq)))

-- a coroutine whose parameters don't differ, and which holds no block where it is entered
pub record StartsAlike (e : Elision) (func : ℕ) : Type 0 where
  pub coroutine : (function_in e func).coroutine ≡ true
  pub params : (v : ℕ) → IsSetApart (e.shape func) v
      → Each (λ (p : Param). p.name ≡ v → ⊥) (function_in e func).params
  pub holds : (e.shape func).holds 0 0 ≡ None

-- what is asked of a call that gives its callee an alloca
pub record IsAtSite (e : Elision) (s t : State) : Type 0 where
  pub runs : s.outcome ≡ Outcome.Running
  pub result : Option ℕ
  pub must_tail : Bool
  pub ty : Option Ty
  pub name : Name
  pub args : List Arg
  pub there : slice_get (instrs_of (function_in e s.top.func) s.top.block) s.top.at
      ≡ Some (Instr.Call result must_tail ty (Callee.Named name) args)
  pub size : ℕ
  pub align : ℕ
  pub room : room_at (rooms e s.top.func) (function_in e s.top.func) s.top.block s.top.at
      (Instr.Call result must_tail ty (Callee.Named name) args) ≡ Some (GivenFrame.Alloca size align)
  pub func : ℕ
  pub named : function_named e.code name ≡ Some func
  pub ungiven : given_ramp e.code name ≡ None
  pub given : given_ramp e.code (noalloc_of name) ≡ Some func
  pub starts : StartsAlike e func
  pub fits : length args ≡ length (function_in e func).params
  pub reads : Each (IsAlike (differing e s t)) (values_of args)
  pub holds : HoldsStill e s

-- ---- the front of a function

-- an alloca has a number as its alignment that is one
abbrev pub IsAligned : Instr → Type 0
IsAligned (Instr.Alloca name ty align) = is_alignment align ≡ true
IsAligned _ = Unit {0}

-- no marker is one of a name that the function doesn't have
abbrev pub MarksOwn : Function → Type 0
MarksOwn f = (v : ℕ) → length f.names ≤ v → has_markers f v ≡ false

-- what is asked where a function that is no coroutine has just been entered
pub record IsAtFront (e : Elision) (s t : State) : Type 0 where
  pub runs : s.outcome ≡ Outcome.Running
  pub plain : (function_in e s.top.func).coroutine ≡ false
  pub mode : t.top.mode ≡ Mode.Plain
  pub instance : t.top.instance ≡ None
  pub block : s.top.block ≡ 0
  pub at : s.top.at ≡ 0
  pub other_block : t.top.block ≡ 0
  pub other_at : t.top.at ≡ 0
  pub slots : t.top.slots ≡ []
  pub values : length s.top.values ≤ length (function_in e s.top.func).names
  pub others : length (function_in_elided e s.top.func).names ≤ length t.top.values
  pub entry : Block
  pub has_entry : slice_get (function_in e s.top.func).blocks 0 ≡ Some entry
  pub aligned : Each IsAligned (allocas_ahead (rooms e s.top.func) (function_in e s.top.func))
  pub marks : MarksOwn (function_in e s.top.func)

-- what is asked of any other place: nothing is put in front of it that the second run hasn't executed
pub record IsBehindFront (e : Elision) (s t : State) : Type 0 where
  pub block : t.top.block ≡ s.top.block
  pub at : t.top.at ≡ front_at (rooms e s.top.func) (function_in e s.top.func) s.top.block s.top.at
  pub unput : (block at : ℕ) (i : Instr) → put_by (rooms e s.top.func block at i) ≡ 0
  pub none : s.top.block ≡ 0 → s.top.at ≡ 0 → allocas_ahead (rooms e s.top.func) (function_in e s.top.func) ≡ []

-- handles of sites of a function are destroyed before it returns or calls them again
abbrev pub DestroysHandles : Elision → ℕ → Type 0
DestroysHandles e func =
    (call : Point) (i : Instr) (name : ℕ) → IsSiteOf e func call i name → IsDestroyed (function_in e func) call
