-- Both runs stand at the same call of a coro intrinsic, behind what is put in front of it.
use Rattle.std.specs.Prelude.{◌≡◌, ◌≢◌, ◌+◌, ◌<◌, ℕ, Bool, true, false, List, [], length, Some, None, Option}
use Rattle.pass_elide_proof.specs.Elision.{Elision, Shape, framed, function_in, rooms}
use Rattle.pass_elide_proof.specs.Match.{AreElided, is_given_mode}
use Rattle.pass_elide_proof.specs.Places.{allocas_ahead, front_at, own_at}
use Rattle.pass_proofs.specs.ir_base.declared.outcome.Outcome.{Outcome}
use Rattle.pass_proofs.specs.ir_model.Ty.{Ty}
use Rattle.pass_proofs.specs.ir_model.declared.instr.Instr.{Instr}
use Rattle.pass_proofs.specs.ir_model.declared.operand.Arg.{Arg}
use Rattle.pass_proofs.specs.ir_model.declared.operand.Callee.{Callee}
use Rattle.pass_proofs.specs.ir_model.declared.operand.Intrinsic.{Intrinsic}
use Rattle.pass_proofs.specs.run_source.State.{function_of}
use Rattle.pass_proofs.specs.run_source.declared.state.State.{State}
use Rattle.pass_proofs.specs.run_step.Step.{AtInstr, fetch}

-- the call sets a name of its function, if any
pub record AreAtCall (e : Elision) (s t : State) (i : Intrinsic) (result : Option ℕ) (must_tail : Bool)
    (ty : Option Ty) (args : List Arg) : Type 0 where
  pub runs : s.outcome ≡ Outcome.Running
  pub there : fetch (function_of (framed e).given s) s.top.block s.top.at
      ≡ AtInstr (Instr.Call result must_tail ty (Callee.Intrinsic i) args)
  pub block : t.top.block ≡ s.top.block
  pub front : t.top.at ≡ front_at (rooms e s.top.func) (function_in e s.top.func) s.top.block s.top.at
  pub own : t.top.at ≡ own_at (rooms e s.top.func) (function_in e s.top.func) s.top.block s.top.at
  pub names : (v : ℕ) → result ≡ Some v → v < length (function_in e s.top.func).names

-- the other run, with its topmost activation at a position of its block
abbrev pub standing_at : State → ℕ → State
standing_at t n = record t { top = record t.top { at = n } }

-- The other run stands at the call. What stands in front of it, it has executed. Beside the first run stands what it
-- was in front of that, but that the allocas have been made. At the first place they have been, if there are any.
pub record AreAtOwn (e : Elision) (s t : State) (n : ℕ) (r : AreElided e s (standing_at t n)) (i : Intrinsic)
    (result : Option ℕ) (must_tail : Bool) (ty : Option Ty) (args : List Arg) : Type 0 where
  pub runs : s.outcome ≡ Outcome.Running
  pub there : fetch (function_of (framed e).given s) s.top.block s.top.at
      ≡ AtInstr (Instr.Call result must_tail ty (Callee.Intrinsic i) args)
  pub block : t.top.block ≡ s.top.block
  pub own : t.top.at ≡ own_at (rooms e s.top.func) (function_in e s.top.func) s.top.block s.top.at
  pub names : (v : ℕ) → result ≡ Some v → v < length (function_in e s.top.func).names
  pub made : s.top.block ≡ 0 → s.top.at ≡ 0 → r.top.own ≡ []
      → allocas_ahead (rooms e s.top.func) (function_in e s.top.func) ≡ []

-- where a ramp was given its frame, it holds the same block behind the call, by a name that isn't set
pub record HoldsOn (e : Elision) (s t : State) (result : Option ℕ) : Type 0 where
  pub holds : is_given_mode t.top.mode ≡ true
      → (e.shape s.top.func).holds s.top.block (s.top.at + 1) ≡ (e.shape s.top.func).holds s.top.block s.top.at
  pub kept : is_given_mode t.top.mode ≡ true → (v name : ℕ) → result ≡ Some v
      → (e.shape s.top.func).holds s.top.block s.top.at ≡ Some name → name ≢ v

-- what coro.free gives, and a test of it, have other names
pub record IsNoFreed (x : Shape) (v : ℕ) : Type 0 where
  pub freed : x.freed v ≡ false
  pub tested : x.tested v ≡ None

-- a name that has the same value whether the frame was given or not
pub record IsPlainName (x : Shape) (v : ℕ) : Type 0 where
  pub need : x.need v ≡ false
  pub other : IsNoFreed x v

-- coro.id, coro.size, coro.align and coro.frame don't look at the mode
abbrev pub is_constant : Intrinsic → Bool
is_constant Intrinsic.CoroId = true
is_constant Intrinsic.CoroSizeI32 = true
is_constant Intrinsic.CoroSizeI64 = true
is_constant Intrinsic.CoroAlignI32 = true
is_constant Intrinsic.CoroAlignI64 = true
is_constant Intrinsic.CoroFrame = true
is_constant _ = false

pub record IsAtConstant (e : Elision) (s t : State) (i : Intrinsic) (result : Option ℕ) (must_tail : Bool)
    (ty : Option Ty) (args : List Arg) : Type 0 where
  pub call : AreAtCall e s t i result must_tail ty args
  pub constant : is_constant i ≡ true
  pub holds : HoldsOn e s t result
  pub plain : (v : ℕ) → result ≡ Some v → IsPlainName (e.shape s.top.func) v

-- coro.alloc; where a ramp was given its frame, the shape tells its name
pub record IsAtAsking (e : Elision) (s t : State) (result : Option ℕ) (must_tail : Bool) (ty : Option Ty)
    (args : List Arg) : Type 0 where
  pub call : AreAtCall e s t Intrinsic.CoroAlloc result must_tail ty args
  pub holds : HoldsOn e s t result
  pub need : (v : ℕ) → result ≡ Some v → is_given_mode t.top.mode ≡ true → (e.shape s.top.func).need v ≡ true
  pub other : (v : ℕ) → result ≡ Some v → IsNoFreed (e.shape s.top.func) v
