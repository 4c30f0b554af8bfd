-- A given ramp waits at its branch while the other one asks for the frame's size in the allocator's block.
use Rattle.std.specs.Prelude.{◌≡◌, ◌≢◌, ◌+◌, ◌⊎◌, ℕ, Bool, true, false, List, [], Ok, Some, None, Option}
use Rattle.pass_elide_proof.specs.Elision.{Elision, Shape, framed, function_in, rooms}
use Rattle.pass_elide_proof.specs.Match.{IsAtEnd, is_given_mode}
use Rattle.pass_elide_proof.specs.Places.{allocas_ahead}
use Rattle.pass_proofs.specs.ir_base.declared.outcome.Outcome.{Outcome}
use Rattle.pass_proofs.specs.ir_model.Ty.{Ty}
use Rattle.pass_proofs.specs.ir_model.declared.instr.Instr.{Instr}
use Rattle.pass_proofs.specs.ir_model.declared.operand.Arg.{Arg}
use Rattle.pass_proofs.specs.ir_model.declared.operand.Callee.{Callee}
use Rattle.pass_proofs.specs.ir_model.declared.operand.Intrinsic.{Intrinsic}
use Rattle.pass_proofs.specs.run_framed.Framed.{framed_next}
use Rattle.pass_proofs.specs.run_memory.declared.pointer.Value.{Value}
use Rattle.pass_proofs.specs.run_source.State.{function_of, gives}
use Rattle.pass_proofs.specs.run_source.declared.state.State.{State}
use Rattle.pass_proofs.specs.run_step.Step.{AtInstr, fetch}

-- a name of what is made where a ramp allocates
pub record IsMadeThere (x : Shape) (v : ℕ) : Type 0 where
  pub made : x.made v ≡ true
  pub need : x.need v ≡ false
  pub freed : x.freed v ≡ false
  pub tested : x.tested v ≡ None

-- what is asked of the two states, and of the coroutine's shape
pub record IsAtSize (e : Elision) (s t : State) (i : Intrinsic) (result : Option ℕ) (must_tail : Bool)
    (ty : Option Ty) (args : List Arg) : Type 0 where
  pub runs : s.outcome ≡ Outcome.Running
  pub size : (i ≡ Intrinsic.CoroSizeI32) ⊎ (i ≡ Intrinsic.CoroSizeI64)
  pub there : fetch (function_of (framed e).given s) s.top.block s.top.at
      ≡ AtInstr (Instr.Call result must_tail ty (Callee.Intrinsic i) args)
  pub given : is_given_mode t.top.mode ≡ true
  pub waits : (e.shape s.top.func).waits s.top.block ≡ Some t.top.block
  pub stays : IsAtEnd e t.top
  -- the coroutine gives no alloca to a callee
  pub none : allocas_ahead (rooms e s.top.func) (function_in e s.top.func) ≡ []
  pub made : (v : ℕ) → result ≡ Some v → IsMadeThere (e.shape s.top.func) v
  -- no block is allocated here, and the name of one that was isn't set
  pub holds : (e.shape s.top.func).holds s.top.block (s.top.at + 1) ≡ (e.shape s.top.func).holds s.top.block s.top.at
  pub kept : (v name : ℕ) → result ≡ Some v → (e.shape s.top.func).holds s.top.block s.top.at ≡ Some name → name ≢ v

-- The framed run sets a name of what is made there, by an instruction of any kind: a size, or a kept value that is
-- loaded.
pub record IsAtMade (e : Elision) (s t : State) (result : Option ℕ) (w : Value) : Type 0 where
  pub runs : s.outcome ≡ Outcome.Running
  pub goes : framed_next (framed e) s (fetch (function_of (framed e).given s) s.top.block s.top.at)
      ≡ Ok (gives s result w)
  pub given : is_given_mode t.top.mode ≡ true
  pub waits : (e.shape s.top.func).waits s.top.block ≡ Some t.top.block
  pub stays : IsAtEnd e t.top
  pub none : allocas_ahead (rooms e s.top.func) (function_in e s.top.func) ≡ []
  pub made : (v : ℕ) → result ≡ Some v → IsMadeThere (e.shape s.top.func) v
  pub holds : (e.shape s.top.func).holds s.top.block (s.top.at + 1) ≡ (e.shape s.top.func).holds s.top.block s.top.at
  pub kept : (v name : ℕ) → result ≡ Some v → (e.shape s.top.func).holds s.top.block s.top.at ≡ Some name → name ≢ v
