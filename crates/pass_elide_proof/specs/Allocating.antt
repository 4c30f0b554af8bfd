-- A given ramp waits at its branch while the other one allocates its frame.
use Rattle.std.specs.Prelude.{◌≡◌, ◌+◌, ◌<◌, ℕ, Bool, true, List, [], length, Some, None, Option}
use Rattle.elide_shape.specs.Calls.{deals}
use Rattle.elide_shape.specs.declared.calls.Dealing.{Dealing}
use Rattle.pass_elide_proof.specs.Elision.{Elision, framed, function_in, rooms}
use Rattle.pass_elide_proof.specs.Match.{IsAtEnd, is_given_mode}
use Rattle.pass_elide_proof.specs.Places.{allocas_ahead}
use Rattle.pass_elide_proof.specs.Sizes.{IsMadeThere}
use Rattle.pass_proofs.specs.ir_base.declared.outcome.Outcome.{Outcome}
use Rattle.pass_proofs.specs.ir_base.declared.outcome.Word.{Word}
use Rattle.pass_proofs.specs.ir_model.Ty.{Ty}
use Rattle.pass_proofs.specs.ir_model.declared.instr.Instr.{Instr}
use Rattle.pass_proofs.specs.ir_model.declared.operand.Allocator.{Allocator}
use Rattle.pass_proofs.specs.ir_model.declared.operand.Arg.{Arg}
use Rattle.pass_proofs.specs.ir_model.declared.operand.Callee.{Callee}
use Rattle.pass_proofs.specs.run_memory.declared.pointer.Value.{Value}
use Rattle.pass_proofs.specs.run_source.State.{function_of}
use Rattle.pass_proofs.specs.run_source.declared.state.State.{State}
use Rattle.pass_proofs.specs.run_step.Step.{AtInstr, fetch}
use Rattle.pass_proofs.specs.run_step.Values.{arg_values, nth}

-- what is asked of the two states, and of the coroutine's shape
pub record IsAtAllocation (e : Elision) (s t : State) (a : Allocator) (result : ℕ) (must_tail : Bool)
    (ty : Option Ty) (args : List Arg) : Type 0 where
  pub runs : s.outcome ≡ Outcome.Running
  pub allocates : deals Dealing.Allocates a ≡ true
  pub there : fetch (function_of (framed e).given s) s.top.block s.top.at
      ≡ AtInstr (Instr.Call (Some result) must_tail ty (Callee.Allocator a) args)
  pub given : is_given_mode t.top.mode ≡ true
  pub waits : (e.shape s.top.func).waits s.top.block ≡ Some t.top.block
  pub stays : IsAtEnd e t.top
  pub none : allocas_ahead (rooms e s.top.func) (function_in e s.top.func) ≡ []
  pub made : IsMadeThere (e.shape s.top.func) result
  pub room : result < length s.top.values
  -- it asks for a block of any size
  pub word : Word
  pub size : nth (arg_values e.code s.top.values args) 0 ≡ Value.Int word
  -- from now on it holds a block, by this name
  pub before : (e.shape s.top.func).holds s.top.block s.top.at ≡ None
  pub behind : (e.shape s.top.func).holds s.top.block (s.top.at + 1) ≡ Some result
