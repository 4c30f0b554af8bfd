-- Steps of functions that are no coroutines.
use Rattle.std.specs.Prelude.{◌≡◌, ◌⊎◌, ℕ, Bool, true, List, Option}
use Rattle.pass_frames_proof.specs.ir_model.Ty.{Ty}
use Rattle.pass_frames_proof.specs.ir_model.declared.instr.Instr.{Instr}
use Rattle.pass_frames_proof.specs.ir_model.declared.operand.Arg.{Arg}
use Rattle.pass_frames_proof.specs.ir_model.declared.operand.Callee.{Callee}
use Rattle.pass_frames_proof.specs.ir_model.declared.operand.Intrinsic.{Intrinsic}
use Rattle.pass_frames_meaning.specs.Setting.{Setting}
use Rattle.pass_frames_proof.specs.Followed.{IsFollowed}
use Rattle.pass_frames_proof.specs.Related.{is_coroutine}
use Rattle.pass_frames_proof.specs.run_memory.declared.pointer.Value.{Value}
use Rattle.pass_frames_proof.specs.run_source.Source.{context_of}
use Rattle.pass_frames_proof.specs.run_source.State.{function_of, work_of}
use Rattle.pass_frames_proof.specs.run_source.declared.state.State.{State}
use Rattle.pass_frames_proof.specs.run_step.Step.{AtInstr, Enter, fetch, instr_action}

-- The steps that enter a coroutine are followed: calls of ramps, and resumes and destroys.
pub record EntersCoroutines (c : Setting) (s t : State) : Type 0 where
  pub ramps : (i : Instr) (func : ℕ) (args : List Value) (result : Option ℕ) (must_tail : Bool)
      → fetch (function_of c.g.given s) s.top.block s.top.at ≡ AtInstr i
      → instr_action (context_of c.g.given s) (work_of s) i ≡ Enter func args result must_tail
      → is_coroutine c.b func ≡ true → IsFollowed c.b c.g s t
  pub wakes : (x : Intrinsic) → (x ≡ Intrinsic.CoroResume) ⊎ (x ≡ Intrinsic.CoroDestroy) → (result : Option ℕ)
      (must_tail : Bool) (ty : Option Ty) (args : List Arg) → fetch (function_of c.g.given s) s.top.block s.top.at
      ≡ AtInstr (Instr.Call result must_tail ty (Callee.Intrinsic x) args) → IsFollowed c.b c.g s t
