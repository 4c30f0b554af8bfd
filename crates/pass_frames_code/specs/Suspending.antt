-- What is asked of a state whose next step is a suspend.
use Rattle.std.specs.Prelude.{◌≡◌, ◌∷◌, Bool, List, None, Option, Some, false, length, slice_get, true, ℕ}
use Rattle.pass_proofs.specs.ir_base.declared.outcome.Outcome.{Outcome}
use Rattle.pass_proofs.specs.ir_model.Ty.{Ty}
use Rattle.pass_proofs.specs.ir_model.declared.instr.Instr.{Instr}
use Rattle.pass_proofs.specs.ir_model.declared.operand.Arg.{Arg}
use Rattle.pass_proofs.specs.ir_model.declared.operand.Callee.{Callee}
use Rattle.pass_proofs.specs.ir_model.declared.operand.Intrinsic.{Intrinsic}
use Rattle.pass_proofs.specs.ir_model.declared.operand.Operand.{Operand}
use Rattle.pass_proofs.specs.pass_cells.Kept.{entry}
use Rattle.pass_frames_code.specs.Ordinary.{IsPlainName}
use Rattle.pass_frames_code.specs.Places.{Framing, edged, instrs_at, is_return, plan}
use Rattle.pass_frames_code.specs.Related.{Building, is_coroutine}
use Rattle.pass_frames_code.specs.Saving.{HasLowAllocas, IsBare}
use Rattle.pass_frames_code.specs.Stepping.{IsNotEntering}
use Rattle.pass_proofs.specs.run_source.declared.state.State.{State}

abbrev pub suspend_call : ℕ → Bool → Option Ty → Ty → ℕ → List Arg → Instr
suspend_call result must_tail ty token_ty token args =
    Instr.Call (Some result) must_tail ty (Callee.Intrinsic Intrinsic.CoroSuspend)
    (record { ty = token_ty; value = Operand.Local token } ∷ args)

-- a name of the coroutine that is no alloca's and is kept nowhere, and on which no distance stands
pub record IsLooseName (x : Framing) (r : ℕ) : Type 0 where
  pub plain : IsPlainName x r
  pub unkept : entry (plan x).places r ≡ None
  pub no_alloca : (at u align : ℕ) (ty : Ty) → slice_get (instrs_at x 0) at ≡ Some (Instr.Alloca u ty align) → r ≡ u
      → ⊥

-- The next step is a suspend with its save's token. Its result is used by its switch alone (K3), so it is kept nowhere.
pub record IsAtSuspend (b : Building) (s : State) : Type 0 where
  pub result : ℕ
  pub must_tail : Bool
  pub ty : Option Ty
  pub token_ty : Ty
  pub token : ℕ
  pub args : List Arg
  pub runs : s.outcome ≡ Outcome.Running
  pub coroutine : is_coroutine b s.top.func ≡ true
  pub mode : IsNotEntering s.top.mode
  pub there : slice_get (instrs_at (b.framing s.top.func) s.top.block) s.top.at
      ≡ Some (suspend_call result must_tail ty token_ty token args)
  pub unreturned : is_return (b.framing s.top.func) s.top.block ≡ false
  pub bare : IsBare (b.framing s.top.func) (suspend_call result must_tail ty token_ty token args)
  pub loose : IsLooseName (b.framing s.top.func) result
  pub room : length s.top.values ≡ length (edged (b.framing s.top.func)).names
  pub allocas : HasLowAllocas (b.framing s.top.func)
