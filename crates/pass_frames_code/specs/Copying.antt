-- The next step is a memcpy.
use Rattle.std.specs.Prelude.{◌≡◌, Bool, List, None, Option, false}
use Rattle.pass_proofs.specs.ir_base.declared.outcome.Outcome.{Outcome}
use Rattle.pass_proofs.specs.ir_model.Ty.{Ty}
use Rattle.pass_proofs.specs.ir_model.declared.instr.Instr.{Instr}
use Rattle.pass_proofs.specs.ir_model.declared.operand.Arg.{Arg}
use Rattle.pass_proofs.specs.ir_model.declared.operand.Callee.{Callee}
use Rattle.pass_proofs.specs.ir_model.declared.operand.Intrinsic.{Intrinsic}
use Rattle.pass_frames_code.specs.Here.{IsHere}
use Rattle.pass_frames_code.specs.Related.{Building, is_coroutine}
use Rattle.pass_frames_code.specs.Stepping.{IsNotEntering}
use Rattle.pass_renewed_proof.specs.Renewed.{RenewedGiven}
use Rattle.pass_proofs.specs.run_source.Source.{context_of}
use Rattle.pass_proofs.specs.run_source.State.{function_of, work_of}
use Rattle.pass_proofs.specs.run_source.declared.state.State.{State}
use Rattle.pass_proofs.specs.run_step.Step.{AtInstr, Done, Work, fetch, instr_action}

abbrev pub IsCopying : Intrinsic → Type 0
IsCopying Intrinsic.MemcpyI64 = Unit {0}
IsCopying Intrinsic.MemcpyI32 = Unit {0}
IsCopying _ = ⊥

-- in a coroutine; it gives no value
pub record IsAtCopying (b : Building) (g : RenewedGiven) (s : State) (i : Intrinsic) (must_tail : Bool)
    (ty : Option Ty) (args : List Arg) (v : Work) : Type 0 where
  pub here : IsHere b s (Instr.Call None must_tail ty (Callee.Intrinsic i) args)
  pub copying : IsCopying i
  pub does : instr_action (context_of g.given s) (work_of s)
      (Instr.Call None must_tail ty (Callee.Intrinsic i) args) ≡ Done v

-- in a function that is no coroutine
pub record IsAtOtherCopying (b : Building) (g : RenewedGiven) (s : State) (i : Intrinsic) (must_tail : Bool)
    (ty : Option Ty) (args : List Arg) (v : Work) : Type 0 where
  pub runs : s.outcome ≡ Outcome.Running
  pub plain : is_coroutine b s.top.func ≡ false
  pub mode : IsNotEntering s.top.mode
  pub there : fetch (function_of g.given s) s.top.block s.top.at
      ≡ AtInstr (Instr.Call None must_tail ty (Callee.Intrinsic i) args)
  pub copying : IsCopying i
  pub does : instr_action (context_of g.given s) (work_of s)
      (Instr.Call None must_tail ty (Callee.Intrinsic i) args) ≡ Done v
