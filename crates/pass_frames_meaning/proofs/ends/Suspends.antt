-- What is told of a suspend: the token that it takes, and its result.
use Rattle.std.proofs.Common.{◌≡◌, ℕ, Bool, true, List, Option, refl}
use Rattle.pass_frames_proof.specs.ir_model.Names.{function_at}
use Rattle.pass_frames_proof.specs.ir_model.Ty.{Ty}
use Rattle.pass_frames_proof.specs.ir_model.declared.instr.Instr.{Instr}
use Rattle.pass_frames_proof.specs.ir_model.declared.operand.Arg.{Arg}
use Rattle.pass_frames_proof.specs.ir_model.declared.operand.Callee.{Callee}
use Rattle.pass_frames_proof.specs.ir_model.declared.operand.Intrinsic.{Intrinsic}
use Rattle.pass_frames_meaning.specs.Coroutines.{MaySuspend}
use Rattle.pass_frames_meaning.specs.Ends.{IsToldSuspend, KeepsEnds}
use Rattle.pass_frames_meaning.specs.Setting.{Setting}
use Rattle.pass_frames_proof.specs.Related.{is_coroutine}
use Rattle.pass_frames_proof.specs.pass_kept_proof.SuspendRules.{IsCallAt}
use Rattle.pass_renewed_meaning.specs.run_hooks.Away.{HasStop, point_in}
use Rattle.pass_frames_proof.specs.run_source.State.{function_of}
use Rattle.pass_frames_proof.specs.run_source.declared.state.State.{State}
use Rattle.pass_frames_proof.specs.run_step.Step.{AtInstr, fetch}

module _ (c : Setting) (keeps : KeepsEnds c) (s : State) (coroutine : is_coroutine c.b s.top.func ≡ true)
    (result : Option ℕ) (must_tail : Bool) (ty : Option Ty) (args : List Arg)
    (there : fetch (function_of c.g.given s) s.top.block s.top.at
    ≡ AtInstr (Instr.Call result must_tail ty (Callee.Intrinsic Intrinsic.CoroSuspend) args)) where
  abbrev i : Instr
  i = Instr.Call result must_tail ty (Callee.Intrinsic Intrinsic.CoroSuspend) args

  call : IsCallAt Intrinsic.CoroSuspend (function_at c.g.given.code s.top.func) (point_in s.top)
  call = record { instr = i; stands = there; is = refl }

  stop : HasStop c.g.given.code (function_at c.g.given.code s.top.func) (point_in s.top)
  stop = (keeps.places.each s.top.func).stops (point_in s.top) call

  told : IsToldSuspend (c.b.framing s.top.func) result args
  told = keeps.suspends s.top.func s.top.block s.top.at result must_tail ty args coroutine there

  pub suspend_told : MaySuspend c s result args
  suspend_told =
      let y = stop.result i there in
      record {
        token = told.token;
        takes = told.takes;
        name = y.0;
        named = y.1;
        unkept = told.unkept y.0 y.1;
      }
