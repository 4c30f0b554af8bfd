-- A coroutine below stands behind its call as returns ask.
use Rattle.std.proofs.Common.{◌≡◌, ℕ, true, false, length, Option, Some, refl, ap, ◌∙◌}
use Rattle.std.specs.Prelude.{slice_get}
use Rattle.pass_frames_proof.specs.ir_model.Names.{function_at}
use Rattle.pass_frames_proof.specs.ir_model.declared.instr.Instr.{Instr}
use Rattle.pass_frames_proof.specs.ir_model.declared.module.Function.{Function}
use Rattle.pass_frames_proof.specs.ir_model.declared.operand.Callee.{Callee}
use Rattle.pass_frames_proof.specs.ir_model.declared.operand.Intrinsic.{Intrinsic}
use Rattle.pass_frames_proof.specs.pass_copies.Uses.{is_access}
use Rattle.pass_frames_meaning.proofs.others.Names.{no_alloca, plain_name, result_low}
use Rattle.pass_frames_meaning.proofs.others.Returns.{instr_in, no_return}
use Rattle.pass_frames_meaning.proofs.others.Unlocated.{unaccessed}
use Rattle.pass_frames_meaning.specs.Called.{IsBehindCall as IsCalledAt, IsCalling, IsCalm}
use Rattle.pass_frames_meaning.specs.Setting.{KeepsAll, Setting}
use Rattle.pass_frames_proof.proofs.suspending.Given.{edged_framed}
use Rattle.pass_frames_proof.specs.Framings.{IsFraming}
use Rattle.pass_frames_proof.specs.Places.{Framing, edged, instrs_at}
use Rattle.pass_frames_proof.specs.Related.{is_coroutine}
use Rattle.pass_frames_proof.specs.Returning.{IsBehindCall, IsSwitching}
use Rattle.pass_frames_proof.specs.Stepping.{IsNotEntering, state_in}
use Rattle.pass_frames_proof.specs.run_source.declared.state.Activation.{Activation}
use Rattle.pass_frames_proof.specs.run_source.declared.state.Mode.{Mode}

pub waits : (mode : Mode) → IsCalm mode → IsNotEntering mode
waits Mode.Plain h = tt
waits Mode.Ramp h = tt
waits Mode.Resumed h = tt
waits (Mode.GivenRamp frame) h = tt
waits (Mode.Entering from label) h = absurd h

switches : (i : Instr) → IsCalling i → IsSwitching i
switches (Instr.Call result must_tail ty (Callee.Named n) args) h = tt
switches (Instr.Call result must_tail ty (Callee.Local v) args) h = tt
switches (Instr.Call result must_tail ty (Callee.Allocator a) args) h = absurd h
switches (Instr.Call result must_tail ty (Callee.Intrinsic Intrinsic.CoroResume) args) h = tt
switches (Instr.Call result must_tail ty (Callee.Intrinsic Intrinsic.CoroDestroy) args) h = tt
switches (Instr.Call result must_tail ty (Callee.Intrinsic _) args) h = absurd h
switches (Instr.Binary name op flags ty a b) h = absurd h
switches (Instr.Icmp name pred ty a b) h = absurd h
switches (Instr.Select name x a b) h = absurd h
switches (Instr.Cast name op nneg arg to) h = absurd h
switches (Instr.Alloca name ty align) h = absurd h
switches (Instr.Load name ty p align) h = absurd h
switches (Instr.Store arg p align) h = absurd h
switches (Instr.Gep name inbounds ty base indices) h = absurd h

no_access : (i : Instr) → IsCalling i → is_access i ≡ false
no_access (Instr.Call result must_tail ty (Callee.Named n) args) h = refl
no_access (Instr.Call result must_tail ty (Callee.Local v) args) h = refl
no_access (Instr.Call result must_tail ty (Callee.Allocator a) args) h = refl
no_access (Instr.Call result must_tail ty (Callee.Intrinsic Intrinsic.CoroResume) args) h = refl
no_access (Instr.Call result must_tail ty (Callee.Intrinsic Intrinsic.CoroDestroy) args) h = refl
no_access (Instr.Call result must_tail ty (Callee.Intrinsic _) args) h = absurd h
no_access (Instr.Binary name op flags ty a b) h = absurd h
no_access (Instr.Icmp name pred ty a b) h = absurd h
no_access (Instr.Select name x a b) h = absurd h
no_access (Instr.Cast name op nneg arg to) h = absurd h
no_access (Instr.Alloca name ty align) h = absurd h
no_access (Instr.Load name ty p align) h = absurd h
no_access (Instr.Store arg p align) h = absurd h
no_access (Instr.Gep name inbounds ty base indices) h = absurd h

module _ (c : Setting) (all : KeepsAll c) where
  -- with a value, or none, for each name of its function
  pub behind_call : (a : Activation) (result : Option ℕ) → is_coroutine c.b a.func ≡ true
      → length a.values ≡ length (function_at c.g.given.code a.func).names
      → IsCalledAt (function_at c.g.given.code a.func) a result → IsBehindCall c.b a result
  behind_call a result coroutine room h =
      let x : Framing = c.b.framing a.func in
      let is : IsFraming (c.b.framing a.func) = all.given.framings a.func coroutine in
      let same : function_at c.g.given.code a.func ≡ edged (c.b.framing a.func) = all.given.coroutines a.func coroutine in
      let there : slice_get (instrs_at (c.b.framing a.func) a.block) h.at ≡ Some h.call =
      instr_in (c.b.framing a.func) (function_at c.g.given.code a.func) same a.block h.at h.call h.there in
      record {
        mode = waits a.mode h.calm;
        unreturned = no_return c all a.func a.block h.at h.call coroutine h.there;
        at = h.at;
        behind = h.behind;
        call = h.call;
        there = there;
        given = h.gives;
        switches = switches h.call h.calls;
        unlocated = unaccessed (c.b.framing a.func) (state_in (c.b.framing a.func) a.block h.at) h.call
            (no_access h.call h.calls);
        plain = λ q e. plain_name (c.b.framing a.func) is a.block h.at h.call there h.calls q (h.gives ∙ e);
        room = room ∙ ap (λ (f : Function). length f.names) same;
        wide = edged_framed (c.b.framing a.func);
        allocas = λ k u align ty e. (
          result_low (c.b.framing a.func) is 0 k u (Instr.Alloca u ty align) e refl,
          λ q. no_alloca (c.b.framing a.func) is a.block h.at h.call there h.calls u (h.gives ∙ q) 0 k align ty e,
        );
      }
