-- So does each of the coro intrinsics.
use Rattle.std.proofs.Common.{◌≡◌, ℕ, Bool, false, List, Option, Some, Result, refl, sym, ap, ◌∙◌}
use Rattle.pass_renewed_proof.specs.ir_base.declared.cause.Cause.{Cause}
use Rattle.pass_renewed_proof.specs.ir_model.Ty.{Ty}
use Rattle.pass_renewed_proof.specs.ir_model.declared.instr.Instr.{Instr}
use Rattle.pass_renewed_proof.specs.ir_model.declared.module.Function.{Function}
use Rattle.pass_renewed_proof.specs.ir_model.declared.module.Module.{Module}
use Rattle.pass_renewed_proof.specs.ir_model.declared.operand.Arg.{Arg}
use Rattle.pass_renewed_proof.specs.ir_model.declared.operand.Callee.{Callee}
use Rattle.pass_renewed_proof.specs.ir_model.declared.operand.Intrinsic.{Intrinsic}
use Rattle.pass_renewed_proof.specs.ir_paths.Windows.{call_operand, is_call_of, operand_at}
use Rattle.pass_renewed_proof.specs.ir_paths.declared.point.Point.{Point}
use Rattle.pass_renewed_proof.specs.pass_kept_proof.Needed.{given_by, given_by_intrinsic}
use Rattle.pass_renewed_proof.specs.SlotRules.{IsMadeOnce}
use Rattle.run_hooks.proofs.alive.Acts.{then_alive}
use Rattle.run_hooks.specs.Away.{point_in}
use Rattle.run_hooks.specs.Hooks.{hooked_coro}
use Rattle.run_hooks.specs.alive.Alive.{IsAliveState, StaysAlive, handing}
use Rattle.pass_renewed_proof.specs.run_memory.declared.pointer.Value.{Value}
use Rattle.pass_renewed_proof.specs.run_source.Source.{promise}
use Rattle.pass_renewed_proof.specs.run_source.State.{function_of, gives, own_facts, work_of}
use Rattle.pass_renewed_proof.specs.run_source.declared.state.State.{State}
use Rattle.pass_renewed_proof.specs.run_source_tables.Given.{Given}
use Rattle.pass_renewed_proof.specs.run_step.Effects.{is_alloca}
use Rattle.pass_renewed_proof.specs.run_step.Step.{AtInstr, Context, Coro, Fetched, fetch, instr_action}
use Rattle.pass_renewed_proof.specs.run_step.Values.{Env, nth}
use Rattle.run_hooks.proofs.alive.Now.{IsNow, apart_of, gives_here, next_here}
use Rattle.run_hooks.proofs.alive.Saving.{begin_fine, free_fine, save_fine, suspend_fine}
use Rattle.run_hooks.proofs.alive.Ends.{end_fine}
use Rattle.run_hooks.proofs.alive.Sleeping.{sleeping, going, if_fine}

module _ {g : Given} {counts : ℕ → ℕ → Bool} {hand : ℕ → Point → Env → Env} {s : State}
    (start : IsNow g counts hand s) where
  abbrev m : Module
  m = g.code

  abbrev f : Function
  f = function_of g s

  abbrev p : Point
  p = point_in s.top

  abbrev here : Fetched
  here = fetch f s.top.block s.top.at

  abbrev ramp : List ℕ
  ramp = (own_facts g s).ramp_slots

  abbrev h : IsAliveState g.code counts s
  h = start.alive

  abbrev Fine : Result State Cause → Type 0
  Fine r = StaysAlive g.code counts r

  module _ (i : Instr) (stands : here ≡ AtInstr i) where
    -- ---- each of them

    module _ (result : Option ℕ) (must_tail : Bool) (ty : Option Ty) (args : List Arg) (vs : List Value) where
      pub coro_fine : (x : Intrinsic) → i ≡ Instr.Call result must_tail ty (Callee.Intrinsic x) args
          → (c : Context) → instr_action c (work_of s) i ≡ Coro x args result
          → Fine (hooked_coro (handing g hand) s x args vs result)
      coro_fine x shape c acts = on x shape acts
        where
          not_call : (y z : Intrinsic) → i ≡ Instr.Call result must_tail ty (Callee.Intrinsic z) args
              → is_call_of y (Instr.Call result must_tail ty (Callee.Intrinsic z) args) ≡ false → is_call_of y i ≡ false
          not_call y z e k = ap (is_call_of y) e ∙ k

          gives_it : (z : Intrinsic) → i ≡ Instr.Call result must_tail ty (Callee.Intrinsic z) args
              → given_by_intrinsic z result ≡ result → (u : ℕ) → IsMadeOnce f u → result ≡ Some u → ⊥
          gives_it z e k = (apart_of start i stands) (ap is_alloca e) result (ap given_by e ∙ k)

          gives_one : (z : Intrinsic) → i ≡ Instr.Call result must_tail ty (Callee.Intrinsic z) args
              → is_call_of Intrinsic.CoroEnd (Instr.Call result must_tail ty (Callee.Intrinsic z) args) ≡ false
              → is_call_of Intrinsic.LifetimeEnd (Instr.Call result must_tail ty (Callee.Intrinsic z) args) ≡ false
              → given_by_intrinsic z result ≡ result → (v : Value) → IsAliveState m counts (gives s result v)
          gives_one z e a b k v = (gives_here start i stands) (not_call Intrinsic.CoroEnd z e a)
              (not_call Intrinsic.LifetimeEnd z e b)
              result v (gives_it z e k)

          on : (x : Intrinsic) → i ≡ Instr.Call result must_tail ty (Callee.Intrinsic x) args
              → instr_action c (work_of s) i ≡ Coro x args result → Fine
              (hooked_coro (handing g hand) s x args vs result)
          on Intrinsic.CoroId e k = (next_here start i stands) (not_call Intrinsic.CoroEnd Intrinsic.CoroId e refl)
              (not_call Intrinsic.LifetimeEnd Intrinsic.CoroId e refl)
          on Intrinsic.CoroSizeI32 e k = gives_one Intrinsic.CoroSizeI32 e refl refl refl _
          on Intrinsic.CoroSizeI64 e k = gives_one Intrinsic.CoroSizeI64 e refl refl refl _
          on Intrinsic.CoroAlignI32 e k = gives_one Intrinsic.CoroAlignI32 e refl refl refl _
          on Intrinsic.CoroAlignI64 e k = gives_one Intrinsic.CoroAlignI64 e refl refl refl _
          on Intrinsic.CoroAlloc e k = gives_one Intrinsic.CoroAlloc e refl refl refl _
          on Intrinsic.CoroBegin e k = (begin_fine start i stands) (ap (is_call_of Intrinsic.CoroBegin) e)
              (not_call Intrinsic.CoroEnd Intrinsic.CoroBegin e refl)
              (not_call Intrinsic.LifetimeEnd Intrinsic.CoroBegin e refl) result (nth vs 1)
              (gives_it Intrinsic.CoroBegin e refl)
          on Intrinsic.CoroFree e k = (free_fine start i stands) (not_call Intrinsic.CoroEnd Intrinsic.CoroFree e refl)
              (not_call Intrinsic.LifetimeEnd Intrinsic.CoroFree e refl) result _ (gives_it Intrinsic.CoroFree e refl)
          on Intrinsic.CoroFrame e k = gives_one Intrinsic.CoroFrame e refl refl refl _
          on Intrinsic.CoroSave e k = (save_fine start i stands) (ap (is_call_of Intrinsic.CoroSave) e)
              (not_call Intrinsic.CoroEnd Intrinsic.CoroSave e refl)
              (not_call Intrinsic.LifetimeEnd Intrinsic.CoroSave e refl)
          on Intrinsic.CoroSuspend e k = (suspend_fine start i stands) (ap (is_call_of Intrinsic.CoroSuspend) e)
              (not_call Intrinsic.CoroEnd Intrinsic.CoroSuspend e refl)
              (not_call Intrinsic.LifetimeEnd Intrinsic.CoroSuspend e refl) result
              (gives_it Intrinsic.CoroSuspend e refl) (operand_at args 0) (ap (λ (j : Instr). call_operand j 0) e)
          on Intrinsic.CoroEnd e k = (end_fine start i stands) (ap (is_call_of Intrinsic.CoroEnd) e)
              (not_call Intrinsic.LifetimeEnd Intrinsic.CoroEnd e refl) result (gives_it Intrinsic.CoroEnd e refl)
          on Intrinsic.CoroResume e k =
              (sleeping start i stands) (not_call Intrinsic.CoroEnd Intrinsic.CoroResume e refl)
              (not_call Intrinsic.LifetimeEnd Intrinsic.CoroResume e refl) (nth vs 0) _
              (λ n x u values there status sound. (if_fine start i stands)
              (not_call Intrinsic.CoroEnd Intrinsic.CoroResume e refl)
              (not_call Intrinsic.LifetimeEnd Intrinsic.CoroResume e refl) _ _
              ((going start i stands) (not_call Intrinsic.CoroEnd Intrinsic.CoroResume e refl)
              (not_call Intrinsic.LifetimeEnd Intrinsic.CoroResume e refl) n x there u values status sound _
              (λ w. w.to_resume)))
          on Intrinsic.CoroDestroy e k =
              (sleeping start i stands) (not_call Intrinsic.CoroEnd Intrinsic.CoroDestroy e refl)
              (not_call Intrinsic.LifetimeEnd Intrinsic.CoroDestroy e refl) (nth vs 0) _
              (λ n x u values there status sound. (going start i stands)
              (not_call Intrinsic.CoroEnd Intrinsic.CoroDestroy e refl)
              (not_call Intrinsic.LifetimeEnd Intrinsic.CoroDestroy e refl) n x there u values status sound _
              (λ w. w.to_destroy))
          on Intrinsic.CoroDone e k =
              (sleeping start i stands) (not_call Intrinsic.CoroEnd Intrinsic.CoroDone e refl)
              (not_call Intrinsic.LifetimeEnd Intrinsic.CoroDone e refl) (nth vs 0) _
              (λ n x u values there status sound. (if_fine start i stands)
              (not_call Intrinsic.CoroEnd Intrinsic.CoroDone e refl)
              (not_call Intrinsic.LifetimeEnd Intrinsic.CoroDone e refl) _ _
              (gives_one Intrinsic.CoroDone e refl refl refl _))
          on Intrinsic.CoroPromise e k = then_alive m counts (promise g s (nth vs 0) (operand_at args 2)) _
              (λ v ev. gives_one Intrinsic.CoroPromise e refl refl refl v)
          on Intrinsic.LifetimeStart e k =
              let no : instr_action c (work_of s) (Instr.Call result must_tail ty
              (Callee.Intrinsic Intrinsic.LifetimeStart) args)
              ≡ Coro Intrinsic.LifetimeStart args result = ap (instr_action c (work_of s)) (sym e) ∙ k in absurd (cc)
          on Intrinsic.LifetimeEnd e k =
              let no : instr_action c (work_of s) (Instr.Call result must_tail ty
              (Callee.Intrinsic Intrinsic.LifetimeEnd) args)
              ≡ Coro Intrinsic.LifetimeEnd args result = ap (instr_action c (work_of s)) (sym e) ∙ k in absurd (cc)
          on Intrinsic.MemcpyI64 e k = (next_here start i stands) (not_call Intrinsic.CoroEnd Intrinsic.MemcpyI64 e
              refl)
              (not_call Intrinsic.LifetimeEnd Intrinsic.MemcpyI64 e refl)
          on Intrinsic.MemcpyI32 e k = (next_here start i stands) (not_call Intrinsic.CoroEnd Intrinsic.MemcpyI32 e
              refl)
              (not_call Intrinsic.LifetimeEnd Intrinsic.MemcpyI32 e refl)
