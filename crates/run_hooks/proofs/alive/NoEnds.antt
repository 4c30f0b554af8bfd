-- An instruction that deallocates or calls is no end.
use Rattle.std.proofs.Common.{◌≡◌, ℕ, Bool, false, List, Option, Result, Ok, Err, refl}
use Rattle.pass_renewed_proof.specs.ir_base.declared.cause.Cause.{Cause}
use Rattle.pass_renewed_proof.specs.ir_model.declared.instr.Instr.{Instr}
use Rattle.pass_renewed_proof.specs.ir_model.declared.operand.Callee.{Callee}
use Rattle.pass_renewed_proof.specs.ir_model.declared.operand.Intrinsic.{Intrinsic}
use Rattle.pass_renewed_proof.specs.ir_paths.Windows.{is_call_of}
use Rattle.pass_renewed_proof.specs.run_memory.declared.block.MemoryBlock.{MemoryBlock}
use Rattle.pass_renewed_proof.specs.run_memory.declared.pointer.Value.{Value}
use Rattle.pass_renewed_proof.specs.run_source.State.{work_of}
use Rattle.pass_renewed_proof.specs.run_source.declared.state.State.{State}
use Rattle.pass_renewed_proof.specs.run_step.Step.{Action, Context, Deallocate, Enter, instr_action, set_memory, done, intrinsic_call}
use Rattle.pass_renewed_proof.specs.run_step.Step.{with_length}
use Rattle.pass_renewed_proof.specs.run_step.Values.{arg_values, nth}

module _ (s : State) where
  pub coro_ends : (i : Instr) (c : Context) (v : Value) → instr_action c (work_of s) i ≡ Deallocate v
      → (is_call_of Intrinsic.CoroEnd i ≡ false) × (is_call_of Intrinsic.LifetimeEnd i ≡ false)
  coro_ends (Instr.Call result must_tail ty (Callee.Intrinsic x) args) c v e = absurd (on x e)
    where
      copies : (n : Value) (k : ℕ → Action) → ((l : ℕ) → k l ≡ Deallocate v → ⊥)
          → with_length n k ≡ Deallocate v → ⊥
      copies (Value.Int n) k never e = never n.bits e
      copies Value.Poison k never e = absurd (cc)
      copies (Value.Ptr q) k never e = absurd (cc)

      done_never : (r : Result (List MemoryBlock) Cause)
          → done (set_memory (work_of s)) r ≡ Deallocate v → ⊥
      done_never (Err cause) e = absurd (cc)
      done_never (Ok k) e = absurd (cc)

      on : (x : Intrinsic) → intrinsic_call c (work_of s) x result args
          (arg_values c.code s.top.values args) ≡ Deallocate v → ⊥
      on Intrinsic.MemcpyI64 e = copies (nth (arg_values c.code s.top.values args) 2) _ (λ l. done_never _) e
      on Intrinsic.MemcpyI32 e = copies (nth (arg_values c.code s.top.values args) 2) _ (λ l. done_never _) e
      on _ e = absurd (cc)
  coro_ends _ c v e = (refl, refl)

  pub call_ends : (i : Instr) (c : Context) (func : ℕ) (args : List Value) (result : Option ℕ) (must_tail : Bool)
      → instr_action c (work_of s) i ≡ Enter func args result must_tail
      → (is_call_of Intrinsic.CoroEnd i ≡ false) × (is_call_of Intrinsic.LifetimeEnd i ≡ false)
  call_ends (Instr.Call r t ty (Callee.Intrinsic x) as') c func args result must_tail e = absurd (on x e)
    where
      copies : (n : Value) (k : ℕ → Action) → ((l : ℕ) → k l ≡ Enter func args result must_tail → ⊥)
          → with_length n k ≡ Enter func args result must_tail → ⊥
      copies (Value.Int n) k never e = never n.bits e
      copies Value.Poison k never e = absurd (cc)
      copies (Value.Ptr q) k never e = absurd (cc)

      done_never : (r : Result (List MemoryBlock) Cause)
          → done (set_memory (work_of s)) r ≡ Enter func args result must_tail → ⊥
      done_never (Err cause) e = absurd (cc)
      done_never (Ok k) e = absurd (cc)

      on : (x : Intrinsic) → intrinsic_call c (work_of s) x r as'
          (arg_values c.code s.top.values as') ≡ Enter func args result must_tail → ⊥
      on Intrinsic.MemcpyI64 e = copies (nth (arg_values c.code s.top.values as') 2) _ (λ l. done_never _) e
      on Intrinsic.MemcpyI32 e = copies (nth (arg_values c.code s.top.values as') 2) _ (λ l. done_never _) e
      on _ e = absurd (cc)
  call_ends _ c func args result must_tail e = (refl, refl)
