-- A load, a store or a memcpy is done in the target too, where its operands lead to where the source's do.
use Rattle.std.proofs.Common.{◌≡◌, ◌∷◌, [], Bool, List, None, Option, Some, suc, true, zero, ℕ}
use Rattle.pass_frames_steps.specs.ir_model.Ty.{Ty, ptr}
use Rattle.pass_frames_steps.specs.ir_model.declared.instr.Instr.{Instr}
use Rattle.pass_frames_steps.specs.ir_model.declared.operand.Arg.{Arg}
use Rattle.pass_frames_steps.specs.ir_model.declared.operand.Callee.{Callee}
use Rattle.pass_frames_steps.specs.ir_model.declared.operand.Intrinsic.{Intrinsic}
use Rattle.pass_frames_steps.specs.ir_model.declared.operand.Operand.{Operand}
use Rattle.pass_frames_steps.specs.ir_parts.Contents.{arg_operands, instr_operands}
use Rattle.pass_frames_steps.specs.pass_copies.Uses.{is_access}
use Rattle.pass_frames_steps.specs.pass_fetch.Fetching.{fetch_of, fetched_args, fetched_operand, next_after}
use Rattle.pass_frames_steps.specs.pass_fetch.Instrs.{with_fetched}
use Rattle.pass_frames_steps.specs.pass_fetch.declared.fetch.Fetch.{Fetch}
use Rattle.pass_frames_steps.proofs.copying.Over.{memcpy_of}
use Rattle.pass_frames_proof.proofs.located.Does.{DoesToo, copy_too, load_too, store_too}
use Rattle.pass_frames_proof.proofs.located.Thrice.{AreThrice, third}
use Rattle.pass_frames_steps.specs.Here.{IsLined}
use Rattle.pass_frames_steps.specs.Located.{GivesPlainly, IsAddress}
use Rattle.pass_frames_steps.specs.run_laws.embedded.Related.{HasBytes}
use Rattle.pass_frames_steps.specs.run_laws.memory.Pointers.{Home, IsValue}
use Rattle.pass_frames_steps.specs.run_laws.memory.Standing.{AreByteRights}
use Rattle.pass_frames_steps.specs.run_laws.transfer.Transfer.{AreOver}
use Rattle.pass_frames_steps.specs.run_step.Step.{AtInstr, Context, Done, Work, instr_action, value_at}
use Rattle.pass_frames_steps.specs.run_step.Values.{arg_values, nth}

-- an access stands on a line of its own
pub access_lined : (i : Instr) → is_access i ≡ true → IsLined i
access_lined (Instr.Load r ty p align) e = tt
access_lined (Instr.Store arg p align) e = tt
access_lined (Instr.Call r must_tail ty (Callee.Intrinsic Intrinsic.MemcpyI64) args) e = tt
access_lined (Instr.Call r must_tail ty (Callee.Intrinsic Intrinsic.MemcpyI32) args) e = tt
access_lined _ e = absurd (cc)

-- what a store stores isn't fetched by the table
abbrev pub StoresOther : List (Option Fetch) → Instr → Type 0
StoresOther u (Instr.Store arg p align) = fetch_of u arg.value ≡ None
StoresOther u i = Unit {0}

module _ (t u z : List (Option Fetch)) (homes : List Home) (hides : ℕ → Bool) (c d : Context)
    (law : AreByteRights c.rights) (law' : AreByteRights d.rights) (w S v : Work)
    (before : AreOver c.rights d.rights homes hides (λ k. k) w.world S.world) where
  -- An operand leads to where the source's does. One that the second table doesn't fetch stands for it.
  pub record IsLedTo (a b : Operand) : Type 0 where
    pub leads : (ty : Ty) → IsAddress homes hides (value_at c w ty a) (value_at d S ty b)
    pub stands : fetch_of u a ≡ None → (ty : Ty) → IsValue homes (value_at c w ty a) (value_at d S ty b)

  args_led : (n k m : ℕ) (args : List Arg) → AreThrice t u z IsLedTo n k m (arg_operands args) → (j : ℕ)
      → IsAddress homes hides (nth (arg_values c.code w.values args) j)
      (nth (arg_values d.code S.values (fetched_args z m (fetched_args u k (fetched_args t n args)))) j)
  args_led n k m [] seen j = record { moved = tt; shown = tt }
  args_led n k m (a ∷ args) seen zero = seen.0.leads a.ty
  args_led n k m (a ∷ args) seen (suc j) =
      args_led (next_after t n a.value) (next_after u k (fetched_operand t n a.value))
      (next_after z m (fetched_operand u k (fetched_operand t n a.value))) args seen.1 j

  pub access_does : (n k m : ℕ) (i : Instr) → is_access i ≡ true → GivesPlainly i → StoresOther u i
      → HasBytes (AtInstr i) → AreThrice t u z IsLedTo n k m (instr_operands i) → instr_action c w i ≡ Done v
      → DoesToo c d homes hides w S v i (with_fetched z m (with_fetched u k (with_fetched t n i)))
  access_does n k m (Instr.Load r ty p align) e plain other bytes seen does =
      load_too homes hides c d law law' w S v before r ty p (third t u z n k m p) align (seen.0.leads ptr) bytes does
  access_does n k m (Instr.Store arg p align) e plain other bytes seen does =
      store_too homes hides c d law law' w S v before arg (third t u z n k m arg.value) p
      (third t u z (next_after t n arg.value) (next_after u k (fetched_operand t n arg.value))
      (next_after z m (fetched_operand u k (fetched_operand t n arg.value))) p) align (seen.1.0.leads ptr)
      (seen.0.stands other arg.ty) bytes does
  access_does n k m (Instr.Call None must_tail ty (Callee.Intrinsic Intrinsic.MemcpyI64) args) e plain other bytes
      seen does =
      copy_too homes hides c d law law' w S v before Intrinsic.MemcpyI64 (memcpy_of Intrinsic.MemcpyI64 tt) must_tail
      ty args (fetched_args z m (fetched_args u k (fetched_args t n args))) (args_led n k m args seen) does
  access_does n k m (Instr.Call None must_tail ty (Callee.Intrinsic Intrinsic.MemcpyI32) args) e plain other bytes
      seen does =
      copy_too homes hides c d law law' w S v before Intrinsic.MemcpyI32 (memcpy_of Intrinsic.MemcpyI32 tt) must_tail
      ty args (fetched_args z m (fetched_args u k (fetched_args t n args))) (args_led n k m args seen) does
  access_does n k m (Instr.Call (Some r) must_tail ty callee args) e plain other bytes seen does = absurd plain
  access_does n k m _ e plain other bytes seen does = absurd (cc)
