-- The address at which a resume or a destroy wakes an instance has the same value in the part.
use Rattle.std.proofs.Common.{◌≡◌, ◌<◌, ◌^◌, length, sym, ap, ◌∙◌, subst}
use Rattle.pass_proofs.specs.ir_model.Ty.{Ty, ptr}
use Rattle.pass_proofs.specs.ir_model.declared.operand.Intrinsic.{Intrinsic}
use Rattle.pass_split_proof.proofs.states.OwnHomes.{own_pointer}
use Rattle.pass_split_proof.proofs.steps.Operands.{operand_stands}
use Rattle.pass_split_proof.specs.states.Related.{AreRelated}
use Rattle.pass_split_proof.specs.steps.Resuming.{IsAtWaking}
use Rattle.pass_proofs.specs.run_framed.Framed.{FramedGiven}
use Rattle.pass_proofs.specs.run_laws.access.Lines.{pointer_at}
use Rattle.pass_proofs.specs.run_laws.memory.Pointers.{IsValue}
use Rattle.pass_proofs.specs.run_laws.memory.Standing.{own_homes}
use Rattle.pass_proofs.specs.run_memory.Pointers.{offset_of}
use Rattle.pass_proofs.specs.run_memory.declared.pointer.Value.{Value}
use Rattle.run_access_worked.specs.run_plain.Plain.{PlainGiven, plain_context, plain_work}
use Rattle.run_access_worked.specs.run_plain.declared.state.PlainState.{PlainState}
use Rattle.pass_proofs.specs.run_source.State.{frame_address_of, function_of}
use Rattle.pass_proofs.specs.run_source.declared.state.Instance.{Instance}
use Rattle.pass_proofs.specs.run_source.declared.state.State.{State}
use Rattle.pass_proofs.specs.run_step.Step.{value_at}
use Rattle.pass_proofs.specs.run_step.Values.{arg_value, operand_value}

module _ (g : FramedGiven) (h : PlainGiven) (s : State) (t : PlainState) (r : AreRelated g h s t) (by : Intrinsic)
    (k : IsAtWaking g h s t r by) (x : Instance)
    (is : arg_value g.given.code s.top.values k.arg ≡ frame_address_of x) (small : x.start < 2 ^ 64)
    (low : x.block < length s.world.memory) where
  stands : IsValue (own_homes 0 (length s.world.memory)) (operand_value g.given.code s.top.values ptr k.arg.value)
      (operand_value h.code t.top.values ptr k.arg.value)
  stands = operand_stands g.given.code h.code (function_of g.given s)
      (length s.world.memory) s.top.values t.top.values
      r.globals r.top.values k.arg.value k.readable ptr

  ours_is : operand_value g.given.code s.top.values ptr k.arg.value ≡ pointer_at x.block x.start
  ours_is = ap (λ (ty : Ty). operand_value g.given.code s.top.values ty k.arg.value) (sym k.typed) ∙ is

  moved_is : (v u : Value) → v ≡ pointer_at x.block x.start
      → IsValue (own_homes 0 (length s.world.memory)) v u → u ≡ pointer_at x.block x.start
  moved_is v u e stand = (subst (λ (y : Value). IsValue (own_homes 0 (length s.world.memory)) y u) e stand).1
      ∙ ap Value.Ptr (own_pointer (length s.world.memory) x.block (offset_of x.start) low small)

  pub leads : value_at (plain_context h t) (plain_work t) ptr k.arg.value ≡ pointer_at x.block x.start
  leads = moved_is (operand_value g.given.code s.top.values ptr k.arg.value) _ ours_is stands
