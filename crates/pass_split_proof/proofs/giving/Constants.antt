-- The frame's size and alignment, and whether it is allocated: numbers and truths in the part.
use Rattle.std.proofs.Common.{◌≡◌, ℕ, ◌<◌, ◌^◌, Bool, true, false, Option, Some, None, refl, sym, ap, ◌∙◌, arith, if◌then◌else◌}
use Rattle.std.specs.Prelude.{pos}
use Rattle.pass_proofs.specs.ir_base.declared.ops.BinOp.{BinOp}
use Rattle.pass_proofs.specs.ir_base.declared.outcome.Outcome.{Outcome}
use Rattle.pass_proofs.specs.ir_model.Ty.{int}
use Rattle.pass_proofs.specs.ir_model.declared.instr.Instr.{Instr}
use Rattle.pass_proofs.specs.ir_model.declared.operand.Intrinsic.{Intrinsic}
use Rattle.pass_proofs.specs.ir_model.declared.operand.Operand.{Operand}
use Rattle.pass_proofs.specs.pass_intrinsics.Cuts.{goes_on}
use Rattle.pass_proofs.specs.pass_intrinsics.Lowered.{allocates as allocates_in, no_flags, truth_of}
use Rattle.pass_proofs.specs.pass_intrinsics.declared.shape.Part.{Part}
use Rattle.pass_proofs.specs.pass_split.Pieces.{begins_again, is_begin}
use Rattle.pass_split_proof.proofs.giving.Given.{IsNothing, call_here, none_given, one_given}
use Rattle.pass_split_proof.proofs.giving.Small.{literal_is, number_done, truth_done}
use Rattle.pass_split_proof.proofs.steps.Followed.{framed_does}
use Rattle.pass_split_proof.proofs.steps.Ordinary.{IsAlone}
use Rattle.pass_split_proof.specs.giving.Intrinsics.{HasOwnSize, IsAtIntrinsic, is_constant}
use Rattle.pass_split_proof.specs.simulation.Followed.{IsFollowed}
use Rattle.pass_split_proof.specs.states.Activations.{RunsPart}
use Rattle.pass_split_proof.specs.states.Related.{AreRelated}
use Rattle.pass_proofs.specs.run_framed.Framed.{FramedGiven, allocates, framed_step}
use Rattle.pass_proofs.specs.run_memory.declared.pointer.Value.{Value}
use Rattle.run_access_worked.specs.run_plain.Plain.{PlainGiven, plain_context, plain_work}
use Rattle.run_access_worked.specs.run_plain.declared.state.PlainState.{PlainState}
use Rattle.pass_proofs.specs.run_source.State.{gives}
use Rattle.pass_proofs.specs.run_source.declared.state.Mode.{Mode}
use Rattle.pass_proofs.specs.run_source.declared.state.State.{State}
use Rattle.pass_proofs.specs.run_step.Step.{AtInstr, Coro}
use Rattle.pass_proofs.specs.run_step.Values.{integer, truth_value}

pub not_again : (part : Part) (i : Instr) → is_begin i ≡ false → begins_again part i ≡ false
not_again part i e = on (goes_on part)
  where
    on : (t : Bool) → (if t then is_begin i else false) ≡ false
    on true = e
    on false = refl

-- a ramp that is given its frame is the same in both
same_allocates : (mode : Mode) (part : Part) → RunsPart mode part → allocates mode ≡ allocates_in part
same_allocates Mode.Plain part e = ap allocates_in (sym e)
same_allocates Mode.Ramp part e = ap allocates_in (sym e)
same_allocates (Mode.GivenRamp frame) part e = ap allocates_in (sym e)
same_allocates Mode.Resumed part e = by part e
  where
    by : (p : Part) → goes_on p ≡ true → true ≡ allocates_in p
    by Part.Ramp e = refl
    by Part.GivenRamp e = absurd (cc)
    by Part.Resume e = refl
    by Part.Destroy e = refl
    by Part.Cleanup e = refl
same_allocates (Mode.Entering from label) part e = by part e
  where
    by : (p : Part) → goes_on p ≡ true → true ≡ allocates_in p
    by Part.Ramp e = refl
    by Part.GivenRamp e = absurd (cc)
    by Part.Resume e = refl
    by Part.Destroy e = refl
    by Part.Cleanup e = refl

module _ (g : FramedGiven) (h : PlainGiven) (s : State) (t : PlainState) (r : AreRelated g h s t)
    (runs : s.outcome ≡ Outcome.Running) where
  abbrev add : ℕ → ℕ → ℕ → Instr
  add name w n = Instr.Binary name BinOp.Add no_flags (int w) (Operand.Number (pos n)) (Operand.Number (pos 0))

  abbrev both : ℕ → Bool → Instr
  both name b = Instr.Binary name BinOp.And no_flags (int 1) (truth_of b) (truth_of b)

  module _ (x : Intrinsic) (k : IsAtIntrinsic g h s t r x)
      (nothing : IsNothing r.top.shape r.top.part (call_here g h s t r runs x k None)) where
    -- a number
    number_followed : (w n : ℕ) → n < 2 ^ w → 0 < 2 ^ w
        → ((name : ℕ) → IsAlone r.top.shape r.top.part (call_here g h s t r runs x k (Some name)) (add name w n))
        → framed_step g s ≡ gives s k.result (integer w (pos n)) → IsFollowed g h s t
    number_followed w n lt some alone_there is = on k.result refl
      where
        on : (o : Option ℕ) → k.result ≡ o → IsFollowed g h s t
        on None e = none_given g h s t r runs x k e nothing
            (is ∙ ap (λ (o : Option ℕ). gives s o (integer w (pos n))) e)
        on (Some name) e = one_given g h s t r runs x k name (add name w n) (integer w (pos n))
            (Value.Int (record { width = w; bits = n })) e (alone_there name) (sym (literal_is w n lt))
            (number_done (plain_context h t) (plain_work t) name w n lt some)
            (is ∙ ap (λ (o : Option ℕ). gives s o (integer w (pos n))) e)

    -- a truth
    pub truth_followed : (a b : Bool) → a ≡ b
        → ((name : ℕ) → IsAlone r.top.shape r.top.part (call_here g h s t r runs x k (Some name)) (both name b))
        → framed_step g s ≡ gives s k.result (truth_value a) → IsFollowed g h s t
    truth_followed a b same alone_there is = on k.result refl
      where
        on : (o : Option ℕ) → k.result ≡ o → IsFollowed g h s t
        on None e = none_given g h s t r runs x k e nothing
            (is ∙ ap (λ (o : Option ℕ). gives s o (truth_value a)) e)
        on (Some name) e = one_given g h s t r runs x k name (both name b) (truth_value a) (truth_value b) e
            (alone_there name) (ap truth_value (sym same))
            (truth_done (plain_context h t) (plain_work t) name b)
            (is ∙ ap (λ (o : Option ℕ). gives s o (truth_value a)) e)

  wider : (n : ℕ) → n < 2 ^ 32 → n < 2 ^ 64
  wider n lt = omega arith

  some_32 : 0 < 2 ^ 32
  some_32 = omega arith

  some_64 : 0 < 2 ^ 64
  some_64 = omega arith

  pub constant_followed : HasOwnSize g s r.top.shape → (x : Intrinsic) → is_constant x ≡ true
      → IsAtIntrinsic g h s t r x → IsFollowed g h s t
  constant_followed z Intrinsic.CoroSizeI32 e k = number_followed Intrinsic.CoroSizeI32 k
      (record {
        begins = not_again r.top.part (call_here g h s t r runs Intrinsic.CoroSizeI32 k None) refl;
        cut = λ after. refl;
        lowered = λ n. refl;
      })
      32 r.top.shape.size z.small_size some_32
      (λ name. record {
        begins = not_again r.top.part (call_here g h s t r runs Intrinsic.CoroSizeI32 k (Some name)) refl;
        cut = λ after. refl;
        lowered = λ n. refl;
      })
      (framed_does g s (AtInstr (call_here g h s t r runs Intrinsic.CoroSizeI32 k k.result))
      (Coro Intrinsic.CoroSizeI32 k.args k.result) runs k.there refl refl
      ∙ ap (λ (n : ℕ). gives s k.result (integer 32 (pos n))) z.size)
  constant_followed z Intrinsic.CoroSizeI64 e k = number_followed Intrinsic.CoroSizeI64 k
      (record {
        begins = not_again r.top.part (call_here g h s t r runs Intrinsic.CoroSizeI64 k None) refl;
        cut = λ after. refl;
        lowered = λ n. refl;
      })
      64 r.top.shape.size (wider r.top.shape.size z.small_size) some_64
      (λ name. record {
        begins = not_again r.top.part (call_here g h s t r runs Intrinsic.CoroSizeI64 k (Some name)) refl;
        cut = λ after. refl;
        lowered = λ n. refl;
      })
      (framed_does g s (AtInstr (call_here g h s t r runs Intrinsic.CoroSizeI64 k k.result))
      (Coro Intrinsic.CoroSizeI64 k.args k.result) runs k.there refl refl
      ∙ ap (λ (n : ℕ). gives s k.result (integer 64 (pos n))) z.size)
  constant_followed z Intrinsic.CoroAlignI32 e k = number_followed Intrinsic.CoroAlignI32 k
      (record {
        begins = not_again r.top.part (call_here g h s t r runs Intrinsic.CoroAlignI32 k None) refl;
        cut = λ after. refl;
        lowered = λ n. refl;
      })
      32 r.top.shape.align z.small_align some_32
      (λ name. record {
        begins = not_again r.top.part (call_here g h s t r runs Intrinsic.CoroAlignI32 k (Some name)) refl;
        cut = λ after. refl;
        lowered = λ n. refl;
      })
      (framed_does g s (AtInstr (call_here g h s t r runs Intrinsic.CoroAlignI32 k k.result))
      (Coro Intrinsic.CoroAlignI32 k.args k.result) runs k.there refl refl
      ∙ ap (λ (n : ℕ). gives s k.result (integer 32 (pos n))) z.align)
  constant_followed z Intrinsic.CoroAlignI64 e k = number_followed Intrinsic.CoroAlignI64 k
      (record {
        begins = not_again r.top.part (call_here g h s t r runs Intrinsic.CoroAlignI64 k None) refl;
        cut = λ after. refl;
        lowered = λ n. refl;
      })
      64 r.top.shape.align (wider r.top.shape.align z.small_align) some_64
      (λ name. record {
        begins = not_again r.top.part (call_here g h s t r runs Intrinsic.CoroAlignI64 k (Some name)) refl;
        cut = λ after. refl;
        lowered = λ n. refl;
      })
      (framed_does g s (AtInstr (call_here g h s t r runs Intrinsic.CoroAlignI64 k k.result))
      (Coro Intrinsic.CoroAlignI64 k.args k.result) runs k.there refl refl
      ∙ ap (λ (n : ℕ). gives s k.result (integer 64 (pos n))) z.align)
  constant_followed z Intrinsic.CoroAlloc e k = truth_followed Intrinsic.CoroAlloc k
      (record {
        begins = not_again r.top.part (call_here g h s t r runs Intrinsic.CoroAlloc k None) refl;
        cut = λ after. refl;
        lowered = λ n. refl;
      })
      (allocates s.top.mode) (allocates_in r.top.part) (same_allocates s.top.mode r.top.part r.top.runs)
      (λ name. record {
        begins = not_again r.top.part (call_here g h s t r runs Intrinsic.CoroAlloc k (Some name)) refl;
        cut = λ after. refl;
        lowered = λ n. refl;
      })
      (framed_does g s (AtInstr (call_here g h s t r runs Intrinsic.CoroAlloc k k.result))
      (Coro Intrinsic.CoroAlloc k.args k.result) runs k.there refl refl)
  constant_followed z _ e k = absurd (cc)
