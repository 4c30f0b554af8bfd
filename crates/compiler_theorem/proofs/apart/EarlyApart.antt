-- Fields of slots that are copied at begin lie apart from those of all other slots of the frame.
use Rattle.std.proofs.Common.{◌≡◌, ◌≢◌, inl, ℕ, Bool, true, List, Option, Some, sym, ap, ◌∙◌, subst}
use Rattle.std.specs.List.{Contains}
use Rattle.std.specs.Prelude.{unwrap_or}
use Rattle.compiler_theorem.proofs.apart.Conflicts.{conflict_apart}
use Rattle.compiler_theorem.proofs.apart.EarlyFramed.{makes, never_unused}
use Rattle.compiler_theorem.proofs.apart.Facts.{function, own_rules}
use Rattle.compiler_theorem.proofs.kinds.Held.{early_lies}
use Rattle.compiler_theorem.proofs.known.Behind.{reached_there}
use Rattle.compiler_theorem.proofs.known.Names.{begin_known, begin_there, framed, framed_function}
use Rattle.compiler_theorem.proofs.known.Unused.{left, positions}
use Rattle.compiler_theorem.proofs.parts.Returned.{buildable, named}
use Rattle.compiler_theorem.proofs.theorem.Built.{IsFramedAt, coroutine_there, framed_there}
use Rattle.compiler_theorem.specs.theorem.Anew.{Anew, IsAnewOf, IsSlotOf}
use Rattle.compiler_theorem.specs.theorem.Asked.{asking}
use Rattle.compiler_theorem.specs.theorem.Entries.{IsEntryCall, Run}
use Rattle.compiler_theorem.specs.theorem.Lowered.{HasFewBytes, IsLowered, Lowered, early, edged}
use Rattle.compiler.specs.flow_solver.Paths.{IsListed}
use Rattle.compiler.specs.frame_classes.declared.class.SlotClass.{SlotClass}
use Rattle.compiler.specs.frame_conflicts.Conflicts.{Early, IsUsedEarly}
use Rattle.compiler.specs.frame_contents.Held.{position_of}
use Rattle.compiler.proofs.ir_laws.paths.renamed.Uses.{stands_in}
use Rattle.compiler.specs.ir_model.Layout.{size_of}
use Rattle.compiler.specs.ir_model.Names.{function_at}
use Rattle.compiler.specs.ir_model.Ty.{Ty}
use Rattle.compiler.specs.ir_model.declared.instr.Instr.{Instr}
use Rattle.compiler.specs.ir_model.declared.module.Block.{Block}
use Rattle.compiler.specs.ir_model.declared.module.Function.{Function}
use Rattle.compiler.specs.ir_model.declared.operand.Arg.{Arg}
use Rattle.compiler.specs.ir_model.declared.operand.Callee.{Callee}
use Rattle.compiler.specs.ir_model.declared.operand.Intrinsic.{Intrinsic}
use Rattle.compiler.specs.pass_copies.declared.slot.EarlySlot.{EarlySlot}
use Rattle.compiler.specs.pass_frames.Framed.{begin_of, layout_at}
use Rattle.compiler.specs.pass_frames.Tables.{offset_at}
use Rattle.pass_frames_meaning.specs.Unbegun.{IsBefore}
use Rattle.pass_frames_meaning.proofs.pass_frames_proof.lines.Cells.{contained}
use Rattle.pass_frames_meaning.specs.pass_frames_proof.Framings.{IsFraming}
use Rattle.pass_frames_meaning.specs.pass_frames_proof.Places.{Framing, copies, offsets, unmarked}
use Rattle.pass_frames_meaning.specs.pass_frames_proof.Places as place
use Rattle.pass_frames_meaning.specs.pass_frames_proof.Slotted.{AreRangesApart}
use Rattle.compiler.proofs.pass_proofs.frames.numbers.Numbers.{number_given}
use Rattle.compiler.specs.pass_proofs.addresses.rules.Addresses.{lies_in_frame}
use Rattle.compiler.proofs.rule_laws.rules.sources.Places.{instr_there, point}
use Rattle.compiler.specs.rule_uses.Undefined.{ReachesWithout}
use Rattle.compiler.specs.rule_uses.Uses.{phi_values, values_at, values_in}
use Rattle.compiler.specs.run_step.Step.{AtInstr, fetch}

-- no slot that is copied at begin is without a use before it
abbrev IsNeverUnused : Framing → Type 0
IsNeverUnused z = (e : EarlySlot) → IsListed e (copies z).slots → lies_in_frame (offsets z) e.slot ≡ true
    → (IsUsedEarly z.function e.slot → ⊥) → (block : ℕ)
    → IsListed (begin_of z.function) (values_at (place.edged z) block)
    → ReachesWithout (unmarked z) (begin_of z.function) block → ⊥

module _ (l : Lowered) (low : IsLowered l) (few : HasFewBytes l) (a : Anew) (anew : IsAnewOf (early l) a) (r : Run)
    (entered : IsEntryCall l.source r) (func block at : ℕ)
    (coroutine : (function_at (early l) func).coroutine ≡ true) (result : Option ℕ) (must_tail : Bool) (ty : Option Ty)
    (args : List Arg)
    (stands : fetch (function_at (edged l) func) block at
    ≡ AtInstr (Instr.Call result must_tail ty (Callee.Intrinsic Intrinsic.CoroBegin) args))
    (before : IsBefore (function_at (edged l) func) block at) where
  abbrev x : Framing
  x = (asking l low a r).b.framing func

  abbrev i : Instr
  i = Instr.Call result must_tail ty (Callee.Intrinsic Intrinsic.CoroBegin) args

  is : IsFraming ((asking l low a r).b.framing func)
  is = framed l low few a anew r entered func coroutine

  same : function_at (edged l) func ≡ place.edged ((asking l low a r).b.framing func)
  same = framed_function l low few a anew r entered func coroutine

  framed_at : IsFramedAt (early l) l.layouts.coroutines (early l).functions l.framed.functions func
      (function_at (early l) func) ((asking l low a r).b.framing func)
  framed_at = framed_there l low r.answers func coroutine

  never : IsNeverUnused ((asking l low a r).b.framing func)
  never =
      let there = coroutine_there l low r.answers func coroutine in
      let y = framed_at in
      subst IsNeverUnused (sym y.same)
      (never_unused (early l) func (layout_at l.layouts.coroutines y.taken) (function_at (early l) func)
      y.is.contents y.is.before (named l low func (function_at (early l) func) there coroutine
      (layout_at l.layouts.coroutines y.taken) (number_given l.layouts.coroutines y.taken)).begin
      (buildable l low func (function_at (early l) func) there coroutine (layout_at l.layouts.coroutines y.taken)
      (number_given l.layouts.coroutines y.taken) y.other y.is))

  gives : result ≡ Some (begin_of ((asking l low a r).b.framing func).function)
  gives = sym (begin_there l low few a anew r entered func block at i stands tt)
      ∙ begin_known l low few a anew r entered func coroutine

  made : IsListed (begin_of ((asking l low a r).b.framing func).function)
      (values_at (place.edged ((asking l low a r).b.framing func)) block)
  made =
      let b = stands_in (place.edged x) (point block at) i (instr_there (place.edged x) block at i
      (ap (λ (f : Function). fetch f block at) (sym same) ∙ stands)) in
      subst (λ (o : Option Block). IsListed (begin_of x.function) (values_in o)) (sym b.got)
      (makes (begin_of x.function) (phi_values b.block) b.block.instrs at i b.stands gives)

  reached : ReachesWithout (unmarked ((asking l low a r).b.framing func))
      (begin_of ((asking l low a r).b.framing func).function) block
  reached = subst (λ (n : ℕ). ReachesWithout (unmarked x) n block)
      (sym (ap (λ (o : Option ℕ). unwrap_or o 0) is.frameable.begins))
      (reached_there x is func (left l low few a anew r entered func coroutine)
      (positions l low few a anew r entered func coroutine)
      (subst (λ (f : Function). IsBefore f block at) same before))

  module _ (e : EarlySlot) (listed : Contains (copies ((asking l low a r).b.framing func)).slots e) where
    pub used : (IsUsedEarly (function_at (early l) func) e.slot → ⊥) → ⊥
    used unused = never e (contained (copies x).slots e listed)
        (early_lies x is func (own_rules l low a r func coroutine) e listed)
        (subst (λ (f : Function). IsUsedEarly f e.slot → ⊥) (sym (function l low a r func coroutine)) unused) block made
        reached

    pub copied_apart : (other : ℕ) → e.slot ≢ other → IsSlotOf (function_at (early l) func) SlotClass.Frame e.slot
        → IsSlotOf (function_at (early l) func) SlotClass.Frame other → (own align : ℕ) (t : Ty)
        → fetch (function_at (edged l) func) 0 own ≡ AtInstr (Instr.Alloca e.slot t align)
        → (place alignment : ℕ) (u : Ty)
        → fetch (function_at (edged l) func) 0 place ≡ AtInstr (Instr.Alloca other u alignment) → (p q : ℕ)
        → position_of ((asking l low a r).b.framing func).contents.held e.slot ≡ Some p
        → position_of ((asking l low a r).b.framing func).contents.held other ≡ Some q
        → AreRangesApart (offset_at ((asking l low a r).b.framing func).layout p) (size_of (edged l) t)
        (offset_at ((asking l low a r).b.framing func).layout q) (size_of (edged l) u)
    copied_apart other unlike is_one is_other own align t alloca place alignment u alloca_too p q told told_too =
        λ m n lt lt_too meet. used (λ early. conflict_apart l low a r func coroutine e.slot other unlike is_one is_other
        (Early (inl early)) own align t alloca place alignment u alloca_too p q told told_too m n lt lt_too meet)
