-- Where begin stands each slot that is used before it was made, in each state of the run of an accepted source.
use Rattle.std.proofs.Common.{◌≡◌, ℕ, ◌<◌, Bool, true, List, length, Option, Some, None, sym, ap, ◌∙◌, subst}
use Rattle.std.specs.List.{Contains}
use Rattle.std.specs.Prelude.{slice_get, unwrap_or, ◌==◌}
use Rattle.compiler_theorem.proofs.kinds.Early.{early_alloca}
use Rattle.compiler_theorem.proofs.known.Names.{begin_known, begin_there, framed, framed_function, low_name}
use Rattle.compiler_theorem.proofs.known.Runs.{run}
use Rattle.compiler_theorem.proofs.made.Order.{AreMadeBefore, made_before}
use Rattle.compiler_theorem.proofs.made.States.{states_made}
use Rattle.compiler_theorem.proofs.parts.Returned.{buildable, named}
use Rattle.compiler_theorem.proofs.theorem.Built.{coroutine_there, framed_there}
use Rattle.compiler_theorem.proofs.theorem.Stepping.{same}
use Rattle.compiler_theorem.specs.made.Made.{HasSlotOf, IsMadeState}
use Rattle.compiler_theorem.specs.theorem.Anew.{Anew, IsAnewOf}
use Rattle.compiler_theorem.specs.theorem.Asked.{asking}
use Rattle.compiler_theorem.specs.theorem.Between.{renewing}
use Rattle.compiler_theorem.specs.theorem.Entries.{IsEntryCall, Run}
use Rattle.compiler_theorem.specs.theorem.Lowered.{HasFewBytes, IsLowered, Lowered, early, edged, sizes_of}
use Rattle.compiler.specs.ir_base.declared.outcome.Outcome.{Outcome}
use Rattle.compiler.specs.ir_model.Names.{function_at}
use Rattle.compiler.specs.ir_model.Ty.{Ty}
use Rattle.compiler.specs.ir_model.declared.instr.Instr.{Instr}
use Rattle.compiler.specs.ir_model.declared.module.Block.{Block}
use Rattle.compiler.specs.ir_model.declared.module.Function.{Function}
use Rattle.compiler.specs.ir_model.declared.operand.Arg.{Arg}
use Rattle.compiler.specs.ir_model.declared.operand.Callee.{Callee}
use Rattle.compiler.specs.ir_model.declared.operand.Intrinsic.{Intrinsic}
use Rattle.compiler.specs.pass_copies.declared.slot.EarlySlot.{EarlySlot}
use Rattle.compiler.specs.pass_frames.Framed.{begin_of, layout_at}
use Rattle.pass_frames_meaning.proofs.executed.Renewed.{renewed_keeps_executed}
use Rattle.pass_frames_meaning.proofs.pass_frames_proof.from_edges.Front.{listed_contains}
use Rattle.pass_frames_meaning.proofs.pass_frames_proof.lines.Cells.{contained}
use Rattle.pass_frames_meaning.specs.Executed.{IsFirstMode}
use Rattle.pass_frames_meaning.specs.pass_frames_proof.Passes.{no_block}
use Rattle.pass_frames_meaning.specs.pass_frames_proof.Places.{Framing, copies}
use Rattle.pass_frames_meaning.specs.pass_frames_proof.Places as place
use Rattle.pass_frames_meaning.specs.pass_frames_proof.Related.{is_coroutine}
use Rattle.pass_frames_meaning.specs.pass_renewed_proof.SlotRules.{IsMadeOnce}
use Rattle.compiler.proofs.pass_proofs.frames.numbers.Numbers.{number_given}
use Rattle.run_accepted.proofs.Accepted.{edged_alive}
use Rattle.run_accepted.proofs.Alive.{listed}
use Rattle.pass_frames_meaning.specs.run_hooks.Meanings.{renewed_hooks}
use Rattle.compiler.specs.run_source.State.{function_of}
use Rattle.compiler.specs.run_source.declared.state.Mode.{Mode}
use Rattle.compiler.specs.run_source.declared.state.State.{State}
use Rattle.compiler.specs.run_step.Step.{AtInstr, fetch, fetch_in, fetch_or}
use Rattle.compiler.specs.run_step.declared.world.Slot.{Slot}

-- what stands in the entry block
stands_there : (f : Function) (n : ℕ) (i : Instr)
    → slice_get (unwrap_or (slice_get f.blocks 0) no_block).instrs n ≡ Some i → fetch f 0 n ≡ AtInstr i
stands_there f n i e = on (slice_get f.blocks 0) e
  where
    on : (o : Option Block) → slice_get (unwrap_or o no_block).instrs n ≡ Some i → fetch_in o n ≡ AtInstr i
    on None d = absurd (cc)
    on (Some b) d = ap (λ (o : Option Instr). fetch_or o (n == length b.instrs) b.term) d

module _ (l : Lowered) (low : IsLowered l) (few : HasFewBytes l) (a : Anew) (anew : IsAnewOf (early l) a) (r : Run)
    (entered : IsEntryCall l.source r) where
  pub made_state : (n : ℕ) → IsMadeState (edged l) (run l low few a anew r entered n)
  made_state n = subst (IsMadeState (edged l)) (sym (same l low few a anew r entered n))
      (states_made (renewed_hooks (renewing l a r)) (renewed_keeps_executed (renewing l a r)) r.entry r.args n)

  -- ---- a coroutine

  module _ (func : ℕ) (coroutine : (function_at (early l) func).coroutine ≡ true) where
    all_before : AreMadeBefore ((asking l low a r).b.framing func)
    all_before =
        let there = coroutine_there l low r.answers func coroutine in
        let at = framed_there l low r.answers func coroutine in
        subst AreMadeBefore (sym at.same)
        (made_before (early l) func (layout_at l.layouts.coroutines at.taken) (function_at (early l) func)
        at.is.contents at.is.before (named l low func (function_at (early l) func) there coroutine
        (layout_at l.layouts.coroutines at.taken) (number_given l.layouts.coroutines at.taken)).begin
        (buildable l low func (function_at (early l) func) there coroutine (layout_at l.layouts.coroutines at.taken)
        (number_given l.layouts.coroutines at.taken) at.other at.is))

    module _ (e : EarlySlot) (among : Contains (copies ((asking l low a r).b.framing func)).slots e) where
      abbrev x : Framing
      x = (asking l low a r).b.framing func

      framing_same : function_at (edged l) func ≡ place.edged ((asking l low a r).b.framing func)
      framing_same = framed_function l low few a anew r entered func coroutine

      -- its alloca stands in the entry block
      pub alloca : IsMadeOnce (function_at (edged l) func) e.slot
      alloca =
          let z = early_alloca x (framed l low few a anew r entered func coroutine) e among in
          (edged_alive l.text l.source low.source.stands low.source.accepted (sizes_of l) r.answers func).made e.slot
          e.ty e.align 0 z.0
          (ap (λ (f : Function). fetch f 0 z.0) framing_same
          ∙ stands_there (place.edged x) z.0 (Instr.Alloca e.slot e.ty e.align) z.1)

      is_low : e.slot < length (function_at (edged l) func).names
      is_low = low_name l low few a anew r entered func e.slot (listed (function_at (edged l) func) e.slot alloca)

      -- and before begin, if that stands there, too
      pub passed : (block at : ℕ) (result : Option ℕ) (must_tail : Bool) (ty : Option Ty) (args : List Arg)
          → fetch (function_at (edged l) func) block at
          ≡ AtInstr (Instr.Call result must_tail ty (Callee.Intrinsic Intrinsic.CoroBegin) args) → block ≡ 0
          → alloca.at < at
      passed block at result must_tail ty args stands first =
          subst (λ (f : Function). (made : IsMadeOnce f e.slot) → e.slot < length f.names → (u : ℕ)
          → fetch f 0 at ≡ AtInstr (Instr.Call (Some u) must_tail ty (Callee.Intrinsic Intrinsic.CoroBegin) args)
          → made.at < at) (sym framing_same)
          (λ made small u there. all_before e (contained (copies x).slots e among) made small at u must_tail ty args
          there) alloca is_low (begin_of x.function)
          (subst (λ (q : ℕ × Option ℕ). fetch (function_at (edged l) func) q.0 at
          ≡ AtInstr (Instr.Call q.1 must_tail ty (Callee.Intrinsic Intrinsic.CoroBegin) args))
          (λ j. (first j, gives j)) stands)
        where
          gives : result ≡ Some (begin_of ((asking l low a r).b.framing func).function)
          gives = sym (begin_there l low few a anew r entered func block at
              (Instr.Call result must_tail ty (Callee.Intrinsic Intrinsic.CoroBegin) args) stands tt)
              ∙ begin_known l low few a anew r entered func coroutine

  -- ---- a state

  pub early_made : (n : ℕ) → (run l low few a anew r entered n).outcome ≡ Outcome.Running
      → is_coroutine (asking l low a r).b (run l low few a anew r entered n).top.func ≡ true
      → (run l low few a anew r entered n).top.mode ≡ Mode.Ramp
      → (run l low few a anew r entered n).top.instance ≡ None → (result : Option ℕ) (must_tail : Bool)
      (ty : Option Ty) (args : List Arg)
      → fetch (function_of (renewing l a r).given (run l low few a anew r entered n))
      (run l low few a anew r entered n).top.block (run l low few a anew r entered n).top.at
      ≡ AtInstr (Instr.Call result must_tail ty (Callee.Intrinsic Intrinsic.CoroBegin) args) → (e : EarlySlot)
      → Contains (copies ((asking l low a r).b.framing (run l low few a anew r entered n).top.func)).slots e
      → (slot : Slot) × Contains (run l low few a anew r entered n).top.slots slot × (slot.alloca ≡ e.slot)
  early_made n runs coroutine ramp none result must_tail ty args there e among =
      let s : State = run l low few a anew r entered n in
      let z : HasSlotOf s.top.slots e.slot = (made_state n runs).0 (subst IsFirstMode (sym ramp) tt) none e.slot
      (alloca s.top.func coroutine e among)
      (passed s.top.func coroutine e among s.top.block s.top.at result must_tail ty args there) in
      (z.0, listed_contains s.top.slots z.0 z.1, z.2)
