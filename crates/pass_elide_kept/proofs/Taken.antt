-- From a place of a known kind the run that gives frames takes a step of its own kind.
use Rattle.std.proofs.Common.{◌≡◌, ◌==◌, ◌⊎◌, ◌∙◌, ◌∷◌, ap, sym, refl, subst, inl, inr, ℕ, Bool, true, List, [], length, Option, Result, if◌then◌else◌, false}
use Rattle.std.specs.Prelude.{None, Some, Ok, Err, slice_get}
use Rattle.pass_elide_kept.proofs.Goes.{IsDoneOrStuck, does, done_or_stuck}
use Rattle.pass_elide_kept.proofs.Modes.{entering_too, goes_too, making_calm, not_entering_too, ramp_too, resumed_back, resumed_too}
use Rattle.pass_elide_kept.proofs.Places.{at_own, front_own}
use Rattle.pass_elide_kept.proofs.TakenEnds.{edge_taken, exit_taken, freed_taken, meeting_taken, way_on_taken}
use Rattle.pass_elide_kept.specs.Modules.{KeepsHandlesAndEnds}
use Rattle.pass_elide_kept.specs.Runs.{IsKeptFramed, IsKeptGiving}
use Rattle.pass_elide_kept.specs.Steps.{SavesAt, SavesNow, StandsAtCall, TakesStep}
use Rattle.pass_elide_proof.proofs.Addresses.{twin_back}
use Rattle.pass_elide_proof.proofs.CallersInstr.{fetched_at}
use Rattle.pass_elide_proof.proofs.CallersPlaces.{stands_at_instr, stands_at_ret}
use Rattle.pass_elide_proof.proofs.Facts.{not_both, some_none}
use Rattle.pass_elide_proof.proofs.Followed.{follows}
use Rattle.pass_elide_proof.proofs.Modules.{finds_alike}
use Rattle.pass_elide_proof.proofs.OwnPlaces.{instr_there}
use Rattle.pass_elide_proof.proofs.PlacingFacts.{by_truth, no_room}
use Rattle.pass_elide_proof.specs.Asides.{AreAside}
use Rattle.pass_elide_proof.specs.Asked.{asks_same}
use Rattle.pass_elide_proof.specs.Both.{is_constant}
use Rattle.pass_elide_proof.specs.Callers.{StandsAtInstr, gives_only}
use Rattle.pass_elide_proof.specs.Calling.{AreReady}
use Rattle.pass_elide_proof.specs.Edges.{GivesNone as GivesNoFrame}
use Rattle.pass_elide_proof.specs.Elision.{Elision, elided, framed, function_in, rooms}
use Rattle.pass_elide_proof.specs.Match.{AreElided, Aside, Beside, Freeing, IsAt, Waiting, is_given_mode, sides, was_given}
use Rattle.pass_elide_proof.specs.Ordinary.{IsAtOrdinary}
use Rattle.pass_elide_proof.specs.Places.{front_at, instrs_of, own_at, room_at}
use Rattle.pass_elide_proof.specs.Placing.{KeepsPlaces, is_own}
use Rattle.pass_elide_proof.specs.Returning.{IsAtLeftEnd, IsAtReturn}
use Rattle.pass_elide_proof.specs.Saves.{MaySave}
use Rattle.pass_elide_proof.specs.Stepping.{IsAccompanied, IsReadyFor}
use Rattle.pass_elide_proof.specs.Waking.{GivesNone, IsAtWaking}
use Rattle.pass_elide_proof.proofs.pass_proofs.ir_laws.facts.Truth.{itself}
use Rattle.pass_elide_proof.specs.pass_proofs.ir_base.declared.cause.Cause.{Cause}
use Rattle.pass_elide_proof.specs.pass_proofs.ir_base.declared.name.Name.{Name}
use Rattle.pass_elide_proof.specs.pass_proofs.ir_base.declared.outcome.Outcome.{Outcome}
use Rattle.pass_elide_proof.specs.pass_proofs.ir_model.Ty.{Ty, ptr}
use Rattle.pass_elide_proof.specs.pass_proofs.ir_model.declared.instr.Instr.{Instr}
use Rattle.pass_elide_proof.specs.pass_proofs.ir_model.declared.instr.Terminator.{Terminator}
use Rattle.pass_elide_proof.specs.pass_proofs.ir_model.declared.module.Block.{Block}
use Rattle.pass_elide_proof.specs.pass_proofs.ir_model.declared.module.Function.{Function}
use Rattle.pass_elide_proof.specs.pass_proofs.ir_model.declared.operand.Allocator.{Allocator}
use Rattle.pass_elide_proof.specs.pass_proofs.ir_model.declared.operand.Arg.{Arg}
use Rattle.pass_elide_proof.specs.pass_proofs.ir_model.declared.operand.Callee.{Callee}
use Rattle.pass_elide_proof.specs.pass_proofs.ir_model.declared.operand.Intrinsic.{Intrinsic}
use Rattle.pass_elide_proof.specs.pass_proofs.ir_model.declared.operand.Operand.{Operand}
use Rattle.pass_elide_proof.specs.pass_proofs.ir_paths.Windows.{operand_at}
use Rattle.pass_elide_proof.specs.pass_proofs.run_agreement.Machines.{IsFine}
use Rattle.pass_elide_proof.specs.pass_proofs.run_framed.Framed.{framed_context, framed_step, given_ramp}
use Rattle.pass_elide_proof.specs.pass_proofs.run_laws.changed.Changed.{callee_at}
use Rattle.pass_elide_proof.specs.pass_proofs.run_laws.embedded.Related.{HasNoSlot}
use Rattle.pass_elide_proof.specs.pass_proofs.run_memory.Memory.{load}
use Rattle.pass_elide_proof.specs.pass_proofs.run_memory.declared.pointer.Value.{Value}
use Rattle.pass_elide_proof.specs.pass_proofs.run_step.Values.{access_of, address, operand_value}
use Rattle.pass_elide_proof.specs.pass_proofs.run_source.State.{function_of, work_of}
use Rattle.pass_elide_proof.specs.pass_proofs.run_source.declared.state.Instance.{Instance}
use Rattle.pass_elide_proof.specs.pass_proofs.run_source.declared.state.Mode.{Mode}
use Rattle.pass_elide_proof.specs.pass_proofs.run_source.declared.state.State.{State}
use Rattle.pass_elide_proof.specs.pass_proofs.run_step.Step.{AtInstr, AtTerm, Context, Stuck, Work, action_of, done, fetch, fetch_in, fetch_or, is_alignment, set_value}

-- ---- intrinsics that give a value

asks_give : (j : Intrinsic) → asks_same j ≡ true → gives_only j ≡ true
asks_give Intrinsic.CoroId is = refl
asks_give Intrinsic.CoroSizeI32 is = refl
asks_give Intrinsic.CoroSizeI64 is = refl
asks_give Intrinsic.CoroAlignI32 is = refl
asks_give Intrinsic.CoroAlignI64 is = refl
asks_give Intrinsic.CoroFrame is = refl
asks_give _ is = absurd (cc)

constants_give : (j : Intrinsic) → is_constant j ≡ true → gives_only j ≡ true
constants_give Intrinsic.CoroId is = refl
constants_give Intrinsic.CoroSizeI32 is = refl
constants_give Intrinsic.CoroSizeI64 is = refl
constants_give Intrinsic.CoroAlignI32 is = refl
constants_give Intrinsic.CoroAlignI64 is = refl
constants_give Intrinsic.CoroFrame is = refl
constants_give _ is = absurd (cc)

-- ---- a load is done, or undefined

load_done : (c : Context) (w : Work) (name : ℕ) (ty : Ty) (cell : Operand) (align : ℕ)
    → IsDoneOrStuck (action_of c w (AtInstr (Instr.Load name ty cell align)))
load_done c w name ty cell align =
    by (is_alignment align)
    (load c.rights w.world.memory (address (operand_value c.code w.values ptr cell)) (access_of ty) align)
  where
    by : (b : Bool) (r : Result Value Cause)
        → IsDoneOrStuck (if b then done (set_value w name) r else Stuck Cause.Align)
    by true (Err cause) = tt
    by true (Ok v) = tt
    by false r = tt

-- ---- rets

past : {A : Type 0} (xs : List A) → slice_get xs (length xs) ≡ None
past [] = refl
past (x ∷ xs) = past xs

-- what stands behind the instructions of a block
ret_there : (f : Function) (block at : ℕ) (b : Block) → slice_get f.blocks block ≡ Some b → at ≡ length b.instrs
    → fetch f block at ≡ AtTerm b.term
ret_there f block at b has is =
    ap (λ (o : Option Block). fetch_in o at) has
    ∙ ((λ j. fetch_or (slice_get b.instrs (is j)) (is j == length b.instrs) b.term)
    ∙ (λ j. fetch_or (past b.instrs j) (itself (length b.instrs) j) b.term))

-- ---- both runs

module _ (e : Elision) (places : KeepsPlaces e) (keeps : KeepsHandlesAndEnds e) (s t : State)
    (ours : IsKeptFramed e s) (theirs : IsKeptGiving e t) where
  -- where a call or a terminator stands the activation doesn't execute its allocas again
  not_at_call : (result : Option ℕ) (must_tail : Bool) (ty : Option Ty) (callee : Callee) (args : List Arg)
      → fetch (function_of (framed e).given s) s.top.block s.top.at
      ≡ AtInstr (Instr.Call result must_tail ty callee args)
      → (from label : ℕ) → s.top.mode ≡ Mode.Entering from label → ⊥
  not_at_call result must_tail ty callee args there from label is =
      let k = ours.allocas from label is in
      let no : AtInstr (Instr.Alloca k.name k.ty k.align) ≡ AtInstr (Instr.Call result must_tail ty callee args)
      = sym k.there ∙ there in
      absurd (cc)

  not_at_term : (term : Terminator) → fetch (function_of (framed e).given s) s.top.block s.top.at ≡ AtTerm term
      → (from label : ℕ) → s.top.mode ≡ Mode.Entering from label → ⊥
  not_at_term term there from label is =
      let k = ours.allocas from label is in
      let no : AtInstr (Instr.Alloca k.name k.ty k.align) ≡ AtTerm term = sym k.there ∙ there in
      absurd (cc)

  -- an intrinsic of coroutines stands in one
  inside : (func : t.top.func ≡ s.top.func) (j : Intrinsic) (result : Option ℕ) (must_tail : Bool) (ty : Option Ty)
      (args : List Arg) → is_own j ≡ true
      → fetch (function_of (framed e).given s) s.top.block s.top.at
      ≡ AtInstr (Instr.Call result must_tail ty (Callee.Intrinsic j) args)
      → (function_in e t.top.func).coroutine ≡ true
  inside func j result must_tail ty args own there =
      ap (λ (n : ℕ). (function_in e n).coroutine) func
      ∙ (places.instrs s.top.func).own s.top.block s.top.at result must_tail ty j args
      (instr_there (function_in e s.top.func) s.top.block s.top.at
      (Instr.Call result must_tail ty (Callee.Intrinsic j) args) there) own

  -- an activation that executes its allocas again is one of a coroutine
  entering_inside : (func : t.top.func ≡ s.top.func) (from label : ℕ) → s.top.mode ≡ Mode.Entering from label
      → (function_in e t.top.func).coroutine ≡ true
  entering_inside func from label is =
      ap (λ (n : ℕ). (function_in e n).coroutine) func
      ∙ by_truth (function_in e s.top.func).coroutine (λ yes. yes)
      (λ no. absurd (plain (ours.known.acts.0.plain no).0))
    where
      plain : s.top.mode ≡ Mode.Plain → ⊥
      plain h = let no : Mode.Entering from label ≡ Mode.Plain = sym is ∙ h in absurd (cc)

  -- ---- where the second run has executed what is put in front

  module _ (r : AreReady e s t) (fine : IsFine (framed_step (framed e) s).outcome)
      (next : AreElided e (framed_step (framed e) s) (framed_step (elided e) t)) where
    at_ready : s.outcome ≡ Outcome.Running → (i : Instr)
        → fetch (function_of (framed e).given s) s.top.block s.top.at ≡ AtInstr i
        → room_at (rooms e s.top.func) (function_in e s.top.func) s.top.block s.top.at i ≡ None
        → StandsAtInstr e t s.top.at i
    at_ready runs i there none =
        stands_at_instr e s t r runs keeps.handles i
        (instr_there (function_in e s.top.func) s.top.block s.top.at i there) none

    at_plain : s.outcome ≡ Outcome.Running → (i : Instr)
        → slice_get (instrs_of (function_in e s.top.func) s.top.block) s.top.at ≡ Some i
        → room_at (rooms e s.top.func) (function_in e s.top.func) s.top.block s.top.at i ≡ None
        → StandsAtInstr e t s.top.at i
    at_plain runs i there none = stands_at_instr e s t r runs keeps.handles i there none

    ordinary : (i : Instr) (v : Work) → IsAtOrdinary e s t i v → TakesStep e s t
    ordinary i v at =
        let fell = follows e s t _ r.beside i at.own v at.does at.no_slot at.bytes in
        TakesStep.Works s.top.at i fell.other (record {
          place = at_ready at.own.runs i at.own.there at.own.no_room;
          no_ramp = at.own.no_ramp;
          no_slot = at.no_slot;
          does = fell.is;
        })

    waking : IsAtWaking e s t → TakesStep e s t
    waking at = by at.wakes
      where
        none : (number : ℕ) (x : Instance) → slice_get t.instances number ≡ Some x → GivesNone e x.coroutine
        none number y there =
            let x = twin_back e s _ r.beside number y there in
            let h = r.beside.instances number x.0 y x.1 there in
            subst (GivesNone e) (sym h.coroutine) (at.alike number x.0 x.1).none

        stands : StandsAtInstr e t s.top.at
            (Instr.Call at.result at.must_tail at.ty (Callee.Intrinsic at.by) (at.arg ∷ at.rest))
        stands =
            at_plain at.runs (Instr.Call at.result at.must_tail at.ty (Callee.Intrinsic at.by) (at.arg ∷ at.rest))
            at.there at.none

        as_call : (j : Intrinsic) → at.by ≡ j
            → StandsAtCall e t s.top.at j at.result at.must_tail at.ty (at.arg ∷ at.rest)
        as_call j is =
            subst (λ (k : Intrinsic). StandsAtCall e t s.top.at k at.result at.must_tail at.ty (at.arg ∷ at.rest)) is
            stands

        by : (at.by ≡ Intrinsic.CoroResume) ⊎ (at.by ≡ Intrinsic.CoroDestroy) → TakesStep e s t
        by (inl resume) =
            TakesStep.Resumes s.top.at at.result at.must_tail at.ty (at.arg ∷ at.rest)
            (as_call Intrinsic.CoroResume resume) none
        by (inr destroy) =
            TakesStep.Destroys s.top.at at.result at.must_tail at.ty (at.arg ∷ at.rest)
            (as_call Intrinsic.CoroDestroy destroy) none

    ret : IsAtReturn e s t → TakesStep e s t
    ret at =
        TakesStep.Returns (stands_at_ret e s t r at keeps.handles
        (λ resumed. ours.rets at.value (resumed_back s.top.mode t.top.mode r.beside.top.mode resumed) there)
        (λ from label is. not_entering_too s.top.mode t.top.mode r.beside.top.mode
        (not_at_term (Terminator.Ret at.value) there) from label is)
        (λ frame is. keeps.returns t.top.func (theirs.shapes.ramps.0 (ap is_given_mode is))))
      where
        there : fetch (function_of (framed e).given s) s.top.block s.top.at ≡ AtTerm (Terminator.Ret at.value)
        there = ret_there (function_in e s.top.func) s.top.block s.top.at at.block at.has_block at.at ∙ ap AtTerm at.term

    left_end : (k : IsAtLeftEnd e s t)
        → StandsAtCall e t s.top.at Intrinsic.CoroEnd k.result k.must_tail k.ty k.args
    left_end k =
        at_plain k.runs (Instr.Call k.result k.must_tail k.ty (Callee.Intrinsic Intrinsic.CoroEnd) k.args) k.there
        k.none

    pub ready_takes : IsReadyFor e s t r → TakesStep e s t
    ready_takes (IsReadyFor.Ordinary i v at) = ordinary i v at
    ready_takes (IsReadyFor.Alloca name ty align at) =
        TakesStep.Makes s.top.at name ty align
        (at_ready at.own.runs (Instr.Alloca name ty align) at.own.there at.own.no_room)
        (not_entering_too s.top.mode t.top.mode r.beside.top.mode (making_calm s.top.mode at.mode))
    ready_takes (IsReadyFor.AllocatorCall a result must_tail ty args at) =
        TakesStep.Allocates s.top.at a result must_tail ty args
        (at_ready at.own.runs (Instr.Call result must_tail ty (Callee.Allocator a) args) at.own.there at.own.no_room)
    ready_takes (IsReadyFor.Marker j result must_tail ty args at) =
        TakesStep.Marks s.top.at j result must_tail ty args at.marker
        (at_ready at.own.runs (Instr.Call result must_tail ty (Callee.Intrinsic j) args) at.own.there at.own.no_room)
        (λ b number y is there going. at.second b number y is there)
    ready_takes (IsReadyFor.Deallocation a result must_tail ty args memory at) =
        TakesStep.Allocates s.top.at a result must_tail ty args
        (at_ready at.own.runs (Instr.Call result must_tail ty (Callee.Allocator a) args) at.own.there at.own.no_room)
    ready_takes (IsReadyFor.FreeBeside a result must_tail ty args at) =
        TakesStep.Allocates s.top.at a result must_tail ty args
        (at_ready at.runs (Instr.Call result must_tail ty (Callee.Allocator a) args) at.there at.room)
    ready_takes (IsReadyFor.Asking j result must_tail ty args at) =
        TakesStep.Gives s.top.at j result must_tail ty args (asks_give j at.asks)
        (at_ready at.own.runs (Instr.Call result must_tail ty (Callee.Intrinsic j) args) at.own.there at.own.no_room)
    ready_takes (IsReadyFor.Looks result must_tail ty args callers at) =
        TakesStep.Gives s.top.at Intrinsic.CoroDone result must_tail ty args refl
        (at_ready at.look.call.runs (Instr.Call result must_tail ty (Callee.Intrinsic Intrinsic.CoroDone) args)
        at.look.call.there (no_room e places s.top.func s.top.block s.top.at
        (Instr.Call result must_tail ty (Callee.Intrinsic Intrinsic.CoroDone) args) refl))
    ready_takes (IsReadyFor.Promise result must_tail ty args callers at) =
        TakesStep.Gives s.top.at Intrinsic.CoroPromise result must_tail ty args refl
        (at_ready at.look.call.runs (Instr.Call result must_tail ty (Callee.Intrinsic Intrinsic.CoroPromise) args)
        at.look.call.there (no_room e places s.top.func s.top.block s.top.at
        (Instr.Call result must_tail ty (Callee.Intrinsic Intrinsic.CoroPromise) args) refl))
    ready_takes (IsReadyFor.Edge label at) = edge_taken e places keeps s t r next label at
    ready_takes (IsReadyFor.Call at) = TakesStep.Calls r at
    ready_takes (IsReadyFor.Site at) = TakesStep.Sites r at
    ready_takes (IsReadyFor.Waking at) = waking at
    ready_takes (IsReadyFor.Return at to) = ret at
    ready_takes (IsReadyFor.LeftRampEnd k on) =
        TakesStep.EndsRamp s.top.at k.result k.must_tail k.ty k.args (left_end k)
        (ramp_too s.top.mode t.top.mode r.beside.top.mode on.ramp)
    ready_takes (IsReadyFor.LeftResumedEnd k back) =
        TakesStep.EndsResumed s.top.at k.result k.must_tail k.ty k.args (left_end k)
        (resumed_too s.top.mode t.top.mode r.beside.top.mode back.resumed)
        (ap (λ (n : ℕ). (function_in e n).coroutine) r.beside.top.func ∙ back.coroutine)
        (λ stays. absurd (not_both s.top.has_left k.left (sym r.beside.top.has_left ∙ stays)))
    ready_takes (IsReadyFor.LastReturn at none) = ret at

  -- ---- where both go on, and nothing is put in front

  module _ (r : AreElided e s t) (fine : IsFine (framed_step (framed e) s).outcome)
      (next : AreElided e (framed_step (framed e) s) (framed_step (elided e) t)) where
    at_call : s.outcome ≡ Outcome.Running → (result : Option ℕ) (must_tail : Bool) (ty : Option Ty) (j : Intrinsic)
        (args : List Arg)
        → fetch (function_of (framed e).given s) s.top.block s.top.at
        ≡ AtInstr (Instr.Call result must_tail ty (Callee.Intrinsic j) args)
        → t.top.block ≡ s.top.block
        → t.top.at ≡ own_at (rooms e s.top.func) (function_in e s.top.func) s.top.block s.top.at
        → StandsAtCall e t s.top.at j result must_tail ty args
    at_call runs result must_tail ty j args there block own =
        at_own e s t r.top.func r.outcome runs keeps.handles
        (Instr.Call result must_tail ty (Callee.Intrinsic j) args) there block own
        (no_room e places s.top.func s.top.block s.top.at
        (Instr.Call result must_tail ty (Callee.Intrinsic j) args) refl)

    at_allocator : s.outcome ≡ Outcome.Running → (result : Option ℕ) (must_tail : Bool) (ty : Option Ty)
        (a : Allocator) (args : List Arg)
        → fetch (function_of (framed e).given s) s.top.block s.top.at
        ≡ AtInstr (Instr.Call result must_tail ty (Callee.Allocator a) args)
        → t.top.block ≡ s.top.block
        → t.top.at ≡ own_at (rooms e s.top.func) (function_in e s.top.func) s.top.block s.top.at
        → StandsAtInstr e t s.top.at (Instr.Call result must_tail ty (Callee.Allocator a) args)
    at_allocator runs result must_tail ty a args there block own =
        at_own e s t r.top.func r.outcome runs keeps.handles (Instr.Call result must_tail ty (Callee.Allocator a) args)
        there block own
        (no_room e places s.top.func s.top.block s.top.at (Instr.Call result must_tail ty (Callee.Allocator a) args)
        refl)

    in_front : (none : GivesNoFrame e s.top.func)
        → t.top.at ≡ front_at (rooms e s.top.func) (function_in e s.top.func) s.top.block s.top.at
        → t.top.at ≡ own_at (rooms e s.top.func) (function_in e s.top.func) s.top.block s.top.at
    in_front none stands = front_own e s.top.func s.top.block s.top.at t.top.at none stands

    -- the second run's step isn't undefined
    fine_too : IsFine (framed_step (elided e) t).outcome
    fine_too = subst IsFine (sym next.outcome) fine

    -- an instruction that is done, or undefined
    works : (at : ℕ) (i : Instr) → StandsAtInstr e t at i → HasNoSlot (AtInstr i)
        → ((n : Name) → callee_at (AtInstr i) ≡ Some n → given_ramp e.code n ≡ None)
        → IsDoneOrStuck (action_of (framed_context (elided e) t) (work_of t) (AtInstr i)) → TakesStep e s t
    works at i k no_slot none ok =
        let w = does (elided e) t i k.runs (fetched_at e t at i k)
        (λ n is. (finds_alike e).ramps n ∙ none n is) ok fine_too in
        TakesStep.Works at i w.0 (record { place = k; no_ramp = none; no_slot = no_slot; does = w.1 })

    -- they stand in two blocks, one aside of the other
    level : (i j : Instr) (u v : ℕ) → AreAside e s t i j u v → t.top.at ≡ s.top.at
    level i j u v at = by (was_given (sides s t) t.top) r.top.place
      where
        by : (b : Bool) → IsAt e r.homes b s.top t.top → t.top.at ≡ s.top.at
        by b (Beside block there) = absurd (at.other block)
        by b (Waiting ramp waits there) =
            absurd (some_none ((e.shape s.top.func).waits s.top.block) t.top.block waits at.waits)
        by b (Freeing holds frees there) =
            absurd (some_none ((e.shape s.top.func).frees s.top.block) t.top.block frees at.frees)
        by b (Aside holds aside there alike) = there

    aside : (i j : Instr) (u v : ℕ) → AreAside e s t i j u v → StandsAtInstr e t s.top.at j
    aside i j u v at =
        let func = r.top.func in
        record {
          runs = r.outcome ∙ at.runs;
          there = (λ k. slice_get (instrs_of (function_in e (func k)) t.top.block) s.top.at) ∙ at.there;
          stands = level i j u v at
              ∙ (sym at.own
              ∙ (λ k. own_at (rooms e (sym func k)) (function_in e (sym func k)) t.top.block s.top.at));
          none = (λ k. room_at (rooms e (func k)) (function_in e (func k)) t.top.block s.top.at j) ∙ at.no_room;
          handles = keeps.handles t.top.func;
        }

    saves_at : (result : Option ℕ) (must_tail : Bool) (ty : Option Ty) (j : Intrinsic) (args : List Arg)
        → is_own j ≡ true
        → fetch (function_of (framed e).given s) s.top.block s.top.at
        ≡ AtInstr (Instr.Call result must_tail ty (Callee.Intrinsic j) args)
        → (SavesNow j args → MaySave e s) → SavesAt e t j args
    saves_at result must_tail ty j args own there may = record {
      inside = inside r.top.func j result must_tail ty args own there;
      mode = not_entering_too s.top.mode t.top.mode r.top.mode
          (not_at_call result must_tail ty (Callee.Intrinsic j) args there);
      goes = λ now. goes_too e s t r (may now).goes;
    }

    again : (name : ℕ) (ty : Ty) (align from label : ℕ) → s.outcome ≡ Outcome.Running
        → fetch (function_of (framed e).given s) s.top.block s.top.at ≡ AtInstr (Instr.Alloca name ty align)
        → t.top.block ≡ s.top.block
        → t.top.at ≡ own_at (rooms e s.top.func) (function_in e s.top.func) s.top.block s.top.at
        → s.top.mode ≡ Mode.Entering from label → TakesStep e s t
    again name ty align from label runs there block own mode =
        TakesStep.MakesAgain s.top.at name ty align from label
        (at_own e s t r.top.func r.outcome runs keeps.handles (Instr.Alloca name ty align) there block own
        (no_room e places s.top.func s.top.block s.top.at (Instr.Alloca name ty align) refl))
        (entering_inside r.top.func from label mode)
        (entering_too s.top.mode t.top.mode from label r.top.mode mode)

    pub going_takes : IsAccompanied e s t r → TakesStep e s t
    going_takes (IsAccompanied.Constant i result must_tail ty args at) =
        TakesStep.Gives s.top.at i result must_tail ty args (constants_give i at.constant)
        (at_call at.call.runs result must_tail ty i args at.call.there at.call.block at.call.own)
    going_takes (IsAccompanied.Memory result must_tail ty args at) =
        TakesStep.Gives s.top.at Intrinsic.CoroAlloc result must_tail ty args refl
        (at_call at.call.runs result must_tail ty Intrinsic.CoroAlloc args at.call.there at.call.block at.call.own)
    going_takes (IsAccompanied.Begin result must_tail ty args at) =
        TakesStep.Begins s.top.at result must_tail ty args
        (at_call at.call.runs result must_tail ty Intrinsic.CoroBegin args at.call.there at.call.block at.call.own)
        (inside r.top.func Intrinsic.CoroBegin result must_tail ty args refl at.call.there) at.frames.known
    going_takes (IsAccompanied.GivenBegin result must_tail ty args at) =
        TakesStep.Begins s.top.at result must_tail ty args
        (at_call at.call.runs result must_tail ty Intrinsic.CoroBegin args at.call.there at.call.block at.call.own)
        (inside r.top.func Intrinsic.CoroBegin result must_tail ty args refl at.call.there) at.frames.known
    going_takes (IsAccompanied.Freeing result must_tail ty args at) =
        TakesStep.Gives s.top.at Intrinsic.CoroFree result must_tail ty args refl
        (at_call at.call.runs result must_tail ty Intrinsic.CoroFree args at.call.there at.call.block at.call.own)
    going_takes (IsAccompanied.NullTest name pred a b at) =
        works s.top.at (Instr.Icmp name pred ptr a b)
        (at_own e s t r.top.func r.outcome at.runs keeps.handles (Instr.Icmp name pred ptr a b) at.there at.beside
        (in_front at.none at.stands)
        (no_room e places s.top.func s.top.block s.top.at (Instr.Icmp name pred ptr a b) refl)) tt
        (λ n is. absurd (cc)) (done_or_stuck _ _)
    going_takes (IsAccompanied.FreeOfNull a result must_tail ty args at) =
        TakesStep.Allocates s.top.at a result must_tail ty args
        (at_allocator at.frees.runs result must_tail ty a args at.frees.there at.beside
        (in_front at.frees.none at.stands))
    going_takes (IsAccompanied.FreeBeside a result must_tail ty args at) =
        TakesStep.Allocates s.top.at a result must_tail ty args
        (at_allocator at.runs result must_tail ty a args at.there at.beside at.stands)
    going_takes (IsAccompanied.Save result must_tail ty args at) =
        TakesStep.Saves s.top.at Intrinsic.CoroSave result must_tail ty args refl
        (at_call at.call.runs result must_tail ty Intrinsic.CoroSave args at.call.there at.call.block at.call.own)
        (saves_at result must_tail ty Intrinsic.CoroSave args refl at.call.there (λ now. at.may))
    going_takes (IsAccompanied.Suspend result must_tail ty args at) =
        TakesStep.Saves s.top.at Intrinsic.CoroSuspend result must_tail ty args refl
        (at_call at.call.runs result must_tail ty Intrinsic.CoroSuspend args at.call.there at.call.block at.call.own)
        (saves_at result must_tail ty Intrinsic.CoroSuspend args refl at.call.there (by_token at.may))
      where
        by_token : (operand_at args 0 ≡ Operand.None → MaySave e s) → SavesNow Intrinsic.CoroSuspend args
            → MaySave e s
        by_token may (inl save) = absurd (cc)
        by_token may (inr none) = may none
    going_takes (IsAccompanied.Exit label at) = exit_taken e places keeps s t r next label at
    going_takes (IsAccompanied.WayOn k label at) = way_on_taken e places keeps s t r next k label at
    going_takes (IsAccompanied.Meeting label to alike at) = meeting_taken e places keeps s t r next label to at
    going_takes (IsAccompanied.FreedAside k label at x) = freed_taken e places keeps s t r next k label at
    going_takes (IsAccompanied.FreedStraight k label at same) = freed_taken e places keeps s t r next k label at
    going_takes (IsAccompanied.Loads u v align ty cell loaded at) =
        works s.top.at (Instr.Load v ty cell align) (aside _ _ u v at.place) tt (λ n is. absurd (cc))
        (load_done (framed_context (elided e) t) (work_of t) v ty cell align)
    going_takes (IsAccompanied.Addresses u v base distance at) =
        works s.top.at _ (aside _ _ u v at.place) tt (λ n is. absurd (cc)) tt
    going_takes (IsAccompanied.AllocaAgain name ty align from label to front at) =
        again name ty align from label at.own.runs at.own.there at.own.block at.own.at at.mode
    going_takes (IsAccompanied.LastAlloca name ty align from label front at) =
        again name ty align from label at.own.runs at.own.there at.own.block at.own.at at.mode
    going_takes (IsAccompanied.RampEnd result must_tail ty args at) =
        TakesStep.EndsRamp s.top.at result must_tail ty args
        (at_call at.ends.runs result must_tail ty Intrinsic.CoroEnd args at.ends.there at.ends.beside
        (in_front at.ends.none at.ends.stands))
        (ramp_too s.top.mode t.top.mode r.top.mode at.ramp)
    going_takes (IsAccompanied.EarlyEnd result must_tail ty args at) =
        TakesStep.EndsRamp s.top.at result must_tail ty args
        (at_call at.runs result must_tail ty Intrinsic.CoroEnd args at.there at.beside (in_front at.none at.stands))
        (ramp_too s.top.mode t.top.mode r.top.mode at.ramp)
    going_takes (IsAccompanied.ResumedEnd result must_tail ty args at) =
        TakesStep.EndsResumed s.top.at result must_tail ty args
        (at_call at.ends.runs result must_tail ty Intrinsic.CoroEnd args at.ends.there at.ends.beside
        (in_front at.ends.none at.ends.stands))
        (resumed_too s.top.mode t.top.mode r.top.mode at.resumed)
        (inside r.top.func Intrinsic.CoroEnd result must_tail ty args refl at.ends.there) (λ stays. at.ends.there)
