-- The class of the slot of a marker of an accepted source's coroutine tells what becomes of the marker.
use Rattle.std.proofs.Common.{◌≡◌, inl, inr, ⊎_elim, ℕ, zero, suc, ◌+◌, ◌<◌, ◌≤◌, Bool, true, false, not, List, [], ◌∷◌}
use Rattle.std.proofs.Common.{◌++◌, length, Option, Some, None, refl, sym, ap, ◌∙◌, subst, arith}
use Rattle.std.proofs.lemmas.Bool.{and_from, false≢true}
use Rattle.std.specs.Prelude.{filter, replicate, slice_get, unwrap_or, ◌==◌}
use Rattle.compiler_theorem.proofs.known.Names.{framed, framed_function, low_name, made, there_of}
use Rattle.compiler_theorem.proofs.known.Plain.{marks_behind, marks_slot, there_at}
use Rattle.compiler_theorem.proofs.known.Slots.{counted, in_frame}
use Rattle.compiler_theorem.proofs.known.Sources.{kept as function_rules, rules}
use Rattle.compiler_theorem.proofs.theorem.Built.{coroutine_there, sources_built}
use Rattle.compiler_theorem.proofs.theorem.Renewing.{all_kept}
use Rattle.compiler_theorem.specs.known.Counts.{counts, is_slot_of, own, stays_own}
use Rattle.compiler_theorem.specs.theorem.Anew.{Anew, IsAnewOf, IsSlotOf}
use Rattle.compiler_theorem.specs.theorem.Asked.{asking}
use Rattle.compiler_theorem.specs.theorem.Entries.{IsEntryCall, Run}
use Rattle.compiler_theorem.specs.theorem.Lowered.{HasFewBytes, IsLowered, Lowered, early, edged}
use Rattle.compiler.specs.flow_solver.Paths.{IsListed}
use Rattle.compiler.specs.frame_classes.Classes.{IsOf}
use Rattle.compiler.specs.frame_classes.declared.class.SlotClass.{SlotClass}
use Rattle.compiler.proofs.ir_laws.facts.Lists.{get_within}
use Rattle.compiler.specs.ir_laws.facts.expanded.Tokens.{IsNamedResult}
use Rattle.compiler.specs.ir_model.Names.{function_at}
use Rattle.compiler.specs.ir_model.Ty.{Ty}
use Rattle.compiler.specs.ir_model.declared.instr.Instr.{Instr}
use Rattle.compiler.specs.ir_model.declared.module.Block.{Block}
use Rattle.compiler.specs.ir_model.declared.module.Function.{Function}
use Rattle.compiler.specs.ir_model.declared.operand.Arg.{Arg}
use Rattle.compiler.proofs.ir_paths.Right.{facts_of_right}
use Rattle.compiler.proofs.ir_paths.Search.{or_right}
use Rattle.compiler.specs.ir_paths.Slots.{IsRampSlot, allocas_of, has_name}
use Rattle.compiler.specs.ir_paths.Windows.{instr_at}
use Rattle.compiler.specs.ir_paths.declared.point.Facts.{Facts}
use Rattle.compiler.specs.pass_addresses.Placing.{stays}
use Rattle.compiler.specs.pass_cells.Kept.{entry, joined}
use Rattle.compiler.specs.pass_copies.Slots.{entry_instrs}
use Rattle.compiler.specs.pass_copies.Uses.{flag_at, used_before}
use Rattle.compiler.specs.pass_copies.declared.slot.EarlySlot.{EarlySlot}
use Rattle.compiler.specs.pass_edges.EdgeBlocks.{with_edge_blocks}
use Rattle.compiler.specs.pass_frames.Tables.{class_flags, is_of, offset_at, sizes_by_name}
use Rattle.pass_frames_meaning.proofs.placed.Placed.{held_once}
use Rattle.pass_frames_meaning.specs.Marks.{IsMarkedClass, IsMarkerRight, KeepsMarkers, OfFrame, OfLocal, OfRamp}
use Rattle.pass_frames_meaning.proofs.pass_frames_proof.code.Names.{F, keeping, local}
use Rattle.pass_frames_meaning.proofs.pass_frames_proof.early.Placed.{held_there, names_more}
use Rattle.pass_frames_meaning.proofs.pass_frames_proof.lines.Cells.{contained}
use Rattle.pass_frames_meaning.proofs.pass_frames_proof.offsets.Tables.{slots_told}
use Rattle.pass_frames_meaning.specs.pass_frames_proof.Framings.{IsFraming}
use Rattle.pass_frames_meaning.specs.pass_frames_proof.Marking.{marking}
use Rattle.pass_frames_meaning.specs.pass_frames_proof.Places.{Framing, before_labels, copies, instrs_at, marked, offsets, plan}
use Rattle.pass_frames_meaning.specs.pass_frames_proof.Places.{with_copies, written}
use Rattle.pass_frames_meaning.specs.pass_frames_proof.Places as place
use Rattle.compiler.proofs.pass_proofs.cells.rules.Keepable.{once as names_once}
use Rattle.compiler.proofs.pass_proofs.copies.begin_order.Marks.{none_flagged}
use Rattle.compiler.proofs.pass_proofs.copies.rules.Slots.{AreNumbered, numbered}
use Rattle.compiler.proofs.pass_proofs.edges.paths.Slots.{same_allocas, same_ramp_slots}
use Rattle.compiler.proofs.pass_proofs.frames.begin_order.Framed.{celled_behind}
use Rattle.compiler.proofs.pass_proofs.frames.begin_order.Tables.{IsOfClass, flagged_slot, slot_flagged}
use Rattle.compiler.proofs.pass_proofs.edges.sources.Accepted.{locals_now}
use Rattle.compiler.proofs.pass_proofs.early.save_simulation.Suspending.{fetch_at}
use Rattle.compiler.proofs.pass_proofs.kept.sources.Whole.{edges_kept, split_definite}
use Rattle.compiler.specs.pass_proofs.edges.states.MovedState.{KeepsEdges}
use Rattle.pass_frames_meaning.proofs.pass_renewed_meaning.Tables.{facts_are, renewed_are}
use Rattle.compiler.proofs.pass_kept_proof.Read.{listed_by_name}
use Rattle.compiler.proofs.rule_laws.rules.counted.Slots.{alloca_sized}
use Rattle.compiler.proofs.rule_laws.rules.source_rules.Slots.{alloca_of}
use Rattle.compiler.specs.rule_laws.rules.function_rules.Kept.{KeepsFunctionRules}
use Rattle.compiler.specs.run_laws.changed.Changed.{result_at}
use Rattle.compiler.proofs.run_states.sound_states.Fits.{result_named}
use Rattle.compiler.specs.run_step.Step.{AtInstr, fetch, fetch_in, fetch_or}
use Rattle.pass_frames_meaning.specs.pass_frames_proof.Passes.{no_block}

ramp_alone : (o : Option SlotClass) → is_of SlotClass.Ramp o ≡ true → o ≡ Some SlotClass.Ramp
ramp_alone None e = absurd (cc)
ramp_alone (Some SlotClass.Ramp) e = refl
ramp_alone (Some SlotClass.Local) e = absurd (cc)
ramp_alone (Some SlotClass.Frame) e = absurd (cc)

entry_fetched : (x : Framing) (at : ℕ) (i : Instr) → slice_get (instrs_at x 0) at ≡ Some i
    → fetch (place.edged x) 0 at ≡ AtInstr i
entry_fetched x at i e = on (slice_get (place.edged x).blocks 0) e
  where
    on : (o : Option Block) → slice_get (unwrap_or o no_block).instrs at ≡ Some i → fetch_in o at ≡ AtInstr i
    on None h = absurd (cc)
    on (Some b) h = ap (λ (o : Option Instr). fetch_or o (at == length b.instrs) b.term) h

place_in : {A : Type 0} (xs : List A) (x : A) → IsListed x xs → (n : ℕ) × (slice_get xs n ≡ Some x)
place_in [] x l = absurd l
place_in (y ∷ xs) x (inl e) = (0, ap Some (sym e))
place_in (y ∷ xs) x (inr l) = let p = place_in xs x l in (suc p.0, p.1)

has_later : (xs ys : List ℕ) (v : ℕ) → has_name ys v ≡ true → has_name (xs ++ ys) v ≡ true
has_later [] ys v h = h
has_later (x ∷ xs) ys v h = or_right (x == v) _ (has_later xs ys v h)

flags_long : (n : ℕ) → length (replicate n false) ≡ n
flags_long zero = refl
flags_long (suc n) = ap suc (flags_long n)

told_entry : (t : List (Option ℕ)) (v d : ℕ) → slice_get t v ≡ Some (Some d) → entry t v ≡ Some d
told_entry t v d e = ap joined e

stays_by : (m : List Bool) (starts must_tail : Bool) (ty : Option Ty) (size : Arg) (u : Ty) (v : ℕ) (b : Bool)
    → flag_at m v ≡ b → stays m (marking starts must_tail ty size u v) ≡ b
stays_by m true must_tail ty size u v b e = e
stays_by m false must_tail ty size u v b e = e

module _ (l : Lowered) (low : IsLowered l) (few : HasFewBytes l) (a : Anew) (anew : IsAnewOf (early l) a) (r : Run)
    (entered : IsEntryCall l.source r) (func : ℕ) (coroutine : (function_at (early l) func).coroutine ≡ true) where
  abbrev x : Framing
  x = (asking l low a r).b.framing func

  is : IsFraming ((asking l low a r).b.framing func)
  is = framed l low few a anew r entered func coroutine

  abbrev g : Function
  g = function_at (early l) func

  abbrev names : ℕ
  names = length (with_copies x).names

  function_is : ((asking l low a r).b.framing func).function ≡ function_at (early l) func
  function_is = ((sources_built l low r.answers).coroutines func coroutine).function

  pub now : function_at (edged l) func ≡ with_edge_blocks (function_at (early l) func)
  now = framed_function l low few a anew r entered func coroutine ∙ ap with_edge_blocks function_is

  edges : KeepsEdges (function_at (early l) func)
  edges = edges_kept l.text l.source low.source.stands low.source.accepted func (function_at (early l) func)
      (coroutine_there l low r.answers func coroutine) coroutine

  early_keeps : KeepsFunctionRules ((asking l low a r).b.framing func).code func
      ((asking l low a r).b.framing func).function
  early_keeps = rules l low few a anew r entered func coroutine

  module _ (v : ℕ) (slot : is_slot_of l func v ≡ true) where
    among : has_name (allocas_of (function_at (early l) func)) v ≡ true
    among = sym (ap (λ (vs : List ℕ). has_name vs v) (same_allocas g))
        ∙ subst (λ (f : Function). has_name (allocas_of f) v ≡ true) now slot

    own_listed : IsListed v (allocas_of ((asking l low a r).b.framing func).function)
    own_listed = listed_by_name (allocas_of x.function) v
        (subst (λ (f : Function). has_name (allocas_of f) v ≡ true) (sym function_is) among)

    at : (k : ℕ) × (slice_get (allocas_of ((asking l low a r).b.framing func).function) k ≡ Some v)
    at = place_in (allocas_of x.function) v own_listed

    low_early : v < length ((asking l low a r).b.framing func).function.names
    low_early =
        let y = alloca_of x.function v own_listed in
        subst (λ (f : Function). v < length f.names) (sym function_is)
        (subst (IsNamedResult (length g.names)) (ap result_at (fetch_at g y.point (Instr.Alloca v y.ty y.align)
        (subst (λ (f : Function). instr_at f y.point ≡ Some (Instr.Alloca v y.ty y.align)) function_is y.stands)))
        (result_named g (locals_now l.text l.source low.source.stands low.source.accepted func).results y.point.block
        y.point.at))

    class : (k : SlotClass) × (slice_get ((asking l low a r).b.framing func).contents.classes at.0 ≡ Some k)
    class =
        let few_slots : at.0 < length (allocas_of x.function) = get_within (allocas_of x.function) at.0 v at.1 in
        let count = is.frameable.contents.classes_are.count in
        there_at x.contents.classes at.0 (omega (arith, few_slots, count))

    -- by a class
    of_class : (k : SlotClass) → slice_get ((asking l low a r).b.framing func).contents.classes at.0 ≡ Some k
        → IsOf (function_at (early l) func) v k
    of_class k e = subst (λ (f : Function). IsOf f v k) function_is
        (is.frameable.contents.classes_are.each at.0 v k at.1 e)

    listed_as : (k : SlotClass) → slice_get ((asking l low a r).b.framing func).contents.classes at.0 ≡ Some k
        → is_of k (Some k) ≡ true
        → IsOfClass k ((asking l low a r).b.framing func).contents.classes 0
        (allocas_of ((asking l low a r).b.framing func).function) v
    listed_as k e own =
        let none : at.0 ≡ 0 + at.0 = omega arith in
        record {
          number = at.0;
          slot = at.1;
          class_is = ap (λ (n : ℕ). is_of k (slice_get x.contents.classes n)) (sym none) ∙ ap (is_of k) e ∙ own;
        }

    -- a ramp slot stays with the activation
    ramp_own : IsRampSlot (function_at (early l) func) v → stays_own l a r func v ≡ true
    ramp_own ramp =
        let there = there_of l low few a anew r entered func v slot in
        let before = ((facts_of_right g).ramp_slots v).1 (among, ramp) in
        let named = same_ramp_slots g edges.labels edges.once edges.phis v ∙ before in
        let edged_ramp = ((facts_of_right (with_edge_blocks g)).ramp_slots v).0 named in
        let ramp_now : IsRampSlot (function_at (edged l) func) v =
        subst (λ (f : Function). IsRampSlot f v) (sym now) edged_ramp.1 in
        ap (λ (z : Facts). has_name z.ramp_slots v) (renewed_are (edged l) a.flags func there)
        ∙ has_later (filter (a.flags func) (allocas_of (function_at (edged l) func))) _ v
        (((facts_are (edged l) func there).ramp_slots v).1 (slot, ramp_now))

    ramp_flagged : slice_get ((asking l low a r).b.framing func).contents.classes at.0 ≡ Some SlotClass.Ramp
        → flag_at (marked ((asking l low a r).b.framing func)) v ≡ true
    ramp_flagged e =
        let none : at.0 ≡ 0 + at.0 = omega arith in
        let long = flags_long (length x.function.names) in
        let small = low_early in
        flagged_slot SlotClass.Ramp x.contents.classes 0 (allocas_of x.function)
        (replicate (length x.function.names) false) at.0 v at.1
        (ap (λ (n : ℕ). is_of SlotClass.Ramp (slice_get x.contents.classes n)) (sym none) ∙ ap (is_of SlotClass.Ramp) e)
        (omega (arith, long, small))

    -- and no other is flagged as one
    ramp_back : flag_at (marked ((asking l low a r).b.framing func)) v ≡ true
        → IsRampSlot (function_at (early l) func) v
    ramp_back e =
        ⊎_elim (λ h. absurd (false≢true (sym (none_flagged (length x.function.names) v) ∙ h)))
        (λ (y : IsOfClass SlotClass.Ramp x.contents.classes 0 (allocas_of x.function) v).
        let n : ℕ = y.number in
        let none : 0 + n ≡ n = omega arith in
        subst (λ (f : Function). IsOf f v SlotClass.Ramp) function_is
        (is.frameable.contents.classes_are.each n v SlotClass.Ramp y.slot
        (ramp_alone (slice_get x.contents.classes n)
        (ap (λ (j : ℕ). is_of SlotClass.Ramp (slice_get x.contents.classes j)) (sym none) ∙ y.class_is))))
        (slot_flagged SlotClass.Ramp x.contents.classes 0 (allocas_of x.function)
        (replicate (length x.function.names) false) v e)

    no_ramp_flag : (IsRampSlot (function_at (early l) func) v → ⊥)
        → flag_at (marked ((asking l low a r).b.framing func)) v ≡ false
    no_ramp_flag other = on (flag_at (marked x) v) refl
      where
        on : (b : Bool) → flag_at (marked ((asking l low a r).b.framing func)) v ≡ b → b ≡ false
        on false e = refl
        on true e = absurd (other (ramp_back e))

    unflagged_unless : (IsSlotOf (function_at (early l) func) SlotClass.Local v → ⊥) → a.flags func v ≡ false
    unflagged_unless other = on (a.flags func v) refl
      where
        on : (b : Bool) → a.flags func v ≡ b → b ≡ false
        on false e = refl
        on true e = absurd (other (((anew func).flags_are v).0 e))

    low_edged : v < length (place.edged ((asking l low a r).b.framing func)).names
    low_edged = subst (λ (f : Function). v < length f.names) (framed_function l low few a anew r entered func coroutine)
        (low_name l low few a anew r entered func v slot)

    -- a slot of the frame is held there
    in_place : IsOfClass SlotClass.Frame ((asking l low a r).b.framing func).contents.classes 0
        (allocas_of ((asking l low a r).b.framing func).function) v
        → (d : ℕ) × (entry (offsets ((asking l low a r).b.framing func)) v ≡ Some d)
    in_place y =
        let h = held_there x is v y in
        let p = place_in x.contents.held h.held h.listed in
        let value : h.held.value ≡ v = h.value in
        let lower : h.held.value < length (place.edged x).names =
        subst (λ (w : ℕ). w < length (place.edged x).names) (sym value) low_edged in
        let more = names_more x is in (
          offset_at x.layout p.0,
          told_entry (offsets x) v (offset_at x.layout p.0) (ap (slice_get (offsets x)) (sym value)
              ∙ slots_told x.layout x.function x.contents names p.0 h.held (held_once x is func early_keeps) p.1 h.slot
              (omega (arith, lower, more)) lower),
        )

    module _ (starts must_tail : Bool) (ty : Option Ty) (size : Arg) (u : Ty) where
      kind : IsMarkedClass (asking l low a r) (counts l a r) (own l a r) func v (marking starts must_tail ty size u v)
      kind = on class.0 class.1
        where
          stay : (b : Bool) → flag_at (marked ((asking l low a r).b.framing func)) v ≡ b
              → stays (marked ((asking l low a r).b.framing func)) (marking starts must_tail ty size u v) ≡ b
          stay b e = stays_by (marked x) starts must_tail ty size u v b e

          on : (k : SlotClass) → slice_get ((asking l low a r).b.framing func).contents.classes at.0 ≡ Some k
              → IsMarkedClass (asking l low a r) (counts l a r) (own l a r) func v
              (marking starts must_tail ty size u v)
          on SlotClass.Ramp e =
              let flag = ramp_flagged e in
              OfRamp (unflagged_unless (λ z. z.is_of.0 (of_class SlotClass.Ramp e))) (stay true flag)
              (and_from (is_slot_of l func v) _ slot (or_right (not g.coroutine) _
              (ramp_own (of_class SlotClass.Ramp e))))
              ((celled_behind x.code is.position x.layout x.function x.contents is.begin names
              is.frameable).unmarked v flag)
          on SlotClass.Local e =
              let of = of_class SlotClass.Local e in
              OfLocal (((anew func).flags_are v).1 (record { coroutine = coroutine; is_alloca = among; is_of = of }))
              (stay false (no_ramp_flag of.0))
          on SlotClass.Frame e =
              let of = of_class SlotClass.Frame e in
              let d = in_place (listed_as SlotClass.Frame e refl) in
              OfFrame (unflagged_unless (λ z. z.is_of.1 of.1)) (stay false (no_ramp_flag of.0))
              (counted l low few a anew r entered func coroutine v d.0 low_edged d.1) (in_frame (offsets x) v d.0 d.1)

    unplaced : entry (plan ((asking l low a r).b.framing func)).places v ≡ None
    unplaced = on (entry (plan x).places v) refl
      where
        on : (o : Option ℕ) → entry (plan ((asking l low a r).b.framing func)).places v ≡ o
            → entry (plan ((asking l low a r).b.framing func)).places v ≡ None
        on None e = e
        on (Some n) e = absurd (alloca_sized x.code (F x is) v
            (names_once x.code is.position (F x is) is.frameable.rules x.contents.crossing
            (local x is) is.frameable.cells v)
            (subst (λ (vs : List ℕ). IsListed v vs) (sym (same_allocas x.function)) own_listed)
            ((keeping x is).holds v n ((keeping x is).there v n e)).no_slot)

-- ---- temporaries

temporary_from : (n : ℕ) (ss : List EarlySlot) → AreNumbered n ss → (e : EarlySlot) → IsListed e ss → n ≤ e.temporary
temporary_from n [] h e l = absurd l
temporary_from n (s ∷ ss) h e (inl is) =
    let same : s.temporary ≡ n = h.0 in
    let one : e.temporary ≡ s.temporary = ap (λ (z : EarlySlot). z.temporary) is in
    omega (arith, same, one)
temporary_from n (s ∷ ss) h e (inr l) = let le = temporary_from (n + 2) ss h.1.1 e l in omega (arith, le)

one_temporary : (n : ℕ) (ss : List EarlySlot) → AreNumbered n ss → (e f : EarlySlot) → IsListed e ss → IsListed f ss
    → e.temporary ≡ f.temporary → e.slot ≡ f.slot
one_temporary n [] h e f l m same = absurd l
one_temporary n (s ∷ ss) h e f (inl i) (inl j) same = ap (λ (z : EarlySlot). z.slot) (i ∙ sym j)
one_temporary n (s ∷ ss) h e f (inl i) (inr m) same =
    let first : s.temporary ≡ n = h.0 in
    let one : e.temporary ≡ s.temporary = ap (λ (z : EarlySlot). z.temporary) i in
    let le = temporary_from (n + 2) ss h.1.1 f m in
    absurd (omega (arith, first, one, le, same))
one_temporary n (s ∷ ss) h e f (inr l) (inl j) same =
    let first : s.temporary ≡ n = h.0 in
    let one : f.temporary ≡ s.temporary = ap (λ (z : EarlySlot). z.temporary) j in
    let le = temporary_from (n + 2) ss h.1.1 e l in
    absurd (omega (arith, first, one, le, same))
one_temporary n (s ∷ ss) h e f (inr l) (inr m) same = one_temporary (n + 2) ss h.1.1 e f l m same

-- ---- all markers

module _ (l : Lowered) (low : IsLowered l) (few : HasFewBytes l) (a : Anew) (anew : IsAnewOf (early l) a) (r : Run)
    (entered : IsEntryCall l.source r) where
  right : (func block at : ℕ) (starts must_tail : Bool) (ty : Option Ty) (size : Arg) (u : Ty) (name : ℕ)
      → (function_at (early l) func).coroutine ≡ true
      → fetch (function_at (edged l) func) block at ≡ AtInstr (marking starts must_tail ty size u name)
      → IsMarkerRight (asking l low a r) (counts l a r) (own l a r) func block at name
      (marking starts must_tail ty size u name)
  right func block at starts must_tail ty size u name c there =
      let kept = function_rules l low few a anew r entered func block at starts must_tail ty size u name there in
      let slot = marks_slot starts must_tail ty size u name (edged l) func
      (function_at (edged l) func) kept block at there
      in
      let once = made l low few a anew r entered func name slot in
      record {
        kind = kind l low few a anew r entered func c name slot starts must_tail ty size u;
        unkept = unplaced l low few a anew r entered func c name slot;
        low = low_edged l low few a anew r entered func c name slot;
        made = once;
        behind = λ e. marks_behind starts must_tail ty size u name (edged l) func
            (function_at (edged l) func) kept block
            at there ((split_definite l.text l.source low.source.stands low.source.accepted).each func) once e;
      }

  slot_low : (func at u align : ℕ) (ty : Ty) → (function_at (early l) func).coroutine ≡ true
      → slice_get (instrs_at ((asking l low a r).b.framing func) 0) at ≡ Some (Instr.Alloca u ty align)
      → u < length (place.edged ((asking l low a r).b.framing func)).names
  slot_low func at u align ty c e =
      let x : Framing = (asking l low a r).b.framing func in
      let same = framed_function l low few a anew r entered func c in
      let f : Function = function_at (edged l) func in
      let here : fetch (place.edged x) 0 at ≡ AtInstr (Instr.Alloca u ty align) = entry_fetched x at _ e in
      subst (λ (h : Function). u < length h.names) same
      (subst (IsNamedResult (length f.names)) (ap result_at (ap (λ (h : Function). fetch h 0 at) same ∙ here))
      (result_named f ((all_kept l low a anew r entered few).locals func).results 0 at))

  pub source_markers : KeepsMarkers (asking l low a r) (counts l a r) (own l a r)
  source_markers = record {
    markers = λ func block at starts must_tail ty size u name c there.
        right func block at starts must_tail ty size u name c there;
    names = λ func at u align ty c e. slot_low func at u align ty c e;
    alone = λ func c e f i j same.
        let x : Framing = (asking l low a r).b.framing func in
        one_temporary (length (written x).names) (copies x).slots
        (numbered (used_before (written x) (class_flags x.function x.contents.classes SlotClass.Frame)
        (before_labels x))
        (sizes_by_name x.function x.contents.held) (length (written x).names) (entry_instrs (written x).blocks)) e f
        (contained (copies x).slots e i) (contained (copies x).slots f j) same;
  }
