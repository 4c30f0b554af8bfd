-- What laws on kinds of steps ask of the two modules holds of an accepted source and its framed form.
use Rattle.std.proofs.Common.{Bool, List, Option, Some, [], ap, arith, false, inl, inr, refl, subst, sym, true, ℕ, ⊎_elim, ◌<◌, ◌∙◌, ◌∷◌, ◌≡◌, ◌≢◌, ◌≤◌}
use Rattle.std.specs.Prelude.{IsTrue, if◌then◌else◌, option_to_list, slice_get, ◌↔◌}
use Rattle.compiler.proofs.whole.lowered_sources.Sources.{early_others}
use Rattle.compiler_theorem.proofs.apart.Facts as facts
use Rattle.compiler_theorem.proofs.kinds.Calls.{id_promise, save_pointer}
use Rattle.compiler_theorem.proofs.kinds.Classes.{frame_class, local_is, local_outside, sizes_same}
use Rattle.compiler_theorem.proofs.kinds.Crossed.{row_crosses, value_field, value_opened, values_behind}
use Rattle.compiler_theorem.proofs.ends.EdgeBlocks.{edge_slots}
use Rattle.compiler_theorem.proofs.kinds.Early.{alloca_fits, early_alloca, early_typed}
use Rattle.compiler_theorem.proofs.known.Begins.{begin_is, begin_named}
use Rattle.compiler_theorem.proofs.kinds.Held.{IsPlacedAs, early_lies, slot_placed}
use Rattle.compiler_theorem.proofs.kinds.Leading.{save_with}
use Rattle.pass_frames_meaning.proofs.kinds.Unkept.{token_given}
use Rattle.pass_frames_meaning.proofs.others.AtPlace.{args_wanted}
use Rattle.pass_frames_meaning.specs.pass_frames_proof.Saving.{save_call}
use Rattle.compiler.specs.rule_types.Signatures.{are_wanted}
use Rattle.compiler.specs.rule_types.Wants.{any}
use Rattle.compiler.specs.rule_types.declared.wants.Basic.{Basic}
use Rattle.compiler.specs.rule_values.Fits.{fits_kind}
use Rattle.std.proofs.lemmas.Bool.{and_parts, false≢true}
use Rattle.compiler_theorem.proofs.kinds.Marked.{marks_left}
use Rattle.compiler_theorem.proofs.kinds.Opened.{opened, size_low, uncut}
use Rattle.compiler_theorem.proofs.kinds.Ramps.{classes_are, marks_are}
use Rattle.compiler_theorem.proofs.parts.FirstCalls.{promise_listed}
use Rattle.compiler_theorem.proofs.theorem.Built.{edged_tokens, framed_rules, framed_tokens, framed_unmarked}
use Rattle.compiler_theorem.proofs.theorem.Framing.{sources_given}
use Rattle.compiler_theorem.specs.kinds.Held.{IsHeldAsValue}
use Rattle.compiler_theorem.specs.theorem.Anew.{Anew, IsAnewOf, IsSlotOf}
use Rattle.compiler_theorem.specs.theorem.Asked.{asking}
use Rattle.compiler_theorem.specs.theorem.Entries.{Run}
use Rattle.compiler_theorem.specs.theorem.Lowered.{IsLowered, Lowered, early, edged}
use Rattle.compiler.specs.flow_solver.Paths.{IsListed}
use Rattle.compiler.specs.frame_contents.Held.{fields_of, slot_held, slot_kind}
use Rattle.compiler.specs.frame_contents.declared.held.Holding.{Holding}
use Rattle.compiler.specs.frame_good.Frames.{AreInConflict}
use Rattle.compiler.specs.frame_good.Good.{AreFit, IsGoodLayout}
use Rattle.compiler.specs.frame_layout.declared.layout.FieldKind.{FieldKind}
use Rattle.compiler.specs.frame_layout.declared.layout.Layout.{Layout}
use Rattle.compiler.specs.ir_model.Layout.{extent_of, extent_or, size_of}
use Rattle.compiler.specs.ir_sizes.Cut.{capped}
use Rattle.pass_frames_meaning.proofs.others.Names.{result_low}
use Rattle.pass_frames_meaning.specs.pass_frames_proof.Slotted.{IsSlotField}
use Rattle.compiler.specs.run_framed.Framed.{is_open_kind, layout_of}
use Rattle.compiler.specs.frame_classes.declared.class.SlotClass.{SlotClass}
use Rattle.compiler.specs.pass_cells.Kept.{is_flagged}
use Rattle.compiler.specs.pass_frames.Tables.{class_flags, offset_at}
use Rattle.compiler.specs.rule_laws.rules.function_rules.Kept.{KeepsFunctionRules}
use Rattle.compiler.specs.ir_model.Names.{function_at}
use Rattle.compiler.specs.ir_model.Ty.{Ty, token}
use Rattle.compiler.specs.ir_model.declared.instr.Instr.{Instr}
use Rattle.compiler.specs.ir_model.declared.module.Function.{Function}
use Rattle.compiler.specs.ir_model.declared.module.Module.{Module}
use Rattle.compiler.specs.ir_model.declared.operand.Arg.{Arg}
use Rattle.compiler.specs.ir_model.declared.operand.Callee.{Callee}
use Rattle.compiler.specs.ir_model.declared.operand.Intrinsic.{Intrinsic}
use Rattle.compiler.specs.ir_paths.Slots.{allocas_of, has_name, promise_of}
use Rattle.compiler.specs.ir_paths.Windows.{instr_at, operand_at, suspend_of}
use Rattle.compiler.specs.ir_paths.declared.point.Point.{Point}
use Rattle.compiler.specs.pass_edges.EdgeBlocks.{with_edge_blocks}
use Rattle.pass_frames_meaning.proofs.others.Names.{point_there}
use Rattle.pass_frames_meaning.proofs.others.Returns.{instr_in}
use Rattle.pass_frames_meaning.specs.Kinds.{AreBehind, AreEarlyFields, HasRowField, HasSlotField, IsSaveWith, KeepsKinds}
use Rattle.pass_frames_meaning.specs.Setting.{Setting}
use Rattle.compiler.specs.rule_values.Kinds.{value_kind}
use Rattle.compiler.specs.rule_values.declared.kinds.Kind.{Kind}
use Rattle.pass_frames_meaning.specs.run_types.Rules.{KeepsTypes}
use Rattle.compiler.specs.pass_cells.Written.{row_at}
use Rattle.compiler.specs.pass_cells.declared.plan.KeptValue.{KeptValue}
use Rattle.compiler.specs.pass_fetch.Fetching.{value_bytes}
use Rattle.pass_frames_meaning.proofs.pass_frames_proof.code.Names.{has_cells}
use Rattle.pass_frames_meaning.proofs.pass_frames_proof.lines.Cells.{contained, kept_type}
use Rattle.pass_frames_meaning.proofs.pass_frames_proof.lines.Rows.{field_placed}
use Rattle.pass_frames_meaning.specs.pass_frames_proof.Related.{IsKeptValue}
use Rattle.pass_frames_meaning.proofs.pass_frames_proof.ramps.Markers.{new_unmarked}
use Rattle.pass_frames_meaning.proofs.pass_frames_proof.early.Sizes.{all_sized}
use Rattle.pass_frames_meaning.specs.pass_frames_proof.Early.{IsOfField}
use Rattle.pass_frames_meaning.specs.pass_frames_proof.Framings.{IsFraming}
use Rattle.pass_frames_meaning.specs.pass_frames_proof.Places.{Framing, copies, instrs_at, offsets, plan}
use Rattle.pass_frames_meaning.specs.pass_frames_proof.Places.{edged as edged_function}
use Rattle.pass_frames_meaning.specs.pass_frames_proof.Stepping.{AreGiven}
use Rattle.compiler.proofs.pass_proofs.edges.paths.Slots.{same_allocas, same_promise}
use Rattle.compiler.specs.pass_proofs.addresses.rules.Addresses.{lies_in_frame}
use Rattle.compiler.specs.run_step.Step.{AtInstr, fetch}
use Rattle.compiler.specs.pass_copies.declared.slot.EarlySlot.{EarlySlot}
use Rattle.std.specs.List.{Contains}
use Rattle.pass_frames_meaning.specs.pass_frames_proof.FromEdges.{IsEarlyInFrame}
use Rattle.compiler.proofs.ir_laws.paths.woven_rules.Unbroken.{of_listed}
use Rattle.pass_frames_meaning.proofs.placed.Placed.{held_once}

open_slot : (o : Option ℕ) (v : ℕ) → is_open_kind (slot_kind o v) ≡ true
open_slot o v = on (has_name (option_to_list o) v)
  where
    on : (b : Bool) → is_open_kind (if b then FieldKind.Promise else FieldKind.Slot) ≡ true
    on true = refl
    on false = refl

module _ (l : Lowered) (low : IsLowered l) (a : Anew) (anew : IsAnewOf (early l) a) (r : Run) where
  abbrev c : Setting
  c = asking l low a r

  given : AreGiven c.b c.g
  given = sources_given l low a r

  module _ (func : ℕ) (coroutine : (function_at (early l) func).coroutine ≡ true) where
    abbrev f : Function
    f = function_at (early l) func

    abbrev x : Framing
    x = c.b.framing func

    abbrev h : Function
    h = function_at (edged l) func

    is : IsFraming x
    is = facts.is l low a r func coroutine

    same : h ≡ edged_function x
    same = facts.same l low a r func coroutine

    function : x.function ≡ f
    function = facts.function l low a r func coroutine

    code : x.code ≡ early l
    code = facts.code l low a r func coroutine

    there_now : slice_get (early l).functions func ≡ Some f
    there_now = facts.there_now l low a r func coroutine

    stands : (block at : ℕ) (i : Instr) → fetch h block at ≡ AtInstr i
        → instr_at (edged_function x) (record { block = block; at = at }) ≡ Some i
    stands block at i e = point_there x is block at i (instr_in x h same block at i e)

    promise_slot : (v : ℕ) → promise_of (edged_function x) ≡ Some v → IsListed v (allocas_of h)
    promise_slot v e =
        let own : promise_of f ≡ Some v =
        sym (same_promise f) ∙ sym (ap (λ (g : Function). promise_of (with_edge_blocks g)) function) ∙ e in
        let kept = ((early_others l.text l.source low.source.stands low.source.accepted).shape func f there_now).promise in
        subst (IsListed v)
        (sym (ap allocas_of (same ∙ ap with_edge_blocks function) ∙ same_allocas f))
        (promise_listed func f coroutine kept v own)

    rules : KeepsFunctionRules (early l) func x.function
    rules = facts.rules l low a r func coroutine

    own_rules : KeepsFunctionRules x.code func x.function
    own_rules = facts.own_rules l low a r func coroutine

    layout : x.layout ≡ layout_of l.layouts.coroutines func
    layout = facts.layout l low a r func coroutine

    good : IsGoodLayout func (fields_of f x.contents.held) (AreInConflict f x.contents)
        (layout_of l.layouts.coroutines func)
    good = facts.good l low a r func coroutine

    fit : AreFit (fields_of f x.contents.held)
    fit = facts.fit l low a r func coroutine

    -- the field of a slot in the frame
    module _ (at v align : ℕ) (ty : Ty) (alloca : slice_get (instrs_at x 0) at ≡ Some (Instr.Alloca v ty align))
        (lies : lies_in_frame (offsets x) v ≡ true) where
      abbrev slot : Holding
      slot = slot_held x.code (promise_of x.function) v ty align

      placed : IsPlacedAs x.contents.held slot
      placed =
          slot_placed x is func own_rules at v align ty alloca
          (frame_class x is v (result_low x is 0 at v (Instr.Alloca v ty align) alloca refl) lies)

      size_is : capped (size_of x.code ty) ≡ size_of (edged l) ty
      size_is =
          uncut (size_of x.code ty)
          (size_low func f x.contents.held (AreInConflict f x.contents) (layout_of l.layouts.coroutines func) good fit
          placed.position slot placed.there)
          ∙ ap (λ (m : Module). (extent_or (extent_of m.types ty)).size) code

      slot_field : HasSlotField c.b func v (size_of (edged l) ty) align
      slot_field = record {
        position = placed.position;
        held = placed.told;
        field = subst (λ (q : ℕ × ℕ). IsSlotField (layout_of l.layouts.coroutines func) q.0 q.1 align)
            (λ j. (ap (λ (y : Layout). offset_at y placed.position) (sym layout) j, size_is j))
            (opened func f x.contents.held (AreInConflict f x.contents) (layout_of l.layouts.coroutines func) good fit
            placed.position slot placed.there (open_slot (promise_of x.function) v));
      }

    -- ---- slots that are used before begin

    early_place : (e : EarlySlot) → Contains (copies x).slots e → IsEarlyInFrame x 0 e
    early_place e listed =
        of_listed (IsEarlyInFrame x 0) (copies x).slots (edge_slots x is func own_rules).early e
        (contained (copies x).slots e listed)

    early_sized : (e : EarlySlot) → Contains (copies x).slots e → (at v align : ℕ) (ty : Ty)
        → slice_get (instrs_at x 0) at ≡ Some (Instr.Alloca v ty align) → v ≡ e.slot
        → (size_of (edged l) ty ≡ e.size) × (1 ≤ align)
    early_sized e listed at v align ty alloca is_slot =
        let lies : lies_in_frame (offsets x) v ≡ true =
        subst (λ (u : ℕ). lies_in_frame (offsets x) u ≡ true) (sym is_slot) (early_lies x is func own_rules e listed) in
        let sized = of_listed (IsOfField x) (copies x).slots (all_sized x (held_once x is func own_rules)) e
        (contained (copies x).slots e listed) in
        let p = placed at v align ty alloca lies in
        let same = sized p.position (slot at v align ty alloca lies) p.there is_slot in
        (sym (size_is at v align ty alloca lies) ∙ sym same, (alloca_fits x is at v align ty alloca).1)

    early_some : (e : EarlySlot) → Contains (copies x).slots e → 0 < e.size
    early_some e listed =
        let a = early_alloca x is e listed in
        let s = early_sized e listed a.0 e.slot e.align e.ty a.1 refl in
        let some : 1 ≤ size_of x.code e.ty = (alloca_fits x is a.0 e.slot e.align e.ty a.1).0 in
        let same : size_of x.code e.ty ≡ size_of (edged l) e.ty =
        ap (λ (m : Module). (extent_or (extent_of m.types e.ty)).size) code in
        let is_size : size_of (edged l) e.ty ≡ e.size = s.0 in
        omega (arith, some, same, is_size)

    early_fields : AreEarlyFields c.b (edged l) func
    early_fields = record {
      place = early_place;
      some = early_some;
      sized = early_sized;
      cells = (edge_slots x is func own_rules).once;
    }

    -- ---- values that cross

    types : KeepsTypes (edged l) h
    types = facts.types l low a r func coroutine

    -- ---- saves

    one_of : (as' : List Arg) → are_wanted (any Basic.Ptr ∷ []) as' ≡ true → (b : Arg) × (as' ≡ b ∷ [])
    one_of [] e = absurd (false≢true e)
    one_of (b ∷ []) e = (b, refl)
    one_of (b ∷ d ∷ more) e = absurd (false≢true (and_parts _ _ e).1)

    at_point : (p : Point) (i : Instr) → instr_at (edged_function x) p ≡ Some i → fetch h p.block p.at ≡ AtInstr i
    at_point p i e = facts.fetched h p i (ap (λ (g : Function). instr_at g p) same ∙ e)

    saved : (p u : Point) (v : ℕ) (must_tail : Bool) (ty : Option Ty) (args : List Arg)
        → instr_at (edged_function x) p ≡ Some (save_call v must_tail ty args)
        → suspend_of (edged_function x) p ≡ Some u → IsSaveWith x p u v
    saved p u v must_tail ty args there leads =
        let here = at_point p (save_call v must_tail ty args) there in
        let one = one_of args (args_wanted (edged l) h types p.block p.at (Some v) must_tail ty Intrinsic.CoroSave args
        here) in
        save_with x is (edged_tokens l low r.answers func coroutine) (framed_tokens l low r.answers func coroutine)
        (λ q result tail ty' args' e. args_wanted (edged l) h types q.block q.at result tail ty' Intrinsic.CoroSuspend
        args' (at_point q (Instr.Call result tail ty' (Callee.Intrinsic Intrinsic.CoroSuspend) args') e))
        p u v must_tail ty one.0
        (there ∙ ap (λ (as' : List Arg). Some (save_call v must_tail ty as')) one.1)
        (⊎_elim
        (λ e. inl (sym (ap (λ (as' : List Arg). operand_at as' 0) one.1) ∙ e))
        (λ e. inr (sym (ap (λ (as' : List Arg). operand_at as' 0) one.1) ∙ e))
        (save_pointer x is p (Some v) must_tail ty args there))
        (ap (λ (g : Function). fits_kind (value_kind g v) token) (sym same)
        ∙ token_given (edged l) h types p.block p.at v must_tail ty Intrinsic.CoroSave args here refl Kind.Saved refl
        refl)
        leads

    held : (v : ℕ) (k : KeptValue) → IsKeptValue x v k → IsHeldAsValue x v k
    held = facts.held l low a r func coroutine

    some_bytes : (v : ℕ) (k : KeptValue) → IsKeptValue x v k → 0 < value_bytes k.field_ty
    some_bytes v k kept =
        let t = kept_type k.field_ty (has_cells x is kept.number k kept.there).field_ty in
        let some = t.some in
        let bytes = t.bytes in
        omega (arith, some, bytes)

    row_field : (order v : ℕ) (k : KeptValue) (kept : IsKeptValue x v k)
        → IsListed kept.number (row_at (plan x).rows (Some order)) → HasRowField c.b func order v k
    row_field order v k kept li =
        let h = held v k kept in
        record {
          position = h.position;
          field = record { kept = kept; crosses = row_crosses x is order v k kept li; placed = h.told };
          told = field_placed x is v h.position k kept h.told;
          opened = value_opened x is func f (layout_of l.layouts.coroutines func) layout good fit v k h;
        }

    rows_apart : (order u v : ℕ) (k j : KeptValue) (one : HasRowField c.b func order u k)
        (other : HasRowField c.b func order v j) → u ≢ v
        → AreBehind (offset_at x.layout one.position) (value_bytes k.field_ty) (offset_at x.layout other.position)
        (value_bytes j.field_ty)
    rows_apart order u v k j one other ne =
        let ly : Layout = layout_of l.layouts.coroutines func in
        let g = held u k one.field.kept in
        let h = held v j other.field.kept in
        subst (λ (q : ℕ × ℕ). AreBehind (offset_at x.layout q.0) (value_bytes k.field_ty) (offset_at x.layout q.1)
        (value_bytes j.field_ty))
        (λ i. (
          value_field x is func f ly layout good fit u one.position k one.field.kept one.field.placed g i,
          value_field x is func f ly layout good fit v other.position j other.field.kept other.field.placed h i,
        ))
        (values_behind x is func f ly layout good fit order u v k j one.field.crosses other.field.crosses ne g h
        (some_bytes u k one.field.kept) (some_bytes v j other.field.kept))

  anew_is : (func v : ℕ) → (function_at (early l) func).coroutine ≡ true
      → a.flags func v
      ≡ is_flagged (class_flags (c.b.framing func).function (c.b.framing func).contents.classes SlotClass.Local) v
  anew_is func v coroutine =
      local_is (c.b.framing func) (is func coroutine) func (early l) (rules func coroutine) v (a.flags func v)
      (ap (λ (g : Function). g.coroutine) (function func coroutine) ∙ coroutine)
      (subst (λ (g : Function). IsTrue (a.flags func v) ↔ IsSlotOf g SlotClass.Local v) (sym (function func coroutine))
      ((anew func).flags_are v))

  pub kinds_kept : KeepsKinds (asking l low a r)
  kinds_kept = record {
    promises = λ func block at result must_tail ty args v coroutine e d.
        promise_slot func coroutine v
        (id_promise (x func coroutine) (is func coroutine) (record { block = block; at = at }) result must_tail ty args v
        (stands func coroutine block at (Instr.Call result must_tail ty (Callee.Intrinsic Intrinsic.CoroId) args) e) d);
    anew = anew_is;
    types = λ func coroutine. ap (λ (m : Module). m.types) (code func coroutine);
    saves = λ func coroutine p u v must_tail ty args there leads.
        saved func coroutine p u v must_tail ty args there leads;
    pointers = λ func block at result must_tail ty args coroutine e.
        save_pointer (x func coroutine) (is func coroutine) (record { block = block; at = at }) result must_tail ty args
        (stands func coroutine block at (Instr.Call result must_tail ty (Callee.Intrinsic Intrinsic.CoroSave) args) e);
    rows = λ func order v k coroutine kept l. row_field func coroutine order v k kept l;
    apart = λ func order u v k j coroutine one other ne. rows_apart func coroutine order u v k j one other ne;
    classes = λ func at v align ty coroutine there.
        classes_are l low a anew func (f func coroutine) (there_now func coroutine) coroutine (x func coroutine)
        (is func coroutine) (function func coroutine) (own_rules func coroutine) (λ u. anew_is func u coroutine) at v
        align ty there;
    whole = λ func v coroutine e.
        local_outside (x func coroutine) (is func coroutine) v (sym (anew_is func v coroutine) ∙ e);
    marks = λ func at v align ty coroutine there lies.
        marks_are l low a anew func (f func coroutine) (there_now func coroutine) coroutine (x func coroutine)
        (is func coroutine) (function func coroutine) (own_rules func coroutine) (λ u. anew_is func u coroutine) at v
        align ty there (framed_rules l low r.answers func coroutine) (λ flag. marks_left (x func coroutine) (is func coroutine) v flag
        (framed_unmarked l low r.answers v func coroutine)) lies;
    new_marks = λ func v coroutine high.
        new_unmarked (early l) func (x func coroutine) (is func coroutine)
        (framed_rules l low r.answers func coroutine) v high;
    fields = λ func at v align ty coroutine there lies. slot_field func coroutine at v align ty there lies;
    early = λ func at v align ty coroutine there e listed is_slot. (
      subst (λ (u : ℕ). lies_in_frame (offsets (x func coroutine)) u ≡ true) is_slot
          (early_lies (x func coroutine) (is func coroutine) func (own_rules func coroutine) e listed),
      (early_typed (x func coroutine) (is func coroutine) at v align ty there e listed is_slot).0,
      (early_typed (x func coroutine) (is func coroutine) at v align ty there e listed is_slot).1,
    );
    early_fields = λ func coroutine. early_fields func coroutine;
    begins = λ func block at result must_tail ty args coroutine e.
        sym
        (begin_named (x func coroutine) (is func coroutine) (record { block = block; at = at })
        (Instr.Call result must_tail ty (Callee.Intrinsic Intrinsic.CoroBegin) args)
        (stands func coroutine block at (Instr.Call result must_tail ty (Callee.Intrinsic Intrinsic.CoroBegin) args) e)
        refl)
        ∙ begin_is (x func coroutine) (is func coroutine);
    sizes = λ func coroutine. sizes_same l.layouts.coroutines func;
  }
