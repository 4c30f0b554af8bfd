-- What crosses a suspend of a source has a field in its frame: of itself, or of its distance where it is an address
-- in a local slot.
use Rattle.std.proofs.Common.{◌≡◌, ⊎_elim, ℕ, ◌<◌, Bool, true, false, List, length, Option, Some, None, refl, sym, ap}
use Rattle.std.proofs.Common.{◌∙◌, subst}
use Rattle.std.proofs.lemmas.Bool.{false≢true}
use Rattle.std.specs.Prelude.{IsTrue, slice_get, unwrap_or, ◌||◌}
use Rattle.compiler_theorem.proofs.apart.Facts as facts
use Rattle.compiler_theorem.proofs.kinds.Calls.{free_pointer, save_pointer}
use Rattle.compiler_theorem.proofs.kinds.Whole.{kinds_kept}
use Rattle.compiler_theorem.proofs.theorem.Built.{coroutine_there}
use Rattle.compiler_theorem.proofs.theorem.Framing.{sources_given}
use Rattle.compiler_theorem.proofs.theorem.shown.Behind.{needed_behind}
use Rattle.compiler_theorem.proofs.theorem.shown.Contents.{same_held}
use Rattle.compiler_theorem.proofs.theorem.shown.Fields.{class_now, class_was, contents_are, early_are, same_allocas}
use Rattle.compiler_theorem.proofs.theorem.shown.Numbered.{early_coroutine, edged_addresses, edged_number, source_number}
use Rattle.compiler_theorem.proofs.theorem.shown.Reading.{IsUntaken}
use Rattle.compiler_theorem.proofs.woken.Crossings.{pair_crosses, value_paired}
use Rattle.compiler_theorem.proofs.woken.Handed.{framing, same_edged}
use Rattle.compiler_theorem.proofs.woken.Rooted.{root_kept}
use Rattle.compiler_theorem.specs.kinds.Held.{IsHeldAsValue}
use Rattle.compiler_theorem.specs.theorem.Anew.{Anew, IsAnewOf, IsSlotOf}
use Rattle.compiler_theorem.specs.theorem.Built.{building}
use Rattle.compiler_theorem.specs.theorem.Entries.{Run}
use Rattle.compiler_theorem.specs.theorem.KeptFields.{AreFieldsKept, HasKeptField}
use Rattle.compiler_theorem.specs.theorem.Lowered.{IsLowered, Lowered, early, edged as edged_of}
use Rattle.compiler_theorem.specs.theorem.SharedBytes.{HasField, IsInLocalSlot}
use Rattle.compiler_theorem.specs.theorem.Suspended.{IsFieldKept, IsValueKept, kept_place}
use Rattle.compiler.specs.flow_solver.Paths.{IsListed}
use Rattle.compiler.specs.frame_classes.declared.class.SlotClass.{SlotClass}
use Rattle.compiler.specs.frame_contents.Held.{position_of, value_held}
use Rattle.compiler.specs.frame_contents.declared.held.Holding.{Holding}
use Rattle.compiler.specs.frame_crossing.Crossing.{AreCrossing, Crosses, suspends_of}
use Rattle.compiler.specs.frame_crossing.Paths.{IsOutside}
use Rattle.compiler.specs.frame_crossing.Values.{is_apart, is_token_result, values_of}
use Rattle.compiler.specs.ir_laws.facts.sound_states.Named.{HasNamedLocals}
use Rattle.compiler.proofs.ir_laws.paths.path_rules.Where.{has_where, where_has}
use Rattle.compiler.proofs.ir_laws.paths.path_rules.Windows.{got_has}
use Rattle.compiler.specs.ir_laws.facts.renamed.Regular.{passes}
use Rattle.compiler.specs.ir_model.Names.{function_at, position_of as position_of_label}
use Rattle.compiler.specs.ir_model.Ty.{Ty, int, token}
use Rattle.compiler.specs.ir_model.declared.instr.Instr.{Instr}
use Rattle.compiler.specs.ir_model.declared.module.Block.{Block}
use Rattle.compiler.specs.ir_model.declared.module.Function.{Function}
use Rattle.compiler.specs.ir_model.declared.operand.Callee.{Callee}
use Rattle.compiler.specs.ir_model.declared.operand.Intrinsic.{Intrinsic}
use Rattle.compiler.specs.ir_model.declared.operand.Operand.{Operand}
use Rattle.compiler.specs.ir_parts.Contents.{result_of}
use Rattle.compiler.specs.ir_paths.Slots.{allocas_of, has_name}
use Rattle.compiler.specs.ir_paths.Windows.{call_result, instr_at, instr_in, is_call_of}
use Rattle.compiler.specs.ir_paths.declared.point.Point.{Point}
use Rattle.compiler.specs.pass_cells.Kept.{entry, value_types}
use Rattle.compiler.specs.pass_cells.Links.{bases_of, cell_name, field_name, slots_of}
use Rattle.compiler.specs.pass_cells.Plan.{kept_value, type_at}
use Rattle.compiler.specs.pass_cells.declared.plan.KeptValue.{KeptValue}
use Rattle.compiler.specs.pass_edges.EdgeBlocks.{with_edge_blocks}
use Rattle.compiler.specs.pass_fetch.Fetching.{value_bytes}
use Rattle.compiler.specs.pass_frames.Framed.{begin_of}
use Rattle.pass_frames_meaning.proofs.begun.Begun.{first}
use Rattle.pass_frames_meaning.proofs.kinds.Unkept.{alloca_unkept}
use Rattle.pass_frames_meaning.proofs.pass_frames_proof.code.Names.{Count, First, Kept, local}
use Rattle.pass_frames_meaning.proofs.pass_frames_proof.from_edges.Front.{kept_there, listed_contains}
use Rattle.pass_frames_meaning.specs.pass_frames_proof.Framings.{IsFraming}
use Rattle.pass_frames_meaning.specs.pass_frames_proof.Places.{Framing, edged, plan}
use Rattle.pass_frames_meaning.specs.pass_frames_proof.Related.{IsKeptValue, IsSuspendNumber}
use Rattle.compiler.proofs.pass_kept_proof.Read.{listed_by_name}
use Rattle.compiler.specs.pass_kept_proof.Handed.{HasPlainNames}
use Rattle.compiler.specs.pass_kept_proof.Needed.{IsNeededBehind}
use Rattle.compiler.proofs.pass_proofs.cells.crossing.Complete.{pair_placed}
use Rattle.compiler.proofs.pass_proofs.cells.rules.Plans.{kept_of}
use Rattle.compiler.proofs.pass_proofs.edges.rules.Kept.{crossing_kept}
use Rattle.compiler.proofs.pass_proofs.edges.simulation.Names.{locals_named}
use Rattle.compiler.proofs.pass_proofs.edges.sources.Accepted.{locals_now}
use Rattle.compiler.proofs.pass_proofs.kept.sources.Modules.{early_has_shape, early_rules}
use Rattle.compiler.proofs.pass_proofs.kept.sources.Whole.{split_named}
use Rattle.compiler.proofs.rule_laws.frames.alike_crossing.Counted.{values_named}
use Rattle.compiler.proofs.rule_laws.frames.needed.Apart.{apart_no_value}
use Rattle.compiler.proofs.rule_laws.frames.needed.States.{not_end}
use Rattle.compiler.proofs.rule_laws.rules.shape.Stands.{begin_stands}
use Rattle.compiler.proofs.rule_laws.rules.sources.Places.{instr_there}
use Rattle.compiler.specs.rule_values.Fits.{fits_kind}
use Rattle.compiler.specs.rule_values.Kinds.{value_kind}
use Rattle.compiler.specs.run_framed.Framed.{layout_of}
use Rattle.compiler.specs.run_step.Step.{fetch}
use Rattle.pass_frames_meaning.specs.run_types.Rules.{KeepsTypes}

-- a distance has 64 bits
slot_number : (cell field : ℕ) (t : Ty) (o slot : Option ℕ) (s : ℕ) → (kept_value cell field t o slot).slot ≡ Some s
    → (kept_value cell field t o slot).field_ty ≡ int 64
slot_number cell field t None slot s e = absurd (cc)
slot_number cell field t (Some d) slot s e = refl

same_value : (u w : ℕ) → Some u ≡ Some w → u ≡ w
same_value u w e = cc

same_holding : (u w : Holding) → Some u ≡ Some w → u ≡ w
same_holding u w e = cc

-- ---- begin

begin_result : (i : Instr) → is_call_of Intrinsic.CoroBegin i ≡ true → result_of i ≡ call_result i
begin_result (Instr.Call result must_tail ty callee args) e = refl
begin_result _ e = absurd (cc)

begin_apart : (i : Instr) → is_call_of Intrinsic.CoroBegin i ≡ true → is_apart i ≡ true
begin_apart (Instr.Call result must_tail ty callee args) e = on (is_token_result ty)
  where
    on : (b : Bool) → (b || (is_call_of Intrinsic.CoroBegin (Instr.Call result must_tail ty callee args)
        || is_call_of Intrinsic.CoroFrame (Instr.Call result must_tail ty callee args))) ≡ true
    on true = refl
    on false = ap (λ (t : Bool). t || is_call_of Intrinsic.CoroFrame (Instr.Call result must_tail ty callee args)) e
begin_apart _ e = absurd (cc)

module _ (l : Lowered) (low : IsLowered l) (a : Anew) (anew : IsAnewOf (early l) a) (r : Run) (func : ℕ)
    (was : (function_at l.source func).coroutine ≡ true) where
  abbrev f : Function
  f = function_at l.source func

  abbrev g : Function
  g = function_at (early l) func

  abbrev x : Framing
  x = (building l low.is_framed r.answers).framing func

  is : (function_at (early l) func).coroutine ≡ true
  is = early_coroutine l low func was

  framed : IsFraming ((building l low.is_framed r.answers).framing func)
  framed = framing l low a anew r func is

  edged_is : edged x ≡ with_edge_blocks g
  edged_is = same_edged l low a anew r func is

  -- ---- what crosses

  -- a suspend of the source has its number
  pub numbered : (j : ℕ) (p : Point) → slice_get (suspends_of (function_at l.source func)) j ≡ Some p
      → IsSuspendNumber ((building l low.is_framed r.answers).framing func) j (kept_place l.source func p)
  numbered j p e = subst (λ (h : Function). slice_get (suspends_of h) j ≡ Some (kept_place l.source func p))
      (sym edged_is) (edged_number l low func was j p e)

  module _ (p : Point) (v : ℕ) (c : Crosses (function_at l.source func) v p) where
    suspend : (j : ℕ) → IsSuspendNumber x j (kept_place l.source func p)
        → slice_get (suspends_of (with_edge_blocks g)) j ≡ Some (kept_place l.source func p)
    suspend j e = subst (λ (h : Function). slice_get (suspends_of h) j ≡ Some (kept_place l.source func p)) edged_is e

    pub pair : (j : ℕ) → IsSuspendNumber ((building l low.is_framed r.answers).framing func) j
        (kept_place l.source func p)
        → IsListed {X = ℕ × ℕ} (v, j) ((building l low.is_framed r.answers).framing func).contents.crossing
    pair j e = value_paired f (values_of f) x.contents.crossing (contents_are l low r.answers func is).crossing_are v
        c.is_value j p (source_number l low func was j p (suspend j e)) c

    edged_crossing : AreCrossing (with_edge_blocks g) x.contents.crossing
    edged_crossing =
        let there = coroutine_there l low r.answers func is in
        (crossing_kept (early l) func g
        (early_rules l.text l.source low.source.stands low.source.accepted func g there) is
        (early_has_shape l.text l.source low.source.stands low.source.accepted func g there).switches
        x.contents.crossing).0 (early_are l low r.answers func is).crossing_are

    -- where saves are written out and edges have blocks it crosses the suspend too
    pub edged_crosses : (j : ℕ) → IsSuspendNumber ((building l low.is_framed r.answers).framing func) j
        (kept_place l.source func p)
        → Crosses (with_edge_blocks (function_at (early l) func)) v (kept_place l.source func p)
    edged_crosses j e = pair_crosses (with_edge_blocks g) (values_of (with_edge_blocks g)) x.contents.crossing
        edged_crossing v j (kept_place l.source func p) (suspend j e) (pair j e)

    low_value : (j : ℕ) → IsSuspendNumber x j (kept_place l.source func p) → v < length (edged x).names
    low_value j e =
        values_named (edged x) (subst HasNamedLocals ((sources_given l low a r).coroutines func is)
        (locals_named (early l) (locals_now l.text l.source low.source.stands low.source.accepted) func)) v
        (subst (λ (h : Function). IsListed v (values_of h)) (sym edged_is) (edged_crosses j e).is_value)

    -- it is kept
    kept : (j : ℕ) → IsSuspendNumber x j (kept_place l.source func p) → (k : KeptValue) × IsKeptValue x v k
    kept j e =
        let at = pair_placed (length (edged x).names) x.contents.crossing (v, j) (low_value j e) (pair j e) in
        kept_there x framed v at.0 at.1

  -- ---- its field

  module _ (v : ℕ) (k : KeptValue) (keeps : IsKeptValue ((building l low.is_framed r.answers).framing func) v k) where
    bytes : (offset size : ℕ) → HasField l.source (function_at l.source func) (layout_of l.layouts.coroutines func) v
        offset size → value_bytes k.field_ty ≡ size
    bytes offset size h =
        let held : IsHeldAsValue x v k = facts.held l low a r func is v k keeps in
        let same = same_held l.source f h.contents x.contents h.contents_are (contents_are l low r.answers func is) in
        let place : h.position ≡ held.position =
        same_value h.position held.position (sym h.position_is
        ∙ ap (λ (hs : List Holding). position_of hs v) same ∙ held.told) in
        let one : h.holding ≡ value_held v (value_bytes k.field_ty) =
        same_holding h.holding (value_held v (value_bytes k.field_ty)) (sym h.holding_is
        ∙ (λ i. slice_get (same i) (place i)) ∙ held.there) in
        ap (λ (y : Holding). y.size) (sym one) ∙ h.size_is

    root_is : a.roots func v ≡ k.slot
    root_is = root_kept l low a anew r func is v k keeps

    number_field : (s : ℕ) → k.slot ≡ Some s → k.field_ty ≡ int 64
    number_field s e =
        let types : List Ty = value_types (edged x) (Kept x framed) in
        let slots : List (Option ℕ) = slots_of (local x framed) (bases_of (edged x)) in
        let y = kept_of (First x framed) (Count x framed) types (plan x).cells slots (Kept x framed).values
        keeps.number k keeps.there in
        ap (λ (z : KeptValue). z.field_ty) y.2
        ∙ slot_number (cell_name (First x framed) keeps.number)
        (field_name (First x framed) (Count x framed) keeps.number)
        (type_at types keeps.number) (entry (plan x).cells y.0) (entry slots y.0) s
        (ap (λ (z : KeptValue). z.slot) (sym y.2) ∙ e)

  -- ---- local slots

  local_was : (s : ℕ) → IsSlotOf g SlotClass.Local s → IsSlotOf f SlotClass.Local s
  local_was s h = record {
    coroutine = was;
    is_alloca = subst (λ (vs : List ℕ). IsTrue (has_name vs s)) (same_allocas l low r.answers func is) h.is_alloca;
    is_of = class_was l low r.answers func is SlotClass.Local s (listed_by_name (allocas_of g) s h.is_alloca) h.is_of;
  }

  local_now : (s : ℕ) → IsSlotOf f SlotClass.Local s → IsSlotOf g SlotClass.Local s
  local_now s h =
      let named : IsTrue (has_name (allocas_of g) s) =
      subst (λ (vs : List ℕ). IsTrue (has_name vs s)) (sym (same_allocas l low r.answers func is)) h.is_alloca in
      record {
        coroutine = is;
        is_alloca = named;
        is_of = class_now l low r.answers func is SlotClass.Local s (listed_by_name (allocas_of g) s named) h.is_of;
      }

  -- what has a root is an address in a local slot, and such an address has one
  rooted_local : (v s : ℕ) → a.roots func v ≡ Some s → IsInLocalSlot (function_at l.source func) v
  rooted_local v s e =
      let y = ((anew func).roots_are v s).0 e in
      let slot = ((anew func).flags_are s).0 y.0 in
      record {
        slot = s;
        is_local = local_was s slot;
        is_address = subst (λ (vs : List ℕ). IsTrue (has_name vs v))
            (edged_addresses l low func was s (listed_by_name (allocas_of g) s slot.is_alloca)) y.1;
      }

  local_rooted : (v : ℕ) (h : IsInLocalSlot (function_at l.source func) v) → a.roots func v ≡ Some h.slot
  local_rooted v h =
      let slot = local_now h.slot h.is_local in
      ((anew func).roots_are v h.slot).1 (
        ((anew func).flags_are h.slot).1 slot,
        subst (λ (vs : List ℕ). IsTrue (has_name vs v))
            (sym (edged_addresses l low func was h.slot (listed_by_name (allocas_of g) h.slot slot.is_alloca)))
            h.is_address,
      )

  -- ---- what is needed

  module _ (p : Point) (j v : ℕ)
      (number : IsSuspendNumber ((building l low.is_framed r.answers).framing func) j (kept_place l.source func p))
      (c : Crosses (function_at l.source func) v p) where
    pub own : (k : KeptValue) × IsKeptValue ((building l low.is_framed r.answers).framing func) v k
    own = kept p v c j number

    crosses : Crosses (edged x) v (kept_place l.source func p)
    crosses = subst (λ (h : Function). Crosses h v (kept_place l.source func p)) (sym edged_is)
        (edged_crosses p v c j number)

    same : function_at (edged_of l) func ≡ edged x
    same = facts.same l low a r func is

    types : KeepsTypes (edged_of l) (edged x)
    types = subst (KeepsTypes (edged_of l)) same (facts.types l low a r func is)

    scalar : fits_kind (value_kind (edged x) v) token ≡ true → ⊥
    scalar = facts.scalar l low a r func is v own.0 own.1

    labels : (n : ℕ) (b : Block) → slice_get (edged x).blocks n ≡ Some b → position_of_label (edged x) b.label ≡ n
    labels = (subst HasPlainNames same (split_named l.text l.source low.source.stands low.source.accepted func)).labels

    no_alloca : IsListed v (allocas_of (edged x)) → ⊥
    no_alloca li = none own.1.number (sym (alloca_unkept x framed v li) ∙ own.1.told)
      where
        none : (n : ℕ) → None ≡ Some n → ⊥
        none n e = absurd (cc)

    -- begin's value crosses no suspend
    not_begin : v ≡ begin_of x.function → ⊥
    not_begin e =
        let S = begin_stands (edged x) framed.begin (first x framed) in
        let at : instr_at (edged x) (record { block = S.position; at = S.at }) ≡ Some S.instr =
        ap (λ (o : Option Block). instr_in o S.at) S.got ∙ S.there in
        let is_begin : v ≡ framed.begin = e ∙ ap (λ (o : Option ℕ). unwrap_or o 0) framed.frameable.begins in
        apart_no_value x.code framed.position (edged x) framed.frameable.rules v
        (record { block = S.position; at = S.at }) S.instr at
        (begin_result S.instr S.calls ∙ S.makes ∙ ap Some (sym is_begin)) (begin_apart S.instr S.calls) crosses.is_value

    untaken : (block at : ℕ) → IsOutside (edged x) block → IsUntaken (edged_of l) (edged x) types v scalar block at
    untaken block at out = record {
      ids = λ result must_tail ty args e d.
          no_alloca (subst (λ (h : Function). IsListed v (allocas_of h)) same
          ((kinds_kept l low a anew r).promises func block at result must_tail ty args v is
          (ap (λ (h : Function). fetch h block at) same ∙ e) d));
      frees = λ result must_tail ty args e d.
          not_begin (free_pointer x framed (record { block = block; at = at }) result must_tail ty args v
          (instr_there (edged x) block at (Instr.Call result must_tail ty (Callee.Intrinsic Intrinsic.CoroFree) args) e)
          d);
      saves = λ result must_tail ty args e d. ⊎_elim
          (λ null. no_null (sym null ∙ d))
          (λ frame. not_begin (same_local v (begin_of x.function) (sym d ∙ frame)))
          (save_pointer x framed (record { block = block; at = at }) result must_tail ty args
          (instr_there (edged x) block at
          (Instr.Call result must_tail ty (Callee.Intrinsic Intrinsic.CoroSave) args) e));
      ends = λ i e calls. false≢true
          (sym (not_end framed.position (edged x) framed.frameable.coroutine framed.frameable.calls block at out)
          ∙ where_has (is_call_of Intrinsic.CoroEnd) (edged x) (record { block = block; at = at }) i
          (instr_there (edged x) block at i e) calls);
    }
      where
        no_null : Operand.Null ≡ Operand.Local v → ⊥
        no_null e = absurd (cc)

        same_local : (u w : ℕ) → Operand.Local u ≡ Operand.Local w → u ≡ w
        same_local u w e = cc

    suspend_block : (b : Block) × (slice_get (edged x).blocks (kept_place l.source func p).block ≡ Some b)
    suspend_block = on (slice_get (edged x).blocks (kept_place l.source func p).block) refl
        (sym (has_where (is_call_of Intrinsic.CoroSuspend) (edged x) (kept_place l.source func p))
        ∙ got_has (suspends_of (edged x)) j (kept_place l.source func p) number)
      where
        on : (o : Option Block) → slice_get (edged x).blocks (kept_place l.source func p).block ≡ o
            → passes (is_call_of Intrinsic.CoroSuspend) (instr_in o (kept_place l.source func p).at) ≡ true
            → (b : Block) × (slice_get (edged x).blocks (kept_place l.source func p).block ≡ Some b)
        on None e h = absurd (cc)
        on (Some b) e h = (b, e)

    needed : IsNeededBehind (function_at (edged_of l) func) (kept_place l.source func p) v
    needed = subst (λ (h : Function). IsNeededBehind h (kept_place l.source func p) v) (sym same)
        (needed_behind (edged_of l) (edged x) types v scalar labels framed.frameable.once untaken
        (kept_place l.source func p) suspend_block.0 suspend_block.1 crosses.needed)

    -- ---- in all

    module _ (offset size : ℕ)
        (field : HasField l.source (function_at l.source func) (layout_of l.layouts.coroutines func) v offset size)
      where
        field_kept : IsFieldKept l.source x func p v size own.0
        field_kept = record {
          needed = needed;
          crossing = λ n e. listed_contains x.contents.crossing (v, n) (pair p v c n e);
          kept = own.1;
          bytes = bytes v own.0 own.1 offset size field;
        }

        pub kept_field : HasKeptField a l ((building l low.is_framed r.answers).framing func) func p v size
        kept_field = record {
          value = own.0;
          kept = field_kept;
          values = λ apart. value (a.roots func v) refl apart;
          distances = λ among.
              let root = local_rooted v among in
              let slot : own.0.slot ≡ Some among.slot = sym (root_is v own.0 own.1) ∙ root in
              record {
                root = among.slot;
                rooted = root;
                slot = among.slot;
                has_slot = slot;
                number = number_field v own.0 own.1 among.slot slot;
              };
        }
          where
            value : (o : Option ℕ) → a.roots func v ≡ o → (IsInLocalSlot (function_at l.source func) v → ⊥)
                → IsValueKept (a.roots func) v own.0
            value None e apart = record { unrooted = e; no_slot = sym (root_is v own.0 own.1) ∙ e }
            value (Some s) e apart = absurd (apart (rooted_local v s e))

-- so fields of sources are kept
pub fields_kept : (l : Lowered) (low : IsLowered l) (a : Anew) → IsAnewOf (early l) a → (r : Run)
    → AreFieldsKept a l low r.answers
fields_kept l low a anew r func p j v offset size was number c field =
    kept_field l low a anew r func was p j v number c offset size field
