-- A coroutine whose frame is built by its contents: slots and fields lie behind begin.
use Rattle.std.proofs.Common.{◌≡◌, ◌⊎◌, inl, inr, ⊎_elim, ℕ, zero, suc, ◌+◌, ◌<◌, ◌≤◌, Bool, true, false, List, [], ◌∷◌, ◌++◌, length, refl, sym, ap, ◌∙◌, subst, arith, append_assoc}
use Rattle.std.specs.Prelude.{None, Option, Some, flat_map, is_some, map, not, replicate, slice_get, unwrap_or, ◌^◌}
use Rattle.pass_exits_proof.specs.addresses.rules.Addresses.{AddressesFit, lies_in_frame}
use Rattle.pass_copies.specs.BeginCopies.{with_begin_copies}
use Rattle.pass_copies.specs.Uses.{flag_at}
use Rattle.pass_exits_proof.proofs.rule_laws.frames.begin_order.Again.{again_behind}
use Rattle.pass_proofs.proofs.frames.begin_order.Alone.{begin_pointer, begins_alone, begins_named}
use Rattle.pass_proofs.proofs.frames.begin_order.Before.{slots_before}
use Rattle.pass_proofs.proofs.frames.begin_order.Celled.{cells_behind}
use Rattle.pass_proofs.proofs.frames.begin_order.Copied.{addresses_fit}
use Rattle.pass_exits_proof.proofs.addresses.begin_order.Early.{in_frame}
use Rattle.pass_proofs.proofs.frames.begin_order.Edged.{edges_behind}
use Rattle.pass_exits_proof.proofs.copies.begin_order.Marks.{none_flagged}
use Rattle.pass_exits_proof.proofs.addresses.begin_order.Passing.{Passes, woven_passes}
use Rattle.pass_proofs.proofs.frames.begin_order.Tables.{IsFieldAt, IsOfClass, IsSlotAt, IsSlotHeld, field_at, fields_length, frame_slot, in_blocks, in_params, offsets_length, slot_at, slot_flagged}
use Rattle.pass_exits_proof.specs.ir_laws.facts.begin_order.Behind.{AreSizes}
use Rattle.pass_proofs.specs.frames.begin_order.Behind.{IsFrameBehind, before_begin}
use Rattle.pass_proofs.specs.frames.begin_order.Fields.{FieldsFit, IsField, values_kept}
use Rattle.pass_proofs.specs.frames.begin_order.Frames.{IsFrameable, slot_offsets}
use Rattle.pass_exits_proof.proofs.cells.rules.Keepable.{IsKeepable, keeping_holds, once as names_once}
use Rattle.pass_exits_proof.proofs.cells.rules.Keeping.{IsKeeping}
use Rattle.pass_exits_proof.proofs.rule_laws.rules.counted.Slots.{alloca_sized, alloca_slot}
use Rattle.pass_exits_proof.proofs.cells.rules.Whole.{is_woven}
use Rattle.pass_exits_proof.specs.rule_laws.frames.counted.Asked.{IsAwayFromEntry}
use Rattle.pass_exits_proof.specs.cells.rules.Weaving.{cells_weaving}
use Rattle.pass_exits_proof.specs.copies.rules.Copies.{CopiesFit, copied_slots}
use Rattle.pass_exits_proof.specs.frame_contents.Held.{crossing_values, frame_slots, held_blocks, held_of, held_params}
use Rattle.pass_exits_proof.specs.frame_contents.declared.contents.Contents.{Contents}
use Rattle.pass_exits_proof.proofs.ir_laws.paths.source_rules.Locals.{listed_either}
use Rattle.pass_edges.specs.EdgeBlocks.{edge_block, split_blocks, with_edge_blocks}
use Rattle.pass_edges.specs.Edges.{block_edges, edge_table, edges_of, phi_flags}
use Rattle.pass_edges.specs.declared.edge.Edge.{Edge}
use Rattle.pass_exits_proof.specs.flow_solver.Paths.{IsListed}
use Rattle.pass_addresses.specs.Placing.{is_none}
use Rattle.pass_exits_proof.specs.frame_layout.declared.layout.Layout.{Layout}
use Rattle.pass_exits_proof.specs.ir_parts.Contents.{result_of}
use Rattle.pass_exits_proof.specs.rule_laws.rules.function_rules.Kept.{KeepsFunctionRules}
use Rattle.pass_exits_proof.specs.pass_intrinsics.Shapes.{suspends_of}
use Rattle.pass_exits_proof.specs.pass_intrinsics.declared.shape.SuspendPoint.{SuspendPoint}
use Rattle.ir_model.specs.Calls.{first_result, first_result_by, first_result_in, or_else}
use Rattle.ir_model.specs.declared.instr.Instr.{Instr}
use Rattle.ir_model.specs.declared.module.Block.{Block}
use Rattle.ir_model.specs.declared.module.Function.{Function}
use Rattle.ir_model.specs.declared.module.Module.{Module}
use Rattle.ir_model.specs.declared.operand.Intrinsic.{Intrinsic}
use Rattle.pass_exits_proof.specs.ir_paths.Slots.{allocas_in, allocas_of, has_name, promise_of}
use Rattle.pass_exits_proof.specs.frame_classes.Classes.{IsOf}
use Rattle.pass_exits_proof.specs.frame_classes.declared.class.SlotClass.{SlotClass}
use Rattle.pass_frames.specs.Framed.{AreBefore, begin_of, celled, copied, is_begin, offsets_of}
use Rattle.pass_frames.specs.Tables.{class_flags, is_of, offset_at, sizes_by_name}
use Rattle.pass_exits_proof.specs.pass_cells.Cells.{with_cells}
use Rattle.pass_exits_proof.specs.pass_cells.Kept.{entry}
use Rattle.pass_exits_proof.specs.pass_cells.declared.keeping.Keeping.{Keeping}
use Rattle.pass_exits_proof.specs.rule_values.Kinds.{value_kind}
use Rattle.pass_exits_proof.specs.rule_values.declared.kinds.Kind.{Kind}
use Rattle.pass_exits_proof.proofs.rule_laws.rules.woven_rules.All.{rules_woven}
use Rattle.pass_exits_proof.proofs.rule_laws.rules.woven_rules.Edges.{incoming_woven}
use Rattle.pass_exits_proof.proofs.rule_laws.rules.woven_rules.Laid.{valued_old}
use Rattle.pass_exits_proof.proofs.rule_laws.rules.woven_rules.Once.{names_below}
use Rattle.pass_exits_proof.specs.rule_laws.rules.woven_rules.Blocks.{IsWoven}
use Rattle.pass_exits_proof.specs.rule_laws.rules.woven_rules.Pairs.{AreIncomingOnce}
use Rattle.pass_exits_proof.specs.rule_laws.rules.woven_rules.Weaving.{Weaving}
use Rattle.pass_exits_proof.proofs.ir_laws.facts.Lists.{blank_length}
use Rattle.pass_exits_proof.proofs.ir_laws.paths.begin_order.Framed.{get_listed}

-- ---- allocas where edges have blocks

none_allocated : (es : List Edge) → flat_map (λ (b : Block). allocas_in b.instrs) (map edge_block es) ≡ []
none_allocated [] = refl
none_allocated (e ∷ es) = none_allocated es

flat_joined : (xs ys : List Block) → flat_map (λ (b : Block). allocas_in b.instrs) (xs ++ ys) ≡ flat_map (λ (b : Block). allocas_in b.instrs) xs ++ flat_map (λ (b : Block). allocas_in b.instrs) ys
flat_joined [] ys = refl
flat_joined (b ∷ xs) ys =
    ap (λ (l : List ℕ). allocas_in b.instrs ++ l) (flat_joined xs ys)
    ∙ sym (append_assoc (allocas_in b.instrs) (flat_map (λ (c : Block). allocas_in c.instrs) xs) (flat_map (λ (c : Block). allocas_in c.instrs) ys))

same_by : (flags : List Bool) (rows : List (List Edge)) (n : ℕ) (bs : List Block) → flat_map (λ (b : Block). allocas_in b.instrs) (split_blocks flags rows n bs) ≡ flat_map (λ (b : Block). allocas_in b.instrs) bs
same_by flags rows n [] = refl
same_by flags rows n (b ∷ bs) =
    let es : List Edge = block_edges flags n b in
    let rest : List Block = split_blocks flags rows (n + length es) bs in
    ap (λ (l : List ℕ). allocas_in b.instrs ++ l)
    (flat_joined (map edge_block es) rest ∙ ap (λ (l : List ℕ). l ++ flat_map (λ (c : Block). allocas_in c.instrs) rest) (none_allocated es) ∙ same_by flags rows (n + length es) bs)

same_allocas : (f : Function) → allocas_of (with_edge_blocks f) ≡ allocas_of f
same_allocas f = same_by (phi_flags f) (edge_table f (edges_of (phi_flags f) f)) (length f.names) f.blocks

none_split : (flags : List Bool) (rows : List (List Edge)) (n : ℕ) (bs : List Block) → split_blocks flags rows n bs ≡ [] → bs ≡ []
none_split flags rows n [] e = refl
none_split flags rows n (b ∷ bs) e = absurd (cc)

-- ---- begin where edges have blocks

none_called : (es : List Edge) (rest : List Block) → first_result_by Intrinsic.CoroBegin (map edge_block es ++ rest) ≡ first_result_by Intrinsic.CoroBegin rest
none_called [] rest = refl
none_called (e ∷ es) rest = none_called es rest

begin_by : (flags : List Bool) (rows : List (List Edge)) (n : ℕ) (bs : List Block) → first_result_by Intrinsic.CoroBegin (split_blocks flags rows n bs) ≡ first_result_by Intrinsic.CoroBegin bs
begin_by flags rows n [] = refl
begin_by flags rows n (b ∷ bs) =
    let es : List Edge = block_edges flags n b in
    ap (or_else (first_result_in Intrinsic.CoroBegin b.instrs)) (none_called es (split_blocks flags rows (n + length es) bs) ∙ begin_by flags rows (n + length es) bs)

same_begin : (f : Function) → first_result Intrinsic.CoroBegin (with_edge_blocks f) ≡ first_result Intrinsic.CoroBegin f
same_begin f = begin_by (phi_flags f) (edge_table f (edges_of (phi_flags f) f)) (length f.names) f.blocks

pub none_there : (n v d : ℕ) → slice_get (replicate n None) v ≡ Some (Some d) → ⊥
none_there zero v d e = absurd (cc)
none_there (suc n) zero d e = absurd (cc)
none_there (suc n) (suc v) d e = none_there n v d e

pub frame_alone : (o : Option SlotClass) → is_of SlotClass.Frame o ≡ true → o ≡ Some SlotClass.Frame
frame_alone None e = absurd (cc)
frame_alone (Some SlotClass.Ramp) e = absurd (cc)
frame_alone (Some SlotClass.Local) e = absurd (cc)
frame_alone (Some SlotClass.Frame) e = refl

ramp_alone : (o : Option SlotClass) → is_of SlotClass.Ramp o ≡ true → o ≡ Some SlotClass.Ramp
ramp_alone None e = absurd (cc)
ramp_alone (Some SlotClass.Ramp) e = refl
ramp_alone (Some SlotClass.Local) e = absurd (cc)
ramp_alone (Some SlotClass.Frame) e = absurd (cc)

alloca_listed : (is : List Instr) (v : ℕ) → IsListed v (allocas_in is) → (i : Instr) × (IsListed i is × ((result_of i ≡ Some v) × (is_begin i ≡ false)))
alloca_listed [] v l = absurd l
alloca_listed (Instr.Alloca r ty align ∷ is) v (inl e) = (Instr.Alloca r ty align, (inl refl, (ap (λ (n : ℕ). Some n) (sym e), refl)))
alloca_listed (Instr.Alloca r ty align ∷ is) v (inr l) = let x = alloca_listed is v l in (x.0, (inr x.1.0, x.1.1))
alloca_listed (_ ∷ is) v l = let x = alloca_listed is v l in (x.0, (inr x.1.0, x.1.1))

record IsAllocaAt (bs : List Block) (v : ℕ) : Type 0 where
  at : ℕ
  block : Block
  there : slice_get bs at ≡ Some block
  instr : Instr
  listed : IsListed instr block.instrs
  makes : result_of instr ≡ Some v
  no_begin : is_begin instr ≡ false

alloca_there : (bs : List Block) (v : ℕ) → IsListed v (flat_map (λ (b : Block). allocas_in b.instrs) bs) → IsAllocaAt bs v
alloca_there [] v l = absurd l
alloca_there (b ∷ bs) v l =
    ⊎_elim
    (λ a. let x = alloca_listed b.instrs v a in record { at = 0; block = b; there = refl; instr = x.0; listed = x.1.0; makes = x.1.1.0; no_begin = x.1.1.1 })
    (λ r. let x = alloca_there bs v r in record { at = suc x.at; block = x.block; there = x.there; instr = x.instr; listed = x.listed; makes = x.makes; no_begin = x.no_begin })
    (listed_either v (allocas_in b.instrs) (flat_map (λ (c : Block). allocas_in c.instrs) bs) l)

-- ---- the coroutine

module _ (m : Module) (k : ℕ) (l : Layout) (f : Function) (c : Contents) (begin names : ℕ) (x : IsFrameable m k l f c begin names) where
  abbrev F : Function
  F = with_edge_blocks f

  abbrev First : ℕ
  First = length F.names

  abbrev old : List (Option ℕ)
  old = slot_offsets l c names

  abbrev offsets : List (Option ℕ)
  offsets = offsets_of l f c names

  abbrev local : List Bool
  local = class_flags f c.classes SlotClass.Local

  abbrev slots : List Bool
  slots = class_flags f c.classes SlotClass.Frame

  abbrev marked : List Bool
  marked = class_flags f c.classes SlotClass.Ramp

  abbrev G : Function
  G = with_cells m F c.crossing local

  abbrev W : Weaving
  W = cells_weaving m F c.crossing local

  first : first_result Intrinsic.CoroBegin F ≡ Some begin
  first = same_begin f ∙ x.begins

  -- ---- slots

  slot_held : (v d : ℕ) → IsSlotAt l c.held v d → IsOfClass SlotClass.Frame c.classes 0 (allocas_of f) v
  slot_held v d y =
      let is_value : ℕ → Bool = has_name (crossing_values c.crossing) in
      let is_slot : ℕ → Bool = has_name (frame_slots f c.classes) in
      let listed : IsListed y.held (held_of m f c.classes c.crossing) = subst (IsListed y.held) x.contents.held_are y.listed in
      let held : IsSlotHeld is_slot (allocas_of f) y.held =
      ⊎_elim (λ a. in_params is_value f.params is_slot (allocas_of f) y.held a) (λ b. in_blocks m (promise_of f) is_value is_slot f.blocks y.held b)
      (listed_either y.held (held_params is_value f.params) (held_blocks m (promise_of f) is_value is_slot f.blocks) listed) in
      subst (IsOfClass SlotClass.Frame c.classes 0 (allocas_of f)) y.value (frame_slot c.classes 0 (allocas_of f) y.held.value (held y.slot).1)

  old_at : (v d : ℕ) → slice_get old v ≡ Some (Some d) → IsSlotAt l c.held v d
  old_at v d e = ⊎_elim (λ h. absurd (none_there names v d h)) (λ y. y) (slot_at l 0 c.held (replicate names None) v d e)

  pub old_slot : (v : ℕ) → lies_in_frame old v ≡ true → IsOfClass SlotClass.Frame c.classes 0 (allocas_of f) v
  old_slot v e = let y = in_frame old v e in slot_held v y.0 (old_at v y.0 y.1)

  pub slot_alloca : (v : ℕ) (class : SlotClass) → IsOfClass class c.classes 0 (allocas_of f) v → IsListed v (allocas_of F)
  slot_alloca v class y = subst (IsListed v) (sym (same_allocas f)) (get_listed (allocas_of f) y.number v y.slot)

  class_of : (v : ℕ) (class : SlotClass) → ((o : Option SlotClass) → is_of class o ≡ true → o ≡ Some class) → (y : IsOfClass class c.classes 0 (allocas_of f) v) → IsOf f v class
  class_of v class alone y =
      let n : ℕ = y.number in
      let same : 0 + n ≡ n = omega arith in
      x.contents.classes_are.each y.number v class y.slot (alone (slice_get c.classes y.number) (ap (λ (j : ℕ). is_of class (slice_get c.classes j)) (sym same) ∙ y.class_is))

  marked_slot : (v : ℕ) → flag_at marked v ≡ true → IsOfClass SlotClass.Ramp c.classes 0 (allocas_of f) v
  marked_slot v e =
      ⊎_elim (λ h. let t : true ≡ false = sym h ∙ none_flagged (length f.names) v in absurd (cc)) (λ y. y)
      (slot_flagged SlotClass.Ramp c.classes 0 (allocas_of f) (replicate (length f.names) false) v e)

  unmarked_old : (v : ℕ) → flag_at marked v ≡ true → lies_in_frame old v ≡ true → ⊥
  unmarked_old v e o = (class_of v SlotClass.Frame frame_alone (old_slot v o)).0 (class_of v SlotClass.Ramp ramp_alone (marked_slot v e))

  pub alloca_pointer : (v : ℕ) → IsListed v (allocas_of F) → value_kind F v ≡ Some Kind.Ptr
  alloca_pointer v h = (alloca_slot m k F v (names_once m k F x.rules c.crossing local x.cells v) x.rules.local.allocas h).kind

  pub woven : IsWoven W m F G
  woven = is_woven m k F x.rules c.crossing local x.cells

  pub pointer_low : (v : ℕ) → value_kind F v ≡ Some Kind.Ptr → v < First
  pointer_low v e = valued_old W m F G woven (names_below k F x.rules.tabled) v (ap (λ (o : Option Kind). is_some o) e)

  -- ---- fields

  abbrev keeping : Keeping
  keeping = values_kept F c.crossing

  abbrev Count : ℕ
  Count = length keeping.values

  offset_at_of : (v d : ℕ) → slice_get offsets v ≡ Some (Some d) → (slice_get old v ≡ Some (Some d)) ⊎ IsFieldAt l First Count 0 keeping.values v d
  offset_at_of v d e = field_at l c.positions First Count 0 keeping.values old v d e

  field_of : (v d : ℕ) → IsFieldAt l First Count 0 keeping.values v d → IsField First Count v
  field_of v d y =
      let n : ℕ = y.number in
      let lt : n < Count = y.low in
      let is : v ≡ First + Count + (0 + n) = y.name in
      record { low = omega (arith, is); high = omega (arith, is, lt) }

  lies : (v d : ℕ) → slice_get old v ≡ Some (Some d) → lies_in_frame old v ≡ true
  lies v d e = ap (λ (o : Option (Option ℕ)). not (is_none (unwrap_or o None))) e

  pub in_either : (v : ℕ) → lies_in_frame offsets v ≡ true → (lies_in_frame old v ≡ true) ⊎ IsField First Count v
  in_either v e = let y = in_frame offsets v e in ⊎_elim (λ a. inl (lies v y.0 a)) (λ b. inr (field_of v y.0 b)) (offset_at_of v y.0 y.1)

  near_by : (d place : ℕ) → d ≡ offset_at l place → d < 2 ^ 64
  near_by d place e = subst (λ (n : ℕ). n < 2 ^ 64) (sym e) (x.near place)

  refuted : (b : Bool) → (b ≡ true → ⊥) → b ≡ false
  refuted true h = absurd (h refl)
  refuted false h = refl

  unmarked_all : (v : ℕ) → flag_at marked v ≡ true → lies_in_frame offsets v ≡ true → ⊥
  unmarked_all v e o =
      let low : v < First = pointer_low v (alloca_pointer v (slot_alloca v SlotClass.Ramp (marked_slot v e))) in
      ⊎_elim (λ a. unmarked_old v e a) (λ (y : IsField First Count v). let up : First + Count ≤ v = y.low in absurd (omega (arith, low, up))) (in_either v o)

  kept_out : (v at : ℕ) → entry keeping.places v ≡ Some at → lies_in_frame old v ≡ true → ⊥
  kept_out v at e o =
      let is_keeping : IsKeeping First (IsKeepable m F) keeping = keeping_holds m k F x.rules c.crossing local x.cells in
      alloca_sized m F v (names_once m k F x.rules c.crossing local x.cells v) (slot_alloca v SlotClass.Frame (old_slot v o)) (is_keeping.holds v at (is_keeping.there v at e)).no_slot

  starts : F.blocks ≡ [] → ⊥
  starts e =
      let none : f.blocks ≡ [] = none_split (phi_flags f) (edge_table f (edges_of (phi_flags f) f)) (length f.names) f.blocks e in
      let t : None ≡ Some begin = sym (ap (first_result_by Intrinsic.CoroBegin) none) ∙ x.begins in
      absurd (cc)

  fields : FieldsFit F c.crossing old offsets marked
  fields =
      record {
        starts = starts;
        frame = in_either;
        near = λ v d e. ⊎_elim (λ a. let y = old_at v d a in near_by d y.place y.offset) (λ y. near_by d y.place y.offset) (offset_at_of v d e);
        unmarked = λ v e. refuted (lies_in_frame offsets v) (unmarked_all v e);
        kept = λ v at e. refuted (lies_in_frame old v) (kept_out v at e);
      }

  begin_outside : lies_in_frame old begin ≡ true → ⊥
  begin_outside o =
      let y = alloca_there F.blocks begin (slot_alloca begin SlotClass.Frame (old_slot begin o)) in
      let t : true ≡ false = sym (begins_alone m k F begin x.rules x.coroutine x.calls first y.at y.block y.instr y.there y.listed y.makes) ∙ y.no_begin in
      absurd (cc)

  -- with blocks on edges
  edged : IsFrameBehind F begin slots old marked
  edged =
      record {
        named = begins_named m k F begin x.rules x.coroutine x.calls first;
        alone = begins_alone m k F begin x.rules x.coroutine x.calls first;
        pointer = begin_pointer m k F begin x.rules x.coroutine x.calls first;
        outside = refuted (lies_in_frame old begin) begin_outside;
        pointers = λ v d e. alloca_pointer v (slot_alloca v SlotClass.Frame (slot_held v d (old_at v d e)));
        near = λ v d e. let y = old_at v d e in near_by d y.place y.offset;
        unmarked = λ v e. refuted (lies_in_frame old v) (unmarked_old v e);
        blocks = edges_behind f x.labels x.apart begin slots old x.uses;
        again = again_behind m k F begin x.rules x.begun x.edges x.cells.returns;
      }

  -- with cells
  pub celled_behind : IsFrameBehind (celled m f c) begin slots offsets marked
  unfolding celled
  celled_behind = cells_behind m k F c.crossing local begin slots old offsets marked x.rules x.once x.cells x.suspends x.begun fields edged

  pub celled_keeps : KeepsFunctionRules m k (celled m f c)
  unfolding celled
  celled_keeps = rules_woven W m k F G woven x.rules x.once

  pub celled_once : AreIncomingOnce (celled m f c)
  unfolding celled
  celled_once = incoming_woven W m F G woven x.once

  moved : (s : SuspendPoint) → IsListed s (suspends_of F) → IsAwayFromEntry G s
  moved s h =
      let passes : Passes F G begin = woven_passes W m k F G begin woven x.rules x.once refl in
      let away = x.cells.returns s h in
      record { resume = λ e. away.resume (sym (passes.position s.resume) ∙ e); destroy = λ e. away.destroy (sym (passes.position s.destroy) ∙ e) }

  pub celled_away : (s : SuspendPoint) → IsListed s (suspends_of (celled m f c)) → IsAwayFromEntry (celled m f c) s
  unfolding celled
  celled_away s h = moved s (subst (IsListed s) x.suspends h)

  pub offsets_long : length offsets ≡ names
  offsets_long = fields_length l c.positions First Count 0 keeping.values old ∙ offsets_length l 0 c.held (replicate names None) ∙ blank_length names

-- ---- both premises

pub framed_copies : (m : Module) (k : ℕ) (l : Layout) (f : Function) (c : Contents) (before : List ℕ) (begin names : ℕ) → IsFrameable m k l f c begin names → AreBefore (celled m f c) before → AreSizes (sizes_by_name f c.held) → CopiesFit (celled m f c) (copied_slots (celled m f c) (class_flags f c.classes SlotClass.Frame) (before_begin (celled m f c) before) (sizes_by_name f c.held))
framed_copies m k l f c before begin names x are sizes =
    slots_before m k (celled m f c) (class_flags f c.classes SlotClass.Frame) before (sizes_by_name f c.held) (celled_keeps m k l f c begin names x) are sizes (celled_away m k l f c begin names x)

pub framed_addresses : (m : Module) (k : ℕ) (l : Layout) (f : Function) (c : Contents) (before : List ℕ) (begin : ℕ) → IsFrameable m k l f c begin (length (copied f c (celled m f c) before).names) → AreBefore (celled m f c) before → AreSizes (sizes_by_name f c.held) → AddressesFit k (copied f c (celled m f c) before) (begin_of f) (offsets_of l f c (length (copied f c (celled m f c) before).names)) (class_flags f c.classes SlotClass.Ramp)
unfolding copied
framed_addresses m k l f c before begin x are sizes =
    let g : Function = celled m f c in
    let slots : List Bool = class_flags f c.classes SlotClass.Frame in
    let marked : List Bool = class_flags f c.classes SlotClass.Ramp in
    let names : ℕ = length (with_begin_copies g slots (before_begin g before) (sizes_by_name f c.held)).names in
    let long : length (offsets_of l f c names) ≡ names = offsets_long m k l f c begin names x in
    let is : begin_of f ≡ begin = ap (λ (o : Option ℕ). unwrap_or o 0) x.begins in
    subst (λ (b : ℕ). AddressesFit k (with_begin_copies g slots (before_begin g before) (sizes_by_name f c.held)) b (offsets_of l f c names) marked) (sym is)
    (addresses_fit m k g begin slots before (sizes_by_name f c.held) (offsets_of l f c names) marked (celled_keeps m k l f c begin names x) (celled_once m k l f c begin names x) are
    (framed_copies m k l f c before begin names x are sizes) (celled_behind m k l f c begin names x) (omega (arith, long)))
