-- Which names later passes fetch: those of allocas, and of fields. Cells, new names, numbers and what is kept are
-- none of them.
use Rattle.std.proofs.Common.{◌≡◌, ◌⊎◌, inl, inr, ⊎_elim, ℕ, ◌+◌, ◌*◌, ◌<◌, ◌≤◌, Bool, true, false, List, [], ◌∷◌, ◌++◌, length, refl, sym, ap, ◌∙◌, subst, arith}
use Rattle.std.specs.Prelude.{None, Option, Some, is_some, replicate, slice_get, slice_set, if◌then◌else◌}
use Rattle.pass_proofs.specs.flow_solver.Paths.{IsListed}
use Rattle.pass_proofs.specs.frame_classes.declared.class.SlotClass.{SlotClass}
use Rattle.pass_proofs.proofs.ir_laws.facts.Lists.{get_within}
use Rattle.pass_proofs.specs.ir_model.declared.instr.Instr.{Instr}
use Rattle.pass_proofs.specs.ir_model.declared.module.Block.{Block}
use Rattle.pass_proofs.specs.ir_model.declared.module.Function.{Function}
use Rattle.pass_proofs.specs.ir_model.declared.operand.Arg.{Arg}
use Rattle.pass_proofs.specs.ir_model.declared.operand.Callee.{Callee}
use Rattle.pass_proofs.specs.ir_model.declared.operand.Intrinsic.{Intrinsic}
use Rattle.pass_proofs.specs.ir_model.declared.operand.Operand.{Operand}
use Rattle.pass_proofs.specs.ir_paths.Slots.{allocas_of}
use Rattle.pass_proofs.specs.pass_addresses.Placing.{slot_fetches}
use Rattle.pass_proofs.specs.pass_cells.Cells.{with_cells}
use Rattle.pass_proofs.specs.pass_cells.Kept.{entry, joined}
use Rattle.pass_proofs.specs.pass_cells.Links.{bases_of, links_from, marks_of, slots_of}
use Rattle.pass_proofs.specs.pass_cells.declared.keeping.Keeping.{Keeping}
use Rattle.pass_proofs.specs.pass_cells.declared.plan.KeptValue.{KeptValue}
use Rattle.pass_proofs.specs.pass_copies.Slots.{early_slot, early_slots, entry_instrs, fetches_of, slots_from}
use Rattle.pass_proofs.specs.pass_copies.Uses.{flag_at, mark, mark_addresses, mark_args, mark_blocks, mark_instr, mark_instrs, mark_operand, still_before, used_before}
use Rattle.pass_proofs.specs.pass_copies.declared.slot.EarlySlot.{EarlySlot}
use Rattle.pass_proofs.specs.pass_fetch.Fetching.{fetch_of}
use Rattle.pass_proofs.specs.pass_fetch.declared.fetch.Fetch.{Fetch}
use Rattle.pass_proofs.specs.pass_frames.Framed.{begin_of}
use Rattle.pass_proofs.specs.pass_frames.Tables.{class_flags, sizes_by_name}
use Rattle.pass_proofs.proofs.addresses.rules.Placed.{outside_unfetched}
use Rattle.pass_proofs.proofs.cells.rules.Fronts.{HasCells, IsNumbered}
use Rattle.pass_proofs.proofs.cells.rules.Keepable.{IsKeepable, blocks_tell, keeping_holds, once as names_once, params_tell}
use Rattle.pass_proofs.proofs.cells.rules.Keeping.{IsKeeping, place_within}
use Rattle.pass_proofs.proofs.cells.rules.Links.{distance_there}
use Rattle.pass_proofs.proofs.cells.rules.Plans.{kept_cells_are, kept_length, kept_numbered}
use Rattle.pass_proofs.proofs.copies.begin_order.Marks.{flag_back, none_flagged}
use Rattle.pass_proofs.proofs.copies.rules.Slots.{cell_found}
use Rattle.pass_proofs.proofs.frames.begin_order.Fields.{distance_far}
use Rattle.pass_proofs.proofs.frames.begin_order.Framed.{alloca_pointer, in_either, old_slot, slot_alloca, woven}
use Rattle.pass_proofs.proofs.frames.begin_order.Tables.{slot_flagged}
use Rattle.pass_proofs.specs.addresses.rules.Addresses.{lies_in_frame}
use Rattle.pass_frames_code.specs.Framings.{IsFraming}
use Rattle.pass_frames_code.specs.Places.{Framing, before_labels, copies, edged, offsets, plan, with_copies, written}
use Rattle.pass_proofs.specs.cells.rules.Weaving.{cells_weaving}
use Rattle.pass_proofs.specs.frames.begin_order.Fields.{IsField, values_kept}
use Rattle.pass_proofs.proofs.rule_laws.rules.counted.Slots.{alloca_sized}
use Rattle.pass_proofs.proofs.rule_laws.rules.woven_rules.Laid.{valued_old}
use Rattle.pass_proofs.proofs.rule_laws.rules.woven_rules.Once.{names_below}
use Rattle.pass_proofs.specs.rule_values.Kinds.{value_kind}
use Rattle.pass_proofs.specs.rule_values.declared.kinds.Kind.{Kind}

-- ---- a slot that is used before begin is flagged

module _ (slots : List Bool) where
  abbrev IsEither : List Bool → ℕ → Type 0
  IsEither used v = (flag_at used v ≡ true) ⊎ (flag_at slots v ≡ true)

  name_marks : (used : List Bool) (n v : ℕ) → flag_at (mark slots used n) v ≡ true → IsEither used v
  name_marks used n v e = on (flag_at slots n) refl e
    where
      on : (b : Bool) → flag_at slots n ≡ b → flag_at (if b then slice_set used n true else used) v ≡ true
          → IsEither used v
      on true d h = ⊎_elim (λ old. inl old) (λ (same : n ≡ v). inr (ap (flag_at slots) (sym same) ∙ d))
          (flag_back used n v h)
      on false d h = inl h

  operand_marks : (used : List Bool) (x : Operand) (v : ℕ) → flag_at (mark_operand slots used x) v ≡ true
      → IsEither used v
  operand_marks used (Operand.Local n) v e = name_marks used n v e
  operand_marks used _ v e = inl e

  args_mark : (used : List Bool) (args : List Arg) (v : ℕ) → flag_at (mark_args slots used args) v ≡ true
      → IsEither used v
  args_mark used [] v e = inl e
  args_mark used (a ∷ args) v e =
      ⊎_elim (λ h. operand_marks used a.value v h) (λ h. inr h)
      (args_mark (mark_operand slots used a.value) args v e)

  addresses_mark : (used : List Bool) (i : Instr) (v : ℕ) → flag_at (mark_addresses slots used i) v ≡ true
      → IsEither used v
  addresses_mark used (Instr.Load r ty p align) v e = operand_marks used p v e
  addresses_mark used (Instr.Store a p align) v e = operand_marks used p v e
  addresses_mark used (Instr.Call r must_tail ty (Callee.Intrinsic Intrinsic.MemcpyI64) args) v e =
      args_mark used args v e
  addresses_mark used (Instr.Call r must_tail ty (Callee.Intrinsic Intrinsic.MemcpyI32) args) v e =
      args_mark used args v e
  addresses_mark used _ v e = inl e

  instr_marks : (b : Bool) (used : List Bool) (i : Instr) (v : ℕ) → flag_at (mark_instr slots b used i) v ≡ true
      → IsEither used v
  instr_marks true used i v e = addresses_mark used i v e
  instr_marks false used i v e = inl e

  instrs_mark : (b : Bool) (used : List Bool) (is : List Instr) (v : ℕ)
      → flag_at (mark_instrs slots b used is) v ≡ true → IsEither used v
  instrs_mark b used [] v e = inl e
  instrs_mark b used (i ∷ is) v e =
      ⊎_elim (λ h. instr_marks b used i v h) (λ h. inr h)
      (instrs_mark (still_before b i) (mark_instr slots b used i) is v e)

  pub blocks_mark : (before used : List Bool) (bs : List Block) (v : ℕ)
      → flag_at (mark_blocks slots before used bs) v ≡ true → IsEither used v
  blocks_mark before used [] v e = inl e
  blocks_mark before used (b ∷ bs) v e =
      ⊎_elim (λ h. instrs_mark (flag_at before b.label) used b.instrs v h) (λ h. inr h)
      (blocks_mark before (mark_instrs slots (flag_at before b.label) used b.instrs) bs v e)

pub slot_used : (used : List Bool) (sizes : List ℕ) (n : ℕ) (is : List Instr) (s : EarlySlot)
    → IsListed s (slots_from used sizes n is) → flag_at used s.slot ≡ true
slot_used used sizes n [] s l = absurd l
slot_used used sizes n (Instr.Alloca r ty align ∷ is) s l =
    on (flag_at used r) refl (slot_used used sizes n is s) (slot_used used sizes (n + 2) is s) l
  where
    on : (b : Bool) → flag_at used r ≡ b
        → (IsListed s (slots_from used sizes n is) → flag_at used s.slot ≡ true)
        → (IsListed s (slots_from used sizes (n + 2) is) → flag_at used s.slot ≡ true)
        → IsListed s ((if b then early_slot sizes n r ty align ∷ [] else [])
        ++ slots_from used sizes (if b then n + 2 else n) is)
        → flag_at used s.slot ≡ true
    on true d same next (inl e) = ap (λ (y : EarlySlot). flag_at used y.slot) e ∙ d
    on true d same next (inr k) = next k
    on false d same next k = same k
slot_used used sizes n (_ ∷ is) s l = slot_used used sizes n is s l

-- no name is flagged where nothing is
pub never : (n v : ℕ) → flag_at (replicate n false) v ≡ true → ⊥
never n v h = let t : true ≡ false = sym h ∙ none_flagged n v in absurd (cc)

-- what is fetched from a cell before begin is flagged
early_flagged : (f : Function) (slots before : List Bool) (sizes : List ℕ) (v : ℕ) (y : Fetch)
    → fetch_of (fetches_of f (early_slots f (used_before f slots before) sizes)) (Operand.Local v) ≡ Some y
    → flag_at slots v ≡ true
early_flagged f slots before sizes v y e =
    let used : List Bool = used_before f slots before in
    let c = cell_found f (early_slots f used sizes) v y e in
    let flagged : flag_at used c.slot.slot ≡ true =
    slot_used used sizes (length f.names) (entry_instrs f.blocks) c.slot c.listed in
    subst (λ (u : ℕ). flag_at slots u ≡ true) c.value
    (⊎_elim (λ h. absurd (never (length f.names) c.slot.slot h)) (λ h. h)
    (blocks_mark slots before (replicate (length f.names) false) f.blocks c.slot.slot flagged))

-- ---- names

refuted : (b : Bool) → (b ≡ true → ⊥) → b ≡ false
refuted true h = absurd (h refl)
refuted false h = refl

unfetched : (t : List (Option Fetch)) (v : ℕ) → ((y : Fetch) → fetch_of t (Operand.Local v) ≡ Some y → ⊥)
    → fetch_of t (Operand.Local v) ≡ None
unfetched t v h = on (fetch_of t (Operand.Local v)) refl
  where
    on : (o : Option Fetch) → fetch_of t (Operand.Local v) ≡ o → fetch_of t (Operand.Local v) ≡ None
    on None e = e
    on (Some y) e = absurd (h y e)

module _ (x : Framing) (is : IsFraming x) where
  abbrev pub F : Function
  F = edged x

  abbrev pub First : ℕ
  First = length F.names

  abbrev pub Kept : Keeping
  Kept = values_kept F x.contents.crossing

  abbrev pub Count : ℕ
  Count = length Kept.values

  abbrev pub local : List Bool
  local = class_flags x.function x.contents.classes SlotClass.Local

  abbrev slots : List Bool
  slots = class_flags x.function x.contents.classes SlotClass.Frame

  abbrev names : ℕ
  names = length (with_copies x).names

  -- ---- what is fetched

  frame_name : (v : ℕ) → lies_in_frame (offsets x) v ≡ true → IsListed v (allocas_of F) ⊎ IsField First Count v
  frame_name v e =
      ⊎_elim
      (λ o. inl (slot_alloca x.code is.position x.layout x.function x.contents is.begin names is.frameable v
      SlotClass.Frame
      (old_slot x.code is.position x.layout x.function x.contents is.begin names is.frameable v o)))
      (λ y. inr y)
      (in_either x.code is.position x.layout x.function x.contents is.begin names is.frameable v e)

  flagged_name : (v : ℕ) → flag_at slots v ≡ true → IsListed v (allocas_of F)
  flagged_name v e =
      ⊎_elim (λ h. absurd (never (length x.function.names) v h))
      (λ y. slot_alloca x.code is.position x.layout x.function x.contents is.begin names is.frameable v
      SlotClass.Frame y)
      (slot_flagged SlotClass.Frame x.contents.classes 0 (allocas_of x.function)
      (replicate (length x.function.names) false) v e)

  pub early_name : (v : ℕ) (y : Fetch) → fetch_of (copies x).fetches (Operand.Local v) ≡ Some y
      → IsListed v (allocas_of F)
  early_name v y e =
      flagged_name v
      (early_flagged (written x) slots (before_labels x) (sizes_by_name x.function x.contents.held) v y e)

  -- ---- what isn't

  -- a name that neither slots of the frame nor slots used before begin have
  abbrev pub IsLeft : ℕ → Type 0
  IsLeft v =
      (fetch_of (slot_fetches (begin_of x.function) (offsets x)) (Operand.Local v) ≡ None)
      × (fetch_of (copies x).fetches (Operand.Local v) ≡ None)

  left : (v : ℕ) → (IsListed v (allocas_of F) → ⊥) → (IsField First Count v → ⊥) → IsLeft v
  left v no_alloca no_field = (
    outside_unfetched (begin_of x.function) (offsets x) v
        (refuted (lies_in_frame (offsets x) v) (λ e. ⊎_elim no_alloca no_field (frame_name v e))),
    unfetched (copies x).fetches v (λ y e. no_alloca (early_name v y e)),
  )

  valued_low : (v : ℕ) → is_some (value_kind F v) ≡ true → v < First
  valued_low v e =
      valued_old (cells_weaving x.code F x.contents.crossing local) x.code F
      (with_cells x.code F x.contents.crossing local)
      (woven x.code is.position x.layout x.function x.contents is.begin names is.frameable)
      (names_below is.position F is.frameable.rules.tabled) v e

  pointer : (v : ℕ) → IsListed v (allocas_of F) → value_kind F v ≡ Some Kind.Ptr
  pointer v l = alloca_pointer x.code is.position x.layout x.function x.contents is.begin names is.frameable v l

  alloca_low : (v : ℕ) → IsListed v (allocas_of F) → v < First
  alloca_low v l = valued_low v (ap (λ (o : Option Kind). is_some o) (pointer v l))

  -- a slot that is used before begin is one of the function's names
  pub used_low : (v : ℕ) → flag_at (used_before (written x) slots (before_labels x)) v ≡ true → v < First
  used_low v e =
      alloca_low v
      (flagged_name v
      (⊎_elim (λ h. absurd (never (length (written x).names) v h)) (λ h. h)
      (blocks_mark slots (before_labels x) (replicate (length (written x).names) false) (written x).blocks v e)))

  -- behind names, cells and fields
  pub far_left : (v : ℕ) → First + 2 * Count ≤ v → IsLeft v
  far_left v far =
      left v (λ l. let low : v < First = alloca_low v l in absurd (omega (arith, low, far)))
      (λ (y : IsField First Count v). let high : v < First + 2 * Count = y.high in absurd (omega (arith, high, far)))

  pub new_unfetched : (v : ℕ) → First ≤ v → fetch_of (copies x).fetches (Operand.Local v) ≡ None
  new_unfetched v far =
      unfetched (copies x).fetches v
      (λ y e. let low : v < First = alloca_low v (early_name v y e) in absurd (omega (arith, low, far)))

  -- ---- what is kept

  pub keeping : IsKeeping First (IsKeepable x.code F) Kept
  keeping = keeping_holds x.code is.position F is.frameable.rules x.contents.crossing local is.frameable.cells

  pub numbered : (at : ℕ) (k : KeptValue) → slice_get (plan x).kept at ≡ Some k → IsNumbered First Count at k
  numbered =
      kept_numbered (cells_weaving x.code F x.contents.crossing local) x.code F x.contents.crossing local keeping
      (params_tell x.code is.position F is.frameable.rules x.contents.crossing local is.frameable.cells)
      (blocks_tell x.code is.position F is.frameable.rules x.contents.crossing local is.frameable.cells)

  pub has_cells : (at : ℕ) (k : KeptValue) → slice_get (plan x).kept at ≡ Some k → HasCells First k
  has_cells =
      kept_cells_are (cells_weaving x.code F x.contents.crossing local) x.code F x.contents.crossing local keeping
      (params_tell x.code is.position F is.frameable.rules x.contents.crossing local is.frameable.cells)
      (blocks_tell x.code is.position F is.frameable.rules x.contents.crossing local is.frameable.cells)

  pub count_is : length (plan x).kept ≡ Count
  count_is = kept_length First Count _ _ _ 0 Kept.values

  pub cell_left : (at : ℕ) (k : KeptValue) → slice_get (plan x).kept at ≡ Some k → IsLeft k.cell
  cell_left at k e =
      let n : IsNumbered First Count at k = numbered at k e in
      let lt : at < length (plan x).kept = get_within (plan x).kept at k e in
      let long : length (plan x).kept ≡ Count = count_is in
      let same : k.cell ≡ First + at = n.cell in
      left k.cell (λ l. let low : k.cell < First = alloca_low k.cell l in absurd (omega (arith, low, same)))
      (λ (y : IsField First Count k.cell).
      let up : First + Count ≤ k.cell = y.low in absurd (omega (arith, up, same, lt, long)))

  pub kept_left : (v at : ℕ) → entry (plan x).places v ≡ Some at → IsLeft v
  kept_left v at e =
      let lt : v < First = place_within First (IsKeepable x.code F) Kept v at keeping e in
      left v
      (λ l. alloca_sized x.code F v
      (names_once x.code is.position F is.frameable.rules x.contents.crossing local is.frameable.cells v) l
      (keeping.holds v at (keeping.there v at e)).no_slot)
      (λ (y : IsField First Count v). let up : First + Count ≤ v = y.low in absurd (omega (arith, up, lt)))

  pub distance_left : (v c : ℕ) → entry (plan x).cells v ≡ Some c → IsLeft c
  distance_left v c e =
      let marks : List Bool = marks_of (bases_of F) (slots_of local (bases_of F)) Kept.values in
      far_left c
      (distance_far First Count (links_from Kept.places 0 0 marks) (entry Kept.places v) c
      (distance_there First Count Kept.places marks v c e).cell)

  -- no place is told of a name that the function doesn't have
  pub new_unkept : (v : ℕ) → First ≤ v → entry (plan x).places v ≡ None
  new_unkept v far = on (slice_get (plan x).places v) refl
    where
      on : (o : Option (Option ℕ)) → slice_get (plan x).places v ≡ o → entry (plan x).places v ≡ None
      on None d = ap joined d
      on (Some o) d =
          let lt : v < length (plan x).places = get_within (plan x).places v o d in
          let long : length (plan x).places ≡ First = keeping.long in
          absurd (omega (arith, lt, long, far))

  -- ---- numbers

  pub number_left : (v w : ℕ) → value_kind F v ≡ Some (Kind.Int w) → IsLeft v
  number_left v w e =
      let low : v < First = valued_low v (ap (λ (o : Option Kind). is_some o) e) in
      left v (λ l. let t : Some Kind.Ptr ≡ Some (Kind.Int w) = sym (pointer v l) ∙ e in absurd (cc))
      (λ (y : IsField First Count v). let up : First + Count ≤ v = y.low in absurd (omega (arith, up, low)))
