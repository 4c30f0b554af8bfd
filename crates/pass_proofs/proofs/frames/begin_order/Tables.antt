-- What the tables of a coroutine's frame tell: flags by class, and offsets of slots and fields.
use Rattle.std.proofs.Common.{◌≡◌, ◌⊎◌, inl, inr, ⊎_elim, ℕ, zero, suc, ◌+◌, ◌<◌, Bool, true, false, List, [], ◌∷◌, ◌++◌, length, refl, sym, ap, ◌∙◌, subst, arith}
use Rattle.std.specs.Prelude.{None, Option, Some, flat_map, get_or, slice_get, slice_set, if◌then◌else◌, ◌==◌}
use Rattle.pass_copies.specs.Uses.{flag_at}
use Rattle.pass_exits_proof.proofs.copies.begin_order.Marks.{flag_back, flag_set, flag_stays}
use Rattle.pass_exits_proof.specs.frame_contents.Held.{frame_slots_from, held_blocks, held_instrs, held_params, held_phis, if_result, if_value, is_frame, result_size, slot_held, value_held}
use Rattle.pass_exits_proof.specs.frame_contents.declared.held.Holding.{Holding}
use Rattle.pass_exits_proof.proofs.ir_laws.facts.Truth.{equal_numbers}
use Rattle.pass_exits_proof.proofs.ir_laws.facts.Lists.{set_length}
use Rattle.pass_exits_proof.proofs.ir_laws.paths.source_rules.Locals.{listed_either, listed_left, listed_right}
use Rattle.pass_exits_proof.proofs.flow_solver.Lists.{set_cases}
use Rattle.pass_exits_proof.specs.flow_solver.Paths.{IsListed}
use Rattle.pass_exits_proof.specs.frame_layout.declared.layout.Layout.{Layout}
use Rattle.pass_exits_proof.specs.ir_parts.Contents.{result_of}
use Rattle.ir_model.specs.declared.instr.Instr.{Instr}
use Rattle.ir_model.specs.declared.instr.Phi.{Phi}
use Rattle.ir_model.specs.declared.module.Block.{Block}
use Rattle.ir_model.specs.declared.module.Module.{Module}
use Rattle.ir_model.specs.declared.module.Param.{Param}
use Rattle.pass_exits_proof.specs.ir_paths.Slots.{allocas_in, has_name}
use Rattle.pass_exits_proof.specs.frame_classes.declared.class.SlotClass.{SlotClass}
use Rattle.pass_frames.specs.Tables.{is_of, is_slot_kind, offset_at, with_field_offset, with_field_offsets, with_slot, with_slot_offset, with_slot_offsets, with_slots}
use Rattle.pass_exits_proof.specs.pass_cells.Links.{field_name}
use Rattle.pass_exits_proof.proofs.ir_laws.facts.names_apart.Words.{either as either_name}

-- ---- flags by class

module _ (class : SlotClass) (classes : List SlotClass) where
  one_length : (found : Option SlotClass) (slot : ℕ) (flags : List Bool) → length (with_slot class found slot flags) ≡ length flags
  one_length found slot flags = on (is_of class found)
    where
      on : (c : Bool) → length (if c then slice_set flags slot true else flags) ≡ length flags
      on true = set_length flags slot true
      on false = refl

  one_stays : (found : Option SlotClass) (slot : ℕ) (flags : List Bool) (v : ℕ) → flag_at flags v ≡ true → flag_at (with_slot class found slot flags) v ≡ true
  one_stays found slot flags v e = on (is_of class found)
    where
      on : (c : Bool) → flag_at (if c then slice_set flags slot true else flags) v ≡ true
      on true = flag_stays flags slot v e
      on false = e

  slots_stay : (k : ℕ) (slots : List ℕ) (flags : List Bool) (v : ℕ) → flag_at flags v ≡ true → flag_at (with_slots class classes k slots flags) v ≡ true
  slots_stay k [] flags v e = e
  slots_stay k (s ∷ slots) flags v e = slots_stay (k + 1) slots (with_slot class (slice_get classes k) s flags) v (one_stays (slice_get classes k) s flags v e)

  pub flagged_slot : (k : ℕ) (slots : List ℕ) (flags : List Bool) (j v : ℕ) → slice_get slots j ≡ Some v → is_of class (slice_get classes (k + j)) ≡ true → v < length flags → flag_at (with_slots class classes k slots flags) v ≡ true
  flagged_slot k [] flags j v e d low = absurd (cc)
  flagged_slot k (s ∷ slots) flags zero v e d low =
      let same : s ≡ v = cc in
      let here : k + 0 ≡ k = omega arith in
      slots_stay (k + 1) slots (with_slot class (slice_get classes k) s flags) v
      (subst (λ (n : ℕ). flag_at (with_slot class (slice_get classes k) n flags) v ≡ true) (sym same) (on (is_of class (slice_get classes k)) (ap (λ (n : ℕ). is_of class (slice_get classes n)) (sym here) ∙ d)))
    where
      on : (c : Bool) → c ≡ true → flag_at (if c then slice_set flags v true else flags) v ≡ true
      on true h = flag_set flags v low
      on false h = absurd (cc)
  flagged_slot k (s ∷ slots) flags (suc j) v e d low =
      let next : k + suc j ≡ k + 1 + j = omega arith in
      let long = one_length (slice_get classes k) s flags in
      flagged_slot (k + 1) slots (with_slot class (slice_get classes k) s flags) j v e (ap (λ (n : ℕ). is_of class (slice_get classes n)) (sym next) ∙ d) (omega (arith, long, low))

  -- the number of a flagged slot, whose class it is
  pub record IsOfClass (k : ℕ) (slots : List ℕ) (v : ℕ) : Type 0 where
    pub number : ℕ
    pub slot : slice_get slots number ≡ Some v
    pub class_is : is_of class (slice_get classes (k + number)) ≡ true

  further : (k s : ℕ) (slots : List ℕ) (v : ℕ) → IsOfClass (k + 1) slots v → IsOfClass k (s ∷ slots) v
  further k s slots v x =
      let n : ℕ = x.number in
      let next : k + 1 + n ≡ k + suc n = omega arith in
      record { number = suc x.number; slot = x.slot; class_is = ap (λ (j : ℕ). is_of class (slice_get classes j)) (sym next) ∙ x.class_is }

  pub slot_flagged : (k : ℕ) (slots : List ℕ) (flags : List Bool) (v : ℕ) → flag_at (with_slots class classes k slots flags) v ≡ true → (flag_at flags v ≡ true) ⊎ IsOfClass k slots v
  slot_flagged k [] flags v e = inl e
  slot_flagged k (s ∷ slots) flags v e =
      ⊎_elim (λ h. on (is_of class (slice_get classes k)) refl h) (λ h. inr (further k s slots v h))
      (slot_flagged (k + 1) slots (with_slot class (slice_get classes k) s flags) v e)
    where
      on : (c : Bool) → is_of class (slice_get classes k) ≡ c → flag_at (if c then slice_set flags s true else flags) v ≡ true → (flag_at flags v ≡ true) ⊎ IsOfClass k (s ∷ slots) v
      on true d h =
          let here : k ≡ k + 0 = omega arith in
          ⊎_elim (λ old. inl old) (λ (same : s ≡ v). inr (record { number = 0; slot = ap (λ (n : ℕ). Some n) same; class_is = ap (λ (n : ℕ). is_of class (slice_get classes n)) (sym here) ∙ d }))
          (flag_back flags s v h)
      on false d h = inl h

frame_is : (o : Option SlotClass) → is_frame o ≡ true → is_of SlotClass.Frame o ≡ true
frame_is None e = absurd (cc)
frame_is (Some SlotClass.Ramp) e = absurd (cc)
frame_is (Some SlotClass.Local) e = absurd (cc)
frame_is (Some SlotClass.Frame) e = refl

pub frame_slot : (classes : List SlotClass) (k : ℕ) (slots : List ℕ) (v : ℕ) → has_name (frame_slots_from classes k slots) v ≡ true → IsOfClass SlotClass.Frame classes k slots v
frame_slot classes k [] v e = absurd (cc)
frame_slot classes k (s ∷ slots) v e = on (is_frame (slice_get classes k)) refl e (λ h. further SlotClass.Frame classes k s slots v (frame_slot classes (k + 1) slots v h))
  where
    on : (c : Bool) → is_frame (slice_get classes k) ≡ c → has_name ((if c then s ∷ [] else []) ++ frame_slots_from classes (k + 1) slots) v ≡ true → (has_name (frame_slots_from classes (k + 1) slots) v ≡ true → IsOfClass SlotClass.Frame classes k (s ∷ slots) v) → IsOfClass SlotClass.Frame classes k (s ∷ slots) v
    on true d h rest =
        let here : k ≡ k + 0 = omega arith in
        ⊎_elim
        (λ same. record { number = 0; slot = ap (λ (n : ℕ). Some n) (equal_numbers s v same); class_is = ap (λ (n : ℕ). is_of SlotClass.Frame (slice_get classes n)) (sym here) ∙ frame_is (slice_get classes k) d })
        rest (either_name (s == v) (has_name (frame_slots_from classes (k + 1) slots) v) h)
    on false d h rest = rest h

-- ---- what is held

-- a slot that is held is an alloca that passes the test
abbrev pub IsSlotHeld : (ℕ → Bool) → List ℕ → Holding → Type 0
IsSlotHeld is_slot allocas h = is_slot_kind h.kind ≡ true → IsListed h.value allocas × (is_slot h.value ≡ true)

value_is_none : (is_value : ℕ → Bool) (v size : ℕ) (is_slot : ℕ → Bool) (allocas : List ℕ) (h : Holding) → IsListed h (if_value is_value v size) → IsSlotHeld is_slot allocas h
value_is_none is_value v size is_slot allocas h l = on (is_value v) l
  where
    on : (c : Bool) → IsListed h (if c then value_held v size ∷ [] else []) → IsSlotHeld is_slot allocas h
    on true (inl e) = λ d. let t : false ≡ true = sym (ap (λ (x : Holding). is_slot_kind x.kind) e) ∙ d in absurd (cc)
    on true (inr l) = absurd l
    on false l = absurd l

result_is_none : (is_value : ℕ → Bool) (o : Option ℕ) (size : ℕ) (is_slot : ℕ → Bool) (allocas : List ℕ) (h : Holding) → IsListed h (if_result is_value o size) → IsSlotHeld is_slot allocas h
result_is_none is_value None size is_slot allocas h l = absurd l
result_is_none is_value (Some v) size is_slot allocas h l = value_is_none is_value v size is_slot allocas h l

pub in_params : (is_value : ℕ → Bool) (ps : List Param) (is_slot : ℕ → Bool) (allocas : List ℕ) (h : Holding) → IsListed h (held_params is_value ps) → IsSlotHeld is_slot allocas h
in_params is_value [] is_slot allocas h l = absurd l
in_params is_value (p ∷ ps) is_slot allocas h l = ⊎_elim (λ a. value_is_none is_value p.name _ is_slot allocas h a) (λ b. in_params is_value ps is_slot allocas h b) (listed_either h _ (held_params is_value ps) l)

in_phis : (is_value : ℕ → Bool) (ps : List Phi) (is_slot : ℕ → Bool) (allocas : List ℕ) (h : Holding) → IsListed h (held_phis is_value ps) → IsSlotHeld is_slot allocas h
in_phis is_value [] is_slot allocas h l = absurd l
in_phis is_value (p ∷ ps) is_slot allocas h l = ⊎_elim (λ a. value_is_none is_value p.result _ is_slot allocas h a) (λ b. in_phis is_value ps is_slot allocas h b) (listed_either h _ (held_phis is_value ps) l)

module _ (m : Module) (promise : Option ℕ) (is_value is_slot : ℕ → Bool) where
  in_instrs : (is : List Instr) (h : Holding) → IsListed h (held_instrs m promise is_value is_slot is) → IsSlotHeld is_slot (allocas_in is) h
  in_instrs [] h l = absurd l
  in_instrs (Instr.Alloca r ty align ∷ is) h l = ⊎_elim (λ a. on (is_slot r) refl a) (λ b d. let x = in_instrs is h b d in (inr x.0, x.1)) (listed_either h _ (held_instrs m promise is_value is_slot is) l)
    where
      on : (c : Bool) → is_slot r ≡ c → IsListed h (if c then slot_held m promise r ty align ∷ [] else []) → IsSlotHeld is_slot (r ∷ allocas_in is) h
      on true e (inl same) = λ d. let v : h.value ≡ r = ap (λ (x : Holding). x.value) same in (inl v, ap is_slot v ∙ e)
      on true e (inr l) = absurd l
      on false e l = absurd l
  in_instrs (i ∷ is) h l =
      ⊎_elim (λ a. result_is_none is_value (result_of i) (result_size i) is_slot (allocas_in is) h a) (λ b. in_instrs is h b)
      (listed_either h (if_result is_value (result_of i) (result_size i)) (held_instrs m promise is_value is_slot is) l)

  wider : (xs ys : List ℕ) (h : Holding) → IsSlotHeld is_slot ys h → IsSlotHeld is_slot (xs ++ ys) h
  wider xs ys h k d = let x = k d in (listed_right h.value xs ys x.0, x.1)

  narrower : (xs ys : List ℕ) (h : Holding) → IsSlotHeld is_slot xs h → IsSlotHeld is_slot (xs ++ ys) h
  narrower xs ys h k d = let x = k d in (listed_left h.value xs ys x.0, x.1)

  abbrev pub allocas_by : List Block → List ℕ
  allocas_by bs = flat_map (λ b. allocas_in b.instrs) bs

  pub in_blocks : (bs : List Block) (h : Holding) → IsListed h (held_blocks m promise is_value is_slot bs) → IsSlotHeld is_slot (flat_map (λ b. allocas_in b.instrs) bs) h
  in_blocks [] h l = absurd l
  in_blocks (b ∷ bs) h l =
      ⊎_elim
      (λ a. narrower (allocas_in b.instrs) (allocas_by bs) h (⊎_elim (λ x. in_phis is_value b.phis is_slot (allocas_in b.instrs) h x) (λ y. in_instrs b.instrs h y) (listed_either h (held_phis is_value b.phis) (held_instrs m promise is_value is_slot b.instrs) a)))
      (λ c. wider (allocas_in b.instrs) (allocas_by bs) h (in_blocks bs h c))
      (listed_either h (held_phis is_value b.phis ++ held_instrs m promise is_value is_slot b.instrs) (held_blocks m promise is_value is_slot bs) l)

-- ---- offsets

-- a slot among what is held, whose offset it is
pub record IsSlotAt (l : Layout) (hs : List Holding) (v d : ℕ) : Type 0 where
  pub held : Holding
  pub listed : IsListed held hs
  pub slot : is_slot_kind held.kind ≡ true
  pub value : held.value ≡ v
  pub place : ℕ
  pub offset : d ≡ offset_at l place

module _ (l : Layout) where
  one_offset : (k : ℕ) (h : Holding) (known : List (Option ℕ)) (v d : ℕ) → slice_get (with_slot_offset l k h known) v ≡ Some (Some d) → (slice_get known v ≡ Some (Some d)) ⊎ IsSlotAt l (h ∷ []) v d
  one_offset k h known v d e = on (is_slot_kind h.kind) refl e
    where
      on : (c : Bool) → is_slot_kind h.kind ≡ c → slice_get (if c then slice_set known h.value (Some (offset_at l k)) else known) v ≡ Some (Some d) → (slice_get known v ≡ Some (Some d)) ⊎ IsSlotAt l (h ∷ []) v d
      on true s x =
          ⊎_elim
          (λ a. let both : Some d ≡ Some (offset_at l k) = a.1 in let same : d ≡ offset_at l k = cc in inr (record { held = h; listed = inl refl; slot = s; value = sym a.0; place = k; offset = same }))
          (λ b. inl b.0) (set_cases known h.value v (Some (offset_at l k)) (Some d) x)
      on false s x = inl x

  pub slot_at : (k : ℕ) (hs : List Holding) (known : List (Option ℕ)) (v d : ℕ) → slice_get (with_slot_offsets l k hs known) v ≡ Some (Some d) → (slice_get known v ≡ Some (Some d)) ⊎ IsSlotAt l hs v d
  slot_at k [] known v d e = inl e
  slot_at k (h ∷ hs) known v d e =
      ⊎_elim
      (λ a. ⊎_elim (λ old. inl old) (λ (x : IsSlotAt l (h ∷ []) v d). inr (record { held = x.held; listed = ⊎_elim (λ y. inl y) (λ y. absurd y) x.listed; slot = x.slot; value = x.value; place = x.place; offset = x.offset })) (one_offset k h known v d a))
      (λ (x : IsSlotAt l hs v d). inr (record { held = x.held; listed = inr x.listed; slot = x.slot; value = x.value; place = x.place; offset = x.offset }))
      (slot_at (k + 1) hs (with_slot_offset l k h known) v d e)

  -- ---- fields

  -- the field of one of so many values, whose offset it is
  pub record IsFieldAt (first count k : ℕ) (vs : List ℕ) (v d : ℕ) : Type 0 where
    pub number : ℕ
    pub low : number < length vs
    pub name : v ≡ field_name first count (k + number)
    pub place : ℕ
    pub offset : d ≡ offset_at l place

  module _ (positions : List (Option ℕ)) (first count : ℕ) where
    one_field : (name : ℕ) (o : Option ℕ) (known : List (Option ℕ)) (v d : ℕ) → slice_get (with_field_offset l name o known) v ≡ Some (Some d) → (slice_get known v ≡ Some (Some d)) ⊎ ((v ≡ name) × ((place : ℕ) × (d ≡ offset_at l place)))
    one_field name None known v d e = inl e
    one_field name (Some place) known v d e =
        ⊎_elim
        (λ a. let both : Some d ≡ Some (offset_at l place) = a.1 in let same : d ≡ offset_at l place = cc in inr (a.0, (place, same)))
        (λ b. inl b.0) (set_cases known name v (Some (offset_at l place)) (Some d) e)

    pub field_at : (k : ℕ) (vs : List ℕ) (known : List (Option ℕ)) (v d : ℕ) → slice_get (with_field_offsets l positions first count k vs known) v ≡ Some (Some d) → (slice_get known v ≡ Some (Some d)) ⊎ IsFieldAt first count k vs v d
    field_at k [] known v d e = inl e
    field_at k (x ∷ vs) known v d e =
        ⊎_elim
        (λ a. ⊎_elim (λ old. inl old) (λ y. let here : k + 0 ≡ k = omega arith in inr (record { number = 0; low = omega arith; name = y.0 ∙ ap (field_name first count) (sym here); place = y.1.0; offset = y.1.1 })) (one_field (field_name first count k) (get_or positions x None) known v d a))
        (λ (y : IsFieldAt first count (k + 1) vs v d). let n : ℕ = y.number in let next : k + 1 + n ≡ k + suc n = omega arith in let lt : n < length vs = y.low in inr (record { number = suc n; low = omega (arith, lt); name = y.name ∙ ap (field_name first count) next; place = y.place; offset = y.offset }))
        (field_at (k + 1) vs (with_field_offset l (field_name first count k) (get_or positions x None) known) v d e)

    pub fields_length : (k : ℕ) (vs : List ℕ) (known : List (Option ℕ)) → length (with_field_offsets l positions first count k vs known) ≡ length known
    fields_length k [] known = refl
    fields_length k (x ∷ vs) known = fields_length (k + 1) vs (with_field_offset l (field_name first count k) (get_or positions x None) known) ∙ on (get_or positions x None)
      where
        on : (o : Option ℕ) → length (with_field_offset l (field_name first count k) o known) ≡ length known
        on None = refl
        on (Some place) = set_length known (field_name first count k) (Some (offset_at l place))

  pub offsets_length : (k : ℕ) (hs : List Holding) (known : List (Option ℕ)) → length (with_slot_offsets l k hs known) ≡ length known
  offsets_length k [] known = refl
  offsets_length k (h ∷ hs) known = offsets_length (k + 1) hs (with_slot_offset l k h known) ∙ on (is_slot_kind h.kind)
    where
      on : (c : Bool) → length (if c then slice_set known h.value (Some (offset_at l k)) else known) ≡ length known
      on true = set_length known h.value (Some (offset_at l k))
      on false = refl
