-- A slot of the frame is held, with the size of its type, and lies in the frame.
use Rattle.std.proofs.Common.{◌≡◌, inl, inr, ℕ, zero, suc, ◌+◌, ◌<◌, ◌≤◌, ◌==◌, ◌||◌, Bool, true, false, List, [], ◌∷◌, ◌++◌, length, Option, Some, None, refl, sym, ap, ◌∙◌, subst, arith}
use Rattle.std.specs.Prelude.{flat_map, get_or, if◌then◌else◌, option_to_list, replicate, slice_get, slice_set, unwrap_or}
use Rattle.compiler_theorem.proofs.kinds.Classes.{alloca_low}
use Rattle.compiler_theorem.proofs.theorem.Needed.{some_class, stands_at}
use Rattle.compiler_theorem.proofs.theorem.shown.Contents.{class_once}
use Rattle.compiler.specs.flow_solver.Paths.{IsListed}
use Rattle.compiler.specs.frame_classes.Classes.{AreClasses, IsOf}
use Rattle.compiler.specs.frame_classes.declared.class.SlotClass.{SlotClass}
use Rattle.compiler.specs.frame_contents.Held.{crossing_values, frame_slots, frame_slots_from, held_blocks, held_instr, held_instrs, held_params, held_phis, is_frame, position_from, position_of, slot_held, slot_kind}
use Rattle.compiler.specs.frame_contents.declared.held.Holding.{Holding}
use Rattle.compiler.specs.frame_layout.declared.layout.FieldKind.{FieldKind}
use Rattle.compiler.specs.frame_layout.declared.layout.Layout.{Layout}
use Rattle.compiler.proofs.ir_laws.facts.Lists.{below}
use Rattle.compiler.proofs.ir_laws.facts.Truth.{equal_numbers, itself}
use Rattle.compiler.proofs.ir_laws.paths.source_rules.Locals.{listed_left, listed_right}
use Rattle.compiler.specs.ir_model.Ty.{Ty}
use Rattle.compiler.specs.ir_model.declared.instr.Instr.{Instr}
use Rattle.compiler.specs.ir_model.declared.module.Block.{Block}
use Rattle.compiler.specs.ir_model.declared.module.Module.{Module}
use Rattle.compiler.specs.ir_paths.Slots.{allocas_in, allocas_of, has_name, promise_of}
use Rattle.compiler.specs.ir_paths.Windows.{instr_at, instr_in}
use Rattle.compiler.specs.ir_paths.declared.point.Point.{Point}
use Rattle.compiler.specs.pass_cells.Links.{field_name}
use Rattle.compiler.specs.pass_frames.Framed.{kept_of}
use Rattle.compiler.specs.pass_frames.Tables.{is_slot_kind, offset_at, with_field_offset, with_field_offsets, with_slot_offset, with_slot_offsets}
use Rattle.pass_frames_meaning.proofs.others.Names.{once, point_there}
use Rattle.pass_frames_meaning.proofs.placed.Placed.{held_once}
use Rattle.compiler.proofs.ir_laws.paths.woven_rules.Unbroken.{of_listed}
use Rattle.compiler.specs.pass_copies.declared.slot.EarlySlot.{EarlySlot}
use Rattle.pass_frames_meaning.proofs.pass_frames_proof.anew.Lists.{alloca_listed}
use Rattle.pass_frames_meaning.proofs.pass_frames_proof.early.Placed.{all_early}
use Rattle.pass_frames_meaning.proofs.pass_frames_proof.lines.Cells.{contained}
use Rattle.pass_frames_meaning.specs.pass_frames_proof.FromEdges.{IsEarlyInFrame}
use Rattle.std.specs.List.{Contains}
use Rattle.compiler.specs.pass_copies.Slots.{slot_names}
use Rattle.pass_frames_meaning.proofs.pass_frames_proof.code.Left.{longer}
use Rattle.pass_frames_meaning.proofs.pass_frames_proof.stepping.Names.{edged_named, named_written}
use Rattle.pass_frames_meaning.specs.pass_frames_proof.Framings.{IsFraming}
use Rattle.pass_frames_meaning.specs.pass_frames_proof.Passes.{no_block}
use Rattle.pass_frames_meaning.specs.pass_frames_proof.Places.{Framing, copies, edged, instrs_at, named, offsets, with_copies, written}
use Rattle.compiler.proofs.pass_proofs.edges.paths.Slots.{same_allocas}
use Rattle.compiler.proofs.pass_proofs.edges.paths.Windows.{instr_moved}
use Rattle.compiler.specs.pass_proofs.addresses.rules.Addresses.{lies_in_frame}
use Rattle.compiler.specs.pass_proofs.edges.paths.Spots.{moved}
use Rattle.compiler.proofs.rule_laws.rules.source_rules.Slots.{alloca_of}
use Rattle.compiler.specs.rule_laws.rules.function_rules.Kept.{KeepsFunctionRules}

-- ---- what is held

module _ (m : Module) (promise : Option ℕ) (is_value is_slot : ℕ → Bool) (v align : ℕ) (ty : Ty)
    (yes : is_slot v ≡ true) where
  abbrev H : Holding
  H = slot_held m promise v ty align

  in_instrs : (is : List Instr) (at : ℕ) → slice_get is at ≡ Some (Instr.Alloca v ty align)
      → IsListed H (held_instrs m promise is_value is_slot is)
  in_instrs [] at e = absurd (cc)
  in_instrs (i ∷ is) zero e =
      let same : i ≡ Instr.Alloca v ty align = cc in
      listed_left H (held_instr m promise is_value is_slot i) (held_instrs m promise is_value is_slot is)
      (subst (λ (j : Instr). IsListed H (held_instr m promise is_value is_slot j)) (sym same)
      (subst (λ (b : Bool). IsListed H (if b then H ∷ [] else [])) (sym yes) (inl refl)))
  in_instrs (i ∷ is) (suc at) e =
      listed_right H (held_instr m promise is_value is_slot i) (held_instrs m promise is_value is_slot is)
      (in_instrs is at e)

  in_blocks : (bs : List Block) (k at : ℕ) → instr_in (slice_get bs k) at ≡ Some (Instr.Alloca v ty align)
      → IsListed H (held_blocks m promise is_value is_slot bs)
  in_blocks [] k at e = absurd (cc)
  in_blocks (b ∷ bs) zero at e =
      listed_left H (held_phis is_value b.phis ++ held_instrs m promise is_value is_slot b.instrs)
      (held_blocks m promise is_value is_slot bs)
      (listed_right H (held_phis is_value b.phis) (held_instrs m promise is_value is_slot b.instrs)
      (in_instrs b.instrs at e))
  in_blocks (b ∷ bs) (suc k) at e =
      listed_right H (held_phis is_value b.phis ++ held_instrs m promise is_value is_slot b.instrs)
      (held_blocks m promise is_value is_slot bs) (in_blocks bs k at e)

-- ---- slots of the class

slots_named : (classes : List SlotClass) (k : ℕ) (slots : List ℕ) (j v : ℕ) → slice_get slots j ≡ Some v
    → is_frame (slice_get classes (k + j)) ≡ true → has_name (frame_slots_from classes k slots) v ≡ true
slots_named classes k [] j v e d = absurd (cc)
slots_named classes k (s ∷ slots) zero v e d =
    let same : s ≡ v = cc in
    let here : k + 0 ≡ k = omega arith in
    subst (λ (b : Bool). has_name ((if b then s ∷ [] else []) ++ frame_slots_from classes (k + 1) slots) v ≡ true)
    (sym (ap (λ (n : ℕ). is_frame (slice_get classes n)) (sym here) ∙ d))
    (ap (λ (b : Bool). b || has_name (frame_slots_from classes (k + 1) slots) v)
    (ap (λ (n : ℕ). n == v) same ∙ itself v))
slots_named classes k (s ∷ slots) (suc j) v e d =
    let next : k + suc j ≡ k + 1 + j = omega arith in
    on (is_frame (slice_get classes k))
    (slots_named classes (k + 1) slots j v e (ap (λ (n : ℕ). is_frame (slice_get classes n)) (sym next) ∙ d))
  where
    or_true : (b c : Bool) → c ≡ true → (b || c) ≡ true
    or_true true c h = refl
    or_true false c h = h

    on : (b : Bool) → has_name (frame_slots_from classes (k + 1) slots) v ≡ true
        → has_name ((if b then s ∷ [] else []) ++ frame_slots_from classes (k + 1) slots) v ≡ true
    on true h = or_true (s == v) (has_name (frame_slots_from classes (k + 1) slots) v) h
    on false h = h

-- ---- positions

pub record IsPlacedAs (hs : List Holding) (h : Holding) : Type 0 where
  pub position : ℕ
  pub told : position_of hs h.value ≡ Some position
  pub there : slice_get hs position ≡ Some h

position_found : (k : ℕ) (hs : List Holding) (v j : ℕ) (h : Holding) → slice_get hs j ≡ Some h → h.value ≡ v
    → (n : ℕ) × (position_from k hs v ≡ Some (k + n)) × (g : Holding) × (slice_get hs n ≡ Some g) × (g.value ≡ v)
position_found k [] v j h e same = absurd (cc)
position_found k (x ∷ hs) v zero h e same =
    let is : x ≡ h = cc in
    let first : k ≡ k + 0 = omega arith in
    let value : x.value ≡ v = ap (λ (y : Holding). y.value) is ∙ same in (
      0,
      ap (λ (b : Bool). if b then Some k else position_from (k + 1) hs v)
          (ap (λ (n : ℕ). n == v) value ∙ itself v)
          ∙ ap Some first,
      x,
      refl,
      value,
    )
position_found k (x ∷ hs) v (suc j) h e same =
    on (x.value == v) refl (position_found (k + 1) hs v j h e same)
  where
    on : (b : Bool) → (x.value == v) ≡ b
        → (n : ℕ) × (position_from (k + 1) hs v ≡ Some (k + 1 + n)) × (g : Holding) × (slice_get hs n ≡ Some g)
        × (g.value ≡ v)
        → (n : ℕ) × ((if b then Some k else position_from (k + 1) hs v) ≡ Some (k + n)) × (g : Holding)
        × (slice_get (x ∷ hs) n ≡ Some g) × (g.value ≡ v)
    on true d z =
        let first : k ≡ k + 0 = omega arith in
        (0, ap Some first, x, refl, equal_numbers x.value v d)
    on false d (n, told, g, there, value) =
        let next : k + 1 + n ≡ k + suc n = omega arith in
        (suc n, told ∙ ap Some next, g, there, value)

listed_at : (hs : List Holding) (h : Holding) → IsListed h hs → (j : ℕ) × (slice_get hs j ≡ Some h)
listed_at [] h l = absurd l
listed_at (x ∷ hs) h (inl e) = (0, ap Some (sym e))
listed_at (x ∷ hs) h (inr l) = let z = listed_at hs h l in (suc z.0, z.1)

-- ---- offsets

abbrev Inside : List (Option ℕ) → ℕ → Type 0
Inside t v = lies_in_frame t v ≡ true

there_length : (t : List (Option ℕ)) (u : ℕ) (o : Option ℕ) → length (slice_set t u o) ≡ length t
there_length [] u o = refl
there_length (x ∷ t) zero o = refl
there_length (x ∷ t) (suc u) o = ap suc (there_length t u o)

set_inside : (t : List (Option ℕ)) (u d v : ℕ) → Inside t v → Inside (slice_set t u (Some d)) v
set_inside [] u d v h = h
set_inside (x ∷ t) zero d zero h = refl
set_inside (x ∷ t) zero d (suc v) h = h
set_inside (x ∷ t) (suc u) d zero h = h
set_inside (x ∷ t) (suc u) d (suc v) h = set_inside t u d v h

set_itself : (t : List (Option ℕ)) (u d : ℕ) → u < length t → Inside (slice_set t u (Some d)) u
set_itself [] u d lt = absurd (omega (arith, lt))
set_itself (x ∷ t) zero d lt = refl
set_itself (x ∷ t) (suc u) d lt = set_itself t u d (omega (arith, lt))

module _ (l : Layout) where
  slot_inside : (k : ℕ) (h : Holding) (t : List (Option ℕ)) (v : ℕ) → Inside t v → Inside (with_slot_offset l k h t) v
  slot_inside k h t v i = on (is_slot_kind h.kind)
    where
      on : (b : Bool) → Inside (if b then slice_set t h.value (Some (offset_at l k)) else t) v
      on true = set_inside t h.value (offset_at l k) v i
      on false = i

  slots_inside : (k : ℕ) (hs : List Holding) (t : List (Option ℕ)) (v : ℕ) → Inside t v
      → Inside (with_slot_offsets l k hs t) v
  slots_inside k [] t v i = i
  slots_inside k (h ∷ hs) t v i = slots_inside (k + 1) hs (with_slot_offset l k h t) v (slot_inside k h t v i)

  slot_long : (k : ℕ) (h : Holding) (t : List (Option ℕ)) → length (with_slot_offset l k h t) ≡ length t
  slot_long k h t = on (is_slot_kind h.kind)
    where
      on : (b : Bool) → length (if b then slice_set t h.value (Some (offset_at l k)) else t) ≡ length t
      on true = there_length t h.value (Some (offset_at l k))
      on false = refl

  listed_inside : (k : ℕ) (hs : List Holding) (t : List (Option ℕ)) (h : Holding) → IsListed h hs
      → is_slot_kind h.kind ≡ true → h.value < length t → Inside (with_slot_offsets l k hs t) h.value
  listed_inside k [] t h li slot lt = absurd li
  listed_inside k (x ∷ hs) t h (inl e) slot lt =
      slots_inside (k + 1) hs (with_slot_offset l k x t) h.value
      (subst (λ (y : Holding). Inside (with_slot_offset l k y t) h.value) e
      (subst (λ (b : Bool). Inside (if b then slice_set t h.value (Some (offset_at l k)) else t) h.value) (sym slot)
      (set_itself t h.value (offset_at l k) lt)))
  listed_inside k (x ∷ hs) t h (inr li) slot lt =
      listed_inside (k + 1) hs (with_slot_offset l k x t) h li slot
      (let a = slot_long k x t in omega (arith, a, lt))

  fields_inside : (positions : List (Option ℕ)) (first count k : ℕ) (vs : List ℕ) (t : List (Option ℕ)) (v : ℕ)
      → Inside t v → Inside (with_field_offsets l positions first count k vs t) v
  fields_inside positions first count k [] t v i = i
  fields_inside positions first count k (u ∷ vs) t v i =
      fields_inside positions first count (k + 1) vs
      (with_field_offset l (field_name first count k) (get_or positions u None) t) v
      (on (get_or positions u None))
    where
      on : (o : Option ℕ) → Inside (with_field_offset l (field_name first count k) o t) v
      on None = i
      on (Some p) = set_inside t (field_name first count k) (offset_at l p) v i

none_long : (n : ℕ) → length (replicate {A = Option ℕ} n None) ≡ n
none_long zero = refl
none_long (suc n) = ap suc (none_long n)

-- ---- a coroutine

pub slot_kind_is : (o : Option ℕ) (v : ℕ) → is_slot_kind (slot_kind o v) ≡ true
slot_kind_is o v = on (has_name (option_to_list o) v)
  where
    on : (b : Bool) → is_slot_kind (if b then FieldKind.Promise else FieldKind.Slot) ≡ true
    on true = refl
    on false = refl

-- what is held has a place
pub listed_placed : (x : Framing) → IsFraming x → (k : ℕ) → KeepsFunctionRules x.code k x.function → (h : Holding)
    → IsListed h x.contents.held → IsPlacedAs x.contents.held h
listed_placed x is k rules h l =
    let j = listed_at x.contents.held h l in
    let z = position_found 0 x.contents.held h.value j.0 h j.1 refl in
    let n : ℕ = z.0 in
    let same : z.0 ≡ j.0 = (held_once x is k rules).each z.0 j.0 z.2 h z.3 j.1 z.4 in
    let first : 0 + n ≡ n = omega arith in
    record {
      position = j.0;
      told = z.1 ∙ ap Some (first ∙ same);
      there = j.1;
    }

module _ (x : Framing) (is : IsFraming x) (k : ℕ) (rules : KeepsFunctionRules x.code k x.function) where
  classes : AreClasses x.function x.contents.classes
  classes = is.frameable.contents.classes_are

  module _ (at v align : ℕ) (ty : Ty) (there : slice_get (instrs_at x 0) at ≡ Some (Instr.Alloca v ty align)) where
    abbrev p : Point
    p = record { block = 0; at = at }

    stands : instr_at (edged x) p ≡ Some (Instr.Alloca v ty align)
    stands = point_there x is 0 at (Instr.Alloca v ty align) there

    edged_listed : IsListed v (allocas_of (edged x))
    edged_listed = on (edged x).blocks there
      where
        on : (bs : List Block)
            → slice_get (unwrap_or (slice_get bs 0) no_block).instrs at ≡ Some (Instr.Alloca v ty align)
            → IsListed v (flat_map (λ (b : Block). allocas_in b.instrs) bs)
        on [] e = absurd (cc)
        on (b ∷ bs) e =
            listed_left v (allocas_in b.instrs) (flat_map (λ (c : Block). allocas_in c.instrs) bs)
            (alloca_listed b.instrs at v align ty e)

    pub slot_listed : IsListed v (allocas_of x.function)
    slot_listed = subst (IsListed v) (same_allocas x.function) edged_listed

    pub record IsOwnAlloca : Type 0 where
      pub point : Point
      pub found : instr_at x.function point ≡ Some (Instr.Alloca v ty align)

    pub own_alloca : IsOwnAlloca
    own_alloca =
        let a = alloca_of x.function v slot_listed in
        let same : Instr.Alloca v a.ty a.align ≡ Instr.Alloca v ty align =
        once x is (moved x.function a.point) p (Instr.Alloca v a.ty a.align) (Instr.Alloca v ty align) v
        (instr_moved x.function a.point ∙ a.stands) stands refl refl in
        record { point = a.point; found = a.stands ∙ ap Some same }

    -- a slot of the frame's class

    module _ (frame : IsOf x.function v SlotClass.Frame) where
      is_slot : has_name (frame_slots x.function x.contents.classes) v ≡ true
      is_slot =
          let a = stands_at v (allocas_of x.function) slot_listed in
          let c = some_class x.contents.classes a.at (subst (λ (n : ℕ). a.at < n) (sym classes.count)
          (below (allocas_of x.function) a.at v a.there)) in
          let same : c.0 ≡ SlotClass.Frame =
          class_once x.function v c.0 SlotClass.Frame (classes.each a.at v c.0 a.there c.1) frame in
          let n : ℕ = a.at in
          let first : 0 + n ≡ n = omega arith in
          slots_named x.contents.classes 0 (allocas_of x.function) a.at v a.there
          (ap (λ (j : ℕ). is_frame (slice_get x.contents.classes j)) first
          ∙ ap is_frame (c.1 ∙ ap Some same))

      abbrev held : Holding
      held = slot_held x.code (promise_of x.function) v ty align

      slot_is_held : IsListed held x.contents.held
      slot_is_held =
          subst (IsListed held) (sym is.frameable.contents.held_are)
          (listed_right held (held_params (has_name (crossing_values x.contents.crossing)) x.function.params)
          (held_blocks x.code (promise_of x.function) (has_name (crossing_values x.contents.crossing))
          (has_name (frame_slots x.function x.contents.classes)) x.function.blocks)
          (in_blocks x.code (promise_of x.function) (has_name (crossing_values x.contents.crossing))
          (has_name (frame_slots x.function x.contents.classes)) v align ty is_slot x.function.blocks
          own_alloca.point.block own_alloca.point.at own_alloca.found))

      -- it lies in the frame
      pub frame_inside : lies_in_frame (offsets x) v ≡ true
      frame_inside =
          fields_inside x.layout x.contents.positions (length (edged x).names)
          (length (kept_of (length (edged x).names) x.contents)) 0 (kept_of (length (edged x).names) x.contents)
          (with_slot_offsets x.layout 0 x.contents.held (replicate (length (with_copies x).names) None)) v
          (listed_inside x.layout 0 x.contents.held (replicate (length (with_copies x).names) None) held slot_is_held
          (slot_kind_is (promise_of x.function) v)
          (let long = none_long (length (with_copies x).names) in
          let low : v < length x.function.names = alloca_low x.code k x.function rules v slot_listed in
          omega (arith, long, low, names_longer)))
        where
          names_longer : length x.function.names ≤ length (with_copies x).names
          names_longer =
              let a : length x.function.names ≤ length (edged x).names = longer x.function.names _ in
              let b : length (edged x).names ≤ length (named x).names = edged_named x in
              let c : length (named x).names ≤ length (written x).names = named_written x in
              let d : length (written x).names ≤ length ((written x).names ++ slot_names (length (copies x).slots)) =
              longer (written x).names (slot_names (length (copies x).slots)) in
              let e : length ((written x).names ++ slot_names (length (copies x).slots))
              ≤ length (with_copies x).names =
              longer ((written x).names ++ slot_names (length (copies x).slots)) _ in
              omega (arith, a, b, c, d, e)

      -- its place, at which it stands with its size
      pub slot_placed : IsPlacedAs x.contents.held held
      slot_placed = listed_placed x is k rules held slot_is_held

-- ---- slots that are used before begin

told_inside : (t : List (Option ℕ)) (v d : ℕ) → slice_get t v ≡ Some (Some d) → lies_in_frame t v ≡ true
told_inside [] v d e = absurd (cc)
told_inside (x ∷ t) zero d e =
    let same : x ≡ Some d = cc in
    subst (λ (o : Option ℕ). lies_in_frame (o ∷ t) 0 ≡ true) (sym same) refl
told_inside (x ∷ t) (suc v) d e = told_inside t v d e

pub early_lies : (x : Framing) → IsFraming x → (k : ℕ) → KeepsFunctionRules x.code k x.function → (e : EarlySlot)
    → Contains (copies x).slots e → lies_in_frame (offsets x) e.slot ≡ true
early_lies x is k rules e listed =
    let early = of_listed (IsEarlyInFrame x 0) (copies x).slots
    (all_early x is (held_once x is k rules) 0 (λ n. let near = is.frameable.near n in omega (arith, near))) e
    (contained (copies x).slots e listed) in
    told_inside (offsets x) e.slot early.offset early.told
