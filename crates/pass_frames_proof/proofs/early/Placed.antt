-- Slots that are used before begin lie in the frame, at the offsets of their places among what is held.
use Rattle.std.proofs.Common.{◌≡◌, ◌≢◌, ◌+◌, ◌<◌, ◌≤◌, ◌^◌, ◌∙◌, ◌∷◌, ◌++◌, [], Bool, List, None, Option, Some, ap, arith, false, inl, inr, length, refl, replicate, subst, suc, sym, true, zero, ℕ, ⊎_elim}
use Rattle.std.specs.Prelude.{flat_map, if◌then◌else◌, option_to_list, slice_get, ◌==◌, ◌||◌}
use Rattle.pass_frames_steps.specs.flow_solver.Paths.{IsListed}
use Rattle.pass_frames_steps.specs.frame_classes.declared.class.SlotClass.{SlotClass}
use Rattle.pass_frames_steps.specs.frame_contents.Held.{crossing_values, frame_slots, frame_slots_from, held_blocks, held_instr, held_instrs, held_params, held_phis, is_frame, position_from, slot_held}
use Rattle.pass_frames_steps.specs.frame_contents.declared.held.Holding.{Holding}
use Rattle.pass_frames_steps.specs.frame_layout.declared.layout.FieldKind.{FieldKind}
use Rattle.pass_frames_steps.specs.ir_base.declared.name.Name.{Name}
use Rattle.pass_frames_steps.proofs.ir_laws.facts.Truth.{equal_numbers, itself}
use Rattle.pass_frames_steps.proofs.ir_laws.paths.begin_order.Framed.{get_listed}
use Rattle.pass_frames_steps.proofs.ir_laws.paths.source_rules.Locals.{listed_either, listed_left, listed_right}
use Rattle.pass_frames_steps.specs.ir_model.declared.instr.Instr.{Instr}
use Rattle.pass_frames_steps.specs.ir_model.declared.module.Block.{Block}
use Rattle.pass_frames_steps.specs.ir_model.declared.module.Module.{Module}
use Rattle.pass_frames_steps.specs.ir_model.declared.operand.Operand.{Operand}
use Rattle.pass_frames_steps.proofs.ir_paths.Search.{or_right}
use Rattle.pass_frames_steps.specs.ir_paths.Slots.{allocas_in, allocas_of, has_name, promise_of}
use Rattle.pass_frames_steps.specs.pass_copies.Slots.{entry_instrs, slot_names}
use Rattle.pass_frames_steps.specs.pass_copies.Uses.{flag_at, used_before}
use Rattle.pass_frames_steps.specs.pass_copies.declared.slot.EarlySlot.{EarlySlot}
use Rattle.pass_frames_steps.specs.pass_fetch.Fetching.{fetch_of}
use Rattle.pass_frames_steps.specs.pass_frames.Tables.{class_flags, is_of, is_slot_kind, offset_at, sizes_by_name}
use Rattle.pass_frames_steps.proofs.code.Left.{Far, far_named, longer}
use Rattle.pass_frames_steps.proofs.code.Names.{First, blocks_mark, far_left, never, slot_used}
use Rattle.pass_frames_proof.proofs.from_edges.Front.{listed_contains}
use Rattle.pass_frames_steps.proofs.offsets.Tables.{slots_told}
use Rattle.pass_frames_steps.proofs.stepping.Names.{edged_named, named_written, slots_new, where_is_name}
use Rattle.pass_frames_steps.specs.Code.{slot_table}
use Rattle.pass_frames_steps.specs.Framings.{IsFraming}
use Rattle.pass_frames_steps.specs.FromEdges.{IsEarlyInFrame}
use Rattle.pass_frames_steps.specs.Offsets.{AreHeldOnce}
use Rattle.pass_frames_steps.specs.Places.{Framing, before_labels, copies, named, offsets, with_copies, written}
use Rattle.pass_frames_steps.proofs.pass_proofs.frames.begin_order.Framed.{alloca_pointer, pointer_low, slot_alloca}
use Rattle.pass_frames_steps.proofs.pass_proofs.frames.begin_order.Tables.{IsOfClass, slot_flagged}
use Rattle.pass_frames_steps.specs.run_laws.changed.Changed.{Each}

-- ---- slots that are held

-- a slot of the name is held
pub record IsHeld (hs : List Holding) (v : ℕ) : Type 0 where
  pub held : Holding
  pub listed : IsListed held hs
  pub slot : is_slot_kind held.kind ≡ true
  pub value : held.value ≡ v

wider : (xs ys : List Holding) (v : ℕ) → IsHeld ys v → IsHeld (xs ++ ys) v
wider xs ys v h =
    record { held = h.held; listed = listed_right h.held xs ys h.listed; slot = h.slot; value = h.value }

narrower : (xs ys : List Holding) (v : ℕ) → IsHeld xs v → IsHeld (xs ++ ys) v
narrower xs ys v h =
    record { held = h.held; listed = listed_left h.held xs ys h.listed; slot = h.slot; value = h.value }

kind_is : (b : Bool) → is_slot_kind (if b then FieldKind.Promise else FieldKind.Slot) ≡ true
kind_is true = refl
kind_is false = refl

module _ (m : Module) (promise : Option ℕ) (is_value is_slot : ℕ → Bool) where
  abbrev Held : List Instr → List Holding
  Held is = held_instrs m promise is_value is_slot is

  in_instrs : (is : List Instr) (v : ℕ) → IsListed v (allocas_in is) → is_slot v ≡ true → IsHeld (Held is) v
  in_instrs [] v l f = absurd l
  in_instrs (Instr.Alloca r ty align ∷ is) v (inl e) f = on (is_slot r) (ap is_slot (sym e) ∙ f)
    where
      on : (b : Bool) → b ≡ true
          → IsHeld ((if b then slot_held m promise r ty align ∷ [] else []) ++ Held is) v
      on true d = record {
        held = slot_held m promise r ty align;
        listed = inl refl;
        slot = kind_is (has_name (option_to_list promise) r);
        value = sym e;
      }
      on false d = absurd (cc)
  in_instrs (Instr.Alloca r ty align ∷ is) v (inr l) f =
      wider (if is_slot r then slot_held m promise r ty align ∷ [] else []) (Held is) v (in_instrs is v l f)
  in_instrs (i ∷ is) v l f = wider (held_instr m promise is_value is_slot i) (Held is) v (in_instrs is v l f)

  in_blocks : (bs : List Block) (v : ℕ) → IsListed v (flat_map (λ (b : Block). allocas_in b.instrs) bs)
      → is_slot v ≡ true → IsHeld (held_blocks m promise is_value is_slot bs) v
  in_blocks [] v l f = absurd l
  in_blocks (b ∷ bs) v l f =
      ⊎_elim
      (λ here. narrower (held_phis is_value b.phis ++ Held b.instrs) (held_blocks m promise is_value is_slot bs) v
      (wider (held_phis is_value b.phis) (Held b.instrs) v (in_instrs b.instrs v here f)))
      (λ more. wider (held_phis is_value b.phis ++ Held b.instrs) (held_blocks m promise is_value is_slot bs) v
      (in_blocks bs v more f))
      (listed_either v (allocas_in b.instrs) (flat_map (λ (c : Block). allocas_in c.instrs) bs) l)

-- ---- the first place

place_of : {A : Type 0} (xs : List A) (x : A) → IsListed x xs → (n : ℕ) × (slice_get xs n ≡ Some x)
place_of [] x l = absurd l
place_of (y ∷ ys) x (inl e) = (0, ap Some (sym e))
place_of (y ∷ ys) x (inr l) = let p = place_of ys x l in (suc p.0, p.1)

record IsFirst (k : ℕ) (hs : List Holding) (v : ℕ) : Type 0 where
  number : ℕ
  held : Holding
  there : slice_get hs number ≡ Some held
  value : held.value ≡ v
  position : position_from k hs v ≡ Some (k + number)

first_of : (k : ℕ) (hs : List Holding) (v : ℕ) (h : Holding) → IsListed h hs → h.value ≡ v → IsFirst k hs v
first_of k [] v h l e = absurd l
first_of k (x ∷ hs) v h l e = on (x.value == v) refl l (λ more. first_of (k + 1) hs v h more e)
  where
    on : (b : Bool) → (x.value == v) ≡ b → IsListed h (x ∷ hs) → (IsListed h hs → IsFirst (k + 1) hs v)
        → IsFirst k (x ∷ hs) v
    on true d j next =
        let none : k ≡ k + 0 = omega arith in
        record {
          number = 0;
          held = x;
          there = refl;
          value = equal_numbers x.value v d;
          position =
              ap (λ (b : Bool). if b then Some k else position_from (k + 1) hs v) d
              ∙ ap (λ (n : ℕ). Some n) none;
        }
    on false d (inl same) next =
        let equal : x.value ≡ v = ap (λ (y : Holding). y.value) (sym same) ∙ e in
        let yes : false ≡ true = sym d ∙ ap (λ (n : ℕ). n == v) equal ∙ itself v in
        absurd (cc)
    on false d (inr more) next =
        let p = next more in
        let n : ℕ = p.number in
        let further : k + 1 + n ≡ k + suc n = omega arith in
        record {
          number = suc p.number;
          held = p.held;
          there = p.there;
          value = p.value;
          position =
              ap (λ (b : Bool). if b then Some k else position_from (k + 1) hs v) d
              ∙ p.position ∙ ap (λ (j : ℕ). Some j) further;
        }

-- ---- slots of the frame

frame_of : (o : Option SlotClass) → is_of SlotClass.Frame o ≡ true → is_frame o ≡ true
frame_of None e = absurd (cc)
frame_of (Some SlotClass.Ramp) e = absurd (cc)
frame_of (Some SlotClass.Local) e = absurd (cc)
frame_of (Some SlotClass.Frame) e = refl

frame_named : (classes : List SlotClass) (k : ℕ) (slots : List ℕ) (v n : ℕ) → slice_get slots n ≡ Some v
    → is_of SlotClass.Frame (slice_get classes (k + n)) ≡ true → has_name (frame_slots_from classes k slots) v ≡ true
frame_named classes k [] v n e f = absurd (cc)
frame_named classes k (s ∷ slots) v zero e f =
    on (is_frame (slice_get classes k))
    (frame_of (slice_get classes k) (ap (λ (j : ℕ). is_of SlotClass.Frame (slice_get classes j)) here ∙ f))
  where
    here : k ≡ k + 0
    here = omega arith

    on : (b : Bool) → b ≡ true
        → has_name ((if b then s ∷ [] else []) ++ frame_slots_from classes (k + 1) slots) v ≡ true
    on true d =
        let same : s ≡ v = cc in
        ap (λ (b : Bool). b || has_name (frame_slots_from classes (k + 1) slots) v)
        (ap (λ (j : ℕ). j == v) same ∙ itself v)
    on false d = absurd (cc)
frame_named classes k (s ∷ slots) v (suc n) e f =
    on (is_frame (slice_get classes k))
    (frame_named classes (k + 1) slots v n e
    (ap (λ (j : ℕ). is_of SlotClass.Frame (slice_get classes j)) next ∙ f))
  where
    next : k + 1 + n ≡ k + suc n
    next = omega arith

    on : (b : Bool) → has_name (frame_slots_from classes (k + 1) slots) v ≡ true
        → has_name ((if b then s ∷ [] else []) ++ frame_slots_from classes (k + 1) slots) v ≡ true
    on true rest = or_right (s == v) (has_name (frame_slots_from classes (k + 1) slots) v) rest
    on false rest = rest

-- ---- each of a coroutine's

pub each_listed : {A : Type 0} (P : A → Type 0) (xs : List A) → ((x : A) → IsListed x xs → P x) → Each P xs
each_listed P [] h = tt
each_listed P (x ∷ xs) h = (h x (inl refl), each_listed P xs (λ y l. h y (inr l)))

module _ (x : Framing) where
  abbrev pub slots : List Bool
  slots = class_flags x.function x.contents.classes SlotClass.Frame

  abbrev pub used : List Bool
  used = used_before (written x) slots (before_labels x)

  pub flagged_slot : (s : EarlySlot) → IsListed s (copies x).slots → flag_at slots s.slot ≡ true
  flagged_slot s l =
      let flagged : flag_at used s.slot ≡ true =
      slot_used used (sizes_by_name x.function x.contents.held) (length (written x).names)
      (entry_instrs (written x).blocks) s l in
      ⊎_elim (λ h. absurd (never (length (written x).names) s.slot h)) (λ h. h)
      (blocks_mark slots (before_labels x) (replicate (length (written x).names) false) (written x).blocks s.slot
      flagged)

module _ (x : Framing) (is : IsFraming x) where
  abbrev names : ℕ
  names = length (with_copies x).names

  abbrev pub Class : ℕ → Type 0
  Class v = IsOfClass SlotClass.Frame x.contents.classes 0 (allocas_of x.function) v

  pub frame_class : (s : EarlySlot) → IsListed s (copies x).slots → Class s.slot
  frame_class s l =
      ⊎_elim (λ h. absurd (never (length x.function.names) s.slot h)) (λ y. y)
      (slot_flagged SlotClass.Frame x.contents.classes 0 (allocas_of x.function)
      (replicate (length x.function.names) false) s.slot (flagged_slot x s l))

  pub slot_low : (s : EarlySlot) → Class s.slot → s.slot < First x is
  slot_low s c =
      pointer_low x.code is.position x.layout x.function x.contents is.begin names is.frameable s.slot
      (alloca_pointer x.code is.position x.layout x.function x.contents is.begin names is.frameable s.slot
      (slot_alloca x.code is.position x.layout x.function x.contents is.begin names is.frameable s.slot
      SlotClass.Frame c))

  copied_longer : length (written x).names ≤ names
  copied_longer =
      let own : List Name = (written x).names in
      let slots_too : List Name = slot_names (length (copies x).slots) in
      let one : length own ≤ length (own ++ slots_too) = longer own slots_too in
      let two : length (own ++ slots_too) ≤ names = longer (own ++ slots_too) _ in
      omega (arith, one, two)

  pub names_more : First x is ≤ names
  names_more =
      let one : First x is ≤ length (named x).names = edged_named x in
      let two : length (named x).names ≤ length (written x).names = named_written x in
      let three = copied_longer in
      omega (arith, one, two, three)

  abbrev Held_is : List Holding
  Held_is = x.contents.held

  pub held_there : (v : ℕ) → IsOfClass SlotClass.Frame x.contents.classes 0 (allocas_of x.function) v
      → IsHeld x.contents.held v
  held_there v c =
      let is_value : ℕ → Bool = has_name (crossing_values x.contents.crossing) in
      let is_slot : ℕ → Bool = has_name (frame_slots x.function x.contents.classes) in
      subst (λ (hs : List Holding). IsHeld hs v) (sym is.frameable.contents.held_are)
      (wider (held_params is_value x.function.params)
      (held_blocks x.code (promise_of x.function) is_value is_slot x.function.blocks) v
      (in_blocks x.code (promise_of x.function) is_value is_slot x.function.blocks v
      (get_listed (allocas_of x.function) c.number v c.slot)
      (frame_named x.contents.classes 0 (allocas_of x.function) v c.number c.slot c.class_is)))

  unplaced : (v : ℕ) → length (written x).names ≤ v → fetch_of (slot_table x) (Operand.Local v) ≡ None
  unplaced v high =
      let far : Far x is ≤ length (named x).names = far_named x is in
      let more : length (named x).names ≤ length (written x).names = named_written x in
      (far_left x is v (omega (arith, high, far, more))).0

  module _ (once : AreHeldOnce x.contents.held) (start : ℕ)
      (near : (n : ℕ) → start + offset_at x.layout n < 2 ^ 64) where
    one_early : (s : EarlySlot) → IsListed s (copies x).slots → IsEarlyInFrame x start s
    one_early s l =
        let c = frame_class s l in
        let h = held_there s.slot c in
        let p = first_of 0 Held_is s.slot h.held h.listed h.value in
        let q = place_of Held_is h.held h.listed in
        let same_place : q.0 ≡ p.number = once.each q.0 p.number h.held p.held q.1 p.there (h.value ∙ sym p.value) in
        let same : Some h.held ≡ Some p.held =
        sym q.1 ∙ ap (slice_get Held_is) same_place ∙ p.there in
        let equal : h.held ≡ p.held = cc in
        let kind : is_slot_kind p.held.kind ≡ true =
        ap (λ (y : Holding). is_slot_kind y.kind) (sym equal) ∙ h.slot in
        let low : s.slot < First x is = slot_low s c in
        let more : First x is ≤ names = names_more in
        let low_held : p.held.value < First x is = subst (λ (v : ℕ). v < First x is) (sym p.value) low in
        let n : ℕ = p.number in
        let none : 0 + n ≡ n = omega arith in
        record {
          offset = offset_at x.layout p.number;
          told =
              ap (slice_get (offsets x)) (sym p.value)
              ∙ slots_told x.layout x.function x.contents names p.number p.held once p.there kind
              (omega (arith, low_held, more)) low_held;
          near = near p.number;
          position = p.number;
          placed = p.position ∙ ap (λ (j : ℕ). Some j) none;
          same = refl;
          unfetched = unplaced s.cell (slots_new x s (listed_contains (copies x).slots s l)).1;
        }

    pub all_early : Each (IsEarlyInFrame x start) (copies x).slots
    all_early = each_listed (IsEarlyInFrame x start) (copies x).slots one_early

  pub temporaries_unplaced : Each (λ (s : EarlySlot). fetch_of (slot_table x) (Operand.Local s.temporary) ≡ None)
      (copies x).slots
  temporaries_unplaced =
      each_listed (λ (s : EarlySlot). fetch_of (slot_table x) (Operand.Local s.temporary) ≡ None) (copies x).slots
      (λ s l. unplaced s.temporary (slots_new x s (listed_contains (copies x).slots s l)).0)

-- no cell has the name of a temporary
pub cells_apart : (x : Framing) (s z : EarlySlot) → IsListed s (copies x).slots → IsListed z (copies x).slots
    → s.cell ≢ z.temporary
cells_apart x s z l k same =
    (where_is_name x s (listed_contains (copies x).slots s l)).no_temporary z (listed_contains (copies x).slots z k)
    (sym same)
