-- A frame slot lies in the frame.
use Rattle.std.proofs.Common.{◌≡◌, inl, inr, ⊎_elim, ℕ, zero, suc, ◌+◌, ◌<◌, Bool, true, false, List, [], ◌∷◌, ◌++◌, Option, Some, None, length, refl, sym, ap, ◌∙◌, subst, arith}
use Rattle.std.specs.Prelude.{flat_map, if◌then◌else◌, not, option_to_list, slice_get, unwrap_or}
use Rattle.compiler_theorem.proofs.theorem.Needed.{named_in, some_class, stands_at}
use Rattle.compiler_theorem.proofs.theorem.shown.Contents.{class_once}
use Rattle.compiler.specs.flow_solver.Paths.{IsListed}
use Rattle.compiler.specs.frame_classes.Classes.{IsOf}
use Rattle.compiler.specs.frame_classes.declared.class.SlotClass.{SlotClass}
use Rattle.compiler.specs.frame_contents.Held.{crossing_values, frame_slots, frame_slots_from, held_blocks, held_instr, held_instrs, held_params, held_phis, is_frame, slot_held}
use Rattle.compiler.specs.frame_contents.declared.held.Holding.{Holding}
use Rattle.compiler.specs.frame_layout.declared.layout.FieldKind.{FieldKind}
use Rattle.compiler.proofs.ir_laws.facts.Lists.{below}
use Rattle.compiler.proofs.ir_laws.paths.source_rules.Locals.{listed_either, listed_left, listed_right}
use Rattle.compiler.proofs.ir_laws.paths.uses.Paths.{place_of}
use Rattle.compiler.specs.ir_model.declared.instr.Instr.{Instr}
use Rattle.compiler.specs.ir_model.declared.module.Block.{Block}
use Rattle.compiler.specs.ir_model.declared.module.Module.{Module}
use Rattle.compiler.specs.ir_paths.Slots.{allocas_in, allocas_of, has_name, promise_of}
use Rattle.compiler.specs.pass_addresses.Placing.{is_none}
use Rattle.compiler.specs.pass_frames.Tables.{is_slot_kind, offset_at}
use Rattle.pass_frames_meaning.proofs.placed.Placed.{held_once}
use Rattle.pass_frames_meaning.proofs.pass_frames_proof.offsets.Tables.{slots_told}
use Rattle.pass_frames_meaning.specs.pass_frames_proof.Framings.{IsFraming}
use Rattle.pass_frames_meaning.specs.pass_frames_proof.Places.{Framing, edged, offsets, with_copies}
use Rattle.compiler.specs.pass_proofs.addresses.rules.Addresses.{lies_in_frame}
use Rattle.compiler.specs.rule_laws.rules.function_rules.Kept.{KeepsFunctionRules}

-- ---- its class

frame_named : (classes : List SlotClass) (k : ℕ) (slots : List ℕ) (j v : ℕ) → slice_get slots j ≡ Some v
    → slice_get classes (k + j) ≡ Some SlotClass.Frame → IsListed v (frame_slots_from classes k slots)
frame_named classes k [] j v e d = absurd (cc)
frame_named classes k (s ∷ slots) zero v e d =
    let same : s ≡ v = cc in
    let here : k ≡ k + 0 = omega arith in
    let is : slice_get classes k ≡ Some SlotClass.Frame = ap (slice_get classes) here ∙ d in
    listed_left v (if is_frame (slice_get classes k) then s ∷ [] else []) (frame_slots_from classes (k + 1) slots)
    (subst (λ (o : Option SlotClass). IsListed v (if is_frame o then s ∷ [] else [])) (sym is) (inl (sym same)))
frame_named classes k (s ∷ slots) (suc j) v e d =
    let next : k + 1 + j ≡ k + suc j = omega arith in
    listed_right v (if is_frame (slice_get classes k) then s ∷ [] else []) (frame_slots_from classes (k + 1) slots)
    (frame_named classes (k + 1) slots j v e (ap (slice_get classes) next ∙ d))

-- ---- what is held

record IsSlotHeld (v : ℕ) (hs : List Holding) : Type 0 where
  held : Holding
  listed : IsListed held hs
  value : held.value ≡ v
  slot : is_slot_kind held.kind ≡ true

before : (v : ℕ) (hs ks : List Holding) → IsSlotHeld v hs → IsSlotHeld v (hs ++ ks)
before v hs ks x =
    record { held = x.held; listed = listed_left x.held hs ks x.listed; value = x.value; slot = x.slot }

behind : (v : ℕ) (hs ks : List Holding) → IsSlotHeld v ks → IsSlotHeld v (hs ++ ks)
behind v hs ks x =
    record { held = x.held; listed = listed_right x.held hs ks x.listed; value = x.value; slot = x.slot }

module _ (m : Module) (promise : Option ℕ) (is_value is_slot : ℕ → Bool) where
  slots_kind : (b : Bool) → is_slot_kind (if b then FieldKind.Promise else FieldKind.Slot) ≡ true
  slots_kind true = refl
  slots_kind false = refl

  instrs_hold : (is : List Instr) (v : ℕ) → IsListed v (allocas_in is) → is_slot v ≡ true
      → IsSlotHeld v (held_instrs m promise is_value is_slot is)
  instrs_hold [] v l s = absurd l
  instrs_hold (Instr.Alloca r ty align ∷ is) v (inl e) s = on (is_slot r) (ap is_slot (sym e) ∙ s)
    where
      on : (b : Bool) → b ≡ true
          → IsSlotHeld v
          ((if b then slot_held m promise r ty align ∷ [] else []) ++ held_instrs m promise is_value is_slot is)
      on true d = record {
        held = slot_held m promise r ty align;
        listed = inl refl;
        value = sym e;
        slot = slots_kind (has_name (option_to_list promise) r);
      }
      on false d = absurd (cc)
  instrs_hold (Instr.Alloca r ty align ∷ is) v (inr l) s =
      behind v (held_instr m promise is_value is_slot (Instr.Alloca r ty align))
      (held_instrs m promise is_value is_slot is) (instrs_hold is v l s)
  instrs_hold (i ∷ is) v l s =
      behind v (held_instr m promise is_value is_slot i) (held_instrs m promise is_value is_slot is)
      (instrs_hold is v l s)

  blocks_hold : (bs : List Block) (v : ℕ) → IsListed v (flat_map (λ (b : Block). allocas_in b.instrs) bs)
      → is_slot v ≡ true → IsSlotHeld v (held_blocks m promise is_value is_slot bs)
  blocks_hold [] v l s = absurd l
  blocks_hold (b ∷ bs) v l s =
      let phis : List Holding = held_phis is_value b.phis in
      let here : List Holding = held_instrs m promise is_value is_slot b.instrs in
      let rest : List Holding = held_blocks m promise is_value is_slot bs in
      ⊎_elim
      (λ (one : IsListed v (allocas_in b.instrs)).
      before v (phis ++ here) rest (behind v phis here (instrs_hold b.instrs v one s)))
      (λ (more : IsListed v (flat_map (λ (c : Block). allocas_in c.instrs) bs)).
      behind v (phis ++ here) rest (blocks_hold bs v more s))
      (listed_either v (allocas_in b.instrs) (flat_map (λ (c : Block). allocas_in c.instrs) bs) l)

-- what has an offset lies in the frame
lies_by : (table : List (Option ℕ)) (v u d : ℕ) → u ≡ v → slice_get table u ≡ Some (Some d)
    → lies_in_frame table v ≡ true
lies_by table v u d same e =
    ap (λ (o : Option (Option ℕ)). not (is_none (unwrap_or o None))) (ap (slice_get table) (sym same) ∙ e)

-- ---- of a coroutine

module _ (x : Framing) (is : IsFraming x) (position : ℕ) (rules : KeepsFunctionRules x.code position x.function)
    (v : ℕ)
    (slot : IsListed v (allocas_of x.function)) (frame : IsOf x.function v SlotClass.Frame) where
  frame_slot : IsListed v (frame_slots x.function x.contents.classes)
  frame_slot =
      let at = stands_at v (allocas_of x.function) slot in
      let are = is.frameable.contents.classes_are in
      let c = some_class x.contents.classes at.at (subst (λ (n : ℕ). at.at < n) (sym are.count)
      (below (allocas_of x.function) at.at v at.there)) in
      let same : c.0 ≡ SlotClass.Frame =
      class_once x.function v c.0 SlotClass.Frame (are.each at.at v c.0 at.there c.1) frame in
      frame_named x.contents.classes 0 (allocas_of x.function) at.at v at.there
      (start at.at ∙ c.1 ∙ ap (λ (k : SlotClass). Some k) same)
    where
      start : (n : ℕ) → slice_get x.contents.classes (0 + n) ≡ slice_get x.contents.classes n
      start n = let same : 0 + n ≡ n = omega arith in ap (slice_get x.contents.classes) same

  held : IsSlotHeld v x.contents.held
  held =
      let is_value : ℕ → Bool = has_name (crossing_values x.contents.crossing) in
      let is_slot : ℕ → Bool = has_name (frame_slots x.function x.contents.classes) in
      subst (IsSlotHeld v) (sym is.frameable.contents.held_are)
      (behind v (held_params is_value x.function.params) _
      (blocks_hold x.code (promise_of x.function) is_value is_slot x.function.blocks v slot
      (named_in v (frame_slots x.function x.contents.classes) frame_slot)))

  pub frame_lies : v < length (edged x).names → v < length (with_copies x).names → lies_in_frame (offsets x) v ≡ true
  frame_lies known low =
      let h = held in
      let at = place_of x.contents.held h.held h.listed in
      let told = slots_told x.layout x.function x.contents (length (with_copies x).names) at.0 h.held
      (held_once x is position rules) at.1 h.slot
      (subst (λ (n : ℕ). n < length (with_copies x).names) (sym h.value) low)
      (subst (λ (n : ℕ). n < length (edged x).names) (sym h.value) known) in
      lies_by (offsets x) v h.held.value (offset_at x.layout at.0) h.value told
