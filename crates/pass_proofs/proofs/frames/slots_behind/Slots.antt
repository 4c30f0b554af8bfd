-- What lies in the frame are coroutine slots, flagged allocas of the entry block.
use Rattle.std.proofs.Common.{◌≡◌, ◌⊎◌, inl, inr, ⊎_elim, ℕ, suc, ◌+◌, ◌<◌, ◌≤◌, Bool, true, false, List, [], ◌∷◌, length, refl, sym, ap, ◌∙◌, subst, arith}
use Rattle.std.proofs.lemmas.Bool.{cases_lt}
use Rattle.std.proofs.lemmas.List.{length-replicate}
use Rattle.std.specs.Prelude.{None, Option, Some, flat_map, not, replicate, slice_get, ◌==◌}
use Rattle.pass_exits_proof.specs.addresses.rules.Addresses.{lies_in_frame}
use Rattle.pass_copies.specs.Slots.{entry_instrs}
use Rattle.pass_exits_proof.proofs.addresses.begin_order.Early.{in_frame}
use Rattle.pass_proofs.proofs.frames.begin_order.Framed.{frame_alone, none_there}
use Rattle.pass_exits_proof.proofs.ir_laws.paths.begin_order.Framed.{get_listed}
use Rattle.pass_proofs.proofs.frames.begin_order.Tables.{IsOfClass, IsSlotAt, IsSlotHeld, flagged_slot, frame_slot, in_blocks, in_params, slot_at}
use Rattle.pass_proofs.specs.frames.begin_order.Behind.{IsEntrySlot}
use Rattle.pass_proofs.specs.frames.begin_order.Frames.{slot_offsets}
use Rattle.pass_exits_proof.proofs.rule_laws.rules.counted.PartFacts.{block_passes}
use Rattle.pass_exits_proof.proofs.rule_laws.rules.counted.Slots.{alloca_slot}
use Rattle.pass_exits_proof.specs.frame_contents.Frames.{AreContents}
use Rattle.pass_exits_proof.specs.frame_contents.Held.{crossing_values, frame_slots, held_blocks, held_of, held_params}
use Rattle.pass_exits_proof.specs.frame_contents.declared.contents.Contents.{Contents}
use Rattle.pass_exits_proof.proofs.ir_laws.facts.Members.{at_each}
use Rattle.pass_exits_proof.proofs.ir_laws.facts.Truth.{equal_numbers, holds}
use Rattle.pass_exits_proof.proofs.rule_laws.rules.local_rules.Names.{numbers}
use Rattle.pass_exits_proof.proofs.rule_laws.rules.local_rules.ValueKinds.{kind_none}
use Rattle.pass_exits_proof.proofs.rule_laws.rules.local_rules.Woven.{apart_names}
use Rattle.pass_exits_proof.proofs.ir_laws.paths.source_rules.Locals.{Apart, listed_either}
use Rattle.pass_exits_proof.proofs.rule_laws.rules.source_rules.Locals.{names_are}
use Rattle.pass_exits_proof.specs.flow_solver.Paths.{IsListed}
use Rattle.pass_exits_proof.specs.frame_layout.declared.layout.Layout.{Layout}
use Rattle.pass_exits_proof.specs.ir_parts.Locals.{locals_of}
use Rattle.pass_exits_proof.specs.rule_laws.rules.function_rules.Kept.{KeepsFunctionRules}
use Rattle.ir_model.specs.Ty.{Ty}
use Rattle.ir_model.specs.declared.instr.Instr.{Instr}
use Rattle.ir_model.specs.declared.module.Block.{Block}
use Rattle.ir_model.specs.declared.module.Function.{Function}
use Rattle.ir_model.specs.declared.module.Module.{Module}
use Rattle.pass_exits_proof.specs.ir_paths.Slots.{allocas_in, allocas_of, has_name, promise_of}
use Rattle.pass_exits_proof.specs.rule_locals.Entries.{allocates_late, first_late_alloca, is_past_entry}
use Rattle.pass_exits_proof.specs.rule_locals.Instrs.{on_instr}
use Rattle.pass_exits_proof.specs.frame_classes.Classes.{IsOf}
use Rattle.pass_exits_proof.specs.frame_classes.declared.class.SlotClass.{SlotClass}
use Rattle.pass_exits_proof.proofs.rule_laws.rule_slots.Chains.{itself-is}
use Rattle.pass_exits_proof.specs.rule_slots.Slots.{IsSlotAddress}
use Rattle.pass_frames.specs.Tables.{class_flags, is_of}
use Rattle.pass_exits_proof.proofs.rule_laws.frame_crossing.Numbering.{name_at}
use Rattle.pass_exits_proof.specs.rule_values.Kinds.{value_kind}
use Rattle.pass_exits_proof.specs.rule_values.declared.kinds.Kind.{Kind}
use Rattle.pass_exits_proof.proofs.rule_laws.rules.woven_rules.Once.{apart_once, names_below}
use Rattle.pass_exits_proof.specs.ir_laws.facts.woven_rules.Pairs.{times}

-- ---- allocas stand in the entry block

record IsIn (bs : List Block) (v : ℕ) : Type 0 where
  at : ℕ
  block : Block
  got : slice_get bs at ≡ Some block
  listed : IsListed v (allocas_in block.instrs)

alloca_in : (bs : List Block) (v : ℕ) → IsListed v (flat_map (λ (b : Block). allocas_in b.instrs) bs) → IsIn bs v
alloca_in [] v l = absurd l
alloca_in (b ∷ bs) v l =
    ⊎_elim (λ a. record { at = 0; block = b; got = refl; listed = a })
    (λ r. let x = alloca_in bs v r in record { at = suc x.at; block = x.block; got = x.got; listed = x.listed })
    (listed_either v (allocas_in b.instrs) (flat_map (λ (c : Block). allocas_in c.instrs) bs) l)

record IsAllocaAt (is : List Instr) (v : ℕ) : Type 0 where
  at : ℕ
  ty : Ty
  align : ℕ
  stands : slice_get is at ≡ Some (Instr.Alloca v ty align)

alloca_at : (is : List Instr) (v : ℕ) → IsListed v (allocas_in is) → IsAllocaAt is v
alloca_at [] v l = absurd l
alloca_at (Instr.Alloca r ty align ∷ is) v (inl e) = record { at = 0; ty = ty; align = align; stands = ap (λ (n : ℕ). Some (Instr.Alloca n ty align)) (sym e) }
alloca_at (Instr.Alloca r ty align ∷ is) v (inr l) = let x = alloca_at is v l in record { at = suc x.at; ty = x.ty; align = x.align; stands = x.stands }
alloca_at (_ ∷ is) v l = let x = alloca_at is v l in record { at = suc x.at; ty = x.ty; align = x.align; stands = x.stands }

first_is : (bs : List Block) (b : Block) → slice_get bs 0 ≡ Some b → b.instrs ≡ entry_instrs bs
first_is [] b e = absurd (cc)
first_is (c ∷ bs) b e = let same : b ≡ c = cc in ap (λ (d : Block). d.instrs) same

entry_alloca : (k : ℕ) (f : Function) (v : ℕ) → first_late_alloca k f ≡ None → IsListed v (allocas_of f) → IsListed v (allocas_in (entry_instrs f.blocks))
entry_alloca k f v early l =
    let x = alloca_in f.blocks v l in
    let y = alloca_at x.block.instrs v x.listed in
    let late = at_each _ x.block.instrs y.at (Instr.Alloca v y.ty y.align) (block_passes (on_instr allocates_late) k f early x.at x.block x.got).instrs y.stands in
    let past : not (x.at == 0) ≡ false = ap is_past_entry (sym late.1) ∙ late.2 in
    let first : x.at ≡ 0 = equal_numbers x.at 0 (holds (x.at == 0) past) in
    subst (λ (is : List Instr). IsListed v (allocas_in is)) (first_is f.blocks x.block (ap (slice_get f.blocks) (sym first) ∙ x.got)) x.listed

-- ---- the coroutine

module _ (m : Module) (k : ℕ) (l : Layout) (f : Function) (c : Contents) (names : ℕ) (rules : KeepsFunctionRules m k f) (contents : AreContents m f c) where
  abbrev offsets : List (Option ℕ)
  offsets = slot_offsets l c names

  slot_held : (v d : ℕ) → IsSlotAt l c.held v d → IsOfClass SlotClass.Frame c.classes 0 (allocas_of f) v
  slot_held v d y =
      let is_value : ℕ → Bool = has_name (crossing_values c.crossing) in
      let is_slot : ℕ → Bool = has_name (frame_slots f c.classes) in
      let listed : IsListed y.held (held_of m f c.classes c.crossing) = subst (IsListed y.held) contents.held_are y.listed in
      let held : IsSlotHeld is_slot (allocas_of f) y.held =
      ⊎_elim (λ a. in_params is_value f.params is_slot (allocas_of f) y.held a) (λ b. in_blocks m (promise_of f) is_value is_slot f.blocks y.held b)
      (listed_either y.held (held_params is_value f.params) (held_blocks m (promise_of f) is_value is_slot f.blocks) listed) in
      subst (IsOfClass SlotClass.Frame c.classes 0 (allocas_of f)) y.value (frame_slot c.classes 0 (allocas_of f) y.held.value (held y.slot).1)

  module _ (v : ℕ) (lies : lies_in_frame offsets v ≡ true) where
    slot : IsOfClass SlotClass.Frame c.classes 0 (allocas_of f) v
    slot =
        let y = in_frame offsets v lies in
        slot_held v y.0 (⊎_elim (λ h. absurd (none_there names v y.0 h)) (λ z. z) (slot_at l 0 c.held (replicate names None) v y.0 y.1))

    listed : IsListed v (allocas_of f)
    listed = get_listed (allocas_of f) slot.number v slot.slot

    is_frame : IsOf f v SlotClass.Frame
    is_frame =
        let n : ℕ = slot.number in
        let same : 0 + n ≡ n = omega arith in
        contents.classes_are.each slot.number v SlotClass.Frame slot.slot (frame_alone (slice_get c.classes slot.number) (ap (λ (j : ℕ). is_of SlotClass.Frame (slice_get c.classes j)) (sym same) ∙ slot.class_is))

    once : times v (numbers f) ≤ 1
    once = apart_once (numbers f) (subst Apart (names_are k f) (apart_names [] (locals_of k f) rules.definitions)) v

    low : v < length f.names
    low = on (cases_lt v (length f.names))
      where
        pointer : value_kind f v ≡ Some Kind.Ptr
        pointer = (alloca_slot m k f v once rules.local.allocas listed).kind

        on : (v < length f.names) ⊎ (length f.names ≤ v) → v < length f.names
        on (inl lt) = lt
        on (inr le) =
            let none : None ≡ Some Kind.Ptr = sym (kind_none f v (λ h. let lt = names_below k f rules.tabled v h in omega (arith, lt, le))) ∙ pointer in
            absurd (cc)

    pub slot_address : IsSlotAddress f v
    slot_address = record { slot = v; is_slot = (name_at (allocas_of f) slot.number v slot.slot, is_frame.0); is_address = itself-is f v }

    pub entry_slot : IsEntrySlot f (class_flags f c.classes SlotClass.Frame) v
    entry_slot =
        let long : length (replicate (length f.names) false) ≡ length f.names = length-replicate (length f.names) false in
        let lt = low in
        record {
          flagged = flagged_slot SlotClass.Frame c.classes 0 (allocas_of f) (replicate (length f.names) false) slot.number v slot.slot slot.class_is (omega (arith, long, lt));
          alloca = entry_alloca k f v rules.local.allocas listed;
        }
