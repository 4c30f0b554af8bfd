-- Where begin stands, the slots that are used before it are made.
use Rattle.std.proofs.Common.{◌≡◌, ◌⊎◌, inl, inr, ⊎_elim, ℕ, zero, suc, ◌+◌, ◌<◌, Bool, true, false, List, [], ◌∷◌, ◌++◌, length, refl, sym, ap, ◌∙◌, subst, arith}
use Rattle.std.specs.Prelude.{None, Some, replicate, slice_get, slice_set, unwrap_or, if◌then◌else◌, ◌^◌}
use Rattle.pass_copies.specs.Slots.{early_slot, entry_instrs, resumed_at, set_resumed, slots_from}
use Rattle.pass_copies.specs.Uses.{flag_at, is_begin, used_before}
use Rattle.pass_copies.specs.declared.slot.EarlySlot.{EarlySlot}
use Rattle.pass_proofs.proofs.frames.begin_order.Blocks.{begins_first, flagged_back, none_before, none_begins, same_begin}
use Rattle.pass_exits_proof.proofs.copies.begin_order.Marks.{IsAccessed, IsAccessedAt, blocks_back, flag_other, none_flagged}
use Rattle.pass_exits_proof.specs.ir_laws.facts.begin_order.Behind.{AreSizes}
use Rattle.pass_exits_proof.specs.rule_laws.rules.begin_order.Behind.{access_operands}
use Rattle.pass_proofs.specs.frames.begin_order.Behind.{before_begin}
use Rattle.pass_exits_proof.specs.rule_laws.frames.counted.Asked.{IsAwayFromEntry}
use Rattle.pass_exits_proof.proofs.copies.rules.Slots.{IsAlloca, from_allocas}
use Rattle.pass_exits_proof.specs.copies.rules.Copies.{CopiesFit, HaveSlots, copied_slots}
use Rattle.pass_exits_proof.specs.rule_uses.Uses.{instr_uses, phi_values, uses_at, uses_of, values_at, values_in}
use Rattle.pass_exits_proof.proofs.rule_laws.rules.renamed.Uses.{none_undefined, of_block, three_kinds}
use Rattle.pass_exits_proof.proofs.ir_laws.facts.Members.{each_left, each_right}
use Rattle.pass_exits_proof.proofs.ir_laws.paths.source_rules.Locals.{listed_right}
use Rattle.pass_exits_proof.proofs.rule_laws.rules.source_rules.Locals.{made_by, own_label}
use Rattle.pass_exits_proof.specs.flow_solver.Paths.{IsListed}
use Rattle.pass_exits_proof.specs.ir_parts.Contents.{instr_operands, result_of}
use Rattle.pass_exits_proof.specs.ir_parts.Parts.{instr_place}
use Rattle.pass_exits_proof.specs.rule_laws.rules.function_rules.Kept.{KeepsFunctionRules}
use Rattle.pass_exits_proof.specs.pass_intrinsics.Shapes.{suspends_of}
use Rattle.pass_exits_proof.specs.pass_intrinsics.declared.shape.SuspendPoint.{SuspendPoint}
use Rattle.ir_model.specs.Names.{position_of}
use Rattle.ir_model.specs.declared.instr.Instr.{Instr}
use Rattle.ir_model.specs.declared.module.Block.{Block}
use Rattle.ir_model.specs.declared.module.Function.{Function}
use Rattle.ir_model.specs.declared.module.Module.{Module}
use Rattle.ir_model.specs.declared.operand.Callee.{Callee}
use Rattle.ir_model.specs.declared.operand.Intrinsic.{Intrinsic}
use Rattle.ir_model.specs.declared.operand.Operand.{Operand}
use Rattle.pass_frames.specs.Framed.{AreBefore, begin_block, has_begin}
use Rattle.pass_exits_proof.specs.run_laws.changed.Changed.{Each}
use Rattle.pass_exits_proof.proofs.rule_laws.rules.woven_rules.Pieces.{made_contains}
use Rattle.pass_exits_proof.proofs.ir_laws.paths.woven_rules.Unbroken.{each_listed, of_listed}
use Rattle.pass_exits_proof.proofs.rule_laws.rules.woven_rules.Uses.{IsFine, IsSound, entry_alone, sound_uses}
use Rattle.pass_exits_proof.specs.rule_laws.rules.woven_rules.Weaving.{IsThere}

-- ---- the slots

size_small : (sizes : List ℕ) (v : ℕ) → AreSizes sizes → unwrap_or (slice_get sizes v) 0 < 2 ^ 64
size_small [] v h = omega arith
size_small (n ∷ sizes) zero h = h.0
size_small (n ∷ sizes) (suc v) h = size_small sizes v h.1

-- a slot is flagged, and of a size of 64 bits
record IsOfUsed (used : List Bool) (s : EarlySlot) : Type 0 where
  flagged : flag_at used s.slot ≡ true
  small : s.size < 2 ^ 64

slots_used : (used : List Bool) (sizes : List ℕ) (n : ℕ) (is : List Instr) → AreSizes sizes → Each (IsOfUsed used) (slots_from used sizes n is)
slots_used used sizes n [] h = tt
slots_used used sizes n (Instr.Alloca r ty align ∷ is) h = on (flag_at used r) refl (slots_used used sizes n is h) (slots_used used sizes (n + 2) is h)
  where
    on : (b : Bool) → flag_at used r ≡ b → Each (IsOfUsed used) (slots_from used sizes n is) → Each (IsOfUsed used) (slots_from used sizes (n + 2) is) → Each (IsOfUsed used) ((if b then early_slot sizes n r ty align ∷ [] else []) ++ slots_from used sizes (if b then n + 2 else n) is)
    on true d same next = (record { flagged = d; small = size_small sizes r h }, next)
    on false d same next = same
slots_used used sizes n (_ ∷ is) h = slots_used used sizes n is h

-- ---- the labels of resume and destroy edges

resumed_elsewhere : (flags : List Bool) (ps : List SuspendPoint) (l : ℕ) → flag_at flags l ≡ false → ((p : SuspendPoint) → IsListed p ps → (p.resume ≡ l → ⊥) × (p.destroy ≡ l → ⊥)) → flag_at (set_resumed flags ps) l ≡ false
resumed_elsewhere flags [] l e h = e
resumed_elsewhere flags (p ∷ ps) l e h =
    let x = h p (inl refl) in
    resumed_elsewhere (slice_set (slice_set flags p.resume true) p.destroy true) ps l
    (flag_other (slice_set flags p.resume true) p.destroy l x.1 ∙ flag_other flags p.resume l x.0 ∙ e)
    (λ q m. h q (inr m))

-- ---- the entry block

module _ (f : Function) where
  grown : (block : ℕ) (before : List ℕ) (i : Instr) (v : ℕ) → IsThere f block before v → IsThere f block (made_by i ++ before) v
  grown block before i v h r none no_param = h r (λ l. none (listed_right v (made_by i) before l)) no_param

  -- an instruction with such an operand stands where its value is there
  sound_local : (block : ℕ) (before : List ℕ) (xs : List Operand) (v : ℕ) → Each (IsSound f block before) xs → IsListed (Operand.Local v) xs → IsThere f block before v
  sound_local block before xs v h l = of_listed (IsSound f block before) xs h (Operand.Local v) l

  accessed_operand : (i : Instr) (x : Operand) → IsListed x (access_operands i) → IsListed x (instr_operands i)
  accessed_operand (Instr.Load r ty a align) x l = l
  accessed_operand (Instr.Store a b align) x l = inr l
  accessed_operand (Instr.Call r must_tail ty (Callee.Intrinsic Intrinsic.MemcpyI64) args) x l = l
  accessed_operand (Instr.Call r must_tail ty (Callee.Intrinsic Intrinsic.MemcpyI32) args) x l = l
  accessed_operand _ x l = absurd l

  begin_accesses_none : (i : Instr) (x : Operand) → is_begin i ≡ true → IsListed x (access_operands i) → ⊥
  begin_accesses_none (Instr.Load r ty a align) x e l = absurd (cc)
  begin_accesses_none (Instr.Store a b align) x e l = absurd (cc)
  begin_accesses_none (Instr.Call r must_tail ty (Callee.Intrinsic Intrinsic.MemcpyI64) args) x e l = absurd (cc)
  begin_accesses_none (Instr.Call r must_tail ty (Callee.Intrinsic Intrinsic.MemcpyI32) args) x e l = absurd (cc)
  begin_accesses_none _ x e l = l

  -- the slot is there, or accessed before begin
  abbrev IsReady : List ℕ → List Instr → EarlySlot → Type 0
  IsReady before is s = IsThere f 0 before s.slot ⊎ IsAccessed s.slot is

  module _ (func : ℕ) (slots : List EarlySlot) where
    have_slots : (at : ℕ) (before : List ℕ) (is : List Instr) → Each (IsFine f) (instr_uses func 0 at before is) → ((s : EarlySlot) → IsListed s slots → IsReady before is s) → HaveSlots f slots 0 before is
    have_slots at before [] h ready = tt
    have_slots at before (i ∷ is) h ready =
        (λ e. each_listed (λ (s : EarlySlot). IsThere f 0 (made_by i ++ before) s.slot) slots (λ s l. grown 0 before i s.slot (at_begin e s (ready s l))), have_slots (at + 1) (made_by i ++ before) is later (λ s l. next s (ready s l)))
      where
        here : Each (IsFine f) (uses_at (instr_place func 0 at) 0 before (instr_operands i))
        here = each_left (IsFine f) (uses_at (instr_place func 0 at) 0 before (instr_operands i)) (instr_uses func 0 (at + 1) (made_by i ++ before) is) h

        later : Each (IsFine f) (instr_uses func 0 (at + 1) (made_by i ++ before) is)
        later = each_right (IsFine f) (uses_at (instr_place func 0 at) 0 before (instr_operands i)) (instr_uses func 0 (at + 1) (made_by i ++ before) is) h

        at_begin : is_begin i ≡ true → (s : EarlySlot) → IsReady before (i ∷ is) s → IsThere f 0 before s.slot
        at_begin e s (inl there) = there
        at_begin e s (inr (inl l)) = absurd (begin_accesses_none i (Operand.Local s.slot) e l)
        at_begin e s (inr (inr x)) = let t : true ≡ false = sym e ∙ x.0 in absurd (cc)

        next : (s : EarlySlot) → IsReady before (i ∷ is) s → IsReady (made_by i ++ before) is s
        next s (inl there) = inl (grown 0 before i s.slot there)
        next s (inr (inl l)) = inl (grown 0 before i s.slot (sound_local 0 before (instr_operands i) s.slot (sound_uses f (instr_place func 0 at) 0 before (instr_operands i) here) (accessed_operand i (Operand.Local s.slot) l)))
        next s (inr (inr x)) = inr x.1

    have_none : (block : ℕ) (before : List ℕ) (is : List Instr) → ((i : Instr) → IsListed i is → is_begin i ≡ true → ⊥) → HaveSlots f slots block before is
    have_none block before [] none = tt
    have_none block before (i ∷ is) none = (λ e. absurd (none i (inl refl) e), have_none block (made_by i ++ before) is (λ j l. none j (inr l)))

    -- in other blocks all slots of the entry block are there
    have_all : (block : ℕ) (before : List ℕ) (is : List Instr) → ((s : EarlySlot) → IsListed s slots → IsListed s.slot (values_at f 0)) → (block ≡ 0 → ⊥) → HaveSlots f slots block before is
    have_all block before [] made other = tt
    have_all block before (i ∷ is) made other =
        (λ e. each_listed (λ (s : EarlySlot). IsThere f block (made_by i ++ before) s.slot) slots (λ s l r none no_param. other (entry_alone f s.slot block (made s l) r)), have_all block (made_by i ++ before) is made other)

-- ---- all of it

module _ (m : Module) (k : ℕ) (f : Function) (flags : List Bool) (before : List ℕ) (sizes : List ℕ) (keeps : KeepsFunctionRules m k f) (are : AreBefore f before) (sized : AreSizes sizes) (away : (s : SuspendPoint) → IsListed s (suspends_of f) → IsAwayFromEntry f s) where
  abbrev Early : List Bool
  Early = before_begin f before

  abbrev Used : List Bool
  Used = used_before f flags Early

  abbrev Slots : List EarlySlot
  Slots = copied_slots f flags Early sizes

  all_used : Each (IsOfUsed Used) Slots
  all_used = slots_used Used sizes (length f.names) (entry_instrs f.blocks) sized

  used_of : (s : EarlySlot) → IsListed s Slots → IsOfUsed Used s
  used_of s l = of_listed (IsOfUsed Used) Slots all_used s l

  entry_away : (b : Block) → slice_get f.blocks 0 ≡ Some b → flag_at (resumed_at f) b.label ≡ false
  entry_away b e =
      let at_entry : position_of f b.label ≡ 0 = own_label k f keeps.definitions 0 b e in
      resumed_elsewhere (replicate (length f.names) false) (suspends_of f) b.label (none_flagged (length f.names) b.label)
      (λ p l. ((λ d. (away p l).resume (ap (position_of f) d ∙ at_entry)), (λ d. (away p l).destroy (ap (position_of f) d ∙ at_entry))))

  entry_block : (bs : List Block) (j : Instr) (v : ℕ) → IsListed j (entry_instrs bs) → result_of j ≡ Some v → IsListed v (values_in (slice_get bs 0))
  entry_block [] j v l e = absurd l
  entry_block (b ∷ bs) j v l e = made_contains (phi_values b) b.instrs j v l e

  slot_made : (s : EarlySlot) → IsListed s Slots → IsListed s.slot (values_at f 0)
  slot_made s l =
      let all = from_allocas Used sizes (length f.names) (entry_instrs f.blocks) (entry_instrs f.blocks) (λ j h. h) in
      entry_block f.blocks (Instr.Alloca s.slot s.ty s.align) s.slot (of_listed (IsAlloca (entry_instrs f.blocks)) Slots all s l) refl

  -- a slot that is accessed in front of begin is so in the entry block, where begin stands there
  accessed_in_entry : (b : Block) → slice_get f.blocks 0 ≡ Some b → begin_block f ≡ 0 → (s : EarlySlot) → IsListed s Slots → IsAccessed s.slot b.instrs
  accessed_in_entry b e first s l =
      ⊎_elim
      (λ h. let t : true ≡ false = sym h ∙ none_flagged (length f.names) s.slot in absurd (cc))
      (λ (x : IsAccessedAt flags Early f.blocks s.slot).
      let alone : IsListed x.at (begin_block f ∷ before) = flagged_back m k f keeps (begin_block f ∷ before) x.at x.block x.there x.flagged in
      let at_entry : x.at ≡ 0 = only x.at (subst (λ (bs : List ℕ). IsListed x.at (begin_block f ∷ bs)) (none_before f before are first) alone) in
      let both : Some x.block ≡ Some b = sym x.there ∙ ap (slice_get f.blocks) at_entry ∙ e in
      let same : x.block ≡ b = cc in
      subst (λ (c : Block). IsAccessed s.slot c.instrs) same x.accessed)
      (blocks_back flags Early (replicate (length f.names) false) f.blocks s.slot (used_of s l).flagged)
    where
      only : (at : ℕ) → IsListed at (begin_block f ∷ []) → at ≡ 0
      only at (inl d) = d ∙ first
      only at (inr d) = absurd d

  entry_uses : (b : Block) → slice_get f.blocks 0 ≡ Some b → Each (IsFine f) (instr_uses k 0 (length b.phis) (phi_values b) b.instrs)
  entry_uses b e = (three_kinds (IsFine f) f k 0 b (of_block (IsFine f) f k 0 b (none_undefined f (uses_of k f) None keeps.uses refl) e)).instrs

  begins : (at : ℕ) (b : Block) → slice_get f.blocks at ≡ Some b → HaveSlots f Slots at (phi_values b) b.instrs
  begins zero b e = on (has_begin b.instrs) refl
    where
      on : (c : Bool) → has_begin b.instrs ≡ c → HaveSlots f Slots 0 (phi_values b) b.instrs
      on true d = have_slots f k Slots (length b.phis) (phi_values b) b.instrs (entry_uses b e) (λ s l. inr (accessed_in_entry b e (begins_first f.blocks b e d) s l))
      on false d = have_none f k Slots 0 (phi_values b) b.instrs (λ i l h. none_begins b.instrs i d l (sym (same_begin i) ∙ h))
  begins (suc at) b e = have_all f k Slots (suc at) (phi_values b) b.instrs slot_made (λ d. absurd (omega (arith, d)))

  pub slots_before : CopiesFit f Slots
  slots_before =
      record {
        small = each_listed (λ (s : EarlySlot). s.size < 2 ^ 64) Slots (λ s l. (used_of s l).small);
        entry = entry_away;
        begins = begins;
      }
