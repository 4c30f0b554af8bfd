-- The field of a slot that is copied at begin lies apart from the fields of all other slots that the frame holds.
use Rattle.std.proofs.Common.{◌≡◌, ◌≢◌, ⊎_elim, inl, ℕ, suc, ◌+◌, Bool}
use Rattle.std.proofs.Common.{true, false, List, [], ◌∷◌, length, Option, Some}
use Rattle.std.proofs.Common.{refl, sym, ap, ◌∙◌, subst, arith}
use Rattle.std.specs.List.{Contains}
use Rattle.std.specs.Prelude.{if◌then◌else◌, replicate, slice_get, ◌==◌}
use Rattle.compiler_theorem.proofs.apart.Conflicts.{HasFramePlace, held_apart}
use Rattle.compiler_theorem.proofs.apart.EarlyApart.{used}
use Rattle.compiler_theorem.proofs.apart.Facts.{function, good, layout, own_rules}
use Rattle.compiler_theorem.proofs.kinds.Held.{listed_placed}
use Rattle.compiler_theorem.proofs.known.Names.{framed}
use Rattle.compiler_theorem.specs.theorem.Anew.{Anew, IsAnewOf}
use Rattle.compiler_theorem.specs.theorem.Asked.{asking}
use Rattle.compiler_theorem.specs.theorem.Entries.{IsEntryCall, Run}
use Rattle.compiler_theorem.specs.theorem.Lowered.{HasFewBytes, IsLowered, Lowered, early, edged}
use Rattle.compiler.specs.flow_solver.Paths.{IsListed}
use Rattle.compiler.specs.frame_classes.Classes.{IsOf}
use Rattle.compiler.specs.frame_classes.declared.class.SlotClass.{SlotClass}
use Rattle.compiler.specs.frame_conflicts.Conflicts.{Early}
use Rattle.compiler.specs.frame_contents.Held.{crossing_values, frame_slots, held_blocks, held_of, held_params}
use Rattle.compiler.specs.frame_contents.Held.{position_from, position_of}
use Rattle.compiler.specs.frame_contents.declared.held.Holding.{Holding}
use Rattle.compiler.proofs.ir_laws.facts.Truth.{equal_numbers}
use Rattle.compiler.proofs.ir_laws.paths.begin_order.Framed.{get_listed}
use Rattle.compiler.proofs.ir_laws.paths.source_rules.Locals.{listed_either}
use Rattle.compiler.proofs.ir_laws.paths.woven_rules.Unbroken.{of_listed}
use Rattle.compiler.specs.ir_model.Names.{function_at}
use Rattle.compiler.specs.ir_model.Ty.{Ty}
use Rattle.compiler.specs.ir_model.declared.instr.Instr.{Instr}
use Rattle.compiler.specs.ir_model.declared.module.Function.{Function}
use Rattle.compiler.specs.ir_model.declared.operand.Arg.{Arg}
use Rattle.compiler.specs.ir_model.declared.operand.Callee.{Callee}
use Rattle.compiler.specs.ir_model.declared.operand.Intrinsic.{Intrinsic}
use Rattle.compiler.specs.ir_paths.Slots.{allocas_of, has_name, promise_of}
use Rattle.compiler.specs.pass_copies.declared.slot.EarlySlot.{EarlySlot}
use Rattle.compiler.specs.pass_frames.Tables.{is_of, is_slot_kind, offset_at}
use Rattle.pass_frames_meaning.specs.Unbegun.{IsBefore}
use Rattle.pass_frames_meaning.proofs.placed.Placed.{held_once}
use Rattle.pass_frames_meaning.proofs.pass_frames_proof.code.Names.{never}
use Rattle.pass_frames_meaning.proofs.pass_frames_proof.early.Placed.{flagged_slot}
use Rattle.pass_frames_meaning.proofs.pass_frames_proof.early.Sizes.{all_sized}
use Rattle.pass_frames_meaning.proofs.pass_frames_proof.lines.Cells.{contained}
use Rattle.pass_frames_meaning.specs.pass_frames_proof.Early.{IsOfField}
use Rattle.pass_frames_meaning.specs.pass_frames_proof.Framings.{IsFraming}
use Rattle.pass_frames_meaning.specs.pass_frames_proof.Offsets.{AreHeldOnce}
use Rattle.pass_frames_meaning.specs.pass_frames_proof.Places.{Framing, copies}
use Rattle.pass_frames_meaning.specs.pass_frames_proof.Slotted.{AreRangesApart}
use Rattle.compiler.proofs.pass_proofs.frames.begin_order.Framed.{frame_alone}
use Rattle.compiler.proofs.pass_proofs.frames.begin_order.Tables.{IsOfClass, IsSlotHeld}
use Rattle.compiler.proofs.pass_proofs.frames.begin_order.Tables.{frame_slot, in_blocks, in_params}
use Rattle.compiler.proofs.pass_proofs.frames.begin_order.Tables.{slot_flagged}
use Rattle.compiler.specs.rule_laws.rules.function_rules.Kept.{KeepsFunctionRules}
use Rattle.compiler.specs.run_framed.Framed.{layout_of}
use Rattle.compiler.specs.run_step.Step.{AtInstr, fetch}

-- ---- the position of a slot

record IsFoundAt (hs : List Holding) (v p : ℕ) : Type 0 where
  holding : Holding
  there : slice_get hs p ≡ Some holding
  value : holding.value ≡ v

found_at : (k : ℕ) (hs : List Holding) (v p : ℕ) → position_from k hs v ≡ Some p
    → (n : ℕ) × ((p ≡ k + n) × IsFoundAt hs v n)
found_at k [] v p e = absurd (cc)
found_at k (h ∷ hs) v p e = on (h.value == v) refl e (found_at (k + 1) hs v p)
  where
    on : (t : Bool) → (h.value == v) ≡ t → (if t then Some k else position_from (k + 1) hs v) ≡ Some p
        → (position_from (k + 1) hs v ≡ Some p → (n : ℕ) × ((p ≡ k + 1 + n) × IsFoundAt hs v n))
        → (n : ℕ) × ((p ≡ k + n) × IsFoundAt (h ∷ hs) v n)
    on true d e rest =
        let same : k ≡ p = cc in
        let first : p ≡ k + 0 = omega (arith, same) in
        (0, (first, record { holding = h; there = refl; value = equal_numbers h.value v d }))
    on false d e rest =
        let z = rest e in
        let n : ℕ = z.0 in
        let far : p ≡ k + 1 + n = z.1.0 in
        let next : p ≡ k + suc n = omega (arith, far) in
        (suc n, (next, record { holding = z.1.1.holding; there = z.1.1.there; value = z.1.1.value }))

found : (hs : List Holding) (v p : ℕ) → position_of hs v ≡ Some p → IsFoundAt hs v p
found hs v p e =
    let z = found_at 0 hs v p e in
    let n : ℕ = z.0 in
    let far : p ≡ 0 + n = z.1.0 in
    let same : n ≡ p = omega (arith, far) in
    subst (IsFoundAt hs v) same z.1.1

-- ---- frame slots that are held

module _ (x : Framing) (is : IsFraming x) (k : ℕ) (rules : KeepsFunctionRules x.code k x.function) where
  abbrev IsFrameSlot : ℕ → Type 0
  IsFrameSlot v = IsOfClass SlotClass.Frame x.contents.classes 0 (allocas_of x.function) v

  once : AreHeldOnce x.contents.held
  once = held_once x is k rules

  frame_of : (v : ℕ) → IsFrameSlot v → IsOf x.function v SlotClass.Frame
  frame_of v y =
      let n : ℕ = y.number in
      let same : 0 + n ≡ n = omega arith in
      is.frameable.contents.classes_are.each n v SlotClass.Frame y.slot
      (frame_alone (slice_get x.contents.classes n)
      (ap (λ (j : ℕ). is_of SlotClass.Frame (slice_get x.contents.classes j)) (sym same) ∙ y.class_is))

  placed_at : (f : Function) → x.function ≡ f → (v q : ℕ) (h : Holding) → IsFrameSlot v
      → slice_get x.contents.held q ≡ Some h → h.value ≡ v → HasFramePlace x f v h
  placed_at f own v q h y there value =
      let z = listed_placed x is k rules h (get_listed x.contents.held q h there) in
      record {
        number = y.number;
        index = ap (λ (g : Function). slice_get (allocas_of g) y.number) (sym own) ∙ y.slot;
        frame = subst (λ (g : Function). IsOf g v SlotClass.Frame) own (frame_of v y);
        position = q;
        told = ap (position_of x.contents.held) (sym value) ∙ z.told
            ∙ ap (λ (n : ℕ). Some n) (once.each z.position q h h z.there there refl);
        there = there;
        value = value;
      }

  slot_class : (q : ℕ) (h : Holding) → slice_get x.contents.held q ≡ Some h → is_slot_kind h.kind ≡ true
      → IsFrameSlot h.value
  slot_class q h there kind =
      let is_value : ℕ → Bool = has_name (crossing_values x.contents.crossing) in
      let is_slot : ℕ → Bool = has_name (frame_slots x.function x.contents.classes) in
      let listed : IsListed h (held_of x.code x.function x.contents.classes x.contents.crossing) =
      subst (IsListed h) is.frameable.contents.held_are (get_listed x.contents.held q h there) in
      let held : IsSlotHeld is_slot (allocas_of x.function) h =
      ⊎_elim (λ a. in_params is_value x.function.params is_slot (allocas_of x.function) h a)
      (λ b. in_blocks x.code (promise_of x.function) is_value is_slot x.function.blocks h b)
      (listed_either h (held_params is_value x.function.params)
      (held_blocks x.code (promise_of x.function) is_value is_slot x.function.blocks) listed) in
      frame_slot x.contents.classes 0 (allocas_of x.function) h.value (held kind).1

  early_class : (e : EarlySlot) → IsListed e (copies x).slots → IsFrameSlot e.slot
  early_class e listed = ⊎_elim (λ no. absurd (never (length x.function.names) e.slot no)) (λ y. y)
      (slot_flagged SlotClass.Frame x.contents.classes 0 (allocas_of x.function)
      (replicate (length x.function.names) false) e.slot (flagged_slot x e listed))

  early_size : (e : EarlySlot) → IsListed e (copies x).slots → IsOfField x e
  early_size e listed = of_listed (IsOfField x) (copies x).slots (all_sized x once) e listed

-- ---- of an accepted source

module _ (l : Lowered) (low : IsLowered l) (few : HasFewBytes l) (a : Anew) (anew : IsAnewOf (early l) a) (r : Run)
    (entered : IsEntryCall l.source r) (func block at : ℕ)
    (coroutine : (function_at (early l) func).coroutine ≡ true) (result : Option ℕ) (must_tail : Bool) (ty : Option Ty)
    (args : List Arg)
    (stands : fetch (function_at (edged l) func) block at
    ≡ AtInstr (Instr.Call result must_tail ty (Callee.Intrinsic Intrinsic.CoroBegin) args))
    (before : IsBefore (function_at (edged l) func) block at) (e : EarlySlot)
    (listed : Contains (copies ((asking l low a r).b.framing func)).slots e) where
  abbrev x : Framing
  x = (asking l low a r).b.framing func

  is : IsFraming ((asking l low a r).b.framing func)
  is = framed l low few a anew r entered func coroutine

  keeps : KeepsFunctionRules ((asking l low a r).b.framing func).code func
      ((asking l low a r).b.framing func).function
  keeps = own_rules l low a r func coroutine

  among : IsListed e (copies ((asking l low a r).b.framing func)).slots
  among = contained (copies x).slots e listed

  -- from the field of each other slot
  others_apart : (p q : ℕ) (h : Holding)
      → position_of ((asking l low a r).b.framing func).contents.held e.slot ≡ Some p
      → slice_get ((asking l low a r).b.framing func).contents.held q ≡ Some h
      → IsOfClass SlotClass.Frame ((asking l low a r).b.framing func).contents.classes 0
      (allocas_of ((asking l low a r).b.framing func).function) h.value → p ≢ q
      → AreRangesApart (offset_at ((asking l low a r).b.framing func).layout p) e.size
      (offset_at ((asking l low a r).b.framing func).layout q) h.size
  unfolding placed_at
  others_apart p q h told there class other =
      let own = found x.contents.held e.slot p told in
      let unlike : e.slot ≢ h.value = λ same. other ((once x is func keeps).each p q own.holding h own.there there
      (own.value ∙ same)) in
      let f : Function = function_at (early l) func in
      subst (λ (n : ℕ). AreRangesApart (offset_at x.layout p) n (offset_at x.layout q) h.size)
      (sym (early_size x is func keeps e among p own.holding own.there own.value))
      (λ i j lt lt_too meet. used l low few a anew r entered func block at coroutine result must_tail ty args stands
      before e listed (λ early_use. held_apart x func f (layout_of l.layouts.coroutines func)
      (layout l low a r func coroutine) (good l low a r func coroutine) e.slot h.value own.holding h
      (placed_at x is func keeps f (function l low a r func coroutine) e.slot p own.holding
      (early_class x is func keeps e among) own.there own.value)
      (placed_at x is func keeps f (function l low a r func coroutine) h.value q h class there refl)
      unlike (Early (inl early_use)) i j lt lt_too meet))

  pub fields_apart : (p q : ℕ) (h : Holding)
      → position_of ((asking l low a r).b.framing func).contents.held e.slot ≡ Some p
      → slice_get ((asking l low a r).b.framing func).contents.held q ≡ Some h → is_slot_kind h.kind ≡ true → p ≢ q
      → AreRangesApart (offset_at ((asking l low a r).b.framing func).layout p) e.size
      (offset_at ((asking l low a r).b.framing func).layout q) h.size
  fields_apart p q h told there kind other =
      others_apart p q h told there (slot_class x is func keeps q h there kind) other

  pub early_apart : (d : EarlySlot) → Contains (copies ((asking l low a r).b.framing func)).slots d → e.slot ≢ d.slot
      → (p q : ℕ) → position_of ((asking l low a r).b.framing func).contents.held e.slot ≡ Some p
      → position_of ((asking l low a r).b.framing func).contents.held d.slot ≡ Some q
      → AreRangesApart (offset_at ((asking l low a r).b.framing func).layout p) e.size
      (offset_at ((asking l low a r).b.framing func).layout q) d.size
  early_apart d listed_too unlike p q told told_too =
      let own = found x.contents.held e.slot p told in
      let y = found x.contents.held d.slot q told_too in
      let other : p ≢ q = λ same.
      let both : Some own.holding ≡ Some y.holding = sym own.there ∙ ap (slice_get x.contents.held) same ∙ y.there in
      let one : own.holding ≡ y.holding = cc in
      unlike (sym own.value ∙ ap (λ (h : Holding). h.value) one ∙ y.value) in
      let class : IsOfClass SlotClass.Frame x.contents.classes 0 (allocas_of x.function) d.slot =
      early_class x is func keeps d (contained (copies x).slots d listed_too) in
      subst (λ (n : ℕ). AreRangesApart (offset_at x.layout p) e.size (offset_at x.layout q) n)
      (sym (early_size x is func keeps d (contained (copies x).slots d listed_too) q y.holding y.there y.value))
      (others_apart p q y.holding told y.there
      (subst (λ (v : ℕ). IsOfClass SlotClass.Frame x.contents.classes 0 (allocas_of x.function) v) (sym y.value) class)
      other)
