-- In a good layout the fields of two slots of the frame that conflict lie apart.
use Rattle.std.proofs.Common.{◌≡◌, ◌≢◌, ℕ, true, Some, refl, sym, ap, ◌∙◌, subst}
use Rattle.std.specs.Prelude.{slice_get}
use Rattle.compiler_theorem.proofs.apart.Facts.{good, layout, placed, size_is}
use Rattle.compiler_theorem.proofs.apart.Layouts.{ranges}
use Rattle.compiler_theorem.proofs.kinds.Held.{IsPlacedAs}
use Rattle.compiler_theorem.proofs.kinds.Pairs.{first_field, places_differ, second_field, slots_conflict}
use Rattle.compiler_theorem.proofs.theorem.Needed.{stands_at}
use Rattle.compiler_theorem.specs.theorem.Anew.{Anew, IsSlotOf}
use Rattle.compiler_theorem.specs.theorem.Asked.{asking}
use Rattle.compiler_theorem.specs.theorem.Entries.{Run}
use Rattle.compiler_theorem.specs.theorem.Lowered.{IsLowered, Lowered, early, edged}
use Rattle.compiler.specs.frame_classes.Classes.{IsOf}
use Rattle.compiler.specs.frame_classes.declared.class.SlotClass.{SlotClass}
use Rattle.compiler.specs.frame_conflicts.Conflicts.{Conflict, IsFrameSlotAt}
use Rattle.compiler.specs.frame_contents.Held.{field_of, fields_of, position_of, slot_held}
use Rattle.compiler.specs.frame_contents.declared.contents.Contents.{Contents}
use Rattle.compiler.specs.frame_contents.declared.held.Holding.{Holding}
use Rattle.compiler.specs.frame_good.Frames.{AreInConflict}
use Rattle.compiler.specs.frame_good.Good.{IsGoodLayout}
use Rattle.compiler.specs.frame_layout.declared.layout.Layout.{Layout}
use Rattle.compiler.specs.ir_model.Layout.{size_of}
use Rattle.compiler.specs.ir_model.Names.{function_at}
use Rattle.compiler.specs.ir_model.Ty.{Ty}
use Rattle.compiler.specs.ir_model.declared.instr.Instr.{Instr}
use Rattle.compiler.specs.ir_model.declared.module.Function.{Function}
use Rattle.compiler.specs.ir_paths.Slots.{allocas_of, promise_of}
use Rattle.compiler.specs.pass_frames.Tables.{offset_at}
use Rattle.pass_frames_meaning.specs.pass_frames_proof.Places.{Framing}
use Rattle.pass_frames_meaning.specs.pass_frames_proof.Slotted.{AreRangesApart}
use Rattle.compiler.proofs.pass_kept_proof.Read.{listed_by_name}
use Rattle.compiler.specs.run_framed.Framed.{layout_of}
use Rattle.compiler.specs.run_step.Step.{AtInstr, fetch}

-- ---- a layout

-- a slot of the frame has a field
pub record HasFramePlace (x : Framing) (f : Function) (slot : ℕ) (h : Holding) : Type 0 where
  pub number : ℕ
  pub index : slice_get (allocas_of f) number ≡ Some slot
  pub frame : IsOf f slot SlotClass.Frame
  pub position : ℕ
  pub told : position_of x.contents.held slot ≡ Some position
  pub there : slice_get x.contents.held position ≡ Some h
  pub value : h.value ≡ slot

module _ (x : Framing) (func : ℕ) (f : Function) (l : Layout) (layout : x.layout ≡ l)
    (good : IsGoodLayout func (fields_of f x.contents.held) (AreInConflict f x.contents) l) (one other : ℕ)
    (h k : Holding) (a : HasFramePlace x f one h) (b : HasFramePlace x f other k) (unlike : one ≢ other)
    (conflict : Conflict f one other) where
  abbrev c : Contents
  c = x.contents

  abbrev first : IsPlacedAs c.held h
  first = record {
    position = a.position;
    told = ap (position_of c.held) a.value ∙ a.told;
    there = a.there;
  }

  abbrev second : IsPlacedAs c.held k
  second = record {
    position = b.position;
    told = ap (position_of c.held) b.value ∙ b.told;
    there = b.there;
  }

  not_same : a.position ≢ b.position
  not_same = places_differ c h k first second (λ e. unlike (sym a.value ∙ e ∙ b.value))

  slot_at : (v n : ℕ) (z : Holding) → z.value ≡ v → slice_get (allocas_of f) n ≡ Some v → IsOf f v SlotClass.Frame
      → IsFrameSlotAt f n z.value
  slot_at v n z e index frame = subst (IsFrameSlotAt f n) (sym e) (record { stands = index; is_frame = frame })

  in_conflict : AreInConflict f c a.position b.position
  in_conflict = slots_conflict f c h k first second not_same a.number b.number
      (slot_at one a.number h a.value a.index a.frame) (slot_at other b.number k b.value b.index b.frame)
      (subst (λ (q : ℕ × ℕ). Conflict f q.0 q.1) (λ j. (sym a.value j, sym b.value j)) conflict)

  pub held_apart : AreRangesApart (offset_at x.layout a.position) h.size (offset_at x.layout b.position) k.size
  held_apart = subst (λ (y : Layout). AreRangesApart (offset_at y a.position) h.size (offset_at y b.position) k.size)
      (sym layout)
      (ranges (offset_at l a.position) h.size (offset_at l b.position) k.size
      (good.apart a.position b.position (field_of f h) (field_of f k)
      (first_field f c h k first second not_same) (second_field f c h k first second not_same) not_same in_conflict))

-- ---- of an accepted source

module _ (l : Lowered) (low : IsLowered l) (a : Anew) (r : Run) (func : ℕ)
    (coroutine : (function_at (early l) func).coroutine ≡ true) where
  abbrev f : Function
  f = function_at (early l) func

  abbrev x : Framing
  x = (asking l low a r).b.framing func

  module _ (slot : ℕ) (is_slot : IsSlotOf (function_at (early l) func) SlotClass.Frame slot) (at align : ℕ) (ty : Ty)
      (alloca : fetch (function_at (edged l) func) 0 at ≡ AtInstr (Instr.Alloca slot ty align)) where
    abbrev h : Holding
    h = slot_held x.code (promise_of x.function) slot ty align

    held : HasFramePlace ((asking l low a r).b.framing func) (function_at (early l) func) slot
        (slot_held ((asking l low a r).b.framing func).code (promise_of ((asking l low a r).b.framing func).function)
        slot ty align)
    held =
        let s : IsPlacedAs x.contents.held h = placed l low a r func coroutine at slot align ty alloca is_slot.is_of in
        let i = stands_at slot (allocas_of f) (listed_by_name (allocas_of f) slot is_slot.is_alloca) in
        record {
          number = i.at;
          index = i.there;
          frame = is_slot.is_of;
          position = s.position;
          told = s.told;
          there = s.there;
          value = refl;
        }

  same_number : (u q : ℕ) → Some u ≡ Some q → u ≡ q
  same_number u q e = cc

  pub conflict_apart : (one other : ℕ) → one ≢ other → IsSlotOf (function_at (early l) func) SlotClass.Frame one
      → IsSlotOf (function_at (early l) func) SlotClass.Frame other → Conflict (function_at (early l) func) one other
      → (at align : ℕ) (ty : Ty) → fetch (function_at (edged l) func) 0 at ≡ AtInstr (Instr.Alloca one ty align)
      → (place alignment : ℕ) (u : Ty)
      → fetch (function_at (edged l) func) 0 place ≡ AtInstr (Instr.Alloca other u alignment) → (p q : ℕ)
      → position_of ((asking l low a r).b.framing func).contents.held one ≡ Some p
      → position_of ((asking l low a r).b.framing func).contents.held other ≡ Some q
      → AreRangesApart (offset_at ((asking l low a r).b.framing func).layout p) (size_of (edged l) ty)
      (offset_at ((asking l low a r).b.framing func).layout q) (size_of (edged l) u)
  conflict_apart one other unlike is_one is_other conflict at align ty alloca place alignment u alloca_too p q told
      told_too =
      let d = held one is_one at align ty alloca in
      let e = held other is_other place alignment u alloca_too in
      let first : d.position ≡ p = same_number d.position p (sym d.told ∙ told) in
      let second : e.position ≡ q = same_number e.position q (sym e.told ∙ told_too) in
      let size = size_is l low a r func coroutine at one align ty alloca is_one.is_of in
      let size_too = size_is l low a r func coroutine place other alignment u alloca_too is_other.is_of in
      subst (λ (z : ℕ × (ℕ × (ℕ × ℕ))). AreRangesApart (offset_at x.layout z.0) z.1.0 (offset_at x.layout z.1.1.0)
      z.1.1.1) (λ j. (first j, (size j, (second j, size_too j))))
      (held_apart x func f (layout_of l.layouts.coroutines func) (layout l low a r func coroutine)
      (good l low a r func coroutine) one other (h one is_one at align ty alloca)
      (h other is_other place alignment u alloca_too) d e unlike conflict)
