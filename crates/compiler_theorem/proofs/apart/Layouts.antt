-- In a good layout the field of what crosses a suspend lies apart from slots that may be alive there.
use Rattle.std.proofs.Common.{◌≡◌, ◌≢◌, ℕ, ◌+◌, true, Some, refl, sym, subst, arith}
use Rattle.std.specs.List.{Contains}
use Rattle.std.specs.Prelude.{slice_get}
use Rattle.compiler_theorem.proofs.kinds.Held.{IsPlacedAs}
use Rattle.compiler_theorem.proofs.kinds.Pairs.{alive_conflict, first_field, kinds_differ, second_field}
use Rattle.compiler_theorem.specs.kinds.Held.{IsHeldAsValue}
use Rattle.compiler.specs.frame_classes.Alive.{MayBeAlive}
use Rattle.compiler.specs.frame_classes.Classes.{IsOf, suspends}
use Rattle.compiler.specs.frame_classes.declared.class.SlotClass.{SlotClass}
use Rattle.compiler.specs.frame_contents.Held.{field_of, fields_of, value_held}
use Rattle.compiler.specs.frame_contents.declared.held.Holding.{Holding}
use Rattle.compiler.specs.frame_good.Frames.{AreInConflict}
use Rattle.compiler.specs.frame_good.Good.{AreApart, IsGoodLayout}
use Rattle.compiler.specs.frame_layout.declared.layout.Layout.{Layout}
use Rattle.compiler.specs.ir_model.declared.module.Function.{Function}
use Rattle.compiler.specs.ir_paths.Slots.{allocas_of}
use Rattle.compiler.specs.ir_paths.declared.point.Point.{Point}
use Rattle.compiler.specs.pass_cells.declared.plan.KeptValue.{KeptValue}
use Rattle.compiler.specs.pass_fetch.Fetching.{value_bytes}
use Rattle.compiler.specs.pass_frames.Tables.{is_slot_kind, offset_at}
use Rattle.pass_frames_meaning.proofs.pass_frames_proof.lines.Cells.{contained}
use Rattle.pass_frames_meaning.specs.pass_frames_proof.Places.{Framing}
use Rattle.pass_frames_meaning.specs.pass_frames_proof.Slotted.{AreRangesApart}

pub ranges : (o m p n : ℕ) → AreApart o m p n → AreRangesApart o m p n
ranges o m p n apart i j lt low e =
    apart (o + i) (omega arith, omega (arith, lt)) (omega (arith, e), omega (arith, e, low))

module _ (x : Framing) (func : ℕ) (f : Function) (l : Layout) (layout : x.layout ≡ l)
    (good : IsGoodLayout func (fields_of f x.contents.held) (AreInConflict f x.contents) l) (suspend v i : ℕ)
    (k : KeptValue) (value : IsHeldAsValue x v k) (crosses : Contains x.contents.crossing (v, suspend)) (h : Holding)
    (is_slot : is_slot_kind h.kind ≡ true) (slot : IsPlacedAs x.contents.held h)
    (index : slice_get (allocas_of f) i ≡ Some h.value) (frame : IsOf f h.value SlotClass.Frame) (p : Point)
    (number : slice_get (suspends f) suspend ≡ Some p) (alive : MayBeAlive f h.value p) where
  abbrev value_field : Holding
  value_field = value_held v (value_bytes k.field_ty)

  abbrev placed : IsPlacedAs x.contents.held value_field
  placed = record { position = value.position; told = value.told; there = value.there }

  not_same : slot.position ≢ value.position
  not_same = kinds_differ x.contents h value_field slot placed is_slot refl

  in_conflict : AreInConflict f x.contents slot.position value.position
  in_conflict = alive_conflict f x.contents h value_field slot placed not_same i suspend p
      (record { stands = index; is_frame = frame }) number alive (contained x.contents.crossing (v, suspend) crosses)

  pub alive_apart : AreRangesApart (offset_at x.layout slot.position) h.size (offset_at x.layout value.position)
      (value_bytes k.field_ty)
  alive_apart = subst (λ (y : Layout). AreRangesApart (offset_at y slot.position) h.size (offset_at y value.position)
      (value_bytes k.field_ty)) (sym layout)
      (ranges (offset_at l slot.position) h.size (offset_at l value.position) (value_bytes k.field_ty)
      (good.apart slot.position value.position (field_of f h) (field_of f value_field)
      (first_field f x.contents h value_field slot placed not_same)
      (second_field f x.contents h value_field slot placed not_same) not_same in_conflict))
