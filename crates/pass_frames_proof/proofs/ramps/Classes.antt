-- A slot of a ramp lies in no frame, and its name is one of the coroutine's.
use Rattle.std.proofs.Common.{◌≡◌, ◌+◌, ◌<◌, ◌≤◌, ◌∙◌, Bool, None, Option, Some, ap, arith, false, length, refl, replicate, sym, true, ℕ, ⊎_elim}
use Rattle.std.specs.Prelude.{slice_get}
use Rattle.pass_frames_steps.specs.frame_classes.declared.class.SlotClass.{SlotClass}
use Rattle.pass_frames_steps.specs.ir_paths.Slots.{allocas_of}
use Rattle.pass_frames_steps.specs.ir_model.declared.operand.Operand.{Operand}
use Rattle.pass_frames_steps.specs.pass_addresses.Placing.{slot_fetches}
use Rattle.pass_frames_steps.specs.pass_copies.Uses.{flag_at}
use Rattle.pass_frames_steps.specs.pass_fetch.Fetching.{fetch_of}
use Rattle.pass_frames_steps.specs.pass_frames.Framed.{begin_of}
use Rattle.pass_frames_steps.specs.pass_frames.Tables.{is_of}
use Rattle.pass_frames_steps.proofs.code.Names.{Count, First}
use Rattle.pass_frames_steps.specs.Framings.{IsFraming}
use Rattle.pass_frames_steps.specs.Places.{Framing, marked, offsets, with_copies}
use Rattle.pass_frames_steps.proofs.pass_proofs.addresses.rules.Placed.{outside_unfetched}
use Rattle.pass_frames_steps.proofs.pass_proofs.copies.begin_order.Marks.{none_flagged}
use Rattle.pass_frames_steps.proofs.pass_proofs.frames.begin_order.Framed.{alloca_pointer, frame_alone, in_either, old_slot, pointer_low, slot_alloca}
use Rattle.pass_frames_steps.proofs.pass_proofs.frames.begin_order.Tables.{IsOfClass, slot_flagged}
use Rattle.pass_frames_steps.specs.pass_proofs.addresses.rules.Addresses.{lies_in_frame}
use Rattle.pass_frames_steps.specs.pass_proofs.frames.begin_order.Fields.{IsField}

ramp_alone : (o : Option SlotClass) → is_of SlotClass.Ramp o ≡ true → o ≡ Some SlotClass.Ramp
ramp_alone None e = absurd (cc)
ramp_alone (Some SlotClass.Ramp) e = refl
ramp_alone (Some SlotClass.Local) e = absurd (cc)
ramp_alone (Some SlotClass.Frame) e = absurd (cc)

module _ (x : Framing) (is : IsFraming x) where
  abbrev names : ℕ
  names = length (with_copies x).names

  ramp_class : (v : ℕ) → flag_at (marked x) v ≡ true
      → IsOfClass SlotClass.Ramp x.contents.classes 0 (allocas_of x.function) v
  ramp_class v e =
      ⊎_elim (λ h. let t : true ≡ false = sym h ∙ none_flagged (length x.function.names) v in absurd (cc)) (λ y. y)
      (slot_flagged SlotClass.Ramp x.contents.classes 0 (allocas_of x.function)
      (replicate (length x.function.names) false) v e)

  of_class : (class : SlotClass) (v : ℕ) → (y : IsOfClass class x.contents.classes 0 (allocas_of x.function) v)
      → is_of class (slice_get x.contents.classes y.number) ≡ true
  of_class class v y =
      let n : ℕ = y.number in
      let same : 0 + n ≡ n = omega arith in
      ap (λ (j : ℕ). is_of class (slice_get x.contents.classes j)) (sym same) ∙ y.class_is

  two_classes : (v : ℕ) → IsOfClass SlotClass.Ramp x.contents.classes 0 (allocas_of x.function) v
      → IsOfClass SlotClass.Frame x.contents.classes 0 (allocas_of x.function) v → ⊥
  two_classes v one other =
      let told = is.frameable.contents.classes_are.each in
      let ramp_is = told one.number v SlotClass.Ramp one.slot
      (ramp_alone (slice_get x.contents.classes one.number) (of_class SlotClass.Ramp v one)) in
      let frame_is = told other.number v SlotClass.Frame other.slot
      (frame_alone (slice_get x.contents.classes other.number) (of_class SlotClass.Frame v other)) in
      frame_is.0 ramp_is

  pub ramp_low : (v : ℕ) → flag_at (marked x) v ≡ true → v < First x is
  ramp_low v e =
      pointer_low x.code is.position x.layout x.function x.contents is.begin names is.frameable v
      (alloca_pointer x.code is.position x.layout x.function x.contents is.begin names is.frameable v
      (slot_alloca x.code is.position x.layout x.function x.contents is.begin names is.frameable v SlotClass.Ramp
      (ramp_class v e)))

  in_frame_not : (v : ℕ) → flag_at (marked x) v ≡ true → lies_in_frame (offsets x) v ≡ true → ⊥
  in_frame_not v e lies =
      let low : v < First x is = ramp_low v e in
      ⊎_elim
      (λ old. two_classes v (ramp_class v e)
      (old_slot x.code is.position x.layout x.function x.contents is.begin names is.frameable v old))
      (λ (y : IsField (First x is) (Count x is) v).
      let up : First x is + Count x is ≤ v = y.low in absurd (omega (arith, up, low)))
      (in_either x.code is.position x.layout x.function x.contents is.begin names is.frameable v lies)

  pub ramp_unfetched : (v : ℕ) → flag_at (marked x) v ≡ true
      → fetch_of (slot_fetches (begin_of x.function) (offsets x)) (Operand.Local v) ≡ None
  ramp_unfetched v e = outside_unfetched (begin_of x.function) (offsets x) v (on (lies_in_frame (offsets x) v) refl)
    where
      on : (b : Bool) → lies_in_frame (offsets x) v ≡ b → lies_in_frame (offsets x) v ≡ false
      on false d = d
      on true d = absurd (in_frame_not v e d)
