-- Frame slots, by their classes.
use Rattle.std.proofs.Common.{◌≡◌, ℕ, zero, suc, ◌<◌, Bool, true, false, List, [], ◌∷◌, length, Some, None, Option, refl, sym, ap, ◌∙◌, subst, arith}
use Rattle.std.specs.Prelude.{◌↔◌, IsTrue, slice_get}
use Rattle.std.proofs.lemmas.Bool.{false≢true}
use Rattle.std.proofs.lemmas.Option.{slice_get_within}
use Rattle.ir_model.specs.declared.module.Function.{Function}
use Rattle.ir_paths.specs.Slots.{allocas_of}
use Rattle.frame_conflicts.specs.Conflicts.{IsFrameSlotAt}
use Rattle.frame_conflicts.specs.Known.{IsFrameAt, is_frame_class}
use Rattle.frame_classes.specs.Classes.{AreClasses, IsOf}
use Rattle.frame_classes.specs.declared.class.SlotClass.{SlotClass}

pub place_in : {X : Type 0} (xs : List X) (k : ℕ) → k < length xs → (x : X) × (slice_get xs k ≡ Some x)
place_in [] k lt = absurd (omega arith)
place_in (x ∷ xs) zero lt = (x, refl)
place_in (x ∷ xs) (suc k) lt = place_in xs k (omega arith)

module _ (f : Function) (classes : List SlotClass) (are : AreClasses f classes) (i : ℕ) where
  frame_class : (o : Option SlotClass) → slice_get classes i ≡ o → is_frame_class o ≡ true → IsFrameAt f i
  frame_class None e h = absurd (false≢true h)
  frame_class (Some SlotClass.Ramp) e h = absurd (false≢true h)
  frame_class (Some SlotClass.Local) e h = absurd (false≢true h)
  frame_class (Some SlotClass.Frame) e h =
      let lt = slice_get_within classes i SlotClass.Frame e in
      let len = are.count in
      let found : (s : ℕ) × (slice_get (allocas_of f) i ≡ Some s) = place_in (allocas_of f) i (omega (arith, lt, len)) in
      record { slot = found.0; is_slot = record { stands = found.1; is_frame = are.each i found.0 SlotClass.Frame found.1 e } }

  class_frame : (slot : ℕ) (c : SlotClass) → IsOf f slot SlotClass.Frame → IsOf f slot c → is_frame_class (Some c) ≡ true
  class_frame slot SlotClass.Ramp h k = absurd (h.0 k)
  class_frame slot SlotClass.Local h k = absurd (k.1 h.1)
  class_frame slot SlotClass.Frame h k = refl

  pub frame_told : (b : Bool) → b ≡ is_frame_class (slice_get classes i) → IsTrue b ↔ IsFrameAt f i
  frame_told b is = (λ h. frame_class (slice_get classes i) refl (sym is ∙ h), back)
    where
      back : IsFrameAt f i → b ≡ true
      back x =
          let lt = slice_get_within (allocas_of f) i x.slot x.is_slot.stands in
          let len = are.count in
          let found : (c : SlotClass) × (slice_get classes i ≡ Some c) = place_in classes i (omega (arith, lt, len)) in
          is ∙ ap is_frame_class found.1 ∙ class_frame x.slot found.0 x.is_slot.is_frame (are.each i x.slot found.0 x.is_slot.stands found.1)
