-- What a frame holds is one.
use Rattle.std.proofs.Common.{◌≡◌, ℕ, suc, ◌+◌, List, [], ◌∷◌, ◌++◌, Some, length, refl, sym, ◌∙◌, arith}
use Rattle.std.specs.Prelude.{slice_get}
use Rattle.compiler.specs.frame_classes.Classes.{IsOf}
use Rattle.compiler.specs.frame_classes.declared.class.SlotClass.{SlotClass}
use Rattle.compiler.specs.frame_contents.Frames.{AreContents}
use Rattle.compiler.specs.frame_contents.Held.{held_of}
use Rattle.compiler.specs.frame_contents.declared.contents.Contents.{Contents}
use Rattle.compiler.specs.frame_crossing.Crossing.{AreCrossed, CrossedBy, LeftOut, More, NoMore, Nothing, Taken, suspends_of}
use Rattle.compiler.specs.frame_crossing.Values.{values_of}
use Rattle.compiler.specs.ir_model.declared.module.Function.{Function}
use Rattle.compiler.specs.ir_model.declared.module.Module.{Module}
use Rattle.compiler.specs.ir_paths.Slots.{allocas_of}
use Rattle.compiler.specs.ir_paths.declared.point.Point.{Point}

module _ (f : Function) where
  crossed_once : (v k : ℕ) (ss : List Point) (a b : List (ℕ × ℕ)) → AreCrossed f v k ss a → AreCrossed f v k ss b
      → a ≡ b
  crossed_once v k _ _ _ (NoMore _) (NoMore _) = refl
  crossed_once v k _ _ _ (Taken _ s ss a is rest) (Taken _ s2 ss2 b is2 rest2) =
      λ i. (v, k) ∷ crossed_once v (k + 1) ss a b rest rest2 i
  crossed_once v k _ _ _ (Taken _ s ss a is rest) (LeftOut _ s2 ss2 b out rest2) = absurd (out is)
  crossed_once v k _ _ _ (LeftOut _ s ss a out rest) (Taken _ s2 ss2 b is rest2) = absurd (out is)
  crossed_once v k _ _ _ (LeftOut _ s ss a out rest) (LeftOut _ s2 ss2 b out2 rest2) =
      crossed_once v (k + 1) ss a b rest rest2

  pub crossing_once : (vs : List ℕ) (a b : List (ℕ × ℕ)) → CrossedBy f vs a → CrossedBy f vs b → a ≡ b
  crossing_once _ _ _ Nothing Nothing = refl
  crossing_once _ _ _ (More v vs here rest is more) (More v2 vs2 here2 rest2 is2 more2) =
      λ i. crossed_once v 0 (suspends_of f) here here2 is is2 i ++ crossing_once vs rest rest2 more more2 i

  pub class_once : (slot : ℕ) (a b : SlotClass) → IsOf f slot a → IsOf f slot b → a ≡ b
  class_once slot SlotClass.Ramp SlotClass.Ramp h k = refl
  class_once slot SlotClass.Ramp SlotClass.Local h k = absurd (k.0 h)
  class_once slot SlotClass.Ramp SlotClass.Frame h k = absurd (k.0 h)
  class_once slot SlotClass.Local SlotClass.Ramp h k = absurd (h.0 k)
  class_once slot SlotClass.Local SlotClass.Local h k = refl
  class_once slot SlotClass.Local SlotClass.Frame h k = absurd (h.1 k.1)
  class_once slot SlotClass.Frame SlotClass.Ramp h k = absurd (h.0 k)
  class_once slot SlotClass.Frame SlotClass.Local h k = absurd (k.1 h.1)
  class_once slot SlotClass.Frame SlotClass.Frame h k = refl

  abbrev pub Each : List ℕ → List SlotClass → Type 0
  Each slots a = (k slot : ℕ) (class : SlotClass) → slice_get slots k ≡ Some slot → slice_get a k ≡ Some class
      → IsOf f slot class

  pub classes_once : (slots : List ℕ) (a b : List SlotClass) → length a ≡ length slots → length b ≡ length slots
      → Each slots a → Each slots b → a ≡ b
  classes_once [] [] [] p q h k = refl
  classes_once [] [] (y ∷ b) p q h k = absurd (omega (arith, q))
  classes_once [] (x ∷ a) b p q h k = absurd (omega (arith, p))
  classes_once (s ∷ ss) [] b p q h k = absurd (omega (arith, p))
  classes_once (s ∷ ss) (x ∷ a) [] p q h k = absurd (omega (arith, q))
  classes_once (s ∷ ss) (x ∷ a) (y ∷ b) p q h k =
      let first : x ≡ y = class_once s x y (h 0 s x refl refl) (k 0 s y refl refl) in
      let rest : a ≡ b = classes_once ss a b (omega (arith, p)) (omega (arith, q)) (λ j t c e d. h (suc j) t c e d)
      (λ j t c e d. k (suc j) t c e d) in
      λ i. first i ∷ rest i

module _ (m : Module) (f : Function) (c d : Contents) (these : AreContents m f c) (those : AreContents m f d) where
  pub same_crossing : c.crossing ≡ d.crossing
  same_crossing = crossing_once f (values_of f) c.crossing d.crossing these.crossing_are those.crossing_are

  pub same_classes : c.classes ≡ d.classes
  same_classes =
      let one = these.classes_are in
      let other = those.classes_are in
      classes_once f (allocas_of f) c.classes d.classes one.count other.count one.each other.each

  pub same_held : c.held ≡ d.held
  same_held = these.held_are ∙ (λ i. held_of m f (same_classes i) (same_crossing i)) ∙ sym those.held_are
