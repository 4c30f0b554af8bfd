-- The layouts of a module's coroutines are good.
use Rattle.std.proofs.Common.{◌≡◌, ℕ, zero, suc, ◌+◌, ◌<◌, ◌≤◌, Bool, true, false, List, [], ◌∷◌, ◌++◌, length, Option, None, Some, Ok, refl, sym, ap, subst, ◌∙◌, arith}
use Rattle.std.specs.Prelude.{IsTrue, ◌==◌, get_or, slice_get, if◌then◌else◌}
use Rattle.std.proofs.lemmas.Bool.{eq-eqb}
use Rattle.std.proofs.lemmas.Bool.Decides.{nat_tests}
use Rattle.frame_contents.specs.Frames.{AreContents, AreLaid, AreLayouts, ArePositions, Coroutine, IsLaid, IsLayout, NoMore, Other, conflicts_of}
use Rattle.frame_contents.specs.Held.{fields_of, held_of, position_from, position_of}
use Rattle.frame_contents.specs.declared.contents.Contents.{Contents}
use Rattle.frame_contents.specs.declared.held.Holding.{Holding}
use Rattle.frame_placing.specs.Placed.{Always, IsPair}
use Rattle.frame_layout.specs.declared.layout.Field.{Field}
use Rattle.frame_layout.specs.declared.layout.Layout.{Layout}
use Rattle.frame_layout.specs.declared.layout.Layouts.{Layouts}
use Rattle.frame_good.proofs.Laid.{plain_good, shared_good}
use Rattle.frame_good.specs.Frames.{AreGood, AreInConflict, HasFitFields, IsFound, IsGoodFor, found_in}
use Rattle.frame_good.specs.Frames as good
use Rattle.frame_good.specs.Good.{AreFit, IsGoodLayout}
use Rattle.ir_model.specs.declared.module.Function.{Function}
use Rattle.ir_model.specs.declared.module.Module.{Module}
use Rattle.ir_paths.specs.Slots.{allocas_of}
use Rattle.ir_paths.specs.declared.point.Point.{Point}
use Rattle.frame_contents.specs.frame_classes.Classes.{IsOf}
use Rattle.frame_contents.specs.frame_classes.declared.class.SlotClass.{SlotClass}
use Rattle.frame_crossing.specs.Crossing.{AreCrossed, CrossedBy, LeftOut, More, NoMore as NoSuspend, Nothing, Taken, suspends_of}
use Rattle.frame_crossing.specs.Values.{values_of}

-- fewer conflicts
weaker : (func : ℕ) (fields : List Field) (C D : ℕ → ℕ → Type 0) (l : Layout) → ((j k : ℕ) → C j k → D j k)
    → IsGoodLayout func fields D l → IsGoodLayout func fields C l
weaker func fields C D l inner h = record {
  is_of = h.is_of;
  one_each = h.one_each;
  each = h.each;
  apart = λ j k x y at there ne c. h.apart j k x y at there ne (inner j k c);
  shown = h.shown;
  alignment = h.alignment;
  rounded = h.rounded;
  from = h.from;
  within = h.within;
}

-- ---- what frames hold is determined

module _ (f : Function) where
  crossed_once : (v k : ℕ) (ss : List Point) (a b : List (ℕ × ℕ)) → AreCrossed f v k ss a → AreCrossed f v k ss b
      → a ≡ b
  crossed_once v k _ _ _ (NoSuspend _) (NoSuspend _) = refl
  crossed_once v k _ _ _ (Taken _ s ss a is rest) (Taken _ s2 ss2 b is2 rest2) = ap
      (λ (xs : List (ℕ × ℕ)). (v, k) ∷ xs) (crossed_once v (k + 1) ss a b rest rest2)
  crossed_once v k _ _ _ (Taken _ s ss a is rest) (LeftOut _ s2 ss2 b out rest2) = absurd (out is)
  crossed_once v k _ _ _ (LeftOut _ s ss a out rest) (Taken _ s2 ss2 b is rest2) = absurd (out is)
  crossed_once v k _ _ _ (LeftOut _ s ss a out rest) (LeftOut _ s2 ss2 b out2 rest2) = crossed_once v
      (k + 1) ss a b rest rest2

  crossing_once : (vs : List ℕ) (a b : List (ℕ × ℕ)) → CrossedBy f vs a → CrossedBy f vs b → a ≡ b
  crossing_once _ _ _ Nothing Nothing = refl
  crossing_once _ _ _ (More v vs here rest is more) (More v2 vs2 here2 rest2 is2 more2) = λ k. crossed_once v 0
      (suspends_of f) here here2 is is2 k ++ crossing_once vs rest rest2 more more2 k

  class_once : (slot : ℕ) (a b : SlotClass) → IsOf f slot a → IsOf f slot b → a ≡ b
  class_once slot SlotClass.Ramp SlotClass.Ramp h k = refl
  class_once slot SlotClass.Ramp SlotClass.Local h k = absurd (k.0 h)
  class_once slot SlotClass.Ramp SlotClass.Frame h k = absurd (k.0 h)
  class_once slot SlotClass.Local SlotClass.Ramp h k = absurd (h.0 k)
  class_once slot SlotClass.Local SlotClass.Local h k = refl
  class_once slot SlotClass.Local SlotClass.Frame h k = absurd (h.1 k.1)
  class_once slot SlotClass.Frame SlotClass.Ramp h k = absurd (h.0 k)
  class_once slot SlotClass.Frame SlotClass.Local h k = absurd (k.1 h.1)
  class_once slot SlotClass.Frame SlotClass.Frame h k = refl

  abbrev Each : List ℕ → List SlotClass → Type 0
  Each slots a = (k slot : ℕ) (class : SlotClass) → slice_get slots k ≡ Some slot → slice_get a k ≡ Some class
      → IsOf f slot class

  classes_once : (slots : List ℕ) (a b : List SlotClass) → length a ≡ length slots → length b ≡ length slots
      → Each slots a → Each slots b → a ≡ b
  classes_once [] [] [] p q h k = refl
  classes_once [] [] (y ∷ b) p q h k = absurd (omega (arith, q))
  classes_once [] (x ∷ a) b p q h k = absurd (omega (arith, p))
  classes_once (s ∷ ss) [] b p q h k = absurd (omega (arith, p))
  classes_once (s ∷ ss) (x ∷ a) [] p q h k = absurd (omega (arith, q))
  classes_once (s ∷ ss) (x ∷ a) (y ∷ b) p q h k =
      let first : x ≡ y = class_once s x y (h 0 s x refl refl) (k 0 s y refl refl) in
      let rest : a ≡ b = classes_once ss a b (omega (arith, p)) (omega (arith, q)) (λ j t c e d. h (suc j) t c e d)
      (λ j t c e d. k (suc j) t c e d) in
      λ i. first i ∷ rest i

-- ---- contents have a table of positions

-- what is given for the first n numbers
table : (ℕ → Option ℕ) → ℕ → List (Option ℕ)
table at zero = []
table at (suc n) = at 0 ∷ table (λ v. at (suc v)) n

tells : (at : ℕ → Option ℕ) (n v : ℕ) → ((w : ℕ) → n ≤ w → at w ≡ None) → get_or (table at n) v None ≡ at v
unfolding table
tells at zero v none = sym (none v (omega arith))
tells at (suc n) zero none = refl
tells at (suc n) (suc v) none = tells (λ w. at (suc w)) n v (λ w h. none (suc w) (omega (arith, h)))

-- a number above all that is held
above : List Holding → ℕ
above [] = 0
above (h ∷ hs) = suc (h.value + above hs)

none_above : (k : ℕ) (hs : List Holding) (v : ℕ) → above hs ≤ v → position_from k hs v ≡ None
unfolding above
none_above k [] v le = refl
none_above k (h ∷ hs) v le =
    ap (λ (b : Bool). if b then Some k else position_from (k + 1) hs v) (differs h.value v (omega (arith, le)))
    ∙ none_above (k + 1) hs v (omega (arith, le))
  where
    differs : (a b : ℕ) → a < b → (a == b) ≡ false
    differs a b lt = grind (arith, nat_tests)

positions_told : (hs : List Holding) → ArePositions hs (table (position_of hs) (above hs))
positions_told hs v = tells (position_of hs) (above hs) v (λ w h. none_above 0 hs w h)

-- ---- one frame

module _ (m : Module) (share : Bool) (func : ℕ) (f : Function) (l : Layout) where
  laid_good : (b : Bool) (c : Contents) → AreFit (fields_of f c.held) → IsLaid b f func c.held c.crossing (Ok l)
      → IsGoodLayout func (fields_of f c.held) (AreInConflict f c) l
  laid_good true c fit h =
      weaker func (fields_of f c.held) (AreInConflict f c)
      (IsPair (conflicts_of f c.held c.crossing h.alive h.conflicts)) l
      (λ j k x. x h.alive h.conflicts h.alive_are h.conflicts_are)
      (shared_good func (fields_of f c.held) (conflicts_of f c.held c.crossing h.alive h.conflicts) l fit h.laid)
  laid_good false c fit h = weaker func (fields_of f c.held) (AreInConflict f c) Always l (λ j k x. tt)
      (plain_good func (fields_of f c.held) l fit h)

  frame_good : HasFitFields m f → IsLayout m share func f (Ok l) → IsGoodFor m func f l
  frame_good fit h =
      let x = h.frame in
      record {
        contents = record {
          crossing = x.crossing;
          classes = x.classes;
          held = h.held;
          positions = table (position_of h.held) (above h.held);
        };
        contents_are = record {
          crossing_are = x.crossing_are;
          classes_are = x.classes_are;
          held_are = x.held_are;
          positions_are = positions_told h.held;
        };
        by_contents = by_contents;
      }
    where
      by_contents : (c : Contents) → AreContents m f c → IsGoodLayout func (fields_of f c.held) (AreInConflict f c) l
      by_contents c are =
          let x = h.frame in
          let crossing : x.crossing ≡ c.crossing = crossing_once f
          (values_of f) x.crossing c.crossing x.crossing_are are.crossing_are in
          let one = x.classes_are in
          let other = are.classes_are in
          let classes : x.classes ≡ c.classes = classes_once f (allocas_of f) x.classes c.classes
          one.count other.count one.each other.each in
          let held : h.held ≡ c.held = x.held_are ∙ (λ i. held_of m f (classes i) (crossing i)) ∙ sym are.held_are in
          laid_good share c (fit c are) (subst (λ (hs : List Holding). IsLaid share f func hs c.crossing (Ok l)) held
          (subst (λ (cs : List (ℕ × ℕ)). IsLaid share f func h.held cs (Ok l)) crossing x.laid))

-- ---- all frames

all_good : (m : Module) (share : Bool) (k : ℕ) (fs : List Function) (all : List Layout)
    → ((j : ℕ) (f : Function) → slice_get fs j ≡ Some f → IsTrue f.coroutine → HasFitFields m f)
    → AreLaid m share k fs all → AreGood m k fs all
all_good m share k _ _ fit (NoMore _) = good.NoMore k
all_good m share k _ _ fit (Other _ f fs all plain rest) = good.Other k f fs all plain
    (all_good m share (k + 1) fs all (λ j g e c. fit (suc j) g e c) rest)
all_good m share k _ _ fit (Coroutine _ f fs l all is own rest) =
    good.Coroutine k f fs l all is (frame_good m share k f l (fit 0 f refl is) own)
    (all_good m share (k + 1) fs all (λ j g e c. fit (suc j) g e c) rest)

pub layouts_good : (m : Module) (share : Bool) (layouts : Layouts)
    → ((k : ℕ) (f : Function) → slice_get m.functions k ≡ Some f → IsTrue f.coroutine → HasFitFields m f)
    → AreLayouts m share (Ok layouts) → AreGood m 0 m.functions layouts.coroutines
layouts_good m share layouts fit h = all_good m share 0 m.functions layouts.coroutines fit h

-- ---- a layout is found by its number

is_of : (m : Module) (func : ℕ) (f : Function) (l : Layout) → IsGoodFor m func f l → l.coroutine ≡ func
is_of m func f l h = (h.by_contents h.contents h.contents_are).is_of

found_from : (m : Module) (k : ℕ) (fs : List Function) (all : List Layout) (j : ℕ) (f : Function) → AreGood m k fs all
    → slice_get fs j ≡ Some f → IsTrue f.coroutine → IsFound m (k + j) f all
found_from m k _ _ j f (good.NoMore _) e is = absurd (cc)
found_from m k _ _ zero f (good.Other _ g fs all plain rest) e is = let same : g ≡ f = cc in
    let no : true ≡ false = sym is ∙ ap (λ (x : Function). x.coroutine) (sym same) ∙ plain in absurd (cc)
found_from m k _ _ (suc j) f (good.Other _ g fs all plain rest) e is = subst (λ (n : ℕ). IsFound m n f all)
    (omega arith) (found_from m (k + 1) fs all j f rest e is)
found_from m k _ _ zero f (good.Coroutine _ g fs l all own here rest) e is =
    let same : g ≡ f = cc in
    let at : l.coroutine ≡ k + 0 = (let h = is_of m k g l here in omega (arith, h)) in
    record {
      layout = l;
      is_there = ap (λ (b : Bool). if b then Some l else found_in all (k + 0)) (eq-eqb l.coroutine (k + 0) at);
      is_good = subst (λ (n : ℕ). IsGoodFor m n f l) (omega arith)
          (subst (λ (x : Function). IsGoodFor m k x l) same here);
    }
found_from m k _ _ (suc j) f (good.Coroutine _ g fs l all own here rest) e is =
    let at : l.coroutine ≡ k = is_of m k g l here in
    let next : IsFound m (k + 1 + j) f all = found_from m (k + 1) fs all j f rest e is in
    let found : IsFound m (k + suc j) f all = subst (λ (n : ℕ). IsFound m n f all) (omega arith) next in
    record {
      layout = found.layout;
      is_there = ap (λ (b : Bool). if b then Some l else found_in all (k + suc j))
          (differs l.coroutine (k + suc j) (omega (arith, at))) ∙ found.is_there;
      is_good = found.is_good;
    }
  where
    differs : (a b : ℕ) → a < b → (a == b) ≡ false
    differs a b lt = grind (arith, nat_tests)

pub layouts_found : (m : Module) (layouts : List Layout) (k : ℕ) (f : Function) → AreGood m 0 m.functions layouts
    → slice_get m.functions k ≡ Some f → IsTrue f.coroutine → IsFound m k f layouts
layouts_found m layouts k f h e is = subst (λ (n : ℕ). IsFound m n f layouts) (omega arith)
    (found_from m 0 m.functions layouts k f h e is)
