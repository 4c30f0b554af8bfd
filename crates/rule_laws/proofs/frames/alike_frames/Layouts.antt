-- Layouts of modules whose functions change, but not in what frames hold.
use Rattle.std.proofs.Common.{◌≡◌, ℕ, suc, ◌+◌, Bool, true, false, List, [], ◌∷◌, map, Some, None, refl, sym, ap, ◌∙◌, subst, ◌↔◌}
use Rattle.std.specs.Prelude.{Result, Ok, Err, get_or, slice_get}
use Rattle.frame_contents.specs.Frames.{AreLaid, AreLayouts, IsFrame, IsLaid, IsLayout, IsTooLarge, conflicts_of}
use Rattle.frame_contents.specs.Frames.AreLaid.{NoMore, Other, Coroutine}
use Rattle.frame_contents.specs.Frames.IsTooLarge.{Here, BehindOther, BehindFrame}
use Rattle.frame_contents.specs.Held.{at_fields, both_at_fields, fields_of, held_of, position_of}
use Rattle.frame_contents.specs.declared.held.Holding.{Holding}
use Rattle.frame_contents.specs.declared.module_frames.LayoutsError.{LayoutsError}
use Rattle.frame_layout.specs.Conflicts.{field_conflicts}
use Rattle.frame_layout.specs.Layouts.{IsLaidOut, IsLaidOutPlain}
use Rattle.frame_layout.specs.declared.layout.Field.{Field}
use Rattle.frame_layout.specs.declared.layout.Layout.{Layout}
use Rattle.frame_layout.specs.declared.layout.Layouts.{Layouts}
use Rattle.frame_layout.specs.declared.laying.LayoutError.{LayoutError}
use Rattle.ir_laws.specs.ir_model.declared.module.Function.{Function}
use Rattle.ir_laws.specs.ir_model.declared.module.Module.{Module}
use Rattle.ir_laws.specs.ir_paths.Slots.{allocas_of}
use Rattle.frame_contents.specs.frame_conflicts.Conflicts.{AreAliveAt, AreConflicts}
use Rattle.frame_contents.specs.frame_classes.Classes.{AreClasses}
use Rattle.frame_contents.specs.frame_classes.declared.class.SlotClass.{SlotClass}
use Rattle.frame_contents.specs.frame_crossing.Crossing.{AreCrossing}

-- the frames of two functions of two modules hold the same
pub record HoldAlike (m k : Module) (f g : Function) : Type 0 where
  pub crossing : (all : List (ℕ × ℕ)) → AreCrossing f all ↔ AreCrossing g all
  pub classes : (classes : List SlotClass) → AreClasses f classes ↔ AreClasses g classes
  pub alive : (pairs : List (ℕ × ℕ)) → AreAliveAt f pairs ↔ AreAliveAt g pairs
  pub conflicts : (pairs : List (ℕ × ℕ)) → AreConflicts f pairs ↔ AreConflicts g pairs
  pub held : (classes : List SlotClass) (all : List (ℕ × ℕ)) → AreCrossing f all → held_of k g classes all ≡ held_of m f classes all
  pub fields : (classes : List SlotClass) (all : List (ℕ × ℕ)) → fields_of g (held_of m f classes all) ≡ fields_of f (held_of m f classes all)
  pub allocas : allocas_of g ≡ allocas_of f

module _ (m k : Module) (f g : Function) (alike : HoldAlike m k f g) (share : Bool) (func : ℕ) where
  module _ (held : List Holding) (fields : fields_of g held ≡ fields_of f held) (all : List (ℕ × ℕ)) where
    pairs_same : (alive conflicts : List (ℕ × ℕ)) → conflicts_of g held all alive conflicts ≡ conflicts_of f held all alive conflicts
    pairs_same alive conflicts = λ i.
        field_conflicts (fields i) (at_fields (position_of held) all)
        (at_fields (λ (n : ℕ). get_or (map (position_of held) (alike.allocas i)) n None) alive)
        (both_at_fields (λ (n : ℕ). get_or (map (position_of held) (alike.allocas i)) n None) conflicts)

    laid_forth : (b : Bool) (result : Result Layout LayoutError) → IsLaid b f func held all result → IsLaid b g func held all result
    laid_forth true result l = record {
      alive = l.alive;
      alive_are = (alike.alive l.alive).0 l.alive_are;
      conflicts = l.conflicts;
      conflicts_are = (alike.conflicts l.conflicts).0 l.conflicts_are;
      laid = subst (λ (ps : List (ℕ × ℕ)). IsLaidOut func (fields_of g held) ps result) (sym (pairs_same l.alive l.conflicts))
          (subst (λ (fs : List Field). IsLaidOut func fs (conflicts_of f held all l.alive l.conflicts) result) (sym fields) l.laid);
    }
    laid_forth false result l = subst (λ (fs : List Field). IsLaidOutPlain func fs result) (sym fields) l

    laid_home : (b : Bool) (result : Result Layout LayoutError) → IsLaid b g func held all result → IsLaid b f func held all result
    laid_home true result l = record {
      alive = l.alive;
      alive_are = (alike.alive l.alive).1 l.alive_are;
      conflicts = l.conflicts;
      conflicts_are = (alike.conflicts l.conflicts).1 l.conflicts_are;
      laid = subst (λ (ps : List (ℕ × ℕ)). IsLaidOut func (fields_of f held) ps result) (pairs_same l.alive l.conflicts)
          (subst (λ (fs : List Field). IsLaidOut func fs (conflicts_of g held all l.alive l.conflicts) result) fields l.laid);
    }
    laid_home false result l = subst (λ (fs : List Field). IsLaidOutPlain func fs result) fields l

  pub frame_forth : (held : List Holding) (result : Result Layout LayoutError) → IsFrame m share func f held result → IsFrame k share func g held result
  frame_forth held result h =
      let fields : fields_of g held ≡ fields_of f held = subst (λ (hs : List Holding). fields_of g hs ≡ fields_of f hs) (sym h.held_are) (alike.fields h.classes h.crossing) in
      record {
        crossing = h.crossing;
        crossing_are = (alike.crossing h.crossing).0 h.crossing_are;
        classes = h.classes;
        classes_are = (alike.classes h.classes).0 h.classes_are;
        held_are = h.held_are ∙ sym (alike.held h.classes h.crossing h.crossing_are);
        laid = laid_forth held fields h.crossing share result h.laid;
      }

  pub frame_home : (held : List Holding) (result : Result Layout LayoutError) → IsFrame k share func g held result → IsFrame m share func f held result
  frame_home held result h =
      let crossing = (alike.crossing h.crossing).1 h.crossing_are in
      let own : held ≡ held_of m f h.classes h.crossing = h.held_are ∙ alike.held h.classes h.crossing crossing in
      let fields : fields_of g held ≡ fields_of f held = subst (λ (hs : List Holding). fields_of g hs ≡ fields_of f hs) (sym own) (alike.fields h.classes h.crossing) in
      record {
        crossing = h.crossing;
        crossing_are = crossing;
        classes = h.classes;
        classes_are = (alike.classes h.classes).1 h.classes_are;
        held_are = own;
        laid = laid_home held fields h.crossing share result h.laid;
      }

  pub layout_forth : (result : Result Layout LayoutError) → IsLayout m share func f result → IsLayout k share func g result
  layout_forth result h = record { held = h.held; frame = frame_forth h.held result h.frame }

  pub layout_home : (result : Result Layout LayoutError) → IsLayout k share func g result → IsLayout m share func f result
  layout_home result h = record { held = h.held; frame = frame_home h.held result h.frame }

-- ---- of a module

module _ (m k : Module) (change : Function → Function) (stays : (f : Function) → (change f).coroutine ≡ f.coroutine) (share : Bool) where
  -- each coroutine of these holds what it held
  abbrev AllAlike : List Function → Type 0
  AllAlike fs = (j : ℕ) (f : Function) → slice_get fs j ≡ Some f → f.coroutine ≡ true → HoldAlike m k f (change f)

  laid_all : (n : ℕ) (fs : List Function) (all : List Layout) → AllAlike fs → AreLaid m share n fs all → AreLaid k share n (map change fs) all
  laid_all _ _ _ alike (NoMore n) = NoMore n
  laid_all _ _ _ alike (Other n f fs all other rest) = Other n (change f) (map change fs) all (stays f ∙ other) (laid_all (n + 1) fs all (λ j h e c. alike (suc j) h e c) rest)
  laid_all _ _ _ alike (Coroutine n f fs layout all own_is h rest) =
      Coroutine n (change f) (map change fs) layout all (stays f ∙ own_is) (layout_forth m k f (change f) (alike 0 f refl own_is) share n (Ok layout) h) (laid_all (n + 1) fs all (λ j h e c. alike (suc j) h e c) rest)

  laid_back : (n : ℕ) (gs : List Function) (all : List Layout) → AreLaid k share n gs all → (fs : List Function) → AllAlike fs → gs ≡ map change fs → AreLaid m share n fs all
  laid_back _ _ _ (NoMore n) [] alike e = NoMore n
  laid_back _ _ _ (NoMore n) (f ∷ fs) alike e = absurd (cc)
  laid_back _ _ _ (Other n g gs all other rest) [] alike e = absurd (cc)
  laid_back _ _ _ (Other n g gs all other rest) (f ∷ fs) alike e =
      let first : g ≡ change f = cc in
      let more : gs ≡ map change fs = cc in
      Other n f fs all (sym (stays f) ∙ ap (λ (h : Function). h.coroutine) (sym first) ∙ other) (laid_back (n + 1) gs all rest fs (λ j h d c. alike (suc j) h d c) more)
  laid_back _ _ _ (Coroutine n g gs layout all own_is h rest) [] alike e = absurd (cc)
  laid_back _ _ _ (Coroutine n g gs layout all own_is h rest) (f ∷ fs) alike e =
      let first : g ≡ change f = cc in
      let more : gs ≡ map change fs = cc in
      let own : f.coroutine ≡ true = sym (stays f) ∙ ap (λ (h : Function). h.coroutine) (sym first) ∙ own_is in
      Coroutine n f fs layout all own (layout_home m k f (change f) (alike 0 f refl own) share n (Ok layout) (subst (λ (x : Function). IsLayout k share n x (Ok layout)) first h)) (laid_back (n + 1) gs all rest fs (λ j h d c. alike (suc j) h d c) more)

  large_all : (l n : ℕ) (fs : List Function) → AllAlike fs → IsTooLarge m share l n fs → IsTooLarge k share l n (map change fs)
  large_all l _ _ alike (Here f fs own_is h) = Here (change f) (map change fs) (stays f ∙ own_is) (layout_forth m k f (change f) (alike 0 f refl own_is) share l (Err LayoutError.FrameTooLarge) h)
  large_all l _ _ alike (BehindOther n f fs other rest) = BehindOther n (change f) (map change fs) (stays f ∙ other) (large_all l (n + 1) fs (λ j h e c. alike (suc j) h e c) rest)
  large_all l _ _ alike (BehindFrame n f fs layout own_is h rest) =
      BehindFrame n (change f) (map change fs) layout (stays f ∙ own_is) (layout_forth m k f (change f) (alike 0 f refl own_is) share n (Ok layout) h) (large_all l (n + 1) fs (λ j h e c. alike (suc j) h e c) rest)

  large_back : (l n : ℕ) (gs : List Function) → IsTooLarge k share l n gs → (fs : List Function) → AllAlike fs → gs ≡ map change fs → IsTooLarge m share l n fs
  large_back l _ _ (Here g gs own_is h) [] alike e = absurd (cc)
  large_back l _ _ (Here g gs own_is h) (f ∷ fs) alike e =
      let first : g ≡ change f = cc in
      let own : f.coroutine ≡ true = sym (stays f) ∙ ap (λ (h : Function). h.coroutine) (sym first) ∙ own_is in
      Here f fs own (layout_home m k f (change f) (alike 0 f refl own) share l (Err LayoutError.FrameTooLarge) (subst (λ (x : Function). IsLayout k share l x (Err LayoutError.FrameTooLarge)) first h))
  large_back l _ _ (BehindOther n g gs other rest) [] alike e = absurd (cc)
  large_back l _ _ (BehindOther n g gs other rest) (f ∷ fs) alike e =
      let first : g ≡ change f = cc in
      let more : gs ≡ map change fs = cc in
      BehindOther n f fs (sym (stays f) ∙ ap (λ (h : Function). h.coroutine) (sym first) ∙ other) (large_back l (n + 1) gs rest fs (λ j h d c. alike (suc j) h d c) more)
  large_back l _ _ (BehindFrame n g gs layout own_is h rest) [] alike e = absurd (cc)
  large_back l _ _ (BehindFrame n g gs layout own_is h rest) (f ∷ fs) alike e =
      let first : g ≡ change f = cc in
      let more : gs ≡ map change fs = cc in
      let own : f.coroutine ≡ true = sym (stays f) ∙ ap (λ (h : Function). h.coroutine) (sym first) ∙ own_is in
      BehindFrame n f fs layout own (layout_home m k f (change f) (alike 0 f refl own) share n (Ok layout) (subst (λ (x : Function). IsLayout k share n x (Ok layout)) first h)) (large_back l (n + 1) gs rest fs (λ j h d c. alike (suc j) h d c) more)

  pub layouts_same : k.functions ≡ map change m.functions → AllAlike m.functions → (result : Result Layouts LayoutsError) → AreLayouts m share result ↔ AreLayouts k share result
  layouts_same e alike (Ok layouts) = (
    (λ h. subst (λ (fs : List Function). AreLaid k share 0 fs layouts.coroutines) (sym e) (laid_all 0 m.functions layouts.coroutines alike h)),
    (λ h. laid_back 0 k.functions layouts.coroutines h m.functions alike e),
  )
  layouts_same e alike (Err (LayoutsError.TooLarge func)) = (
    (λ h. subst (λ (fs : List Function). IsTooLarge k share func 0 fs) (sym e) (large_all func 0 m.functions alike h)),
    (λ h. large_back func 0 k.functions h m.functions alike e),
  )
  layouts_same e alike (Err LayoutsError.OutOfMemory) = ((λ h. h), (λ h. h))
