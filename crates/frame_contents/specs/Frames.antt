-- The frames of coroutines.
use Rattle.std.specs.Prelude.{◌≡◌, ◌⊎◌, ℕ, Bool, true, false, List, [], None, Option, Result, Ok, Err, IsTrue, IsFalse, get_or, map, ◌+◌, ◌∷◌, ◌++◌}
use Rattle.frame_contents.specs.Held.{at_fields, both_at_fields, fields_of, held_of, position_of, slot_position}
use Rattle.frame_contents.specs.declared.contents.Contents.{Contents}
use Rattle.frame_contents.specs.declared.frames.CoroutineFrame.{CoroutineFrame}
use Rattle.frame_contents.specs.declared.held.Holding.{Holding}
use Rattle.frame_contents.specs.declared.module_frames.LayoutsError.{LayoutsError}
use Rattle.frame_layout.specs.Conflicts.{field_conflicts}
use Rattle.frame_layout.specs.Layouts.{IsLaidOut, IsLaidOutPlain}
use Rattle.frame_layout.specs.declared.layout.Field.{Field}
use Rattle.frame_layout.specs.declared.layout.Layout.{Layout}
use Rattle.frame_layout.specs.declared.layout.Layouts.{Layouts}
use Rattle.frame_layout.specs.declared.laying.LayoutError.{LayoutError}
use Rattle.ir_model.specs.declared.module.Function.{Function}
use Rattle.ir_model.specs.declared.module.Module.{Module}
use Rattle.frame_conflicts.specs.Conflicts.{AreAliveAt, AreConflicts}
use Rattle.frame_conflicts.specs.frame_classes.Classes.{AreClasses}
use Rattle.frame_conflicts.specs.frame_classes.declared.class.SlotClass.{SlotClass}
use Rattle.frame_crossing.specs.Crossing.{AreCrossing}

-- ---- of one coroutine

-- the conflicts of the fields, by the values that cross suspends, the slots that may be alive at suspends, and the slots that conflict
abbrev pub conflicts_of : Function → List Holding → List (ℕ × ℕ) → List (ℕ × ℕ) → List (ℕ × ℕ) → List (ℕ × ℕ)
conflicts_of f held crossing alive conflicts =
    field_conflicts (fields_of f held)
    (at_fields (position_of held) crossing)
    (at_fields (slot_position f held) alive)
    (both_at_fields (slot_position f held) conflicts)

-- the layout by the conflicts
pub record IsShared (f : Function) (func : ℕ) (held : List Holding) (crossing : List (ℕ × ℕ)) (result : Result Layout LayoutError) : Type 0 where
  pub alive : List (ℕ × ℕ)
  pub alive_are : AreAliveAt f alive
  pub conflicts : List (ℕ × ℕ)
  pub conflicts_are : AreConflicts f conflicts
  pub laid : IsLaidOut func (fields_of f held) (conflicts_of f held crossing alive conflicts) result

-- with bytes shared, or plain
abbrev pub IsLaid : Bool → Function → ℕ → List Holding → List (ℕ × ℕ) → Result Layout LayoutError → Type 0
IsLaid true f func held crossing result = IsShared f func held crossing result
IsLaid false f func held crossing result = IsLaidOutPlain func (fields_of f held) result

-- the frame holds the values that cross suspends and the frame slots, and has that layout
pub record IsFrame (m : Module) (share : Bool) (func : ℕ) (f : Function) (held : List Holding) (result : Result Layout LayoutError) : Type 0 where
  pub crossing : List (ℕ × ℕ)
  pub crossing_are : AreCrossing f crossing
  pub classes : List SlotClass
  pub classes_are : AreClasses f classes
  pub held_are : held ≡ held_of m f classes crossing
  pub laid : IsLaid share f func held crossing result

-- the layout of a coroutine's frame, or that it is too large
pub record IsLayout (m : Module) (share : Bool) (func : ℕ) (f : Function) (result : Result Layout LayoutError) : Type 0 where
  pub held : List Holding
  pub frame : IsFrame m share func f held result

-- the fact, unless memory was wanting
abbrev pub IfKnown : (Result Layout LayoutError → Type 0) → Result Layout LayoutError → Type 0
IfKnown P (Ok layout) = P (Ok layout)
IfKnown P (Err LayoutError.FrameTooLarge) = P (Err LayoutError.FrameTooLarge)
IfKnown P (Err LayoutError.OutOfMemory) = Unit {0}

-- the table tells the position of the field of each value and slot
abbrev pub ArePositions : List Holding → List (Option ℕ) → Type 0
ArePositions held table = (v : ℕ) → get_or table v None ≡ position_of held v

-- what a coroutine's frame holds: the values that cross suspends, the classes of the allocas, what is held in order of the text, and the positions of fields
pub record AreContents (m : Module) (f : Function) (c : Contents) : Type 0 where
  pub crossing_are : AreCrossing f c.crossing
  pub classes_are : AreClasses f c.classes
  pub held_are : c.held ≡ held_of m f c.classes c.crossing
  pub positions_are : ArePositions c.held c.positions

pub record IsFrameWith (m : Module) (share : Bool) (func : ℕ) (f : Function) (frame : CoroutineFrame) : Type 0 where
  pub frame_is : IsFrame m share func f frame.held (Ok frame.layout)
  pub positions : ArePositions frame.held frame.positions

-- a coroutine's frame, or that it is too large
abbrev pub IsFrameOf : Module → Bool → ℕ → Function → Result CoroutineFrame LayoutError → Type 0
IsFrameOf m share func f (Ok frame) = IsFrameWith m share func f frame
IsFrameOf m share func f (Err LayoutError.FrameTooLarge) = IsLayout m share func f (Err LayoutError.FrameTooLarge)
IsFrameOf m share func f (Err LayoutError.OutOfMemory) = Unit {0}

-- the layout by the conflicts of the fields, by a table of positions and the allocas
pub record IsSharedBy (f : Function) (func : ℕ) (allocas : List ℕ) (fields : List Field) (table : List (Option ℕ)) (crossing : List (ℕ × ℕ)) (result : Result Layout LayoutError) : Type 0 where
  pub alive : List (ℕ × ℕ)
  pub alive_are : AreAliveAt f alive
  pub conflicts : List (ℕ × ℕ)
  pub conflicts_are : AreConflicts f conflicts
  pub laid : IsLaidOut func fields
      (field_conflicts fields
      (at_fields (λ v. get_or table v None) crossing)
      (at_fields (λ i. get_or (map (λ v. get_or table v None) allocas) i None) alive)
      (both_at_fields (λ i. get_or (map (λ v. get_or table v None) allocas) i None) conflicts))
      result

-- ---- of all coroutines, in order of the text

-- a coroutine's layout was added, or its frame is too large
abbrev pub IsPushed : Module → Bool → ℕ → Function → List Layout → List Layout → Result (Unit {0}) LayoutsError → Type 0
IsPushed m share func f old new (Ok u) =
    (IsFalse f.coroutine × (new ≡ old)) ⊎ (IsTrue f.coroutine × ((layout : Layout) × IsLayout m share func f (Ok layout) × (new ≡ old ++ layout ∷ [])))
IsPushed m share func f old new (Err (LayoutsError.TooLarge n)) = (n ≡ func) × IsTrue f.coroutine × IsLayout m share func f (Err LayoutError.FrameTooLarge)
IsPushed m share func f old new (Err LayoutsError.OutOfMemory) = Unit {0}

-- the layouts of the coroutines among the functions, of which the first has a number
pub data AreLaid (m : Module) (share : Bool) : ℕ → List Function → List Layout → Type 0 where
  NoMore : (k : ℕ) → AreLaid m share k [] []
  Other : (k : ℕ) (f : Function) (fs : List Function) (all : List Layout) → IsFalse f.coroutine → AreLaid m share (k + 1) fs all → AreLaid m share k (f ∷ fs) all
  Coroutine : (k : ℕ) (f : Function) (fs : List Function) (layout : Layout) (all : List Layout) → IsTrue f.coroutine → IsLayout m share k f (Ok layout) → AreLaid m share (k + 1) fs all → AreLaid m share k (f ∷ fs) (layout ∷ all)

-- the first coroutine among the functions whose frame is too large has the number n
pub data IsTooLarge (m : Module) (share : Bool) (n : ℕ) : ℕ → List Function → Type 0 where
  Here : (f : Function) (fs : List Function) → IsTrue f.coroutine → IsLayout m share n f (Err LayoutError.FrameTooLarge) → IsTooLarge m share n n (f ∷ fs)
  BehindOther : (k : ℕ) (f : Function) (fs : List Function) → IsFalse f.coroutine → IsTooLarge m share n (k + 1) fs → IsTooLarge m share n k (f ∷ fs)
  BehindFrame : (k : ℕ) (f : Function) (fs : List Function) (layout : Layout) → IsTrue f.coroutine → IsLayout m share k f (Ok layout) → IsTooLarge m share n (k + 1) fs → IsTooLarge m share n k (f ∷ fs)

-- the layouts of a module's coroutines, or the first coroutine whose plain layout ends above 2^24
abbrev pub AreLayouts : Module → Bool → Result Layouts LayoutsError → Type 0
AreLayouts m share (Ok layouts) = AreLaid m share 0 m.functions layouts.coroutines
AreLayouts m share (Err (LayoutsError.TooLarge func)) = IsTooLarge m share func 0 m.functions
AreLayouts m share (Err LayoutsError.OutOfMemory) = Unit {0}
