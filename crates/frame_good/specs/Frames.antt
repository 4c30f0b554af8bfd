-- Good layouts of the frames of coroutines.
use Rattle.std.specs.Prelude.{◌≡◌, ℕ, List, [], Option, Some, IsTrue, IsFalse, find, ◌+◌, ◌∷◌, ◌==◌}
use Rattle.frame_contents.specs.Frames.{conflicts_of}
use Rattle.frame_contents.specs.Held.{fields_of}
use Rattle.frame_contents.specs.declared.contents.Contents.{Contents}
use Rattle.frame_contents.specs.Frames.{AreContents}
use Rattle.frame_placing.specs.Placed.{IsPair}
use Rattle.frame_layout.specs.declared.layout.Layout.{Layout}
use Rattle.frame_good.specs.Good.{AreFit, IsGoodLayout}
use Rattle.ir_model.specs.declared.module.Function.{Function}
use Rattle.ir_model.specs.declared.module.Module.{Module}
use Rattle.frame_contents.specs.frame_conflicts.Conflicts.{AreAliveAt, AreConflicts}

-- two fields conflict, by whatever lists name just the slots that may be alive at suspends and the slots that conflict
abbrev pub AreInConflict : Function → Contents → ℕ → ℕ → Type 0
AreInConflict f c j k =
    (alive conflicts : List (ℕ × ℕ)) → AreAliveAt f alive → AreConflicts f conflicts
    → IsPair (conflicts_of f c.held c.crossing alive conflicts) j k

-- the frame has contents, and by whatever contents it has the layout is good for the coroutine with the number
pub record IsGoodFor (m : Module) (func : ℕ) (f : Function) (l : Layout) : Type 0 where
  pub contents : Contents
  pub contents_are : AreContents m f contents
  pub by_contents : (c : Contents) → AreContents m f c → IsGoodLayout func (fields_of f c.held) (AreInConflict f c) l

-- its fields are fit for that
abbrev pub HasFitFields : Module → Function → Type 0
HasFitFields m f = (c : Contents) → AreContents m f c → AreFit (fields_of f c.held)

-- the layouts of the coroutines among the functions, of which the first has a number, are good
pub data AreGood (m : Module) : ℕ → List Function → List Layout → Type 0 where
  NoMore : (k : ℕ) → AreGood m k [] []
  Other : (k : ℕ) (f : Function) (fs : List Function) (all : List Layout) → IsFalse f.coroutine
      → AreGood m (k + 1) fs all → AreGood m k (f ∷ fs) all
  Coroutine : (k : ℕ) (f : Function) (fs : List Function) (l : Layout) (all : List Layout) → IsTrue f.coroutine
      → IsGoodFor m k f l → AreGood m (k + 1) fs all → AreGood m k (f ∷ fs) (l ∷ all)

-- of the layouts the first that says that it is of the function with the number
abbrev pub found_in : List Layout → ℕ → Option Layout
found_in layouts func = find (λ l. l.coroutine == func) layouts

-- the layout that is found by the coroutine's number is good
pub record IsFound (m : Module) (func : ℕ) (f : Function) (layouts : List Layout) : Type 0 where
  pub layout : Layout
  pub is_there : found_in layouts func ≡ Some layout
  pub is_good : IsGoodFor m func f layout
