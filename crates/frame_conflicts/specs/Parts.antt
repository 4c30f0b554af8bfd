-- The frame slots that conflict, without their pairs.
use Rattle.std.specs.Prelude.{◌≡◌, ◌⊎◌, ◌↔◌, ◌<◌, ℕ, List, [], ◌∷◌, if◌then◌else◌, Bool}
use Rattle.flow_solver.specs.Paths.{IsListed}
use Rattle.ir_model.specs.declared.module.Function.{Function}
use Rattle.frame_conflicts.specs.Conflicts.{AreAliveTogether, IsFrameSlotAt, IsUsedEarly}
use Rattle.frame_conflicts.specs.Known.{IsFrameAt}
use Rattle.frame_conflicts.specs.Pairs.{AreThePairs}
use Rattle.frame_conflicts.specs.declared.parts.SlotParts.{SlotParts}
use Rattle.frame_classes.specs.Alive.{markers_of}

-- the slot conflicts with all frame slots: it lacks markers, or is used before begin
abbrev pub IsWide : Function → ℕ → Type 0
IsWide f slot = (markers_of f slot ≡ []) ⊎ IsUsedEarly f slot

-- the position is that of such a frame slot
pub record IsWideAt (f : Function) (i : ℕ) : Type 0 where
  pub slot : ℕ
  pub is_slot : IsFrameSlotAt f i slot
  pub is_wide : IsWide f slot

-- the positions of two other frame slots that are alive together, the lower one first
pub record NarrowAt (f : Function) (i k : ℕ) : Type 0 where
  pub one : ℕ
  pub other : ℕ
  pub is_one : IsFrameSlotAt f i one
  pub is_other : IsFrameSlotAt f k other
  pub is_lower : i < k
  pub one_is_narrow : ¬ (IsWide f one)
  pub other_is_narrow : ¬ (IsWide f other)
  pub together : AreAliveTogether f one other

-- just the numbers of which the fact holds
abbrev pub AreJust : (ℕ → Type 0) → List ℕ → Type 0
AreJust Holds numbers = (i : ℕ) → IsListed i numbers ↔ Holds i

-- just those below a number
abbrev pub AreBelow : (ℕ → Type 0) → ℕ → List ℕ → Type 0
AreBelow Holds n numbers = (i : ℕ) → IsListed i numbers ↔ (Holds i × (i < n))

abbrev pub number_if : Bool → ℕ → List ℕ
number_if b i = if b then i ∷ [] else []

-- the frame slots, those that conflict with all of them, and the pairs of the others that conflict
pub record ArePartsOf (f : Function) (parts : SlotParts) : Type 0 where
  pub frame_are : AreJust (IsFrameAt f) parts.frame
  pub wide_are : AreJust (IsWideAt f) parts.wide
  pub narrow_are : AreThePairs (NarrowAt f) parts.narrow

-- by these parts two frame slots conflict
abbrev pub AreParted : SlotParts → ℕ → ℕ → Type 0
AreParted parts i k = (IsListed i parts.wide × IsListed k parts.frame) ⊎ ((IsListed k parts.wide × IsListed i parts.frame) ⊎ IsListed (i, k) parts.narrow)
