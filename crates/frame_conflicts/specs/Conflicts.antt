-- Which slots of a frame must have bytes of their own, and which may be alive at a suspend.
use Rattle.std.specs.Prelude.{◌≡◌, ◌≢◌, ◌⊎◌, ◌<◌, ℕ, List, [], slice_get, Some}
use Rattle.ir_model.specs.declared.module.Function.{Function}
use Rattle.ir_paths.specs.Slots.{allocas_of}
use Rattle.ir_paths.specs.Windows.{end_block}
use Rattle.ir_paths.specs.declared.point.Point.{Point}
use Rattle.frame_classes.specs.flow_reach.Reached.{IsPointOf}
use Rattle.frame_conflicts.specs.Pairs.{AreThePairs}
use Rattle.frame_classes.specs.Alive.{MayBeAlive, markers_of}
use Rattle.frame_classes.specs.Classes.{IsOf, suspends}
use Rattle.frame_classes.specs.declared.class.SlotClass.{SlotClass}
use Rattle.frame_classes.specs.rule_slots.Early.{IsBeforeBegin}
use Rattle.frame_classes.specs.frame_slots.Spots.{Spot, IsUse, point_at}
use Rattle.frame_classes.specs.rule_windows.Sets.{IsAfterEnd}

-- a use of the slot stands before begin
pub record IsUsedEarly (f : Function) (slot : ℕ) : Type 0 where
  pub spot : Spot
  pub is_use : IsUse f slot spot
  pub is_early : IsBeforeBegin f (point_at f spot)

-- at a point of the function outside the end block and all blocks that it reaches both may be alive
pub record AreAliveTogether (f : Function) (a b : ℕ) : Type 0 where
  pub point : Point
  pub is_point : IsPointOf f point
  pub is_outside : point.block ≢ end_block f
  pub is_before_end : ¬ (IsAfterEnd f point)
  pub one : MayBeAlive f a point
  pub other : MayBeAlive f b point

-- what makes two frame slots conflict
pub data Conflict (f : Function) (a b : ℕ) : Type 0 where
  Unmarked : (markers_of f a ≡ []) ⊎ (markers_of f b ≡ []) → Conflict f a b
  Early : IsUsedEarly f a ⊎ IsUsedEarly f b → Conflict f a b
  Together : AreAliveTogether f a b → Conflict f a b

-- ---- pairs by position

-- the alloca of a position is a frame slot
pub record IsFrameSlotAt (f : Function) (k slot : ℕ) : Type 0 where
  pub stands : slice_get (allocas_of f) k ≡ Some slot
  pub is_frame : IsOf f slot SlotClass.Frame

-- the positions of two frame slots that conflict, the lower one first
pub record ConflictAt (f : Function) (i k : ℕ) : Type 0 where
  pub one : ℕ
  pub other : ℕ
  pub is_one : IsFrameSlotAt f i one
  pub is_other : IsFrameSlotAt f k other
  pub is_lower : i < k
  pub conflict : Conflict f one other

abbrev pub AreConflicts : Function → List (ℕ × ℕ) → Type 0
AreConflicts f pairs = AreThePairs (ConflictAt f) pairs

-- the frame slot of a position may be alive at the suspend of a number
pub record AliveAt (f : Function) (i k : ℕ) : Type 0 where
  pub slot : ℕ
  pub is_slot : IsFrameSlotAt f i slot
  pub suspend : Point
  pub is_suspend : slice_get (suspends f) k ≡ Some suspend
  pub is_alive : MayBeAlive f slot suspend

abbrev pub AreAliveAt : Function → List (ℕ × ℕ) → Type 0
AreAliveAt f pairs = AreThePairs (AliveAt f) pairs
