-- The classes of slots.
use Rattle.std.specs.Prelude.{◌≡◌, ◌⊎◌, ℕ, Bool, true, false, List, [], length, slice_get, Some, IsTrue}
use Rattle.ir_model.specs.declared.module.Function.{Function}
use Rattle.ir_model.specs.declared.operand.Intrinsic.{Intrinsic}
use Rattle.ir_paths.specs.Paths.{has_point}
use Rattle.ir_paths.specs.Slots.{IsRampSlot, allocas_of, is_escaped, is_promise}
use Rattle.ir_paths.specs.Windows.{is_call_of, points_where}
use Rattle.ir_paths.specs.declared.point.Point.{Point}
use Rattle.frame_classes.specs.Alive.{MayBeAlive}
use Rattle.frame_classes.specs.declared.class.SlotClass.{SlotClass}
use Rattle.frame_slots.specs.rule_slots.Closed.{IsClosed}
use Rattle.frame_slots.specs.Spots.{Spot, IsBehind, IsStart, IsUse, LeadsFrom, point_at}
use Rattle.frame_slots.specs.Uses.{starts_of}
use Rattle.frame_slots.specs.rule_windows.Sets.{IsAfterEnd}

abbrev pub suspends : Function → List Point
suspends f = points_where (is_call_of Intrinsic.CoroSuspend) f

-- a use, or of an escaped slot also a start
abbrev pub Touches : Function → ℕ → Spot → Type 0
Touches f slot spot = IsUse f slot spot ⊎ (IsTrue (is_escaped f slot) × IsStart f slot spot)

-- ---- what puts a slot into the frame

-- it is used in a window or after the end, and used, or if escaped started, behind a suspend with the end block not between
pub record IsUsedAway (f : Function) (slot : ℕ) : Type 0 where
  pub early : Spot
  pub is_use : IsUse f slot early
  pub is_away : IsClosed f (point_at f early)
  pub suspend : Point
  pub is_suspend : IsTrue (has_point (suspends f) suspend)
  pub late : Spot
  pub touches : Touches f slot late
  pub is_behind : IsBehind f suspend [] late

-- the starts of a slot that isn't escaped, which part its later uses from the earlier ones
abbrev pub parting : Bool → Function → ℕ → List Point
parting true f slot = []
parting false f slot = starts_of f slot

-- on one path stand a use, a resume or destroy edge and, with neither the end block between that edge and it nor a start between the uses, a later use; of an escaped slot any later use or start
pub record IsUsedAcross (f : Function) (slot : ℕ) : Type 0 where
  pub early : Spot
  pub is_use : IsUse f slot early
  pub suspend : Point
  pub is_suspend : IsTrue (has_point (suspends f) suspend)
  pub comes : LeadsFrom f (parting (is_escaped f slot) f slot) early suspend
  pub late : Spot
  pub touches : Touches f slot late
  pub is_behind : IsBehind f suspend (parting (is_escaped f slot) f slot) late

-- the use reaches the suspend, or stands after the end
abbrev pub MeetsLater : Function → Spot → Point → Type 0
MeetsLater f spot s = LeadsFrom f [] spot s ⊎ IsAfterEnd f (point_at f spot)

-- an escaped slot may be alive at a suspend that one of its uses reaches, or at any if one of its uses stands after the end
pub record IsAliveAcross (f : Function) (slot : ℕ) : Type 0 where
  pub is_escaped : IsTrue (is_escaped f slot)
  pub suspend : Point
  pub is_suspend : IsTrue (has_point (suspends f) suspend)
  pub is_alive : MayBeAlive f slot suspend
  pub spot : Spot
  pub is_use : IsUse f slot spot
  pub meets : MeetsLater f spot suspend

-- a slot that lives in the frame
pub data NeedsFrame (f : Function) (slot : ℕ) : Type 0 where
  Promise : IsTrue (is_promise f slot) → NeedsFrame f slot
  Away : IsUsedAway f slot → NeedsFrame f slot
  Across : IsUsedAcross f slot → NeedsFrame f slot
  Alive : IsAliveAcross f slot → NeedsFrame f slot

-- ---- the classes

-- the class of an alloca
abbrev pub IsOf : Function → ℕ → SlotClass → Type 0
IsOf f slot SlotClass.Ramp = IsRampSlot f slot
IsOf f slot SlotClass.Local = (¬ IsRampSlot f slot) × (¬ NeedsFrame f slot)
IsOf f slot SlotClass.Frame = (¬ IsRampSlot f slot) × NeedsFrame f slot

-- one class for each alloca, in order of the text
pub record AreClasses (f : Function) (classes : List SlotClass) : Type 0 where
  pub count : length classes ≡ length (allocas_of f)
  pub each : (k slot : ℕ) (class : SlotClass) → slice_get (allocas_of f) k ≡ Some slot → slice_get classes k ≡ Some class → IsOf f slot class
