-- Where an activation of a coroutine stands by the path that it came, as far as its slots are concerned.
use Rattle.std.specs.Prelude.{ℕ, List, [], ◌++◌, IsTrue}
use Rattle.pass_kept_proof.specs.ir_model.declared.module.Function.{Function}
use Rattle.pass_kept_proof.specs.ir_paths.Paths.{has_point}
use Rattle.pass_kept_proof.specs.ir_paths.Slots.{end_points, is_escaped}
use Rattle.pass_kept_proof.specs.ir_paths.declared.point.Point.{Point}
use Rattle.frame_classes.specs.Alive.{MayBeAlive}
use Rattle.frame_classes.specs.Classes.{parting, suspends}
use Rattle.frame_classes.specs.frame_slots.Spots.{Comes}
use Rattle.pass_renewed_proof.specs.Ahead.{WasUsed}
use Rattle.pass_renewed_proof.specs.Left.{IsLeftBy}
use Rattle.pass_kept_proof.specs.rule_windows.Windows.{own_edges}

-- ---- resumed activations

-- a path leads there from an own edge of a suspend, with none of these points and none of the end block before it
pub record CameBehind (f : Function) (avoided : List Point) (s p : Point) : Type 0 where
  pub is_suspend : IsTrue (has_point (suspends f) s)
  pub edge : Point
  pub own : IsTrue (has_point (own_edges f s) edge)
  pub comes : Comes f (avoided ++ end_points f) edge p

-- it stands behind a suspend, and hasn't passed the end block
pub record IsResumedAt (f : Function) (p : Point) : Type 0 where
  pub suspend : Point
  pub came : CameBehind f [] suspend p

-- the slot was used before the suspend behind which it stands, and hasn't been started since, if it isn't escaped
pub record IsBarred (f : Function) (slot : ℕ) (p : Point) : Type 0 where
  pub suspend : Point
  pub used : WasUsed f slot suspend
  pub came : CameBehind f (parting (is_escaped f slot) f slot) suspend p

-- ---- activations that have left

-- the slot may have been alive at the suspend by which it has left
pub record WasAlive (f : Function) (slot : ℕ) (p : Point) : Type 0 where
  pub suspend : Point
  pub is_suspend : IsTrue (has_point (suspends f) suspend)
  pub is_alive : MayBeAlive f slot suspend
  pub by : IsLeftBy f suspend p
