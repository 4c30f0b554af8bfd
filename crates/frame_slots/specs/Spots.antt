-- Where something of a slot stands, and what lies behind a suspend.
use Rattle.std.specs.Prelude.{◌≡◌, ◌<◌, ◌⊎◌, ℕ, List, length, IsTrue, IsFalse, ◌++◌}
use Rattle.flow_solver.specs.Paths.{IsListed}
use Rattle.ir_model.specs.declared.module.Function.{Function}
use Rattle.ir_paths.specs.Paths.{Leads, has_point}
use Rattle.ir_paths.specs.Slots.{addresses_of, end_points, has_name}
use Rattle.ir_paths.specs.declared.point.Point.{Point}
use Rattle.rule_slots.specs.Early.{end_at}
use Rattle.frame_slots.specs.Uses.{UsesAt, starts_of}
use Rattle.rule_slots.specs.rule_windows.Windows.{own_edges}
use Rattle.rule_window_values.specs.Kept.{TakesFrom, front, own_blocks}

-- where something of a slot stands: at a point, or, as what a phi takes, on the edge from one block to another
pub data Spot : Type 0 where
  At : Point → Spot
  On : (from to : ℕ) → Spot

-- the point at which it stands; what is on an edge stands at the end of the block that the edge leaves
abbrev pub point_at : Function → Spot → Point
point_at f (At p) = p
point_at f (On from to) = end_at f from

-- ---- uses

abbrev pub UsesIn : Function → ℕ → Spot → Type 0
UsesIn f v (At p) = UsesAt f v p
UsesIn f v (On from to) = (from < length f.blocks) × TakesFrom f v from to

-- a use of the slot: of its address, or of that of a getelementptr of it, chains of them too
pub record IsUse (f : Function) (slot : ℕ) (spot : Spot) : Type 0 where
  pub address : ℕ
  pub is_address : IsTrue (has_name (addresses_of f slot) address)
  pub uses : UsesIn f address spot

-- ---- starts

pub data IsStart (f : Function) (slot : ℕ) : Spot → Type 0 where
  Marked : (p : Point) → IsTrue (has_point (starts_of f slot) p) → IsStart f slot (At p)

-- ---- paths from and to what stands somewhere

-- a path leads on to a point, with none of these between
abbrev pub LeadsFrom : Function → List Point → Spot → Point → Type 0
LeadsFrom f avoided (At p) q = Leads f avoided p q
LeadsFrom f avoided (On from to) q = (front to ≡ q) ⊎ (IsFalse (has_point avoided (front to)) × Leads f avoided (front to) q)

-- from a point on, itself among them, a path comes to another, with none of these before it
abbrev pub Comes : Function → List Point → Point → Point → Type 0
Comes f avoided r q = (r ≡ q) ⊎ (IsFalse (has_point avoided r) × Leads f avoided r q)

-- it stands on a resume or destroy edge of the suspend, or a path comes to it from there, with none of these points and none of the end block before it, nor does it stand in the end block
pub data IsBehind (f : Function) (s : Point) (avoided : List Point) : Spot → Type 0 where
  OnEdge : (to : ℕ) → IsListed to (own_blocks f s) → IsBehind f s avoided (On s.block to)
  Later : (spot : Spot) (r : Point) → IsTrue (has_point (own_edges f s) r) → Comes f (avoided ++ end_points f) r (point_at f spot) → IsFalse (has_point (end_points f) (point_at f spot)) → IsBehind f s avoided spot
