-- What is looked up to tell which edges of a function leave a window.
use Rattle.std.specs.Prelude.{◌≡◌, ℕ, slice_get}
use Rattle.ir_model.specs.declared.module.Function.{Function}
use Rattle.ir_paths.specs.Windows.{windows_of}
use Rattle.flow_points.specs.Reached.{IsGraphOf}
use Rattle.pass_exits.specs.Exits.{front, mark_from}
use Rattle.pass_exits.specs.Regions.{first_mark}
use Rattle.pass_exits.specs.Rows.{row_at}
use Rattle.pass_exits.specs.declared.leaving.Leaving.{Leaving}

-- the regions beside a block tell the first window that an edge from its terminator leaves
pub record AreLeaving (f : Function) (l : Leaving) : Type 0 where
  pub graph : IsGraphOf f l.graph
  pub marks : (at t : ℕ) → first_mark l.regions (row_at l.rows.items at) t ≡ mark_from f at (slice_get f.blocks at) (front t) (windows_of f)
