-- What a graph of points tells of paths.
use Rattle.std.specs.Prelude.{List, map, length, IsTrue, ◌≡◌, ◌↔◌}
use Rattle.ir_paths.specs.ir_model.declared.module.Function.{Function}
use Rattle.ir_paths.specs.Paths.{Leads, has_point}
use Rattle.ir_paths.specs.Windows.{IsInWindow}
use Rattle.ir_paths.specs.declared.point.Point.{Point}
use Rattle.flow_points.specs.Edges.{AreIncoming, HasPositions, outgoing_of}
use Rattle.flow_points.specs.Rows.{AreBlank, sizes_of}
use Rattle.flow_points.specs.declared.graph.PointGraph.{PointGraph}

-- a path leads from one of the starts to the point, with none of the points avoided between
pub record IsReached (f : Function) (starts avoided : List Point) (p : Point) : Type 0 where
  pub start : Point
  pub is_start : IsTrue (has_point starts start)
  pub path : Leads f avoided start p

-- a path leads from the point to one of the goals, with none of the points avoided between
pub record LeadsToAny (f : Function) (goals avoided : List Point) (p : Point) : Type 0 where
  pub goal : Point
  pub is_goal : IsTrue (has_point goals goal)
  pub path : Leads f avoided p goal

-- just these points are reached
pub record AreReached (f : Function) (starts avoided found : List Point) : Type 0 where
  pub each : (p : Point) → IsTrue (has_point found p) ↔ IsReached f starts avoided p

-- from just these points a path leads to one of the goals
pub record AllLeadTo (f : Function) (goals avoided found : List Point) : Type 0 where
  pub each : (p : Point) → IsTrue (has_point found p) ↔ LeadsToAny f goals avoided p

-- just these points are in the window of a save with its suspend
pub record AreInWindow (f : Function) (save suspend : Point) (found : List Point) : Type 0 where
  pub each : (p : Point) → IsTrue (has_point found p) ↔ IsInWindow f save suspend p

-- the graph is that of the function, and no point of it is marked
pub record IsGraphOf (f : Function) (g : PointGraph) : Type 0 where
  pub labels : HasPositions f g.edges.labels
  pub outgoing : g.edges.outgoing ≡ outgoing_of f
  pub incoming : AreIncoming f g.edges.incoming
  pub sizes : map length g.found ≡ sizes_of f
  pub avoided_sizes : map length g.avoided ≡ sizes_of f
  pub none_found : AreBlank g.found
  pub none_avoided : AreBlank g.avoided
