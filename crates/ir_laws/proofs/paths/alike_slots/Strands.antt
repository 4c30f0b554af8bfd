-- Lemmas on strands, that speak of no pass.
use Rattle.std.proofs.Common.{◌≡◌, ◌⊎◌, false, List, []}
use Rattle.run_laws.specs.ir_model.declared.module.Function.{Function}
use Rattle.run_laws.proofs.ir_paths.Search.{Has}
use Rattle.run_laws.specs.ir_paths.Paths.{Leads, has_point, nexts}
use Rattle.run_laws.specs.ir_paths.declared.point.Point.{Point}
use Rattle.ir_laws.proofs.paths.expanded.Strands.{AreStrands as AreWays}

-- the points of f have fronts and backs in g, as edges lead, and points are apart
pub record AreStrands (f g : Function) (front back : Point → Point) : Type 0 where
  pub ways : AreWays f g front back
  pub fronts : (p q : Point) → front p ≡ front q → p ≡ q
  pub backs : (p q : Point) → back p ≡ back q → p ≡ q
  pub mixed : (p q : Point) → front p ≡ back q → p ≡ q

-- fronts and backs are avoided where the points are, and no point is avoided whose front is no back but such ones
pub record AreCarried (front back : Point → Point) (avoided besides : List Point) : Type 0 where
  pub fronts : (p : Point) → has_point besides (front p) ≡ has_point avoided p
  pub backs : (p : Point) → has_point besides (back p) ≡ has_point avoided p

-- the point may be passed or has one point in g
abbrev pub IsOpen : (Point → Point) → (Point → Point) → List Point → Point → Type 0
IsOpen front back avoided q = (front q ≡ back q) ⊎ (has_point avoided q ≡ false)

pub leads_at : (f : Function) (avoided : List Point) (p q : Point) → Has (nexts f p) q → Leads f avoided p q
leads_at f avoided p q e = record { between = []; is_path = e }
