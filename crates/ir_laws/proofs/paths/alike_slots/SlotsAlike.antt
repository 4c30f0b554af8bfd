-- Lemmas on slots alike, that speak of no pass.
use Rattle.std.proofs.Common.{◌≡◌, List}
use Rattle.ir_laws.proofs.paths.alike_slots.Strands.{AreCarried, IsOpen}
use Rattle.run_laws.proofs.ir_paths.Search.{Has}
use Rattle.run_laws.specs.ir_paths.declared.point.Point.{Point}

-- the points of a set are one point each in g, and the other set has just these
pub record AreLone (front back : Point → Point) (ps us : List Point) : Type 0 where
  pub carried : AreCarried front back ps us
  pub clear : (q : Point) → IsOpen front back ps q
  pub found : (x : Point) → Has us x → (p : Point) × (x ≡ back p)
