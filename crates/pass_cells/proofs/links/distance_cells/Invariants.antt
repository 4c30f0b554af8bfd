use Rattle.std.proofs.Common.{◌≡◌, ◌++◌, drop}
use Rattle.pass_cells.specs.Links.{cells_from, links_from}
use Rattle.pass_cells.proofs.links.distance_cells.Given as goal

abbrev pub invariant-loop-is_marked : goal.invariant-loop-is_marked
invariant-loop-is_marked l = (l.all ++ cells_from l.first l.count l.places l.id l.links (drop l.is_marked-index l.marks) ≡ cells_from l.first l.count l.places 0 0 l.marks) × (links_from l.places l.id l.links (drop l.is_marked-index l.marks) ≡ links_from l.places 0 0 l.marks)
