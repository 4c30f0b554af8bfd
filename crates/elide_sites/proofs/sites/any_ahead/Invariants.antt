use Rattle.std.proofs.Common.{◌≡◌, drop}
use Rattle.std.specs.List.{list_any}
use Rattle.elide_sites.specs.Sites.{is_ahead}
use Rattle.elide_sites.proofs.sites.any_ahead.Given as goal

abbrev pub invariant-loop-point : goal.invariant-loop-point
invariant-loop-point l = list_any (is_ahead l.count l.call) (drop l.point-index l.points) ≡ list_any (is_ahead l.count l.call) l.points
