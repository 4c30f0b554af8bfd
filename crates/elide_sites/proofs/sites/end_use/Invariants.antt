use Rattle.std.proofs.Common.{◌≡◌, drop}
use Rattle.std.specs.List.{list_any}
use Rattle.elide_sites.specs.Sites.{ends_use}
use Rattle.elide_sites.proofs.sites.end_use.Given as goal

abbrev pub invariant-loop-point : goal.invariant-loop-point
invariant-loop-point l = list_any (ends_use l.function l.call) (drop l.point-index l.points) ≡ list_any (ends_use l.function l.call) l.points
