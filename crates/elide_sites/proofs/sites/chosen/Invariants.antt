use Rattle.std.proofs.Common.{take}
use Rattle.elide_sites.specs.Chosen.{AreChosen}
use Rattle.elide_sites.specs.Sites.{IsSite}
use Rattle.flow_points.specs.Reached.{IsGraphOf}
use Rattle.elide_sites.proofs.sites.chosen.Given as goal

abbrev pub invariant-loop-place : goal.invariant-loop-place
invariant-loop-place l = record { graph : IsGraphOf l.function l.graph; sites : AreChosen (IsSite l.module l.function) (take l.place-index l.calls) l.all }
