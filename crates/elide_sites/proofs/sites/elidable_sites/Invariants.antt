use Rattle.std.proofs.Common.{take}
use Rattle.elide_sites.specs.Sites.{AreSitesOf}
use Rattle.elide_sites.proofs.sites.elidable_sites.Given as goal

abbrev pub invariant-loop-func : goal.invariant-loop-func
invariant-loop-func l = AreSitesOf l.module (take l.func l.module.functions) l.all
