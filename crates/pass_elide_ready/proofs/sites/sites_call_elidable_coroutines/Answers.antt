use Rattle.pass_elide.specs.declared.given.GivenFrame.{GivenFrame}
use Rattle.pass_elide_ready.proofs.SitesKept.{callee_elidable}
use Rattle.pass_elide_ready.proofs.sites.sites_call_elidable_coroutines.Goals as goal

pub returns : goal.returns
returns c e source sites same names func callee call i name s is =
    callee_elidable e source sites same func call i s.plain s.there (GivenFrame.Alloca s.size s.align) s.room names
    callee is
