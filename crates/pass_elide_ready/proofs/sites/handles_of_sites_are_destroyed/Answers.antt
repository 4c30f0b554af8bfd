use Rattle.pass_elide_ready.proofs.Modules.{once}
use Rattle.pass_elide_ready.proofs.SitesKept.{handles_destroyed}
use Rattle.pass_elide_ready.proofs.sites.handles_of_sites_are_destroyed.Goals as goal

pub returns-clause-destroyed : goal.returns-clause-destroyed
returns-clause-destroyed c = handles_destroyed

pub returns-clause-kept : goal.returns-clause-kept
returns-clause-kept c e source ruled sites same func plain =
    record { once = once e.code ruled func; destroyed = handles_destroyed e source sites same func }
