use Rattle.pass_elide_ready.proofs.EdgeWays.{freed_by_ways, freed_over_edges}
use Rattle.pass_elide_ready.proofs.freed.coroutines_free_alike.Goals as goal

pub returns-clause-edges : goal.returns-clause-edges
returns-clause-edges c = freed_over_edges

pub returns-clause-ways : goal.returns-clause-ways
returns-clause-ways c = freed_by_ways
