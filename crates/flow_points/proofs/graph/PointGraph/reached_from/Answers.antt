use Rattle.flow_points.proofs.Paths.{reached-are}
use Rattle.flow_points.proofs.Tests.{if-ok}
use Rattle.flow_points.proofs.graph.PointGraph.reached_from.Goals as goal

pub returns-clause-found : goal.returns-clause-found
returns-clause-found c = if-ok c.search.result _ _ (reached-are c.args.function.now c.args.starts.now c.args.avoided.now) c.search.ensures.found
