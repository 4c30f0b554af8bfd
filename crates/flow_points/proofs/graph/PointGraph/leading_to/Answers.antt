use Rattle.flow_points.proofs.Paths.{leading-are}
use Rattle.flow_points.proofs.Tests.{if-ok}
use Rattle.flow_points.proofs.graph.PointGraph.leading_to.Goals as goal

pub returns-clause-found : goal.returns-clause-found
returns-clause-found c = if-ok c.search.result _ _ (leading-are c.args.function.now c.args.goals.now c.args.avoided.now) c.search.ensures.found
