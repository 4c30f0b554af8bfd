use Rattle.std.proofs.Common.{◌∙◌}
use Rattle.rule_phis.specs.Mentions.{sources_at}
use Rattle.rule_phis.proofs.Members.{wrong_by_table}
use Rattle.rule_phis.proofs.edges.first_wrong_edge.Goals as goal

pub returns : goal.returns
returns c = c.in_ok-place.ensures ∙ wrong_by_table c.args.func c.args.function.now (sources_at c.in_ok-sources.sources) c.in_ok-sources.ensures
