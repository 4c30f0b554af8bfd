use Rattle.std.proofs.Common.{◌∙◌, ap}
use Rattle.std.specs.Prelude.{is_some}
use Rattle.rule_phis.proofs.Numberings.{stands_itself}
use Rattle.rule_phis.proofs.edges.is_among.Goals as goal

pub returns : goal.returns
returns c = c.is_some.ensures ∙ ap is_some (c.find.ensures ∙ c.requires.first c.args.number) ∙ stands_itself c.args.numbers.now c.args.number
