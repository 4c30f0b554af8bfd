use Rattle.rule_laws.proofs.rules.source_rules.Shaped.{are_tabled}
use Rattle.rule_laws.proofs.rules.source_rules.shaped_modules_are_tabled.Goals as goal

pub returns : goal.returns
returns c = are_tabled
