use Rattle.rule_laws.proofs.rules.function_rules.Shaped.{all_shaped}
use Rattle.rule_laws.proofs.rules.function_rules.shaped_modules_are_all_tabled.Goals as goal

pub returns : goal.returns
returns c = all_shaped
