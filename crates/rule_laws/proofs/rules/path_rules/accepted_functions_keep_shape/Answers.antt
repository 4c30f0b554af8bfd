use Rattle.rule_laws.proofs.rules.path_rules.Passes.{accepted_shape}
use Rattle.rule_laws.proofs.rules.path_rules.accepted_functions_keep_shape.Goals as goal

pub returns : goal.returns
returns c = accepted_shape
