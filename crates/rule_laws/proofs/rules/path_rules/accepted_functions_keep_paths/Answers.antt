use Rattle.rule_laws.proofs.rules.path_rules.Passes.{accepted_paths}
use Rattle.rule_laws.proofs.rules.path_rules.accepted_functions_keep_paths.Goals as goal

pub returns : goal.returns
returns c = accepted_paths
