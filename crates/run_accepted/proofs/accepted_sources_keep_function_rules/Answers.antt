use Rattle.run_accepted.proofs.Sources.{source_rules}
use Rattle.run_accepted.proofs.accepted_sources_keep_function_rules.Goals as goal

pub returns : goal.returns
returns c = source_rules
