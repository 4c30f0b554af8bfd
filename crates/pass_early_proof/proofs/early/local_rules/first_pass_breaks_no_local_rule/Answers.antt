use Rattle.pass_early_proof.proofs.early.local_rules.Sources.{early_breaks_none}
use Rattle.pass_early_proof.proofs.early.local_rules.first_pass_breaks_no_local_rule.Goals as goal

pub returns : goal.returns
returns c = early_breaks_none
