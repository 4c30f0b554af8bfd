use Rattle.pass_early_proof.proofs.early.elision.sources.Alike.{accepted_rules}
use Rattle.pass_early_proof.proofs.early.elision.sources.accepted_sources_break_no_other_rule.Goals as goal

pub returns : goal.returns
returns c = accepted_rules
