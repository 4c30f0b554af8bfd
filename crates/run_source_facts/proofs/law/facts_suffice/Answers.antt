use Rattle.run_source_facts.proofs.Steps.{seen-same}
use Rattle.run_source_facts.proofs.law.facts_suffice.Goals as goal

pub returns : goal.returns
returns c = seen-same
