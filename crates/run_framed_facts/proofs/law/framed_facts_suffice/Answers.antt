use Rattle.run_framed_facts.proofs.Steps.{seen-same}
use Rattle.run_framed_facts.proofs.law.framed_facts_suffice.Goals as goal

pub returns : goal.returns
returns c = seen-same
