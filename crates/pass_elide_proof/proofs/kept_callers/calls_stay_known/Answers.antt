use Rattle.pass_elide_proof.proofs.CallersLinks.{links_back, links_first, links_onward, links_pushed}
use Rattle.pass_elide_proof.proofs.kept_callers.calls_stay_known.Goals as goal

pub returns-clause-start : goal.returns-clause-start
returns-clause-start c = links_first

pub returns-clause-onward : goal.returns-clause-onward
returns-clause-onward c = links_onward

pub returns-clause-pushed : goal.returns-clause-pushed
returns-clause-pushed c = links_pushed

pub returns-clause-back : goal.returns-clause-back
returns-clause-back c = links_back
