use Rattle.pass_elide_ready.proofs.Entries.{enters_no_start, leads_to_no_entry}
use Rattle.pass_elide_ready.proofs.Modules.{all_rules}
use Rattle.pass_elide_ready.proofs.rules.no_edge_leads_to_an_entry.Goals as goal

pub returns-clause-edges : goal.returns-clause-edges
returns-clause-edges c m ruled = enters_no_start m (all_rules m ruled)

pub returns-clause-ends : goal.returns-clause-ends
returns-clause-ends c m ruled = leads_to_no_entry m (all_rules m ruled)
