use Rattle.pass_split_proof.proofs.steps.Branches.{edges_related, left_by}
use Rattle.pass_split_proof.proofs.steps.edges_leave_states_related.Goals as goal
use Rattle.pass_proofs.specs.run_source.Source.{left_windows}

pub returns-clause-related : goal.returns-clause-related
returns-clause-related c = edges_related

pub returns-clause-entered : goal.returns-clause-entered
returns-clause-entered c g s u label e = left_by g s u label (left_windows g s label) e
