use Rattle.pass_edges_proof.proofs.kept.sources.Suspends.{is_unread}
use Rattle.pass_edges_proof.proofs.kept.sources.results_of_suspends_are_unread.Goals as goal

pub returns : goal.returns
returns c = is_unread
