use Rattle.pass_edges_proof.proofs.edges.front_rules.Paths.{frames_kept}
use Rattle.pass_edges_proof.proofs.edges.front_rules.no_frame_is_needed_behind_front_allocas.Goals as goal

pub returns : goal.returns
returns c = frames_kept
