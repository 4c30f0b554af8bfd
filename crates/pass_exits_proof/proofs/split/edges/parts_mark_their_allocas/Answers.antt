use Rattle.pass_exits_proof.proofs.split.edges.Marks.{part_marks_kept}
use Rattle.pass_exits_proof.proofs.split.edges.parts_mark_their_allocas.Goals as goal

pub returns : goal.returns
returns c = part_marks_kept
