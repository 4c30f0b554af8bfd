use Rattle.run_laws.proofs.embedded.Marked.{marks_carried}
use Rattle.run_laws.proofs.embedded.markers_are_carried.Goals as goal

pub returns : goal.returns
returns c = marks_carried
