use Rattle.compiler_theorem.proofs.known.Classes.{source_markers}
use Rattle.compiler_theorem.proofs.known.markers_of_sources_are_right.Goals as goal

pub returns : goal.returns
returns c = source_markers
