use Rattle.compiler_theorem.proofs.known.Fields.{slot_field}
use Rattle.compiler_theorem.proofs.known.fields_of_slots_of_sources_are_right.Goals as goal

pub returns : goal.returns
returns c = slot_field
