use Rattle.pass_frames_code.proofs.offsets.Tables.{fields_told, slots_told}
use Rattle.pass_frames_code.proofs.offsets.offsets_are_those_of_places.Goals as goal

pub returns-clause-slots : goal.returns-clause-slots
returns-clause-slots c = slots_told

pub returns-clause-fields : goal.returns-clause-fields
returns-clause-fields c = fields_told
