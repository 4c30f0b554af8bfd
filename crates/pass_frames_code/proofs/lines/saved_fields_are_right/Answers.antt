use Rattle.pass_frames_code.proofs.lines.Rows.{crossing_listed, fields_right}
use Rattle.pass_frames_code.proofs.lines.saved_fields_are_right.Goals as goal

pub returns-clause-row : goal.returns-clause-row
returns-clause-row c = crossing_listed

pub returns-clause-fields : goal.returns-clause-fields
returns-clause-fields c = fields_right
