use Rattle.pass_frames_code.proofs.lines.Loads.{can_load, loaded_stands}
use Rattle.pass_frames_code.proofs.lines.kept_values_are_loaded.Goals as goal

pub returns-clause-can : goal.returns-clause-can
returns-clause-can c = can_load

pub returns-clause-stand : goal.returns-clause-stand
returns-clause-stand c = loaded_stands
