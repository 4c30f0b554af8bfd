use Rattle.frame_good.proofs.Worked.{fields_fit, is_good, not_good, not_of_other}
use Rattle.frame_good.proofs.shared_bytes_tell_layouts_apart.Goals as goal

pub returns-clause-fit : goal.returns-clause-fit
returns-clause-fit c = fields_fit

pub returns-clause-good : goal.returns-clause-good
returns-clause-good c = is_good

pub returns-clause-other : goal.returns-clause-other
returns-clause-other c = not_good

pub returns-clause-elsewhere : goal.returns-clause-elsewhere
returns-clause-elsewhere c = not_of_other
