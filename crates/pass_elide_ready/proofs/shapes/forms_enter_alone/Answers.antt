use Rattle.pass_elide_ready.proofs.Forms.{waits, enters, allocations, frees}
use Rattle.pass_elide_ready.proofs.shapes.forms_enter_alone.Goals as goal

pub returns-clause-waits : goal.returns-clause-waits
returns-clause-waits c = waits

pub returns-clause-enters : goal.returns-clause-enters
returns-clause-enters c = enters

pub returns-clause-allocations : goal.returns-clause-allocations
returns-clause-allocations c = allocations

pub returns-clause-frees : goal.returns-clause-frees
returns-clause-frees c = frees
