use Rattle.pass_elide_ready.proofs.Forms.{sets, phis, plain}
use Rattle.pass_elide_ready.proofs.shapes.forms_set_plain_names.Goals as goal

pub returns-clause-sets : goal.returns-clause-sets
returns-clause-sets c = sets

pub returns-clause-phis : goal.returns-clause-phis
returns-clause-phis c = phis

pub returns-clause-plain : goal.returns-clause-plain
returns-clause-plain c = plain
