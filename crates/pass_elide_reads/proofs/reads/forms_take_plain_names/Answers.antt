use Rattle.pass_elide_reads.proofs.Forms.{names_taken}
use Rattle.pass_elide_reads.proofs.reads.forms_take_plain_names.Goals as goal

pub returns : goal.returns
returns c = names_taken
