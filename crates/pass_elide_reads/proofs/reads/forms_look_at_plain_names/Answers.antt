use Rattle.pass_elide_reads.proofs.Forms.{names_looked_at}
use Rattle.pass_elide_reads.proofs.reads.forms_look_at_plain_names.Goals as goal

pub returns : goal.returns
returns c = names_looked_at
