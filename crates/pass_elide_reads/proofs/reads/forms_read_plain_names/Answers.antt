use Rattle.pass_elide_reads.proofs.Forms.{names_read}
use Rattle.pass_elide_reads.proofs.reads.forms_read_plain_names.Goals as goal

pub returns : goal.returns
returns c = names_read
