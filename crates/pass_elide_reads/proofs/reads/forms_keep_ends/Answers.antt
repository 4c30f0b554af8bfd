use Rattle.pass_elide_reads.proofs.Forms.{ends_kept}
use Rattle.pass_elide_reads.proofs.reads.forms_keep_ends.Goals as goal

pub returns : goal.returns
returns c = ends_kept
