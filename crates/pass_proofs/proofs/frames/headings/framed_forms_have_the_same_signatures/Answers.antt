use Rattle.pass_proofs.proofs.frames.headings.Headings.{framed_signatures}
use Rattle.pass_proofs.proofs.frames.headings.framed_forms_have_the_same_signatures.Goals as goal

pub returns : goal.returns
returns c = framed_signatures
