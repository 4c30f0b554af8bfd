use Rattle.pass_proofs.proofs.frames.rules.Built.{form_kept}
use Rattle.pass_proofs.proofs.frames.rules.framed_forms_are_kept.Goals as goal

pub returns : goal.returns
returns c = form_kept
