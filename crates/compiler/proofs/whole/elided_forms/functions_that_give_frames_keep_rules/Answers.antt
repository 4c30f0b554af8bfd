use Rattle.compiler.proofs.whole.elided_forms.Plain.{plain_keeps}
use Rattle.compiler.proofs.whole.elided_forms.functions_that_give_frames_keep_rules.Goals as goal

pub returns : goal.returns
returns c = plain_keeps
