use Rattle.pass_elide_kept.proofs.CallerSteps.{known_steps_hold}
use Rattle.pass_elide_kept.proofs.keeping.known_steps_keep_callers.Goals as goal

pub returns : goal.returns
returns c = λ e places keeps s t ours theirs r fine. known_steps_hold e places keeps s t ours theirs r fine
