use Rattle.pass_elide_kept.proofs.CalledSteps.{known_steps_call}
use Rattle.pass_elide_kept.proofs.keeping.known_steps_keep_calls.Goals as goal

pub returns : goal.returns
returns c = λ e places keeps s t ours theirs r fine. known_steps_call e places keeps s t ours theirs r fine
