use Rattle.pass_elide_kept.proofs.PassedSteps.{known_steps_pass}
use Rattle.pass_elide_kept.proofs.keeping.known_steps_pass_by.Goals as goal

pub returns : goal.returns
returns c = λ e places keeps s t ours theirs r fine. known_steps_pass e places keeps s t ours theirs r fine
