use Rattle.pass_elide_proof.proofs.LedBack.{led_back}
use Rattle.pass_elide_proof.proofs.returning.activations_lead_back.Goals as goal

pub returns : goal.returns
returns c = λ e s t r v u ended to stands. led_back e s t r ended v u stands to
