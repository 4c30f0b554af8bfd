use Rattle.compiler_theorem.proofs.temporaries.Framed.{slots_led}
use Rattle.compiler_theorem.proofs.temporaries.names_of_slots_of_framed_forms_lead_to_them.Goals as goal

pub returns : goal.returns
returns c = slots_led
