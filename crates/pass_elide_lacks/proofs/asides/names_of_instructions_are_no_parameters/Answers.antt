use Rattle.pass_elide_lacks.proofs.Parameters.{no_parameter}
use Rattle.pass_elide_lacks.proofs.asides.names_of_instructions_are_no_parameters.Goals as goal

pub returns : goal.returns
returns c = no_parameter
