use Rattle.pass_proofs.proofs.frames.names_apart.Framed.{framed_table}
use Rattle.pass_proofs.proofs.frames.names_apart.framed_names_are_apart.Goals as goal

pub returns : goal.returns
returns c = framed_table
