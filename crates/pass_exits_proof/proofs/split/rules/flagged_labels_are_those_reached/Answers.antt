use Rattle.pass_exits_proof.proofs.split.rules.Reached.{flags_are_right}
use Rattle.pass_exits_proof.proofs.split.rules.flagged_labels_are_those_reached.Goals as goal

pub returns : goal.returns
returns c = flags_are_right
