use Rattle.pass_exits_proof.proofs.split.rules.Laws.{parts_named}
use Rattle.pass_exits_proof.proofs.split.rules.parts_know_names_and_fit_types.Goals as goal

pub returns : goal.returns
returns c = parts_named
