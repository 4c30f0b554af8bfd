use Rattle.pass_exits_proof.proofs.split.rules.Laws.{plain_named}
use Rattle.pass_exits_proof.proofs.split.rules.plain_functions_know_names_and_fit_types.Goals as goal

pub returns : goal.returns
returns c = plain_named
