use Rattle.pass_exits_proof.proofs.split.rules.Instructions.{plain_kept}
use Rattle.pass_exits_proof.proofs.split.rules.plain_functions_keep_rules_of_instructions.Goals as goal

pub returns : goal.returns
returns c = plain_kept
