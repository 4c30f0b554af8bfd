use Rattle.pass_exits_proof.proofs.split.rules.Instructions.{parts_kept}
use Rattle.pass_exits_proof.proofs.split.rules.parts_keep_rules_of_instructions.Goals as goal

pub returns : goal.returns
returns c = parts_kept
