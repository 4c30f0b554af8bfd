use Rattle.pass_exits_proof.proofs.exits.rules.Kept.{rules_kept}
use Rattle.pass_exits_proof.proofs.exits.rules.exit_blocks_keep_function_rules.Goals as goal

pub returns : goal.returns
returns c = rules_kept
