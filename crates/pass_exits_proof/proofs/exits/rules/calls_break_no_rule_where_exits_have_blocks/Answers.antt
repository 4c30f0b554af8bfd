use Rattle.pass_exits_proof.proofs.exits.rules.Whole.{calls_kept}
use Rattle.pass_exits_proof.proofs.exits.rules.calls_break_no_rule_where_exits_have_blocks.Goals as goal

pub returns : goal.returns
returns c = calls_kept
