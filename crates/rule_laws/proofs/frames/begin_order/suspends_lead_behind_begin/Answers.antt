use Rattle.rule_laws.proofs.frames.begin_order.Again.{again_behind}
use Rattle.rule_laws.proofs.frames.begin_order.suspends_lead_behind_begin.Goals as goal

pub returns : goal.returns
returns c = again_behind
