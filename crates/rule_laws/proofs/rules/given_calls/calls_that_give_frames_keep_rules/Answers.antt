use Rattle.rule_laws.proofs.rules.given_calls.Rules.{given_keeps}
use Rattle.rule_laws.proofs.rules.given_calls.calls_that_give_frames_keep_rules.Goals as goal

pub returns : goal.returns
returns c = given_keeps
