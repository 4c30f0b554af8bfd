use Rattle.rule_laws.proofs.rules.spelled.Text.{source_spelled}
use Rattle.rule_laws.proofs.rules.spelled.functions_of_texts_can_be_spelled.Goals as goal

pub returns : goal.returns
returns c = source_spelled
