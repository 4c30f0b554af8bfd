use Rattle.rule_laws.proofs.rules.spelled.Judged.{function_stands}
use Rattle.rule_laws.proofs.rules.spelled.spelled_functions_are_printable.Goals as goal

pub returns : goal.returns
returns c = function_stands
