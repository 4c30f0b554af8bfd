use Rattle.rule_laws.proofs.rules.sources.Tables.{all_tabled}
use Rattle.rule_laws.proofs.rules.sources.texts_have_tables.Goals as goal

pub returns : goal.returns
returns c = all_tabled
