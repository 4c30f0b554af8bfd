use Rattle.rule_laws.proofs.rules.names_apart.Sources.{source_tables}
use Rattle.rule_laws.proofs.rules.names_apart.names_of_sources_are_free.Goals as goal

pub returns : goal.returns
returns c = source_tables
