use Rattle.compiler_theorem.proofs.theorem.Tables.{source_tables}
use Rattle.compiler_theorem.proofs.theorem.sources_have_tables.Goals as goal

pub returns : goal.returns
returns c = source_tables
