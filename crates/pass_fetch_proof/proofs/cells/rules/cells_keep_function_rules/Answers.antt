-- What is woven in breaks no rule.
use Rattle.pass_fetch_proof.proofs.cells.rules.Whole.{is_woven}
use Rattle.pass_fetch_proof.specs.cells.rules.Weaving.{cells_weaving}
use Rattle.pass_edges_proof.specs.pass_cells.Cells.{with_cells}
use Rattle.pass_edges_proof.proofs.rule_laws.rules.woven_rules.All.{rules_woven}
use Rattle.pass_fetch_proof.proofs.cells.rules.cells_keep_function_rules.Goals as goal

pub returns : goal.returns
returns c m k f crossing local rules labels asked = rules_woven (cells_weaving m f crossing local) m k f (with_cells m f crossing local) (is_woven m k f rules crossing local asked) rules labels
