-- What is woven in leaves the labels of phis.
use Rattle.pass_fetch_proof.proofs.cells.rules.Whole.{is_woven}
use Rattle.pass_fetch_proof.specs.cells.rules.Weaving.{cells_weaving}
use Rattle.pass_edges_proof.specs.pass_cells.Cells.{with_cells}
use Rattle.pass_edges_proof.proofs.rule_laws.rules.woven_rules.Edges.{incoming_woven}
use Rattle.pass_fetch_proof.proofs.cells.rules.cells_leave_each_label_once.Goals as goal

pub returns : goal.returns
returns c m k f crossing local rules labels asked = incoming_woven (cells_weaving m f crossing local) m f (with_cells m f crossing local) (is_woven m k f rules crossing local asked) labels
