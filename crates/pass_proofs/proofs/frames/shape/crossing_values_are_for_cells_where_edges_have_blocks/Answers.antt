use Rattle.pass_proofs.proofs.frames.shape.Fits.{cells_fit}
use Rattle.pass_proofs.proofs.frames.shape.crossing_values_are_for_cells_where_edges_have_blocks.Goals as goal

pub returns : goal.returns
returns c = cells_fit
