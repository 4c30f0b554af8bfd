use Rattle.pass_frames_prices.proofs.bounds.Edges.{edged_names}
use Rattle.pass_frames_prices.proofs.bounds.edges_have_no_names.Goals as goal

pub returns : goal.returns
returns c = edged_names
