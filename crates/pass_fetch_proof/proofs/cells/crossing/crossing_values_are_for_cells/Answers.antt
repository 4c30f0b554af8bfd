-- Pairs are of values, and suspends lead away from the entry block.
use Rattle.pass_edges_proof.proofs.rule_laws.frames.crossing.Asking.{lead_away, pairs_of_values}
use Rattle.pass_edges_proof.specs.frame_crossing.Values.{values_of}
use Rattle.pass_fetch_proof.proofs.cells.crossing.crossing_values_are_for_cells.Goals as goal

pub returns : goal.returns
returns c m k f crossing local rules apart crossed slots widths =
    record { values = pairs_of_values f (values_of f) crossing crossed; slots = slots; returns = lead_away m k f rules apart; widths = widths }
