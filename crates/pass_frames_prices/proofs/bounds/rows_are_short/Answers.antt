use Rattle.pass_frames_prices.proofs.bounds.Rows.{row_few}
use Rattle.pass_frames_prices.proofs.bounds.rows_are_short.Goals as goal

pub returns : goal.returns
returns c = row_few
