use Rattle.pass_frames_code.proofs.code.Passes.{addresses_made, cells_made, copies_made, fetches_made}
use Rattle.pass_frames_code.proofs.code.passes_make_blocks.Goals as goal

pub returns-clause-fetches : goal.returns-clause-fetches
returns-clause-fetches c = fetches_made

pub returns-clause-cells : goal.returns-clause-cells
returns-clause-cells c = cells_made

pub returns-clause-copies : goal.returns-clause-copies
returns-clause-copies c = copies_made

pub returns-clause-addresses : goal.returns-clause-addresses
returns-clause-addresses c = addresses_made
