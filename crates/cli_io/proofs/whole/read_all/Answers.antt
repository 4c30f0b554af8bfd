use Rattle.std.proofs.Common.{◌+◌, arith}
use Rattle.cli_io.proofs.Reading.{at_most_then}
use Rattle.cli_io.proofs.whole.read_all.Goals as goal

pub returns-in_err-read_piece-clause-taken : goal.returns-in_err-read_piece-clause-taken
returns-in_err-read_piece-clause-taken g c =
    at_most_then _ _ _ c.loop-all.all.items (c.args.limit + 1) _ c.loop-all.invariant.read c.in_err-read_piece.ensures.taken (omega arith)
