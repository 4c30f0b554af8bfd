use Rattle.std.proofs.Common.{◌≡◌, ◌+◌, ◌*◌, arith}
use Rattle.std.specs.Prelude.{min}
use Rattle.frame_conflicts.proofs.Order.{rows_so_far}
use Rattle.frame_conflicts.proofs.Places.{chunk_ends}
use Rattle.frame_conflicts.specs.Conflicts.{AliveAt}
use Rattle.frame_conflicts.proofs.suspended.push_slots.Goals as goal

pub returns : goal.returns
returns c =
    let within = c.chunk_end-at-end.ensures.within in
    let most = c.chunk_end-at-end.ensures.at_most in
    let whole = c.chunk_end-at-end.ensures.whole in
    rows_so_far (AliveAt c.args.function.now) c.loop-at.at (min (c.args.chunk * 64 + 64) c.args.count) c.loop-at.pairs (chunk_ends (c.args.chunk * 64) c.args.count c.chunk_end-at-end.result c.loop-at.at within most whole (omega arith)) c.loop-at.invariant.1
