use Rattle.std.proofs.Common.{arith, refl}
use Rattle.pass_cells.specs.Links.{roots_of}
use Rattle.pass_cells.proofs.Turns.{jumps_begun, jump_taken, jumps_over, jumps_steady}
use Rattle.pass_cells.proofs.climbing.roots_of.Goals as goal

pub loop-left-init : goal.loop-left-init
loop-left-init c = (jumps_begun 64 c.in_ok-table.table c.args.bases.now refl c.in_ok-table.ensures, omega arith)

pub loop-left-preserved : goal.loop-left-preserved
loop-left-preserved c = (jump_taken c.loop-left.left c.loop-left.table c.in_ok-next.next (roots_of c.args.bases.now) (omega arith) c.in_ok-next.ensures c.loop-left.invariant.0, omega arith)

pub returns-then-is_same : goal.returns-then-is_same
returns-then-is_same c = jumps_steady c.loop-left.left c.loop-left.table c.in_ok-next.next (roots_of c.args.bases.now) c.in_ok-next.ensures (c.is_same.ensures.0 c.if-is_same.true) c.loop-left.invariant.0

pub returns : goal.returns
returns c = jumps_over c.loop-left.left c.loop-left.table (roots_of c.args.bases.now) (omega arith) c.loop-left.invariant.0
