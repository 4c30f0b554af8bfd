use Rattle.flow_points.proofs.Filing.{IsFiledTo}
use Rattle.flow_points.proofs.edges.incoming.Given as goal

abbrev pub invariant-loop-block : goal.invariant-loop-block
invariant-loop-block l = IsFiledTo l.function l.block l.rows.items
