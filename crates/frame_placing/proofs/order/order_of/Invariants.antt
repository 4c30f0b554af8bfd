use Rattle.frame_placing.proofs.Orders.{AreCounted}
use Rattle.frame_placing.proofs.order.order_of.Given as goal

abbrev pub invariant-loop-k : goal.invariant-loop-k
invariant-loop-k l = AreCounted l.k l.order.items
