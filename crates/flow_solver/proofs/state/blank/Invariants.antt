use Rattle.std.proofs.Common.{◌≡◌, replicate, false}
use Rattle.flow_solver.proofs.state.blank.Given as goal

abbrev pub invariant-loop : goal.invariant-loop
invariant-loop g l = (l.facts ≡ replicate l.counter (g.F.Flow.domain l.flow).bottom) × (l.waiting ≡ replicate l.counter false)
