use Rattle.std.proofs.Common.{◌≡◌, map, take}
use Rattle.ir_paths.specs.Paths.{entry_point, targets}
use Rattle.flow_points.proofs.edges.outgoing.Given as goal

abbrev pub invariant-loop-block : goal.invariant-loop-block
invariant-loop-block l = l.rows ≡ map (λ b. map (entry_point l.function) (targets b.term)) (take l.block-index l.block-items)
