use Rattle.std.proofs.Common.{◌≡◌, ◌++◌, map, take}
use Rattle.ir_paths.specs.Paths.{entry_point}
use Rattle.flow_points.proofs.edges.push_cases.Given as goal

abbrev pub invariant-loop-case : goal.invariant-loop-case
invariant-loop-case l = l.all ≡ l.initial.all ++ map (entry_point l.function) (map (λ k. k.target) (take l.case-index l.cases))
