use Rattle.std.proofs.Common.{◌≡◌, drop, map}
use Rattle.rule_shape.specs.Uses.{counted_all}
use Rattle.ir_model.specs.declared.operand.Operand.{Operand}
use Rattle.elide_shape.proofs.edges.entries_of.Given as goal

abbrev pub invariant-loop-edge : goal.invariant-loop-edge
invariant-loop-edge l = counted_all l.counts (map (λ e. Operand.Local e.to) (drop l.edge-index l.edges)) ≡ counted_all l.initial.counts (map (λ e. Operand.Local e.to) l.edges)
