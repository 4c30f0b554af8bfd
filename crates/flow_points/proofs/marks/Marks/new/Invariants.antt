use Rattle.std.proofs.Common.{◌≡◌, ◌+◌, length, map, take}
use Rattle.flow_points.specs.Rows.{AreBlank}
use Rattle.flow_points.proofs.marks.Marks.new.Given as goal

abbrev pub invariant-loop-block : goal.invariant-loop-block
invariant-loop-block l = record { sizes : map length l.rows.items ≡ map (λ b. length b.instrs + 1) (take l.block-index l.block-items); blank : AreBlank l.rows.items }
