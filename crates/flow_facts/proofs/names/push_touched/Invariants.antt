use Rattle.std.proofs.Common.{take}
use Rattle.std.specs.List.{list_any}
use Rattle.flow_facts.specs.Slots.{HasMore, touched_at}
use Rattle.flow_facts.proofs.names.push_touched.Given as goal

abbrev pub invariant-loop-point : goal.invariant-loop-point
invariant-loop-point l = HasMore (λ v. list_any (touched_at l.function v) (take l.point-index l.points)) l.initial.names l.names
