use Rattle.std.proofs.Common.{take}
use Rattle.std.specs.List.{list_any}
use Rattle.flow_points.specs.ir_paths.Slots.{occurs_in_phi}
use Rattle.flow_facts.specs.Slots.{HasMore}
use Rattle.flow_facts.proofs.names.push_phis.Given as goal

abbrev pub invariant-loop-phi : goal.invariant-loop-phi
invariant-loop-phi l = HasMore (λ v. list_any (occurs_in_phi v) (take l.phi-index l.phis)) l.initial.names l.names
