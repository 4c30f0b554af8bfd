use Rattle.std.proofs.Common.{take}
use Rattle.std.specs.List.{list_any}
use Rattle.flow_points.specs.ir_paths.Slots.{exposes}
use Rattle.flow_facts.specs.Slots.{HasMore}
use Rattle.flow_facts.proofs.names.push_instrs.Given as goal

abbrev pub invariant-loop-instr : goal.invariant-loop-instr
invariant-loop-instr l = HasMore (λ v. list_any (exposes v) (take l.instr-index l.instrs)) l.initial.names l.names
