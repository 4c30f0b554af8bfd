use Rattle.std.proofs.Common.{take}
use Rattle.std.specs.List.{list_any}
use Rattle.flow_points.specs.ir_paths.Slots.{exposed_in_block}
use Rattle.flow_facts.specs.Slots.{HasMore}
use Rattle.flow_facts.proofs.names.exposed_names.Given as goal

abbrev pub invariant-loop-block : goal.invariant-loop-block
invariant-loop-block l = HasMore (λ v. list_any (exposed_in_block v) (take l.block-index l.block-items)) l.initial.names l.names
