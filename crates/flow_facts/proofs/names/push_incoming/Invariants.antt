use Rattle.std.proofs.Common.{take}
use Rattle.std.specs.List.{list_any}
use Rattle.ir_model.specs.Names.{is_local}
use Rattle.flow_facts.specs.Slots.{HasMore}
use Rattle.flow_facts.proofs.names.push_incoming.Given as goal

abbrev pub invariant-loop-one : goal.invariant-loop-one
invariant-loop-one l = HasMore (λ v. list_any (λ a. is_local v a.value) (take l.one-index l.incoming)) l.initial.names l.names
