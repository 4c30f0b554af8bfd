use Rattle.std.proofs.Common.{take}
use Rattle.std.specs.List.{list_any}
use Rattle.ir_model.specs.Names.{is_local}
use Rattle.flow_facts.specs.Slots.{HasMore}
use Rattle.flow_facts.proofs.names.push_args.Given as goal

abbrev pub invariant-loop-arg : goal.invariant-loop-arg
invariant-loop-arg l = HasMore (λ v. list_any (λ a. is_local v a.value) (take l.arg-index l.args)) l.initial.names l.names
