use Rattle.std.proofs.Common.{◌≡◌, drop}
use Rattle.flow_facts.specs.Slots.{entered_by}
use Rattle.flow_facts.proofs.behind.enter_all.Given as goal

abbrev pub invariant-loop-block : goal.invariant-loop-block
invariant-loop-block l = entered_by l.function (drop l.block-index l.block-items) l.entered ≡ entered_by l.function l.block-items l.initial.entered
