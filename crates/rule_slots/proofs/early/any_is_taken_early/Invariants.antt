use Rattle.std.proofs.Common.{◌≡◌, drop}
use Rattle.std.specs.List.{list_any}
use Rattle.rule_slots.specs.Early.{is_taken_early}
use Rattle.rule_slots.proofs.early.any_is_taken_early.Given as goal

abbrev pub invariant-loop-one : goal.invariant-loop-one
invariant-loop-one l = list_any (is_taken_early l.slots.addresses l.ends.marks l.ends.other) l.incoming ≡ list_any (is_taken_early l.slots.addresses l.ends.marks l.ends.other) (drop l.one-index l.incoming)
