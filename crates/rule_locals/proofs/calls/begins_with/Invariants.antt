use Rattle.std.proofs.Common.{◌≡◌, length}
use Rattle.rule_names.specs.Reserved.{begins_with}
use Rattle.rule_locals.proofs.calls.begins_with.Given as goal

abbrev pub invariant-loop-wanted : goal.invariant-loop-wanted
invariant-loop-wanted l = begins_with l.head l.text ≡ begins_with l.wanted l.given

abbrev pub decreases-loop-wanted : goal.decreases-loop-wanted
decreases-loop-wanted l = length l.wanted
