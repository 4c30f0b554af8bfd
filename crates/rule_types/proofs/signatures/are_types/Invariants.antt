use Rattle.std.proofs.Common.{◌≡◌, length}
use Rattle.rule_types.specs.Signatures.{are_types}
use Rattle.rule_types.proofs.signatures.are_types.Given as goal

abbrev pub invariant-loop-wanted_left : goal.invariant-loop-wanted_left
invariant-loop-wanted_left l = are_types l.wanted l.types ≡ are_types l.wanted_left l.given

abbrev pub decreases-loop-wanted_left : goal.decreases-loop-wanted_left
decreases-loop-wanted_left l = length l.wanted_left
