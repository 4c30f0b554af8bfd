use Rattle.std.proofs.Common.{◌≡◌, [], ℕ, drop, map}
use Rattle.std.specs.Prelude.{is_some, ◌==◌}
use Rattle.indexmap.specs.IndexMap.{get}
use Rattle.rule_values.specs.Switches.{any_twice, case_word}
use Rattle.rule_values.proofs.Words.{twice_by}
use Rattle.rule_values.proofs.switches.any_twice.Given as goal

abbrev pub invariant-loop-case : goal.invariant-loop-case
invariant-loop-case l = twice_by (λ (w : ℕ). is_some (get ◌==◌ l.seen w)) (map (case_word l.bits) (drop l.case-index l.cases)) ≡ any_twice [] (map (case_word l.bits) l.cases)
