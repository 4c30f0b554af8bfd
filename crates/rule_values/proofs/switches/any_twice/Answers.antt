use Rattle.std.proofs.Common.{◌∙◌, ap, sym, ℕ, List, map, Bool}
use Rattle.std.specs.Prelude.{is_some, ◌==◌}
use Rattle.std.specs.Map.{lookup}
use Rattle.indexmap.specs.IndexMap.{get}
use Rattle.rule_values.specs.Switches.{case_word}
use Rattle.rule_values.proofs.Words.{begun, next}
use Rattle.rule_values.proofs.switches.any_twice.Goals as goal

pub loop-case-init : goal.loop-case-init
loop-case-init c =
    begun (λ (w : ℕ). is_some (get ◌==◌ c.new-seen.result w)) (map (case_word c.args.bits) c.args.cases.now)
    (λ v. ap (λ (es : List (ℕ × Bool)). is_some (lookup (◌==◌ v) es)) c.new-seen.ensures.empty)

pub loop-case-preserved : goal.loop-case-preserved
loop-case-preserved c =
    next c.args.bits (λ (w : ℕ). is_some (get ◌==◌ c.loop-case.seen w)) (λ (w : ℕ). is_some (get ◌==◌ c.add.new.seen w)) c.args.cases.now c.loop-case.case-index c.case-item.result c.word_in-word.result c.loop-case-test.true c.case-item.is c.word_in-word.ensures (sym c.has.ensures ∙ c.if-has.false) c.in_ok-add.ensures c.loop-case.invariant
