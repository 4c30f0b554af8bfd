use Rattle.std.proofs.Common.{◌∙◌, sym, arith}
use Rattle.rule_names.specs.Numbers.{is_marked}
use Rattle.rule_names.proofs.Marks.{twice_found_at, twice_next_at, twice_none}
use Rattle.rule_names.proofs.definitions.first_twice.Goals as goal

pub returns-then-has : goal.returns-then-has
returns-then-has c = twice_found_at (is_marked c.loop-definition.before) c.args.definitions.now c.loop-definition.definition-index _ c.loop-definition-test.true (sym c.has.ensures ∙ c.if-has.true) c.loop-definition.invariant

pub loop-definition-preserved : goal.loop-definition-preserved
loop-definition-preserved c = twice_next_at (is_marked c.loop-definition.before) (is_marked c.add.new.self) c.args.definitions.now c.loop-definition.definition-index _ c.loop-definition-test.true (sym c.has.ensures ∙ c.if-has.false) c.in_ok-add.ensures c.loop-definition.invariant

pub returns : goal.returns
returns c = twice_none (is_marked c.loop-definition.before) c.args.definitions.now c.loop-definition.definition-index (omega arith) c.loop-definition.invariant
