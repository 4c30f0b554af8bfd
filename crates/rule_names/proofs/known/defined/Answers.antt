use Rattle.std.proofs.Common.{arith}
use Rattle.rule_names.specs.Numbers.{is_marked}
use Rattle.rule_names.proofs.Marks.{marked_done}
use Rattle.rule_names.proofs.known.defined.Goals as goal

pub returns : goal.returns
returns c = marked_done c.args.label (is_marked c.loop-definition.set) c.args.definitions.now c.loop-definition.definition-index (omega arith) c.loop-definition.invariant
