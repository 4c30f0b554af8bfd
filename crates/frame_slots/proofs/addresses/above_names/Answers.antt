use Rattle.std.proofs.Common.{arith, subst}
use Rattle.rule_slots.proofs.flow_facts.Above.{AreBelow}
use Rattle.rule_slots.proofs.flow_facts.Points.{take-all}
use Rattle.frame_slots.proofs.addresses.above_names.Goals as goal

pub returns : goal.returns
returns c = subst (AreBelow c.loop-name.count) (take-all c.args.names.now c.loop-name.name-index (let le = c.loop-name-test.false in omega (arith, le))) c.loop-name.invariant
