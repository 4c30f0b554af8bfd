use Rattle.flow_points.specs.ir_paths.Slots.{exposes}
use Rattle.flow_facts.proofs.Adding.{more-step}
use Rattle.flow_facts.proofs.names.push_instrs.Goals as goal

pub loop-instr-preserved : goal.loop-instr-preserved
loop-instr-preserved c = more-step exposes c.args.instrs.now c.loop-instr.instr-index c.instr-item.result c.args.names.now c.loop-instr.names c.push_exposed.new.names c.loop-instr-test.true c.instr-item.is c.loop-instr.invariant c.in_ok-push_exposed.ensures
