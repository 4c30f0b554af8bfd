use Rattle.std.proofs.Common.{◌∙◌, ap}
use Rattle.ir_model.specs.Layout.{size_of}
use Rattle.ir_model.specs.Names.{function_at}
use Rattle.run_step.specs.Effects.{context, work}
use Rattle.run_step.specs.Values.{with_value}
use Rattle.run_step_code.proofs.Slots.{slot-made}
use Rattle.run_step_code.proofs.memory_step.new_slot.Goals as goal

pub returns-clause-done : goal.returns-clause-done
returns-clause-done c = λ rights.
    let m = c.args.program.now.module in
    slot-made (context m c.args.program.now.answers rights (function_at m c.args.func)) (work c.args.world.now c.args.values.now) c.args.name (size_of m c.args.ty.now) c.size_of-size.result c.args.align c.in_ok-block.block c.make_block.new.memory c.set.new.self c.requires c.size_of-size.ensures c.if-size.false c.in_ok-block.ensures.made c.in_ok-block.ensures.position (c.set.ensures ∙ ap (λ v. with_value c.args.values.now c.args.name v) c.pointer_to.ensures)
