use Rattle.std.proofs.Common.{ap, sym, ◌∙◌, List, ◌++◌}
use Rattle.ir_model.specs.declared.instr.Instr.{Instr}
use Rattle.ir_model.specs.declared.module.Block.{Block}
use Rattle.flow_points.specs.ir_paths.Windows.{is_call_of, points_from}
use Rattle.flow_facts.proofs.Points.{pushed-block}
use Rattle.flow_facts.proofs.calls.points_of_calls.Goals as goal

pub loop-block-preserved : goal.loop-block-preserved
loop-block-preserved c =
    pushed-block (is_call_of c.args.intrinsic) c.as_slice-blocks.result.now c.loop-block.block c.index-blocks-block.result c.loop-block.all c.push_calls.new.all c.loop-block-test.true c.index-blocks-block.is c.loop-block.invariant
    (c.in_ok-push_calls.ensures
    ∙ ap (λ (l : List Instr). c.loop-block.all ++ points_from (is_call_of c.args.intrinsic) c.loop-block.block 0 l) (c.as_slice.ensures ∙ ap (λ (b : Block). b.instrs) (sym c.index-blocks-block.is)))
