use Rattle.std.proofs.Common.{arith, ℕ}
use Rattle.std.specs.List.{list_any}
use Rattle.ir_paths.specs.ir_model.declared.module.Block.{Block}
use Rattle.run_step.specs.Step.{is_marker_of}
use Rattle.run_step.proofs.Marking.{marked-all}
use Rattle.run_step.proofs.markers.mark_blocks.Goals as goal

pub returns : goal.returns
returns c = marked-all (λ (name : ℕ) (b : Block). list_any (λ i. is_marker_of name i) b.instrs) c.args.blocks.now c.loop-block.block-index c.args.table.now c.loop-block.table (omega arith) c.loop-block.invariant
