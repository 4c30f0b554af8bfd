use Rattle.std.proofs.Common.{◌∙◌, ap, ◌++◌, ◌∷◌, []}
use Rattle.ir_model.specs.declared.module.Block.{Block}
use Rattle.pass_elide.proofs.Walks.{block-next, blocks-frames-next}
use Rattle.pass_elide.proofs.elided.elided_blocks.Goals as goal

pub loop-block-preserved : goal.loop-block-preserved
loop-block-preserved g c =
    let frame = g.R.GivenFrames.found c.args.finder.now in (
      block-next frame c.args.blocks.now c.loop-block.block-index c.block-item.result c.loop-block.at _ c.args.base c.loop-block.all _ _
          c.loop-block.frames _ c.loop-block-test.true c.block-item.is c.loop-block.invariant.0
          (c.in_ok-push.ensures.ok ∙ ap (λ (b : Block). c.loop-block.all ++ b ∷ []) c.in_ok-turned.ensures.block) c.in_ok-turned.ensures.frames
          c.in_ok-at.ensures,
      blocks-frames-next frame c.args.blocks.now c.loop-block.block-index c.block-item.result c.loop-block.at _ c.loop-block.frames _ _
          c.loop-block-test.true c.block-item.is c.loop-block.invariant.1 c.in_ok-turned.ensures.frames c.in_ok-at.ensures,
    )
