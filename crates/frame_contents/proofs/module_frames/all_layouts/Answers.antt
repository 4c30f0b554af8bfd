use Rattle.frame_contents.proofs.Underway.{all_laid, failed_by, kept_by}
use Rattle.frame_contents.proofs.module_frames.all_layouts.Goals as goal

pub loop-func-preserved : goal.loop-func-preserved
loop-func-preserved c =
    kept_by c.args.sizes.now.names.now.source.now c.args.share c.args.functions.now c.loop-func.func c.index-functions-func.result c.loop-func.coroutines c.push_layout-pushed.new.all c.push_layout-pushed.result c.in_default.field-0 c.loop-func.invariant
    c.loop-func-test.true c.index-functions-func.is c.in_default.is c.push_layout-pushed.ensures

pub returns-in-Err : goal.returns-in-Err
returns-in-Err c =
    failed_by c.args.sizes.now.names.now.source.now c.args.share c.args.functions.now c.loop-func.func c.index-functions-func.result c.loop-func.coroutines c.push_layout-pushed.new.all c.push_layout-pushed.result c.in-Err.error c.requires c.loop-func.invariant
    c.loop-func-test.true c.index-functions-func.is c.in-Err.is c.push_layout-pushed.ensures

pub returns : goal.returns
returns c = all_laid c.args.sizes.now.names.now.source.now c.args.share c.args.functions.now c.loop-func.func c.loop-func.coroutines c.requires c.loop-func.invariant c.loop-func-test.false
