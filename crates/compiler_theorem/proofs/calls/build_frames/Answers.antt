use Rattle.compiler_theorem.proofs.calls.Kept.{built_keeps}
use Rattle.compiler_theorem.proofs.calls.build_frames.Goals as goal

pub returns-clause-meaning : goal.returns-clause-meaning
returns-clause-meaning c = built_keeps c.args.source.now c.args.layouts.now c.framed_module.result c.framed_module.ensures
