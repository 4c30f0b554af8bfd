use Rattle.std.proofs.Common.{◌∙◌, ap}
use Rattle.ir_alignments.specs.Alignment.{align_in}
use Rattle.pass_distances.proofs.types.Types.align_of.Goals as goal

pub returns : goal.returns
unfolding align_in
returns c = c.align.ensures ∙ ap (λ types. align_in types c.args.ty.now) c.args.self.now.alignments_are
