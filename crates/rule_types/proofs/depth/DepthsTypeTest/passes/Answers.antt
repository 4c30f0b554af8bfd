use Rattle.std.proofs.Common.{◌∙◌}
use Rattle.rule_types.proofs.Depths.{table_fits}
use Rattle.rule_types.proofs.depth.DepthsTypeTest.passes.Goals as goal

pub returns : goal.returns
returns c = c.fits.ensures ∙ table_fits c.args.self.now.names.now.source.now.types c.as_slice.result.now c.args.ty.now (c.as_slice.ensures ∙ c.args.self.now.heights_are)
