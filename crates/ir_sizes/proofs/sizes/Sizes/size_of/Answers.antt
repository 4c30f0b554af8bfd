use Rattle.std.proofs.Common.{◌∙◌}
use Rattle.ir_sizes.proofs.Tables.{size_none, size_some}
use Rattle.ir_sizes.proofs.sizes.Sizes.size_of.Goals as goal

pub returns-in-None : goal.returns-in-None
returns-in-None c =
    size_none c.args.self.now.names.now.source.now c.as_slice.result.now c.args.ty.now (c.as_slice.ensures ∙ c.args.self.now.extents_are) c.in-None.ensures

pub returns-in-Some : goal.returns-in-Some
returns-in-Some c =
    size_some c.args.self.now.names.now.source.now c.as_slice.result.now c.args.ty.now c.in-Some.extent (c.as_slice.ensures ∙ c.args.self.now.extents_are) c.in-Some.ensures
