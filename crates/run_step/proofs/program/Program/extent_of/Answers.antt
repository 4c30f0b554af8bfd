use Rattle.ir_paths.specs.ir_model.Layout.{extent_of}
use Rattle.run_step.proofs.Extents.{or-none, or-some}
use Rattle.run_step.proofs.program.Program.extent_of.Goals as goal

pub returns-in-None : goal.returns-in-None
returns-in-None c = or-none (extent_of c.args.self.now.module.types c.args.ty.now) c.in-None.ensures

pub returns-in-Some : goal.returns-in-Some
returns-in-Some c = or-some (extent_of c.args.self.now.module.types c.args.ty.now) c.in-Some.extent c.in-Some.ensures
