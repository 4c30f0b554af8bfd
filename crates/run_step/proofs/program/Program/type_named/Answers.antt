use Rattle.std.proofs.Common.{◌∙◌, sym}
use Rattle.run_step.proofs.Tables.{type_named-none, type_named-some, type_named-there}
use Rattle.run_step.proofs.program.Program.type_named.Goals as goal

pub returns-in-None : goal.returns-in-None
returns-in-None c = type_named-none c.args.self.now.module.types c.args.name.now (c.in-None.ensures ∙ c.args.self.now.types_first.first c.args.name.now)

pub returns-in-None-get : goal.returns-in-None-get
returns-in-None-get c = absurd (type_named-there c.args.self.now.module.types c.args.name.now c.in-Some.at (c.in-Some.ensures ∙ c.args.self.now.types_first.first c.args.name.now) (sym c.in-None-get.ensures))

pub returns-in-Some-get : goal.returns-in-Some-get
returns-in-Some-get c = type_named-some c.args.self.now.module.types c.args.name.now c.in-Some.at c.in-Some-get.item.now (c.in-Some.ensures ∙ c.args.self.now.types_first.first c.args.name.now) c.in-Some-get.ensures
