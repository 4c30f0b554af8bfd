use Rattle.std.proofs.Common.{◌∙◌, ap}
use Rattle.std.specs.Prelude.{is_some}
use Rattle.ir_model.specs.declared.instr.Incoming.{Incoming}
use Rattle.rule_phis.proofs.Numberings.{stands}
use Rattle.rule_phis.proofs.edges.is_label.Goals as goal

pub returns : goal.returns
returns c = c.is_some.ensures ∙ ap is_some (c.find.ensures ∙ c.requires.first c.args.label) ∙ stands (λ (i : Incoming). i.from) c.args.incoming.now c.args.label
