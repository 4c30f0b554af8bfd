use Rattle.std.proofs.Common.{◌≡◌, ◌∙◌, ap, subst, ℕ, Option}
use Rattle.std.specs.Prelude.{IfOk}
use Rattle.ir_model.specs.declared.operand.Operand.{Operand}
use Rattle.pass_edges.specs.Positions.{operand_at}
use Rattle.pass_edges.proofs.Firsts.{operand_at-first}
use Rattle.pass_edges.proofs.operands.operand_from.Goals as goal

pub returns : goal.returns
returns c =
    let found : Option Operand → Type 0 = λ (o : Option Operand). IfOk c.operand_at.result (λ x. x ≡ o) in
    subst found
    (ap (λ (at : Option ℕ). operand_at c.args.incoming.now at) (c.find.ensures ∙ c.requires.first c.args.label) ∙ operand_at-first c.args.incoming.now c.args.label)
    c.operand_at.ensures
