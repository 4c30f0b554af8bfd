use Rattle.std.proofs.Common.{◌≡◌, ◌++◌, subst}
use Rattle.std.specs.Prelude.{OnOk}
use Rattle.ir_model.specs.declared.module.Function.{Function}
use Rattle.pass_split.specs.Parts.{marked_parts}
use Rattle.pass_split.proofs.pass.push_coroutine.Goals as goal

pub returns : goal.returns
returns c =
    subst (λ (g : Function). OnOk c.push_marked.result (c.push_marked.new.all ≡ c.args.all.now ++ marked_parts c.args.layout.now c.args.given g)) c.in_ok-marked.ensures c.push_marked.ensures
