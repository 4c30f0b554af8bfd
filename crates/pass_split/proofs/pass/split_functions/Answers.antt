use Rattle.std.proofs.Common.{◌≡◌, List, IfOk, ap, ◌∙◌, subst}
use Rattle.ir_model.specs.declared.module.Function.{Function}
use Rattle.pass_split.specs.Called.{split_by}
use Rattle.pass_split.specs.Given.{called_names}
use Rattle.pass_split.specs.declared.given.CalledName.{CalledName}
use Rattle.pass_split.proofs.Called.{split_alike}
use Rattle.pass_split.proofs.pass.split_functions.Goals as goal

pub returns : goal.returns
returns c =
    subst (λ (gs : List Function). IfOk c.split_by.result (λ x. x ≡ gs))
    (ap (λ (ns : List CalledName). split_by c.args.layouts.now ns c.as_slice-functions.result.now) c.in_ok-calls.ensures
    ∙ ap (λ (fs : List Function). split_by c.args.layouts.now (called_names fs) fs) c.as_slice-functions.ensures
    ∙ split_alike c.args.layouts.now c.args.source.now c.args.source.now.functions)
    c.split_by.ensures
