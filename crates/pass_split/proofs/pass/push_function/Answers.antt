use Rattle.std.proofs.Common.{◌≡◌, ◌++◌, Bool, subst}
use Rattle.std.specs.Prelude.{OnOk}
use Rattle.pass_split.specs.Parts.{first_layout, split_function}
use Rattle.pass_split.proofs.pass.push_function.Goals as goal

pub returns : goal.returns
returns c =
    subst (λ (b : Bool). OnOk c.push_split.result (c.push_split.new.all ≡ c.args.all.now ++ split_function (first_layout c.args.layouts.now) b c.args.function.now)) c.in_ok-given.ensures c.push_split.ensures
