use Rattle.std.proofs.Common.{◌∙◌, ap}
use Rattle.std.specs.Prelude.{is_some}
use Rattle.pass_split.proofs.CalledNames.{found_alike}
use Rattle.pass_split.proofs.given.is_called.Goals as goal

pub returns : goal.returns
returns c = c.is_some.ensures ∙ ap is_some c.place_of.ensures ∙ found_alike c.args.name.now c.args.calls.now.names
