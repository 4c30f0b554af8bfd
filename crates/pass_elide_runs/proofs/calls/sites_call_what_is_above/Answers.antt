use Rattle.pass_elide_runs.proofs.GivingCalls.{called_in_runs}
use Rattle.pass_elide_runs.proofs.calls.sites_call_what_is_above.Goals as goal

pub returns : goal.returns
returns c e entry args n keeps fine = called_in_runs e keeps entry args n fine
