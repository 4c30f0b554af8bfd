use Rattle.run_access_worked.proofs.Begun.{begun_stands}
use Rattle.run_access_worked.proofs.begin_keeps_what_stands.Goals as goal

pub returns : goal.returns
returns c = begun_stands
