use Rattle.run_laws.proofs.embedded.Owners.{twins_start}
use Rattle.run_laws.proofs.embedded.owner_rights_serve_markers.Goals as goal

pub returns : goal.returns
returns c = twins_start
