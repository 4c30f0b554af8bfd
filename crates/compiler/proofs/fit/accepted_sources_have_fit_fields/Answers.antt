use Rattle.compiler.proofs.fit.Accepted.{accepted_fit}
use Rattle.compiler.proofs.fit.accepted_sources_have_fit_fields.Goals as goal

pub returns : goal.returns
returns c = accepted_fit
