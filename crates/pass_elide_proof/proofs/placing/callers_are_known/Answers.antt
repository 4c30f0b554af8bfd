use Rattle.pass_elide_proof.proofs.PlacingBack.{returns_place}
use Rattle.pass_elide_proof.proofs.placing.callers_are_known.Goals as goal

pub returns : goal.returns
returns c = λ e s caller rest keeps known below. returns_place e keeps s caller rest known below
