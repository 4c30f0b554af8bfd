use Rattle.pass_elide_meaning.proofs.StatesKnown.{ends_framed}
use Rattle.pass_elide_apart.specs.pass_elide_proof.Assembling.{elided_after, framed_after}
use Rattle.pass_elide_theorem.proofs.Frames.{frames_live}
use Rattle.pass_elide_theorem.proofs.theorem.given_frames_live_beside.Goals as goal

pub returns-clause-related : goal.returns-clause-related
returns-clause-related c e s t r known = frames_live e s t r known

pub returns-clause-runs : goal.returns-clause-runs
returns-clause-runs c e source most entry args n m ready k =
    frames_live e (framed_after e entry args n) (elided_after e entry args m) k.kept.related
    (ends_framed e ready.places ready.more entry args n)
