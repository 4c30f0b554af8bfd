use Rattle.pass_elide_proof.proofs.PlacingEntered.{waking_place}
use Rattle.pass_elide_proof.proofs.placing.waking_places_are_known.Goals as goal

pub returns : goal.returns
returns c = λ e s t j result must_tail ty arg rest r keeps by wakes at coroutines callers fine.
    waking_place e keeps s t r.top.func by j result must_tail ty arg rest wakes at coroutines callers fine
