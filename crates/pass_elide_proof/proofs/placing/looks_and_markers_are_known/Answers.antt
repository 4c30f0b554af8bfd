use Rattle.pass_elide_proof.proofs.PlacingLooks.{again_place, deallocation_place, done_place, marker_place, promise_place}
use Rattle.pass_elide_proof.proofs.placing.looks_and_markers_are_known.Goals as goal

pub returns-clause-done : goal.returns-clause-done
returns-clause-done c = λ e s t n r result must_tail ty args keeps by made at coroutines.
    done_place e keeps s t n r by result must_tail ty args made at coroutines

pub returns-clause-promise : goal.returns-clause-promise
returns-clause-promise c = λ e s t n r result must_tail ty args keeps by made at second.
    promise_place e keeps s t n r by result must_tail ty args made at second

pub returns-clause-markers : goal.returns-clause-markers
returns-clause-markers c = λ e s t j result must_tail ty args r keeps by marker at nothing first second.
    marker_place e keeps s t r.top.func by j result must_tail ty args marker at nothing first second

pub returns-clause-deallocations : goal.returns-clause-deallocations
returns-clause-deallocations c =
    λ e s t a result must_tail ty args memory r keeps by frees at takes first second does.
    deallocation_place e keeps s t r.top.func by a result must_tail ty args memory frees at takes first second does

pub returns-clause-again : goal.returns-clause-again
returns-clause-again c = λ e s t name ty align from label next r keeps by known at slots mode follows.
    again_place e keeps s t r.top.func by known name ty align from label next at slots mode follows
