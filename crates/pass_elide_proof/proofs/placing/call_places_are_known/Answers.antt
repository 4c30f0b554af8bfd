use Rattle.pass_elide_proof.proofs.PlacingEntered.{behind_place, local_place, named_place, site_place}
use Rattle.pass_elide_proof.proofs.placing.call_places_are_known.Goals as goal

pub returns-clause-named : goal.returns-clause-named
returns-clause-named c = λ e s t result must_tail ty n args callee r keeps by at none named.
    named_place e keeps s t r.top.func by result must_tail ty n args callee at none named

pub returns-clause-pointed : goal.returns-clause-pointed
returns-clause-pointed c = λ e s t result must_tail ty v args callee r keeps by at leads fits.
    local_place e keeps s t r.top.func by result must_tail ty v args callee at leads fits

pub returns-clause-sites : goal.returns-clause-sites
returns-clause-sites c = λ e s t result must_tail ty n args size align r keeps by at room.
    site_place e keeps s t r.top.func by result must_tail ty n args size align at room

pub returns-clause-behind : goal.returns-clause-behind
returns-clause-behind c = λ e s t keeps block at none. behind_place e keeps s t block at none
