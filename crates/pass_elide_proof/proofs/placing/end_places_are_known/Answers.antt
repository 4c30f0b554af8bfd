use Rattle.pass_elide_proof.proofs.PlacingEnds.{own_place, ramp_end_place, resumed_end_place}
use Rattle.pass_elide_proof.proofs.placing.end_places_are_known.Goals as goal

pub returns-clause-own : goal.returns-clause-own
returns-clause-own c = λ e s t r number first known slotted coroutine own there goes.
    own_place e s t r known slotted coroutine number first own there goes

pub returns-clause-ramp : goal.returns-clause-ramp
returns-clause-ramp c = λ e s t r number first result must_tail ty args keeps known slotted at own there goes ramp.
    ramp_end_place e keeps s t r known slotted result must_tail ty args at.runs at.there at.block at.front number first
    own there goes ramp

pub returns-clause-resumed : goal.returns-clause-resumed
returns-clause-resumed c =
    λ e s t r number first result must_tail ty args keeps known slotted second at own there goes resumed slots.
    resumed_end_place e keeps s t r known slotted result must_tail ty args at.runs at.there at.block at.front number
    first own there goes resumed slots second
