use Rattle.pass_elide_proof.proofs.PlacingFrames.{begin_place, given_begin_place, room_place}
use Rattle.pass_elide_proof.proofs.placing.begin_places_are_known.Goals as goal

pub returns-clause-allocated : goal.returns-clause-allocated
returns-clause-allocated c = λ e s t result must_tail ty args r keeps slotted first second at ramp.
    begin_place e keeps s t r slotted first second result must_tail ty args at ramp

pub returns-clause-given : goal.returns-clause-given
returns-clause-given c = λ e s t r result must_tail ty args block keeps slotted first second shapes at mode room
    exact. given_begin_place e keeps s t r slotted first second result must_tail ty args at shapes block mode room
    exact

pub returns-clause-rooms : goal.returns-clause-rooms
returns-clause-rooms c = λ e s t block keeps slotted second calls mode alone.
    room_place e keeps s t slotted second calls block mode alone
