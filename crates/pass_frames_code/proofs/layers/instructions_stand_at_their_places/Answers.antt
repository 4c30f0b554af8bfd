use Rattle.pass_frames_code.proofs.layers.Standing.{back_stands, first_place, front_stands, one_stands, place_next, state_next, term_stands}
use Rattle.pass_frames_code.proofs.layers.instructions_stand_at_their_places.Goals as goal

pub returns-clause-one : goal.returns-clause-one
returns-clause-one g c = one_stands

pub returns-clause-next : goal.returns-clause-next
returns-clause-next g c = place_next

pub returns-clause-state : goal.returns-clause-state
returns-clause-state g c = state_next

pub returns-clause-front : goal.returns-clause-front
returns-clause-front g c = front_stands

pub returns-clause-first : goal.returns-clause-first
returns-clause-first g c = first_place

pub returns-clause-back : goal.returns-clause-back
returns-clause-back g c = back_stands

pub returns-clause-term : goal.returns-clause-term
returns-clause-term g c = term_stands
