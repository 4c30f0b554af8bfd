use Rattle.pass_elide_lacks.proofs.Lacking.{giving_bare}
use Rattle.pass_elide_lacks.proofs.slots.slots_of_the_framed_form_hold_no_frames.Goals as goal

pub returns : goal.returns
returns c e entry args n keeps more ends k fine = giving_bare e keeps more ends k entry args n fine
