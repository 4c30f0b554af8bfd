use Rattle.pass_elide_known.proofs.ReadyPlaces.{ordinary_ready}
use Rattle.pass_elide_known.proofs.ready.ordinary_instructions_are_ready.Goals as goal

pub returns : goal.returns
returns c = λ e s u r i keeps known giving runs fine there is which.
    ordinary_ready e keeps s known runs fine u r giving i there is which
