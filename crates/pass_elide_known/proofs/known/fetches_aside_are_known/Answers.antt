use Rattle.pass_elide_known.proofs.Asides.{aside_known}
use Rattle.pass_elide_known.proofs.known.fetches_aside_are_known.Goals as goal

pub returns : goal.returns
returns c = λ e s t r i keeps more known giving runs fine given aside level there.
    aside_known e keeps more s t r known giving runs fine given aside level i there
