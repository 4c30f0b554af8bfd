use Rattle.pass_elide_known.proofs.Coroutines.{own_known}
use Rattle.pass_elide_known.proofs.known.own_intrinsics_are_known.Goals as goal

pub returns : goal.returns
returns c = λ e s t r result must_tail ty args j keeps more known giving runs fine block stands there is.
    own_known e keeps more s t r known giving runs fine block stands result must_tail ty args j there is
