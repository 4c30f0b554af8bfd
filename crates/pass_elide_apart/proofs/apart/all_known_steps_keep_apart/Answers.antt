use Rattle.pass_elide_apart.proofs.Woken.{known_apart}
use Rattle.pass_elide_apart.proofs.apart.all_known_steps_keep_apart.Goals as goal

pub returns : goal.returns
returns c e s t r k ends handles alone first knows apart runs fine next =
    known_apart e ends handles alone s t r first knows apart runs fine k next
