use Rattle.pass_elide_apart.proofs.Rets.{no_ret, unended_in_runs}
use Rattle.pass_elide_apart.proofs.Runs.{each_in_runs, sleeps_in_runs}
use Rattle.pass_elide_apart.proofs.behind.resumed_activations_come_to_no_ret.Goals as goal

pub returns-clause-stand : goal.returns-clause-stand
returns-clause-stand c g entry args n switches switched knows nests ends =
    unended_in_runs g ends entry args
    (λ k. (
      sleeps_in_runs g switches switched knows nests entry args k,
      (each_in_runs g switches switched knows nests entry args k).1,
    )) n

pub returns-clause-rets : goal.returns-clause-rets
returns-clause-rets c = no_ret
