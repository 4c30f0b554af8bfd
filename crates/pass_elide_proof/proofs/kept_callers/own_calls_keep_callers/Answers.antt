use Rattle.pass_elide_proof.proofs.CallersBegin.{begin_keeps}
use Rattle.pass_elide_proof.proofs.CallersCoros.{end_keeps, gives_only_keep, saves_by_keep}
use Rattle.pass_elide_proof.proofs.kept_callers.own_calls_keep_callers.Goals as goal

pub returns-clause-given : goal.returns-clause-given
returns-clause-given c =
    λ e t at result must_tail ty args j is k h. gives_only_keep e t at result must_tail ty args h j is k

pub returns-clause-saves : goal.returns-clause-saves
returns-clause-saves c =
    λ e t at result must_tail ty args j is k m h. saves_by_keep e t at result must_tail ty args h m j is k

pub returns-clause-begins : goal.returns-clause-begins
returns-clause-begins c = begin_keeps

pub returns-clause-ends : goal.returns-clause-ends
returns-clause-ends c =
    λ e t at result must_tail ty args k ramp none h. end_keeps e t at result must_tail ty args h none ramp k
