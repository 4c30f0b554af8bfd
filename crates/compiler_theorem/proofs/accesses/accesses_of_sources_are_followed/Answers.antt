use Rattle.compiler_theorem.proofs.accesses.Known.{access_known, access_located}
use Rattle.compiler_theorem.proofs.accesses.accesses_of_sources_are_followed.Goals as goal

pub returns-clause-known : goal.returns-clause-known
returns-clause-known c = λ l low few a anew r entered n runs coroutine calm ramp i there access ahead.
    access_known l low few a anew r entered n runs coroutine calm ramp i there access ahead

pub returns-clause-located : goal.returns-clause-located
returns-clause-located c = λ l low few a anew r entered n runs coroutine calm ramp i there access ahead t built of_runs fine ledger.
    access_located l low few a anew r entered n runs coroutine calm ramp i there access ahead t built of_runs fine ledger
