use Rattle.pass_renewed_meaning.proofs.Resuming.{on_way, resumes_beside}
use Rattle.pass_renewed_meaning.proofs.resumes_stay_beside.Goals as goal

pub returns-clause-resumed : goal.returns-clause-resumed
returns-clause-resumed c = λ g d code rules s t beside runs i y z label is there found. resumes_beside g rules s t beside
    i y z label is there found d code runs

pub returns-clause-between : goal.returns-clause-between
returns-clause-between c = λ g d code rules s t beside runs i y z label is there found j lt. on_way g rules s t beside i y
    z label is there found d code runs j lt
