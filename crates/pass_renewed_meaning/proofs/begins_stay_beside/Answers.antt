use Rattle.pass_renewed_meaning.proofs.Begins.{begins_beside}
use Rattle.pass_renewed_meaning.proofs.begins_stay_beside.Goals as goal

pub returns : goal.returns
returns c = λ flags roots g h code sizes keeps s t beside i result is ours theirs p q stands after done.
    begins_beside flags roots g h code sizes keeps s t beside i result is ours theirs p q stands after done
