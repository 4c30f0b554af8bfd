use Rattle.pass_renewed_meaning.proofs.Assembly.{assembled}
use Rattle.pass_renewed_meaning.proofs.followed_steps_keep_states.Goals as goal

pub returns : goal.returns
returns c = λ m keep flags roots sizes entry args answers p start all.
    assembled m keep flags roots sizes entry args answers p all start
