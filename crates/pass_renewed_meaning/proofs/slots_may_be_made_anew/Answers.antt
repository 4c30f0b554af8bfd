use Rattle.pass_renewed_meaning.proofs.Dispatch.{made_anew}
use Rattle.pass_renewed_meaning.proofs.slots_may_be_made_anew.Goals as goal

pub returns : goal.returns
returns c = λ s p all. made_anew s p all
