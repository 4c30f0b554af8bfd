use Rattle.pass_split_proof.proofs.code.Numbers.{by_save}
use Rattle.pass_split_proof.proofs.code.saves_have_the_numbers_of_their_suspends.Goals as goal

pub returns : goal.returns
returns c = λ m k f begin block at r i q layout x here e found. by_save m k f begin x layout r block at i q here e found
