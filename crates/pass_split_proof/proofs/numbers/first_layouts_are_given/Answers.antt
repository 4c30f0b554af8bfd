use Rattle.pass_split_proof.proofs.numbers.Numbers.{first_given}
use Rattle.pass_split_proof.proofs.numbers.first_layouts_are_given.Goals as goal

pub returns : goal.returns
returns c = first_given
