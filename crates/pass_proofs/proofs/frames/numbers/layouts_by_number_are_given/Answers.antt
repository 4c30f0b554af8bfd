use Rattle.pass_proofs.proofs.frames.numbers.Numbers.{number_given}
use Rattle.pass_proofs.proofs.frames.numbers.layouts_by_number_are_given.Goals as goal

pub returns : goal.returns
returns c = number_given
