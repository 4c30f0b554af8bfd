use Rattle.pass_proofs.proofs.frames.numbers.Numbers.{all_near}
use Rattle.pass_proofs.proofs.frames.numbers.offsets_are_near.Goals as goal

pub returns : goal.returns
returns c = all_near
