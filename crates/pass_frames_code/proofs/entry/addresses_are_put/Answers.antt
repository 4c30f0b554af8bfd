use Rattle.pass_frames_code.proofs.entry.Puts.{puts_done}
use Rattle.pass_frames_code.proofs.entry.addresses_are_put.Goals as goal

pub returns : goal.returns
returns z = λ c law a own address n ss w d h. puts_done c law a own address n ss w d h
