use Rattle.compiler_theorem.proofs.theorem.frames_show_live_slots.Goals as goal
use Rattle.compiler_theorem.proofs.theorem.shown.Slots.{slots_shown}

pub returns : goal.returns
returns c = slots_shown
