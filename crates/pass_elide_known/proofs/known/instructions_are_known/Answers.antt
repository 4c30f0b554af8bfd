use Rattle.pass_elide_known.proofs.Whole.{instruction_known}
use Rattle.pass_elide_known.proofs.known.instructions_are_known.Goals as goal

pub returns : goal.returns
returns c = λ e s t r i keeps more known giving runs fine there.
    instruction_known e keeps more s t r known giving runs fine i there
