use Rattle.pass_elide_meaning.proofs.StepsKnown.{step_known}
use Rattle.pass_elide_meaning.proofs.steps.steps_are_known.Goals as goal

pub returns : goal.returns
returns c = λ e s t r keeps more ends known giving first second apart runs fine.
    step_known e s t r keeps more ends known giving first second apart runs fine
