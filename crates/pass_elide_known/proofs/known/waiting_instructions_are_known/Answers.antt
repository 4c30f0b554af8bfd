use Rattle.pass_elide_known.proofs.Apart.{freeing_known, waiting_known}
use Rattle.pass_elide_known.proofs.known.waiting_instructions_are_known.Goals as goal

pub returns-clause-allocating : goal.returns-clause-allocating
returns-clause-allocating c = λ e s t i keeps known runs fine waits there.
    waiting_known e keeps s t known runs fine waits i there

pub returns-clause-freeing : goal.returns-clause-freeing
returns-clause-freeing c = λ e s t r i keeps more known giving runs fine given waits stays there.
    freeing_known e keeps more s t r known giving runs fine given waits stays i there
