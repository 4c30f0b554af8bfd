use Rattle.pass_elide_ready.proofs.Forms.{freeing, tests, asides, form_frees}
use Rattle.pass_elide_ready.proofs.shapes.forms_free_at_once.Goals as goal

pub returns-clause-freeing : goal.returns-clause-freeing
returns-clause-freeing c = freeing

pub returns-clause-tests : goal.returns-clause-tests
returns-clause-tests c = tests

pub returns-clause-asides : goal.returns-clause-asides
returns-clause-asides c = asides

pub returns-clause-frees : goal.returns-clause-frees
returns-clause-frees c = form_frees
