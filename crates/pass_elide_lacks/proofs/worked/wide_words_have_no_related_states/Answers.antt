use Rattle.pass_elide_lacks.proofs.WideWords.{no_states}
use Rattle.pass_elide_lacks.proofs.worked.wide_words_have_no_related_states.Goals as goal

pub returns : goal.returns
returns c = no_states
