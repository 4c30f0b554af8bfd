use Rattle.rule_laws.proofs.rules.known_labels.Known.{labels_known}
use Rattle.rule_laws.proofs.rules.known_labels.known_labels_are_named.Goals as goal

pub returns : goal.returns
returns c = λ m func f tabled known. labels_known func f tabled m known
