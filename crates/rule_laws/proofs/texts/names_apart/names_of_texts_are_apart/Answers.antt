use Rattle.rule_laws.proofs.texts.names_apart.Texts.{texts_apart}
use Rattle.rule_laws.proofs.texts.names_apart.names_of_texts_are_apart.Goals as goal

pub returns : goal.returns
returns c = texts_apart
