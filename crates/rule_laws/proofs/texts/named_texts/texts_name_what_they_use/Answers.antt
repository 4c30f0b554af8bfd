use Rattle.rule_laws.proofs.texts.named_texts.Placed.{uses_named}
use Rattle.rule_laws.proofs.texts.named_texts.texts_name_what_they_use.Goals as goal

pub returns : goal.returns
returns c = uses_named
