use Rattle.rule_laws.proofs.texts.named_texts.Placed.{locals_named}
use Rattle.rule_laws.proofs.texts.named_texts.texts_name_what_they_define.Goals as goal

pub returns : goal.returns
returns c = locals_named
