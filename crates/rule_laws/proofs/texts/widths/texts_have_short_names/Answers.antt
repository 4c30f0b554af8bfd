use Rattle.rule_laws.proofs.texts.widths.Texts.{text_names_short}
use Rattle.rule_laws.proofs.texts.widths.texts_have_short_names.Goals as goal

pub returns : goal.returns
returns c = text_names_short
