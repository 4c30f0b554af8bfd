use Rattle.rule_laws.proofs.rules.widths.Written.{text_wide}
use Rattle.rule_laws.proofs.rules.widths.texts_have_known_widths.Goals as goal

pub returns : goal.returns
returns c = text_wide
