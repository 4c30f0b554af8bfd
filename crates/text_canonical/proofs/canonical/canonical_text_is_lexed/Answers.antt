use Rattle.text_canonical.proofs.canonical.ItemsLexed.{module_lexed}
use Rattle.text_canonical.proofs.canonical.canonical_text_is_lexed.Goals as goal

pub returns : goal.returns
returns c = module_lexed
