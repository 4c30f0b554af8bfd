use Rattle.text_lexer.proofs.OneKind.{same_kind}
use Rattle.text_lexer.proofs.law.token_is_of_one_kind.Goals as goal

-- src/law.rt:10:1
pub returns : goal.returns
returns c = same_kind
