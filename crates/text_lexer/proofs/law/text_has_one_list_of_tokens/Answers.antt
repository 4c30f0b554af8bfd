use Rattle.text_lexer.proofs.ListedTokens.{tokens_listed, one_list}
use Rattle.text_lexer.proofs.law.text_has_one_list_of_tokens.Goals as goal

-- src/law.rt:15:1
pub returns-clause-computed : goal.returns-clause-computed
returns-clause-computed c = tokens_listed

pub returns-clause-only : goal.returns-clause-only
returns-clause-only c = one_list
