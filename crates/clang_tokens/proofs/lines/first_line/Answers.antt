use Rattle.clang_tokens.proofs.FirstLine.{first_line_is, first_line_shorter}
use Rattle.clang_tokens.proofs.lines.first_line.Goals as goal

pub returns-clause-lines : goal.returns-clause-lines
returns-clause-lines c = first_line_is c.args.text.now _ _ c.line_len-len.result c.requires c.line_len-len.ensures.value c.split_at.ensures.front c.behind.ensures

pub returns-clause-shorter : goal.returns-clause-shorter
returns-clause-shorter c = first_line_shorter c.args.text.now _ c.line_len-len.result c.requires c.behind.ensures
