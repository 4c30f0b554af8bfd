use Rattle.text_parser.proofs.TextRead.{if_told}
use Rattle.text_parser.proofs.text.parse.Goals as goal

-- src/text.rt:92:1
pub returns-clause-told : goal.returns-clause-told
returns-clause-told c = if_told c.args.text.now c.read.result c.read.ensures
