use Rattle.text_parser.proofs.TextRead.{one_module}
use Rattle.text_parser.proofs.text.stands_for_one.Goals as goal

-- src/text.rt:105:1
pub returns : goal.returns
returns c = one_module
