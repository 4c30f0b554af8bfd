use Rattle.std.proofs.Common.{subst}
use Rattle.text_parser.specs.Reading.{IsReading}
use Rattle.text_parser.specs.declared.text.Parsed.{Parsed}
use Rattle.worked_examples.proofs.ReadingAgain.{nothing_read}
use Rattle.worked_examples.proofs.again.is_read_again.Goals as goal

pub returns-in-Syntax : goal.returns-in-Syntax
returns-in-Syntax c =
    nothing_read c.args.text.now c.in-Syntax.items (subst (λ (p : Parsed). IsReading c.args.text.now p) c.in-Syntax.is c.in_ok-first.ensures.reading)
