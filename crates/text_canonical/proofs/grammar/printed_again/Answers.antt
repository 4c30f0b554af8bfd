use Rattle.text_canonical.proofs.grammar.Whole.{is_printable, stands_again}
use Rattle.text_canonical.proofs.grammar.printed_again.Goals as goal

pub returns : goal.returns
returns c = record { again = stands_again; printable = is_printable }
