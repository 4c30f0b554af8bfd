use Rattle.text_symbols.proofs.WordFound.{found, other}
use Rattle.text_symbols.proofs.word.word_of.Goals as goal

pub returns-in-Some : goal.returns-in-Some
returns-in-Some c = found c.args.text.now c.in-Some.word (rw c.as_slice.ensures at c.in-Some.ensures)

pub returns-in-None : goal.returns-in-None
returns-in-None c = other c.args.text.now c.plain_word.result (rw c.as_slice.ensures at c.in-None.ensures) c.plain_word.ensures
