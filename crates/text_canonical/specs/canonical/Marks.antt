-- The marks and words of the printed text.
use Rattle.text_symbols.specs.declared.sym.Sym.{Sym}
use Rattle.text_symbols.specs.declared.word.Word.{Word}
use Rattle.text_symbols.specs.declared.sym.Mark.TheVariants as marks
use Rattle.text_symbols.specs.declared.sym.Sym.TheVariants as syms

abbrev pub word : Word → Sym
word w = syms.Word w

abbrev pub equals : Sym
equals = syms.Mark marks.Equals

abbrev pub comma : Sym
comma = syms.Mark marks.Comma

abbrev pub open_round : Sym
open_round = syms.Mark marks.OpenRound

abbrev pub close_round : Sym
close_round = syms.Mark marks.CloseRound

abbrev pub open_square : Sym
open_square = syms.Mark marks.OpenSquare

abbrev pub close_square : Sym
close_square = syms.Mark marks.CloseSquare

abbrev pub open_curly : Sym
open_curly = syms.Mark marks.OpenCurly

abbrev pub close_curly : Sym
close_curly = syms.Mark marks.CloseCurly
