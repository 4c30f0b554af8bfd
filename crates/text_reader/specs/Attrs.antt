-- Attributes and balanced texts.
use Rattle.std.specs.Prelude.{ℕ, Bool, true, false, List, [], ◌∷◌, Option, Some, None, unwrap_or, if◌then◌else◌, ◌==◌, ◌||◌}
use Rattle.text_lexer.specs.Lists.{all_at}
use Rattle.text_reader.specs.declared.attrs.Bracket.{Bracket}
use Rattle.text_reader.specs.declared.attrs.Bracket.TheVariants as brackets
use Rattle.text_reader.specs.Groups.{has_group}
use Rattle.text_symbols.specs.declared.sym.Mark.{Mark}
use Rattle.text_symbols.specs.declared.sym.Mark.TheVariants as marks
use Rattle.text_symbols.specs.declared.sym.Sym.{Sym}
use Rattle.text_symbols.specs.declared.sym.Sym.TheVariants as syms
use Rattle.text_symbols.specs.declared.word.Word.TheVariants as words
use Rattle.text_symbols.specs.Sym.{mark_number}

-- what a symbol does to the brackets that are open
abbrev pub bracket_of : Sym → Bracket
bracket_of (syms.Mark marks.OpenRound) = brackets.Opens marks.CloseRound
bracket_of (syms.Mark marks.OpenSquare) = brackets.Opens marks.CloseSquare
bracket_of (syms.Mark marks.OpenCurly) = brackets.Opens marks.CloseCurly
bracket_of (syms.Mark marks.CloseRound) = brackets.Closes marks.CloseRound
bracket_of (syms.Mark marks.CloseSquare) = brackets.Closes marks.CloseSquare
bracket_of (syms.Mark marks.CloseCurly) = brackets.Closes marks.CloseCurly
bracket_of _ = brackets.No

-- on behind a symbol, with the brackets that are open, the innermost first
abbrev pub on_bracket : Bracket → List Sym → List Mark → (List Mark → Option (List Sym)) → Option (List Sym)
on_bracket brackets.No ts st go = go st
on_bracket (brackets.Opens m) ts st go = go (m ∷ st)
on_bracket (brackets.Closes m) ts [] go = None
on_bracket (brackets.Closes m) ts (n ∷ []) go = if mark_number m == mark_number n then Some ts else None
on_bracket (brackets.Closes m) ts (n ∷ o ∷ st) go = if mark_number m == mark_number n then go (o ∷ st) else None

-- behind the bracket that closes the outermost that is open
abbrev pub behind_close : List Sym → List Mark → Option (List Sym)
behind_close [] st = None
behind_close (t ∷ ts) st = on_bracket (bracket_of t) ts st (behind_close ts)

-- behind a balanced text in round brackets, where one stands there
abbrev pub behind_round : List Sym → List Sym
behind_round (syms.Mark marks.OpenRound ∷ ts) = unwrap_or (behind_close ts (marks.CloseRound ∷ [])) (syms.Mark marks.OpenRound ∷ ts)
behind_round ts = ts

abbrev pub behind_equals : List Sym → List Sym
behind_equals (syms.Mark marks.Equals ∷ ts) = ts
behind_equals ts = ts

abbrev pub behind_integer : List Sym → Option (Bool × List Sym)
behind_integer (syms.Int n ∷ ts) = Some (false, ts)
behind_integer (syms.Negative n ∷ ts) = Some (false, ts)
behind_integer _ = None

-- whether an attribute makes a coroutine, where the groups hold those that do
unfoldable pub attr_at : List (List ℕ) → List Sym → Option (Bool × List Sym)
attr_at gs (syms.Word words.Attr ∷ ts) = Some (false, behind_round ts)
attr_at gs (syms.Word words.Comdat ∷ ts) = Some (false, behind_round ts)
attr_at gs (syms.Word words.Align ∷ ts) = behind_integer (behind_equals ts)
attr_at gs (syms.Word words.Presplitcoroutine ∷ ts) = Some (true, ts)
attr_at gs (syms.Group g ∷ ts) = Some (has_group gs g, ts)
attr_at gs (syms.Str ∷ syms.Mark marks.Equals ∷ syms.Str ∷ ts) = Some (false, ts)
attr_at gs (syms.Str ∷ ts) = Some (false, ts)
attr_at gs _ = None

abbrev pub any_true : List Bool → Bool
any_true [] = false
any_true (b ∷ bs) = b || any_true bs

-- whether one of the attributes makes a coroutine
abbrev pub attrs_at : List (List ℕ) → List Sym → Bool × List Sym
attrs_at gs ts = (any_true (all_at (attr_at gs) ts).0, (all_at (attr_at gs) ts).1)

abbrev pub behind_attrs : List Sym → List Sym
behind_attrs ts = (attrs_at [] ts).1
