-- Attributes, balanced texts and metadata.
use Rattle.std.specs.Prelude.{◌≡◌, ℕ, Bool, true, false, List, [], ◌∷◌, ◌||◌}
use Rattle.ir_model.specs.Names.{same_text}
use Rattle.text_symbols.specs.declared.sym.Mark.TheVariants as marks
use Rattle.text_symbols.specs.declared.sym.Sym.{Sym}
use Rattle.text_symbols.specs.declared.sym.Sym.TheVariants as syms
use Rattle.text_symbols.specs.declared.word.Word.TheVariants as words
use Rattle.text_grammar.specs.Phrases.{Phrase, ◌⨾◌, ◌∥◌, perhaps, each, these, mark, word}

abbrev pub is_bracket : Sym → Bool
is_bracket (syms.Mark marks.OpenRound) = true
is_bracket (syms.Mark marks.CloseRound) = true
is_bracket (syms.Mark marks.OpenSquare) = true
is_bracket (syms.Mark marks.CloseSquare) = true
is_bracket (syms.Mark marks.OpenCurly) = true
is_bracket (syms.Mark marks.CloseCurly) = true
is_bracket _ = false

-- a bracket and the one that closes it
pub data Pair : Sym → Sym → Type 0 where
  round : Pair (syms.Mark marks.OpenRound) (syms.Mark marks.CloseRound)
  square : Pair (syms.Mark marks.OpenSquare) (syms.Mark marks.CloseSquare)
  curly : Pair (syms.Mark marks.OpenCurly) (syms.Mark marks.CloseCurly)

-- any symbols whose brackets match
pub data Balanced : List Sym → List Sym → Type 0 where
  empty : {ts : List Sym} → Balanced ts ts
  other : {t : Sym} {ts rest : List Sym} → is_bracket t ≡ false → Balanced ts rest → Balanced (t ∷ ts) rest
  nested : {o c : Sym} {ts behind rest : List Sym} → Pair o c → Balanced ts (c ∷ behind) → Balanced behind rest → Balanced (o ∷ ts) rest

-- '(' balanced ')'
abbrev pub round_text : Phrase
round_text = mark marks.OpenRound ⨾ Balanced ⨾ mark marks.CloseRound

-- '{' balanced '}'
abbrev pub curly_text : Phrase
curly_text = mark marks.OpenCurly ⨾ Balanced ⨾ mark marks.CloseCurly

-- an INT whose value isn't kept
abbrev pub any_integer : Phrase
any_integer ts rest = (n : ℕ) × (these (syms.Int n ∷ []) ∥ these (syms.Negative n ∷ [])) ts rest

-- what is told of an attribute: it is `presplitcoroutine`, it names a group, or it is any other
pub data Attr : Type 0 where
  presplit : Attr
  in_group : List ℕ → Attr
  plain_attr : Attr

-- attr = AWORD ['(' balanced ')'] | 'align' ['='] INT | GROUP | STRING ['=' STRING] | 'presplitcoroutine'
--      | 'comdat' ['(' balanced ')']
abbrev pub IsAttr : Attr → Phrase
IsAttr presplit = word words.Presplitcoroutine
IsAttr (in_group g) = these (syms.Group g ∷ [])
IsAttr plain_attr =
    (word words.Attr ⨾ perhaps round_text)
    ∥ (word words.Comdat ⨾ perhaps round_text)
    ∥ (word words.Align ⨾ perhaps (mark marks.Equals) ⨾ any_integer)
    ∥ (these (syms.Str ∷ []) ⨾ perhaps (these (syms.Mark marks.Equals ∷ syms.Str ∷ [])))

-- attr*
abbrev pub attributes : Phrase
attributes ts rest = (attrs : List Attr) × each IsAttr attrs ts rest

-- a group is one of these
abbrev pub is_one_of : List (List ℕ) → List ℕ → Bool
is_one_of [] g = false
is_one_of (h ∷ gs) g = same_text g h || is_one_of gs g

-- `presplitcoroutine` stands among the attributes, or they name one of these groups
abbrev pub make_coroutine : List (List ℕ) → List Attr → Bool
make_coroutine gs [] = false
make_coroutine gs (presplit ∷ attrs) = true
make_coroutine gs (in_group g ∷ attrs) = is_one_of gs g || make_coroutine gs attrs
make_coroutine gs (plain_attr ∷ attrs) = make_coroutine gs attrs

-- any number of a phrase
abbrev pub any : Phrase → Phrase
any P ts rest = (us : List (Unit {0})) × each (λ u. P) us ts rest

-- md = (',' META META)*
abbrev pub metadata : Phrase
metadata = any (these (syms.Mark marks.Comma ∷ syms.Meta ∷ syms.Meta ∷ []))

-- (META META)*
abbrev pub pairs : Phrase
pairs = any (these (syms.Meta ∷ syms.Meta ∷ []))
