-- Items.
use Rattle.std.specs.Prelude.{◌≡◌, ℕ, Bool, true, false, List, [], ◌∷◌, Some}
use Rattle.ir_model.specs.Ty.{Tys, structure}
use Rattle.ir_model.specs.declared.module.Declaration.{Declaration}
use Rattle.ir_model.specs.declared.module.Function.{Function}
use Rattle.ir_model.specs.declared.module.GlobalItem.{GlobalItem}
use Rattle.ir_model.specs.declared.module.Module.{Module}
use Rattle.ir_model.specs.declared.module.TypeItem.{TypeItem}
use Rattle.text_symbols.specs.declared.sym.Mark.TheVariants as marks
use Rattle.text_symbols.specs.declared.sym.Sym.TheVariants as syms
use Rattle.text_symbols.specs.declared.word.Word.{Word}
use Rattle.text_symbols.specs.declared.word.Word.TheVariants as words
use Rattle.text_grammar.specs.Attributes.{Attr, IsAttr, attributes, make_coroutine, metadata, round_text, curly_text}
use Rattle.text_grammar.specs.Functions.{IsDeclaration, IsFunction}
use Rattle.text_grammar.specs.Phrases.{Phrase, ◌⨾◌, ◌∥◌, perhaps, each, these, mark, word}
use Rattle.text_grammar.specs.Types.{IsType, IsScalar}
use Rattle.text_grammar.specs.Values.{global, IsInitial, IsAligned}

-- What an item stands for: a part of the module, a group that holds `presplitcoroutine`, or nothing that is kept.
pub data Item : Type 0 where
  type_item : TypeItem → Item
  global_item : GlobalItem → Item
  declaration : Declaration → Item
  function : Function → Item
  group : List ℕ → Item
  other : Item

-- 'source_filename' '=' STRING
abbrev pub source_item : Phrase
source_item = these (syms.Word words.SourceFilename ∷ syms.Mark marks.Equals ∷ syms.Str ∷ [])

-- 'target' WORD '=' STRING
abbrev pub target_item : Phrase
target_item ts rest = (w : Word) × these (syms.Word words.Target ∷ syms.Word w ∷ syms.Mark marks.Equals ∷ syms.Str ∷ []) ts rest

-- WORD '=' 'comdat' WORD, the first of which begins with $
abbrev pub comdat_item : Phrase
comdat_item ts rest =
    (w : Word) × these (syms.Word words.Dollar ∷ syms.Mark marks.Equals ∷ syms.Word words.Comdat ∷ syms.Word w ∷ []) ts rest

-- META '=' ['distinct'] META ('{' balanced '}' | '(' balanced ')')
abbrev pub metadata_item : Phrase
metadata_item =
    these (syms.Meta ∷ syms.Mark marks.Equals ∷ []) ⨾ perhaps (word words.Distinct) ⨾ these (syms.Meta ∷ []) ⨾ (curly_text ∥ round_text)

-- 'attributes' GROUP '=' '{' attr* '}'
abbrev pub IsAttributes : List ℕ → List Attr → Phrase
IsAttributes g attrs = these (syms.Word words.Attributes ∷ syms.Group g ∷ syms.Mark marks.Equals ∷ syms.Mark marks.OpenCurly ∷ []) ⨾ each IsAttr attrs ⨾ mark marks.CloseCurly

-- a group without `presplitcoroutine`: groups that are named in it add nothing
abbrev pub attributes_item : Phrase
attributes_item ts rest = (g : List ℕ) × (attrs : List Attr) × (make_coroutine [] attrs ≡ false) × IsAttributes g attrs ts rest

-- a group with `presplitcoroutine`
abbrev pub IsGroup : List ℕ → Phrase
IsGroup g ts rest = (attrs : List Attr) × (make_coroutine [] attrs ≡ true) × IsAttributes g attrs ts rest

-- LOCAL '=' 'type' struct
abbrev pub IsTypeItem : TypeItem → Phrase
IsTypeItem t ts rest =
    (fs : Tys) × (t.ty ≡ structure fs) × (these (syms.Local (Some t.name) ∷ syms.Mark marks.Equals ∷ syms.Word words.Type ∷ []) ⨾ IsType (structure fs)) ts rest

-- 'global' | 'constant'
abbrev pub IsKeyword : Bool → Phrase
IsKeyword true = word words.Constant
IsKeyword false = word words.Global

-- GLOBAL '=' attr* ('global' | 'constant') gtype init [',' 'align' INT] md
abbrev pub IsGlobal : List TypeItem → GlobalItem → Phrase
IsGlobal types g =
    global g.name ⨾ mark marks.Equals ⨾ attributes ⨾ IsKeyword g.constant ⨾ IsScalar g.ty ⨾ IsInitial g.init ⨾ IsAligned types g.ty g.align ⨾ metadata

-- An item of a text with these types and in which these groups hold `presplitcoroutine`.
abbrev pub IsItem : List TypeItem → List (List ℕ) → Item → Phrase
IsItem types groups (type_item t) = IsTypeItem t
IsItem types groups (global_item g) = IsGlobal types g
IsItem types groups (declaration d) = IsDeclaration d
IsItem types groups (function f) = IsFunction types groups f
IsItem types groups (group g) = IsGroup g
IsItem types groups other = source_item ∥ target_item ∥ comdat_item ∥ metadata_item ∥ attributes_item

-- ---- what the items are together

abbrev pub types_of : List Item → List TypeItem
types_of [] = []
types_of (type_item t ∷ is) = t ∷ types_of is
types_of (_ ∷ is) = types_of is

abbrev pub globals_of : List Item → List GlobalItem
globals_of [] = []
globals_of (global_item g ∷ is) = g ∷ globals_of is
globals_of (_ ∷ is) = globals_of is

abbrev pub declarations_of : List Item → List Declaration
declarations_of [] = []
declarations_of (declaration d ∷ is) = d ∷ declarations_of is
declarations_of (_ ∷ is) = declarations_of is

abbrev pub functions_of : List Item → List Function
functions_of [] = []
functions_of (function f ∷ is) = f ∷ functions_of is
functions_of (_ ∷ is) = functions_of is

abbrev pub groups_of : List Item → List (List ℕ)
groups_of [] = []
groups_of (group g ∷ is) = g ∷ groups_of is
groups_of (_ ∷ is) = groups_of is

-- the kept parts, each kind in the order of the text
abbrev pub module_of : List Item → Module
module_of is = record { types = types_of is; globals = globals_of is; declarations = declarations_of is; functions = functions_of is }

-- The symbols begin with these items, which are in a text of their own types and groups.
abbrev pub AreItems : List Item → Phrase
AreItems is = each (IsItem (types_of is) (groups_of is)) is
