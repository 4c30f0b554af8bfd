-- Reading items.
use Rattle.std.specs.Prelude.{ℕ, ◌+◌, Bool, true, false, List, [], ◌∷◌, ◌++◌, Option, Some, None, if◌then◌else◌}
use Rattle.ir_base.specs.declared.name.Name.{Name}
use Rattle.text_lexer.specs.Lists.{all_at}
use Rattle.ir_model.specs.Ty.{Ty, int, ptr}
use Rattle.ir_model.specs.TypeView.{bits_of}
use Rattle.ir_model.specs.declared.module.Module.{Module}
use Rattle.ir_model.specs.declared.operand.Operand.{Operand}
use Rattle.ir_model.specs.declared.operand.Operand.TheVariants as operands
use Rattle.text_parser.specs.Functions.{declare_at, define_at}
use Rattle.text_blocks.specs.Instrs.{align_or}
use Rattle.text_parser.specs.declared.items.Draft.{Draft}
use Rattle.text_parser.specs.declared.items.Item.{Item}
use Rattle.text_parser.specs.declared.items.Item.TheVariants as items
use Rattle.text_parser.specs.declared.known.Known.{Known}
use Rattle.text_reader.specs.Attrs.{attrs_at, behind_attrs, behind_close}
use Rattle.text_reader.specs.Groups.{with_group}
use Rattle.text_reader.specs.Reading.{◌>>=◌, mark_at, behind_metadata}
use Rattle.text_reader.specs.Types.{type_at}
use Rattle.text_reader.specs.Values.{align_at, constant_at}
use Rattle.text_symbols.specs.declared.sym.Mark.TheVariants as marks
use Rattle.text_symbols.specs.declared.sym.Sym.{Sym}
use Rattle.text_symbols.specs.declared.sym.Sym.TheVariants as syms
use Rattle.text_symbols.specs.declared.word.Word.{Word}
use Rattle.text_symbols.specs.declared.word.Word.TheVariants as words

abbrev pub skipped : List Sym → Option (Item × List Sym)
skipped ts = Some (items.Skipped, ts)

-- `source_filename` '=' STRING
abbrev pub source_at : List Sym → Option (Item × List Sym)
source_at (syms.Mark marks.Equals ∷ syms.Str ∷ ts) = skipped ts
source_at _ = None

-- 'target' WORD '=' STRING
abbrev pub target_at : List Sym → Option (Item × List Sym)
target_at (syms.Word w ∷ syms.Mark marks.Equals ∷ syms.Str ∷ ts) = skipped ts
target_at _ = None

-- WORD '=' 'comdat' WORD
abbrev pub comdat_at : List Sym → Option (Item × List Sym)
comdat_at (syms.Mark marks.Equals ∷ syms.Word words.Comdat ∷ syms.Word w ∷ ts) = skipped ts
comdat_at _ = None

-- a group is kept where it makes coroutines
abbrev pub kept_group : Bool → List ℕ → Item
kept_group true g = items.Group g
kept_group false g = items.Skipped

-- 'attributes' GROUP '=' '{' attr* '}'; groups named in it add nothing
unfoldable pub attributes_at : List Sym → Option (Item × List Sym)
attributes_at (syms.Group g ∷ syms.Mark marks.Equals ∷ syms.Mark marks.OpenCurly ∷ ts) =
    mark_at marks.CloseCurly (attrs_at [] ts).1 >>= λ rest. Some (kept_group (attrs_at [] ts).0 g, rest)
attributes_at _ = None

-- LOCAL '=' 'type' struct, behind 'type'
unfoldable pub type_item_at : Option Name → List Sym → Option (Item × List Sym)
type_item_at n (syms.Mark marks.OpenCurly ∷ ts) = do
  name ← n
  t ← type_at (syms.Mark marks.OpenCurly ∷ ts)
  Some (items.Type (record { name = name; ty = t.0 }), t.1)
type_item_at n _ = None

-- 'global' or 'constant'
abbrev pub constant_word : List Sym → Option (Bool × List Sym)
constant_word (syms.Word words.Global ∷ ts) = Some (false, ts)
constant_word (syms.Word words.Constant ∷ ts) = Some (true, ts)
constant_word _ = None

abbrev pub scalar : Word → Option Ty
scalar (words.Int w) = Some (int (bits_of w))
scalar words.Ptr = Some ptr
scalar _ = None

-- the type of a global
abbrev pub scalar_at : List Sym → Option (Ty × List Sym)
scalar_at (syms.Word w ∷ ts) = scalar w >>= λ t. Some (t, ts)
scalar_at _ = None

abbrev pub is_init : Operand → Bool
is_init operands.None = false
is_init operands.Poison = false
is_init _ = true

-- an initial value
unfoldable pub init_at : List Sym → Option (Operand × List Sym)
init_at ts = constant_at ts >>= λ v. if is_init v.0 then Some v else None

-- GLOBAL '=' attr* ('global' | 'constant') gtype init [',' 'align' INT] md, behind '='
unfoldable pub global_item_at : Known → Option Name → List Sym → Option (Item × List Sym)
global_item_at known n ts = do
  name ← n
  c ← constant_word (behind_attrs ts)
  t ← scalar_at c.1
  v ← init_at t.1
  let a = align_at v.1
  Some (items.Global (record { name = name; constant = c.0; ty = t.0; init = v.0; align = align_or known.types t.0 a.0 }), behind_metadata a.1)

-- ['distinct']
abbrev pub behind_distinct : List Sym → List Sym
behind_distinct (syms.Word words.Distinct ∷ ts) = ts
behind_distinct ts = ts

-- META ('{' balanced '}' | '(' balanced ')')
abbrev pub node_at : List Sym → Option (List Sym)
node_at (syms.Meta ∷ syms.Mark marks.OpenCurly ∷ ts) = behind_close ts (marks.CloseCurly ∷ [])
node_at (syms.Meta ∷ syms.Mark marks.OpenRound ∷ ts) = behind_close ts (marks.CloseRound ∷ [])
node_at _ = None

-- META '=' ['distinct'] META ('{' balanced '}' | '(' balanced ')'), behind '='
unfoldable pub metadata_at : List Sym → Option (Item × List Sym)
metadata_at ts = node_at (behind_distinct ts) >>= skipped

-- behind 'declare'
abbrev pub declaration_at : List Sym → Option (Item × List Sym)
declaration_at ts = declare_at ts >>= λ d. Some (items.Declaration d.0, d.1)

-- behind 'define'
abbrev pub function_at : Known → List Sym → Option (Item × List Sym)
function_at known ts = define_at known ts >>= λ f. Some (items.Function f.0, f.1)

-- an item by its first word
abbrev pub worded_at : Known → Word → List Sym → Option (Item × List Sym)
worded_at known words.SourceFilename ts = source_at ts
worded_at known words.Target ts = target_at ts
worded_at known words.Dollar ts = comdat_at ts
worded_at known words.Attributes ts = attributes_at ts
worded_at known words.Declare ts = declaration_at ts
worded_at known words.Define ts = function_at known ts
worded_at known _ ts = None

unfoldable pub item_at : Known → List Sym → Option (Item × List Sym)
item_at known (syms.Word w ∷ ts) = worded_at known w ts
item_at known (syms.Local n ∷ syms.Mark marks.Equals ∷ syms.Word words.Type ∷ ts) = type_item_at n ts
item_at known (syms.Global n ∷ syms.Mark marks.Equals ∷ ts) = global_item_at known n ts
item_at known (syms.Meta ∷ syms.Mark marks.Equals ∷ ts) = metadata_at ts
item_at known _ = None

-- ---- items that were read

abbrev pub no_items : Draft
no_items = record { parts = record { types = []; globals = []; declarations = []; functions = [] }; groups = []; count = 0 }

-- one more kept item in its module
abbrev pub kept : Module → Item → Module
kept m (items.Type t) = record m { types = m.types ++ t ∷ [] }
kept m (items.Global g) = record m { globals = m.globals ++ g ∷ [] }
kept m (items.Declaration d) = record m { declarations = m.declarations ++ d ∷ [] }
kept m (items.Function f) = record m { functions = m.functions ++ f ∷ [] }
kept m _ = m

abbrev pub grouped : List (List ℕ) → Item → List (List ℕ)
grouped gs (items.Group g) = with_group gs g
grouped gs _ = gs

abbrev pub with_item : Draft → Item → Draft
with_item d i = record { parts = kept d.parts i; groups = grouped d.groups i; count = d.count + 1 }

abbrev pub gathered : Draft → List Item → Draft
gathered d [] = d
gathered d (i ∷ is) = gathered (with_item d i) is

-- all items, and what is left
unfoldable pub items_at : Known → List Sym → Draft × List Sym
items_at known ts = (gathered no_items (all_at (item_at known) ts).0, (all_at (item_at known) ts).1)
