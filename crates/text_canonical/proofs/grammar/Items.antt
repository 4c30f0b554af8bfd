-- Items as they are printed: all types, then all globals, declarations and functions.
use Rattle.std.proofs.Common.{◌≡◌, ℕ, List, [], ◌∷◌, ◌++◌, append_assoc, append-nil, refl, sym, ap, subst, ◌∙◌}
use Rattle.std.specs.Prelude.{Some, Bool, true, false}
use Rattle.ir_model.specs.Ty.{Ty, structure}
use Rattle.ir_model.specs.declared.module.Declaration.{Declaration}
use Rattle.ir_model.specs.declared.module.Function.{Function}
use Rattle.ir_model.specs.declared.module.GlobalItem.{GlobalItem}
use Rattle.ir_model.specs.declared.module.Module.{Module}
use Rattle.ir_model.specs.declared.module.TypeItem.{TypeItem}
use Rattle.text_symbols.specs.declared.sym.Sym.{Sym}
use Rattle.text_canonical.specs.canonical.ItemSymbols.{IsPrintable, declarations_symbols, functions_symbols, global_item_symbols, global_items_symbols, kind_of, module_symbols, type_item_symbols, type_items_symbols}
use Rattle.text_canonical.specs.canonical.TypeSymbols.{type_symbols}
use Rattle.text_canonical.specs.canonical.Written.{AreWritten}
use Rattle.text_grammar.specs.Attributes.{Attr, IsAttr, curly_text, round_text}
use Rattle.text_grammar.specs.Functions.{IsDeclaration, IsFunction}
use Rattle.text_grammar.specs.Items.{AreItems, IsAttributes, IsGlobal, IsGroup, IsItem, IsKeyword, IsTypeItem, Item, attributes_item, comdat_item, declaration, declarations_of, function, functions_of, global_item, globals_of, group, groups_of, metadata_item, module_of, other, source_item, target_item, type_item, types_of}
use Rattle.text_grammar.specs.Phrases.{Phrase, ◌⨾◌, ◌∥◌, each, mark, nothing, perhaps, these, word}
use Rattle.text_canonical.proofs.grammar.Again.{Again, AreSound, Leaves, leaves_nothing, leaves_or, leaves_seq, leaves_these, same, seq, these_again, written_both}
use Rattle.text_canonical.proofs.grammar.Attributes.{attributes_again, leaves_attrs, leaves_curly, leaves_round, metadata_again}
use Rattle.text_canonical.proofs.grammar.Functions.{declaration_again, function_again}
use Rattle.text_canonical.proofs.grammar.Names.{global_again, initial_again, mark_again, word_again}
use Rattle.text_canonical.proofs.grammar.Types.{AreNarrow, IsNarrow, aligned_again, scalar_again, scalar_narrow, type_again, type_narrow}
use Rattle.text_symbols.specs.declared.sym.Mark.TheVariants as marks
use Rattle.text_symbols.specs.declared.sym.Sym.TheVariants as syms
use Rattle.text_symbols.specs.declared.word.Word.TheVariants as words

-- ---- items that are kept

type_item_again : (t : TypeItem) (ts rest : List Sym) → IsTypeItem t ts rest → Again (IsTypeItem t) (type_item_symbols t) ts rest
type_item_again t ts rest d =
    let front = these_again (syms.Local (Some t.name) ∷ syms.Mark marks.Equals ∷ syms.Word words.Type ∷ []) ts d.2.0 d.2.1 (λ h. (h.0, (tt, (tt, tt)))) in
    let whole = seq front (type_again (structure d.0) d.2.0 rest d.2.2) in
    same (ap (λ (y : Ty). syms.Local (Some t.name) ∷ syms.Mark marks.Equals ∷ syms.Word words.Type ∷ type_symbols y) (sym d.1))
    (record { left = whole.left; written = whole.written; again = λ behind. (d.0, d.1, whole.again behind) })

type_item_narrow : (t : TypeItem) (ts rest : List Sym) → IsTypeItem t ts rest → IsNarrow t.ty
type_item_narrow t ts rest d = subst IsNarrow (sym d.1) (type_narrow (structure d.0) d.2.0 rest d.2.2)

keyword_again : (c : Bool) (ts rest : List Sym) → IsKeyword c ts rest → Again (IsKeyword c) (syms.Word (kind_of c) ∷ []) ts rest
keyword_again true ts rest d = word_again words.Constant ts rest d
keyword_again false ts rest d = word_again words.Global ts rest d

global_item_again : (types : List TypeItem) (g : GlobalItem) (ts rest : List Sym) → AreNarrow types → IsGlobal types g ts rest → Again (IsGlobal types g) (global_item_symbols g) ts rest
global_item_again types g ts rest h d =
    same (simp append-nil)
    (seq (global_again g.name ts d.0 d.1)
    (seq (mark_again marks.Equals d.0 d.2.0 d.2.1)
    (seq (attributes_again d.2.0 d.2.2.0 d.2.2.1)
    (seq (keyword_again g.constant d.2.2.0 d.2.2.2.0 d.2.2.2.1)
    (seq (scalar_again g.ty d.2.2.2.0 d.2.2.2.2.0 d.2.2.2.2.1)
    (seq (initial_again g.init d.2.2.2.2.0 d.2.2.2.2.2.0 d.2.2.2.2.2.1)
    (seq (aligned_again types g.ty g.align d.2.2.2.2.2.0 d.2.2.2.2.2.2.0 h (scalar_narrow g.ty d.2.2.2.0 d.2.2.2.2.0 d.2.2.2.2.1) d.2.2.2.2.2.2.1)
    (metadata_again d.2.2.2.2.2.2.0 rest d.2.2.2.2.2.2.2))))))))

-- ---- items that aren't

leaves_attributes_item : (g : List ℕ) (attrs : List Attr) → Leaves (IsAttributes g attrs)
leaves_attributes_item g attrs =
    leaves_seq (these (syms.Word words.Attributes ∷ syms.Group g ∷ syms.Mark marks.Equals ∷ syms.Mark marks.OpenCurly ∷ [])) (each IsAttr attrs ⨾ mark marks.CloseCurly)
    (leaves_these (syms.Word words.Attributes ∷ syms.Group g ∷ syms.Mark marks.Equals ∷ syms.Mark marks.OpenCurly ∷ []))
    (leaves_seq (each IsAttr attrs) (mark marks.CloseCurly) (leaves_attrs attrs) (leaves_these (syms.Mark marks.CloseCurly ∷ [])))

leaves_group : (g : List ℕ) → Leaves (IsGroup g)
leaves_group g ts rest d h = leaves_attributes_item g d.0 ts rest d.2 h

leaves_metadata : Leaves metadata_item
leaves_metadata =
    leaves_seq (these (syms.Meta ∷ syms.Mark marks.Equals ∷ [])) (perhaps (word words.Distinct) ⨾ these (syms.Meta ∷ []) ⨾ (curly_text ∥ round_text)) (leaves_these (syms.Meta ∷ syms.Mark marks.Equals ∷ []))
    (leaves_seq (perhaps (word words.Distinct)) (these (syms.Meta ∷ []) ⨾ (curly_text ∥ round_text)) (leaves_or (word words.Distinct) nothing (leaves_these (syms.Word words.Distinct ∷ [])) leaves_nothing)
    (leaves_seq (these (syms.Meta ∷ [])) (curly_text ∥ round_text) (leaves_these (syms.Meta ∷ [])) (leaves_or curly_text round_text leaves_curly leaves_round)))

leaves_target : Leaves target_item
leaves_target ts rest d h = leaves_these (syms.Word words.Target ∷ syms.Word d.0 ∷ syms.Mark marks.Equals ∷ syms.Str ∷ []) ts rest d.1 h

leaves_comdat : Leaves comdat_item
leaves_comdat ts rest d h = leaves_these (syms.Word words.Dollar ∷ syms.Mark marks.Equals ∷ syms.Word words.Comdat ∷ syms.Word d.0 ∷ []) ts rest d.1 h

leaves_attributes : Leaves attributes_item
leaves_attributes ts rest d h = leaves_attributes_item d.0 d.1 ts rest d.3 h

leaves_other : Leaves (source_item ∥ target_item ∥ comdat_item ∥ metadata_item ∥ attributes_item)
leaves_other =
    leaves_or source_item (target_item ∥ comdat_item ∥ metadata_item ∥ attributes_item) (leaves_these (syms.Word words.SourceFilename ∷ syms.Mark marks.Equals ∷ syms.Str ∷ []))
    (leaves_or target_item (comdat_item ∥ metadata_item ∥ attributes_item) leaves_target
    (leaves_or comdat_item (metadata_item ∥ attributes_item) leaves_comdat
    (leaves_or metadata_item attributes_item leaves_metadata leaves_attributes)))

-- ---- the kinds of items

record Printed (P : Phrase) (ss : List Sym) : Type 0 where
  written : AreWritten ss
  again : (behind : List Sym) → P (ss ++ behind) behind

none_printed : Printed nothing []
none_printed = record { written = tt; again = λ behind. refl }

more_printed : {P Q : Phrase} {xs ys ts rest : List Sym} → AreSound ts → Again P xs ts rest → Printed Q ys → Printed (P ⨾ Q) (xs ++ ys)
more_printed {P} {Q} {xs} {ys} sound a q = record {
  written = written_both xs ys (a.written sound) q.written;
  again = λ behind. (ys ++ behind, subst (λ (l : List Sym). P l (ys ++ behind)) (sym (append_assoc xs ys behind)) (a.again (ys ++ behind)), q.again behind);
}

-- the items of each kind, as they are printed
record Parts (types : List TypeItem) (is : List Item) : Type 0 where
  types_again : Printed (each IsTypeItem (types_of is)) (type_items_symbols (types_of is))
  globals_again : Printed (each (IsGlobal types) (globals_of is)) (global_items_symbols (globals_of is))
  declarations_again : Printed (each IsDeclaration (declarations_of is)) (declarations_symbols (declarations_of is))
  functions_again : Printed (each (IsFunction types []) (functions_of is)) (functions_symbols (functions_of is))

parts : (types : List TypeItem) (groups : List (List ℕ)) (is : List Item) (ts rest : List Sym) → AreNarrow types → each (IsItem types groups) is ts rest → AreSound ts → Parts types is
parts types groups [] ts rest h d s = record { types_again = none_printed; globals_again = none_printed; declarations_again = none_printed; functions_again = none_printed }
parts types groups (type_item t ∷ is) ts rest h d s =
    let a = type_item_again t ts d.0 d.1 in
    let p = parts types groups is d.0 rest h d.2 (a.left s) in
    record { types_again = more_printed s a p.types_again; globals_again = p.globals_again; declarations_again = p.declarations_again; functions_again = p.functions_again }
parts types groups (global_item g ∷ is) ts rest h d s =
    let a = global_item_again types g ts d.0 h d.1 in
    let p = parts types groups is d.0 rest h d.2 (a.left s) in
    record { types_again = p.types_again; globals_again = more_printed s a p.globals_again; declarations_again = p.declarations_again; functions_again = p.functions_again }
parts types groups (declaration x ∷ is) ts rest h d s =
    let a = declaration_again x ts d.0 d.1 in
    let p = parts types groups is d.0 rest h d.2 (a.left s) in
    record { types_again = p.types_again; globals_again = p.globals_again; declarations_again = more_printed s a p.declarations_again; functions_again = p.functions_again }
parts types groups (function f ∷ is) ts rest h d s =
    let a = function_again types groups [] f ts d.0 h d.1 in
    let p = parts types groups is d.0 rest h d.2 (a.left s) in
    record { types_again = p.types_again; globals_again = p.globals_again; declarations_again = p.declarations_again; functions_again = more_printed s a p.functions_again }
parts types groups (group g ∷ is) ts rest h d s =
    let p = parts types groups is d.0 rest h d.2 (leaves_group g ts d.0 d.1 s) in
    record { types_again = p.types_again; globals_again = p.globals_again; declarations_again = p.declarations_again; functions_again = p.functions_again }
parts types groups (other ∷ is) ts rest h d s =
    let p = parts types groups is d.0 rest h d.2 (leaves_other ts d.0 d.1 s) in
    record { types_again = p.types_again; globals_again = p.globals_again; declarations_again = p.declarations_again; functions_again = p.functions_again }

items_narrow : (types : List TypeItem) (groups : List (List ℕ)) (is : List Item) (ts rest : List Sym) → each (IsItem types groups) is ts rest → AreNarrow (types_of is)
items_narrow types groups [] ts rest d = tt
items_narrow types groups (type_item t ∷ is) ts rest d = (type_item_narrow t ts d.0 d.1, items_narrow types groups is d.0 rest d.2)
items_narrow types groups (global_item g ∷ is) ts rest d = items_narrow types groups is d.0 rest d.2
items_narrow types groups (declaration x ∷ is) ts rest d = items_narrow types groups is d.0 rest d.2
items_narrow types groups (function f ∷ is) ts rest d = items_narrow types groups is d.0 rest d.2
items_narrow types groups (group g ∷ is) ts rest d = items_narrow types groups is d.0 rest d.2
items_narrow types groups (other ∷ is) ts rest d = items_narrow types groups is d.0 rest d.2

-- ---- the items of the canonical text

abbrev with_types : List TypeItem → List Item → List Item
with_types [] is = is
with_types (t ∷ ts) is = type_item t ∷ with_types ts is

abbrev with_globals : List GlobalItem → List Item → List Item
with_globals [] is = is
with_globals (g ∷ gs) is = global_item g ∷ with_globals gs is

abbrev with_declarations : List Declaration → List Item → List Item
with_declarations [] is = is
with_declarations (d ∷ ds) is = declaration d ∷ with_declarations ds is

abbrev with_functions : List Function → List Item
with_functions [] = []
with_functions (f ∷ fs) = function f ∷ with_functions fs

abbrev pub items_of : Module → List Item
items_of m = with_types m.types (with_globals m.globals (with_declarations m.declarations (with_functions m.functions)))

types_kept : (ts : List TypeItem) (is : List Item) → module_of (with_types ts is) ≡ record (module_of is) { types = ts ++ types_of is }
types_kept [] is = refl
types_kept (t ∷ ts) is = ap (λ (m : Module). record m { types = t ∷ m.types }) (types_kept ts is)

globals_kept : (gs : List GlobalItem) (is : List Item) → module_of (with_globals gs is) ≡ record (module_of is) { globals = gs ++ globals_of is }
globals_kept [] is = refl
globals_kept (g ∷ gs) is = ap (λ (m : Module). record m { globals = g ∷ m.globals }) (globals_kept gs is)

declarations_kept : (ds : List Declaration) (is : List Item) → module_of (with_declarations ds is) ≡ record (module_of is) { declarations = ds ++ declarations_of is }
declarations_kept [] is = refl
declarations_kept (d ∷ ds) is = ap (λ (m : Module). record m { declarations = d ∷ m.declarations }) (declarations_kept ds is)

functions_kept : (fs : List Function) → module_of (with_functions fs) ≡ record { types = []; globals = []; declarations = []; functions = fs }
functions_kept [] = refl
functions_kept (f ∷ fs) = ap (λ (m : Module). record m { functions = f ∷ m.functions }) (functions_kept fs)

groups_types : (ts : List TypeItem) (is : List Item) → groups_of (with_types ts is) ≡ groups_of is
groups_types [] is = refl
groups_types (t ∷ ts) is = groups_types ts is

groups_globals : (gs : List GlobalItem) (is : List Item) → groups_of (with_globals gs is) ≡ groups_of is
groups_globals [] is = refl
groups_globals (g ∷ gs) is = groups_globals gs is

groups_declarations : (ds : List Declaration) (is : List Item) → groups_of (with_declarations ds is) ≡ groups_of is
groups_declarations [] is = refl
groups_declarations (d ∷ ds) is = groups_declarations ds is

groups_functions : (fs : List Function) → groups_of (with_functions fs) ≡ []
groups_functions [] = refl
groups_functions (f ∷ fs) = groups_functions fs

no_groups : (m : Module) → groups_of (items_of m) ≡ []
no_groups m =
    groups_types m.types (with_globals m.globals (with_declarations m.declarations (with_functions m.functions)))
    ∙ groups_globals m.globals (with_declarations m.declarations (with_functions m.functions))
    ∙ groups_declarations m.declarations (with_functions m.functions)
    ∙ groups_functions m.functions

abbrev as_module : List TypeItem → List GlobalItem → List Declaration → List Function → Module
as_module ts gs ds fs = record { types = ts; globals = gs; declarations = ds; functions = fs }

-- they are the module again
pub items_kept : (m : Module) → module_of (items_of m) ≡ m
items_kept m =
    types_kept m.types (with_globals m.globals (with_declarations m.declarations (with_functions m.functions)))
    ∙ ap (λ (n : Module). record n { types = m.types ++ n.types }) (globals_kept m.globals (with_declarations m.declarations (with_functions m.functions)))
    ∙ ap (λ (n : Module). as_module (m.types ++ n.types) (m.globals ++ n.globals) n.declarations n.functions) (declarations_kept m.declarations (with_functions m.functions))
    ∙ ap (λ (n : Module). as_module (m.types ++ n.types) (m.globals ++ n.globals) (m.declarations ++ n.declarations) n.functions) (functions_kept m.functions)
    ∙ ap (λ (l : List TypeItem). as_module l (m.globals ++ []) (m.declarations ++ []) m.functions) (append-nil m.types)
    ∙ ap (λ (l : List GlobalItem). as_module m.types l (m.declarations ++ []) m.functions) (append-nil m.globals)
    ∙ ap (λ (l : List Declaration). as_module m.types m.globals l m.functions) (append-nil m.declarations)

each_types : (types : List TypeItem) (groups : List (List ℕ)) (ts : List TypeItem) (is : List Item) (us vs rest : List Sym) → each IsTypeItem ts us vs → each (IsItem types groups) is vs rest → each (IsItem types groups) (with_types ts is) us rest
each_types types groups [] is us vs rest d e = subst (λ (l : List Sym). each (IsItem types groups) is l rest) (sym d) e
each_types types groups (t ∷ ts) is us vs rest d e = (d.0, d.1, each_types types groups ts is d.0 vs rest d.2 e)

each_globals : (types : List TypeItem) (groups : List (List ℕ)) (gs : List GlobalItem) (is : List Item) (us vs rest : List Sym) → each (IsGlobal types) gs us vs → each (IsItem types groups) is vs rest → each (IsItem types groups) (with_globals gs is) us rest
each_globals types groups [] is us vs rest d e = subst (λ (l : List Sym). each (IsItem types groups) is l rest) (sym d) e
each_globals types groups (g ∷ gs) is us vs rest d e = (d.0, d.1, each_globals types groups gs is d.0 vs rest d.2 e)

each_declarations : (types : List TypeItem) (groups : List (List ℕ)) (ds : List Declaration) (is : List Item) (us vs rest : List Sym) → each IsDeclaration ds us vs → each (IsItem types groups) is vs rest → each (IsItem types groups) (with_declarations ds is) us rest
each_declarations types groups [] is us vs rest d e = subst (λ (l : List Sym). each (IsItem types groups) is l rest) (sym d) e
each_declarations types groups (x ∷ ds) is us vs rest d e = (d.0, d.1, each_declarations types groups ds is d.0 vs rest d.2 e)

each_functions : (types : List TypeItem) (groups : List (List ℕ)) (fs : List Function) (us rest : List Sym) → each (IsFunction types groups) fs us rest → each (IsItem types groups) (with_functions fs) us rest
each_functions types groups [] us rest d = d
each_functions types groups (f ∷ fs) us rest d = (d.0, d.1, each_functions types groups fs d.0 rest d.2)

-- ---- the canonical text's symbols are these items

pub record IsPrinted (m : Module) : Type 0 where
  pub printable : IsPrintable m
  pub are : AreItems (items_of m) (module_symbols m) []

type_parts : (m : Module) → types_of (items_of m) ≡ m.types
type_parts m = ap (λ (n : Module). n.types) (items_kept m)

-- symbols that stand for the parts of a module, each kind as its items
pub items_are : (m : Module) (a b c e : List Sym) → ((behind : List Sym) → each IsTypeItem m.types (a ++ behind) behind) → ((behind : List Sym) → each (IsGlobal m.types) m.globals (b ++ behind) behind)
    → ((behind : List Sym) → each IsDeclaration m.declarations (c ++ behind) behind) → ((behind : List Sym) → each (IsFunction m.types []) m.functions (e ++ behind) behind) → AreItems (items_of m) (a ++ b ++ c ++ e) []
items_are m a b c e ts gs ds fs =
    let functions : each (IsItem m.types []) (with_functions m.functions) (e ++ []) [] = each_functions m.types [] m.functions (e ++ []) [] (fs []) in
    let declared : each (IsItem m.types []) (with_declarations m.declarations (with_functions m.functions)) (c ++ (e ++ [])) [] =
    each_declarations m.types [] m.declarations (with_functions m.functions) (c ++ (e ++ [])) (e ++ []) [] (ds (e ++ [])) functions in
    let global : each (IsItem m.types []) (with_globals m.globals (with_declarations m.declarations (with_functions m.functions))) (b ++ (c ++ (e ++ []))) [] =
    each_globals m.types [] m.globals (with_declarations m.declarations (with_functions m.functions)) (b ++ (c ++ (e ++ []))) (c ++ (e ++ [])) [] (gs (c ++ (e ++ []))) declared in
    let all : each (IsItem m.types []) (items_of m) (a ++ (b ++ (c ++ (e ++ [])))) [] =
    each_types m.types [] m.types (with_globals m.globals (with_declarations m.declarations (with_functions m.functions))) (a ++ (b ++ (c ++ (e ++ [])))) (b ++ (c ++ (e ++ []))) [] (ts (b ++ (c ++ (e ++ [])))) global in
    let together : a ++ (b ++ (c ++ (e ++ []))) ≡ a ++ b ++ c ++ e = simp (append_assoc, append-nil) in
    let shown : each (IsItem m.types []) (items_of m) (a ++ b ++ c ++ e) [] = subst (λ (l : List Sym). each (IsItem m.types []) (items_of m) l []) together all in
    let grouped : each (IsItem m.types (groups_of (items_of m))) (items_of m) (a ++ b ++ c ++ e) [] = subst (λ (g : List (List ℕ)). each (IsItem m.types g) (items_of m) (a ++ b ++ c ++ e) []) (sym (no_groups m)) shown in
    subst (λ (l : List TypeItem). each (IsItem l (groups_of (items_of m))) (items_of m) (a ++ b ++ c ++ e) []) (sym (type_parts m)) grouped

all_printed : (m : Module) → Printed (each IsTypeItem m.types) (type_items_symbols m.types) → Printed (each (IsGlobal m.types) m.globals) (global_items_symbols m.globals)
    → Printed (each IsDeclaration m.declarations) (declarations_symbols m.declarations) → Printed (each (IsFunction m.types []) m.functions) (functions_symbols m.functions) → IsPrinted m
all_printed m ts gs ds fs =
    let a = type_items_symbols m.types in
    let b = global_items_symbols m.globals in
    let c = declarations_symbols m.declarations in
    let e = functions_symbols m.functions in
    record {
      printable = written_both (a ++ b ++ c) e (written_both (a ++ b) c (written_both a b ts.written gs.written) ds.written) fs.written;
      are = items_are m a b c e ts.again gs.again ds.again fs.again;
    }

-- What some items stand for is printed as items that stand for it.
pub printed_items : (is : List Item) (ts : List Sym) → AreItems is ts [] → AreSound ts → IsPrinted (module_of is)
printed_items is ts d s =
    let narrow = items_narrow (types_of is) (groups_of is) is ts [] d in
    let p = parts (types_of is) (groups_of is) is ts [] narrow d s in
    all_printed (module_of is) p.types_again p.globals_again p.declarations_again p.functions_again
