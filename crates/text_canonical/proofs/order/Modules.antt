-- Functions and modules with their names in order.
use Rattle.std.proofs.Common.{◌≡◌, ℕ, true, false, List, [], ◌∷◌, ◌++◌, append_assoc, append-nil, Option, None, refl, sym, ap, subst, ◌∙◌}
use Rattle.std.specs.Prelude.{Some, Bool, map, slice_get}
use Rattle.ir_base.specs.declared.name.Name.{Name}
use Rattle.ir_model.specs.Ty.{Ty, structure}
use Rattle.ir_model.specs.declared.module.Declaration.{Declaration}
use Rattle.ir_model.specs.declared.module.Function.{Function}
use Rattle.ir_model.specs.declared.module.GlobalItem.{GlobalItem}
use Rattle.ir_model.specs.declared.module.Module.{Module}
use Rattle.ir_model.specs.declared.module.Param.{Param}
use Rattle.ir_model.specs.declared.module.TypeItem.{TypeItem}
use Rattle.ir_model.specs.declared.operand.Operand.{Operand}
use Rattle.text_symbols.specs.declared.listing.Symbols.{Symbols}
use Rattle.text_symbols.specs.declared.sym.Sym.{Sym}
use Rattle.text_canonical.specs.canonical.BlockSymbols.{blocks_symbols}
use Rattle.text_canonical.specs.canonical.InstrSymbols.{flag_symbols}
use Rattle.text_canonical.specs.canonical.Items.{module_text}
use Rattle.text_canonical.specs.canonical.ItemSymbols.{IsPrintable, declaration_symbols, declarations_symbols, function_symbols, functions_symbols, global_item_symbols, global_items_symbols, head_symbols, kind_of, module_symbols, more_params_symbols, more_types_symbols, param_symbols, params_symbols, type_item_symbols, type_items_symbols, types_symbols}
use Rattle.text_canonical.specs.canonical.OperandSymbols.{operand_symbol, result_symbols}
use Rattle.text_canonical.specs.canonical.TypeSymbols.{type_symbols}
use Rattle.text_canonical.proofs.canonical.ItemsLexed.{module_lexed}
use Rattle.text_grammar.specs.Attributes.{IsAttr, attributes, metadata, pairs}
use Rattle.text_grammar.specs.Functions.{AreNamed, IsDeclaration, IsFunction, IsHead, IsParam, Written, counted}
use Rattle.text_grammar.specs.Items.{AreItems, IsGlobal, IsKeyword, IsTypeItem}
use Rattle.text_grammar.specs.Phrases.{◌⨾◌, commas, each, mark, word}
use Rattle.text_grammar.specs.Text.{StandsFor}
use Rattle.text_grammar.specs.Values.{IsInitial}
use Rattle.text_canonical.specs.order.Order.{function_order, module_order, param_order}
use Rattle.text_canonical.specs.order.Places.{each_order, placed_if}
use Rattle.text_canonical.proofs.order.Bodies.{blocks_ordered}
use Rattle.text_canonical.proofs.order.Holds.{Holds, holds_each, holds_mark, holds_nothing, holds_same, holds_seq, holds_these, holds_word, placed_is}
use Rattle.text_canonical.proofs.order.Parts.{aligned_holds, attributes_hold, integer_holds, result_holds, scalar_holds, type_holds}
use Rattle.text_canonical.proofs.grammar.Functions.{coroutine_again, next_param, printed_attrs, types_again, unnamed, written_of}
use Rattle.text_canonical.proofs.grammar.Items.{items_are, items_kept, items_of}
use Rattle.ir_model.specs.declared.operand.Operand.TheVariants as operands
use Rattle.text_symbols.specs.declared.sym.Mark.TheVariants as marks
use Rattle.text_symbols.specs.declared.sym.Sym.TheVariants as syms
use Rattle.text_symbols.specs.declared.word.Word.TheVariants as words
use Rattle.text_canonical.specs.order.Shape as shape

-- ---- declarations

unnamed_holds : (t : Ty) → shape.IsType t → Holds (IsParam (t, None)) (type_symbols t)
unnamed_holds t h = holds_same (append-nil (type_symbols t)) (holds_seq (type_holds t h) (holds_seq attributes_hold holds_nothing))

more_unnamed : (ts : List Ty) → shape.Each shape.IsType ts → Holds (each next_param (unnamed ts)) (more_types_symbols ts)
more_unnamed [] h = holds_nothing
more_unnamed (t ∷ ts) h = holds_seq (holds_seq (holds_mark marks.Comma) (unnamed_holds t h.0)) (more_unnamed ts h.1)

all_unnamed : (ts : List Ty) → shape.Each shape.IsType ts → Holds (commas IsParam (unnamed ts)) (types_symbols ts)
all_unnamed [] h = holds_nothing
all_unnamed (t ∷ ts) h = holds_seq (unnamed_holds t h.0) (more_unnamed ts h.1)

head_holds : (result : Option Ty) (name : Name) (ps : List Written) (xs : List Sym) → shape.IsResult result → Holds (commas IsParam ps) xs
    → Holds (IsHead result name ps) (result_symbols result ++ (syms.Global (Some name) ∷ syms.Mark marks.OpenRound ∷ (xs ++ syms.Mark marks.CloseRound ∷ [])))
head_holds result name ps xs h a =
    holds_seq attributes_hold (holds_seq (result_holds result h) (holds_seq (holds_these (syms.Global (Some name) ∷ [])) (holds_seq (holds_mark marks.OpenRound) (holds_seq a (holds_mark marks.CloseRound)))))

declared : (d : Declaration) (xs : List Sym) → Holds (word words.Declare ⨾ IsHead d.result d.name (unnamed d.params) ⨾ attributes) xs → xs ≡ declaration_symbols d → Holds (IsDeclaration d) (declaration_symbols d)
declared d xs a e = holds_same e (record { at = λ more. (unnamed d.params, types_again d.params, a.at more) })

declaration_holds : (d : Declaration) → shape.IsDeclaration d → Holds (IsDeclaration d) (declaration_symbols d)
declaration_holds d h =
    declared d _ (holds_seq (holds_word words.Declare) (holds_seq (head_holds d.result d.name (unnamed d.params) (types_symbols d.params) h.0 (all_unnamed d.params h.1)) attributes_hold)) (simp (append_assoc, append-nil))

-- ---- functions

param_holds : (names : List Name) (p : Param) → shape.IsParam names p → Holds (IsParam (p.ty, slice_get names p.name)) (param_symbols names p)
param_holds names p h =
    subst (λ (o : Option Name). Holds (IsParam (p.ty, o)) (type_symbols p.ty ++ syms.Local o ∷ [])) (sym h.1.1)
    (holds_seq (type_holds p.ty h.0) (holds_seq attributes_hold (holds_these (syms.Local (Some h.1.0) ∷ []))))

more_params_hold : (names : List Name) (ps : List Param) → shape.Each (shape.IsParam names) ps → Holds (each next_param (written_of names ps)) (more_params_symbols names ps)
more_params_hold names [] h = holds_nothing
more_params_hold names (p ∷ ps) h = holds_seq (holds_seq (holds_mark marks.Comma) (param_holds names p h.0)) (more_params_hold names ps h.1)

params_hold : (names : List Name) (ps : List Param) → shape.Each (shape.IsParam names) ps → Holds (commas IsParam (written_of names ps)) (params_symbols names ps)
params_hold names [] h = holds_nothing
params_hold names (p ∷ ps) h = holds_seq (param_holds names p h.0) (more_params_hold names ps h.1)

-- how many of the parameters have a number, with those before
abbrev counted_if : Option Name → ℕ → ℕ
counted_if None k = k
counted_if (Some n) k = counted n k

abbrev numbers_of : List Name → List Param → ℕ → ℕ
numbers_of names [] k = k
numbers_of names (p ∷ ps) k = numbers_of names ps (counted_if (slice_get names p.name) k)

abbrev NamedHead : Ty → ℕ → List Name → Option Name → ℕ → List Written → List Param → ℕ → List Name → Type 0
NamedHead t i ns o k ws qs k_end ns_end = AreNamed ws qs (counted_if o k) (placed_if o i ns).1 k_end ns_end → AreNamed ((t, o) ∷ ws) (record { ty = t; name = (placed_if o i ns).0 } ∷ qs) k ns k_end ns_end

named_head : (t : Ty) (i : ℕ) (ns : List Name) (o : Option Name) (n : Name) (k : ℕ) (ws : List Written) (qs : List Param) (k_end : ℕ) (ns_end : List Name) → o ≡ Some n → NamedHead t i ns o k ws qs k_end ns_end
named_head t i ns o n k ws qs k_end ns_end e = subst (λ (x : Option Name). NamedHead t i ns x k ws qs k_end ns_end) (sym e) (λ rest. (n, (placed_if (Some n) i ns).1, refl, refl, placed_is n ns, rest))

params_named : (names : List Name) (ps : List Param) (k : ℕ) (ns : List Name) → shape.Each (shape.IsParam names) ps
    → AreNamed (written_of names ps) (each_order (param_order names) ps ns).0 k ns (numbers_of names ps k) (each_order (param_order names) ps ns).1
params_named names [] k ns h = (refl, refl)
params_named names (p ∷ ps) k ns h =
    named_head p.ty p.name ns (slice_get names p.name) h.0.1.0 k (written_of names ps) (each_order (param_order names) ps (param_order names p ns).1).0
    (numbers_of names ps (counted_if (slice_get names p.name) k)) (each_order (param_order names) ps (param_order names p ns).1).1 h.0.1.1
    (params_named names ps (counted_if (slice_get names p.name) k) (param_order names p ns).1 h.1)

attrs_hold : (c : Bool) → Holds (each IsAttr (printed_attrs c)) (flag_symbols c words.Presplitcoroutine)
attrs_hold true = record { at = λ more. (more, refl, refl) }
attrs_hold false = holds_nothing

head_is : (f : Function) → shape.IsFunction f → Holds (word words.Define ⨾ IsHead f.result f.name (written_of f.names f.params) ⨾ each IsAttr (printed_attrs f.coroutine) ⨾ pairs ⨾ mark marks.OpenCurly) (head_symbols f)
head_is f h =
    holds_same (simp append_assoc)
    (holds_seq (holds_word words.Define)
    (holds_seq (head_holds f.result f.name (written_of f.names f.params) (params_symbols f.names f.params) h.0 (params_hold f.names f.params h.1))
    (holds_seq (attrs_hold f.coroutine) (holds_seq no_pairs (holds_mark marks.OpenCurly)))))
  where
    no_pairs : Holds pairs []
    no_pairs = record { at = λ more. ([], refl) }

function_holds : (types : List TypeItem) (f : Function) → shape.IsFunction f → Holds (IsFunction types [] (function_order f)) (function_symbols f)
function_holds types f h =
    let params : List Param × List Name = each_order (param_order f.names) f.params [] in
    let head = head_is f h in
    let blocks = blocks_ordered f.names types (numbers_of f.names f.params 0) f.blocks params.1 h.2 in
    record {
      at = λ more. record {
        written = written_of f.names f.params;
        attrs = printed_attrs f.coroutine;
        body = blocks_symbols f.names f.blocks ++ syms.Mark marks.CloseCurly ∷ more;
        head = subst (λ (l : List Sym). (word words.Define ⨾ IsHead f.result f.name (written_of f.names f.params) ⨾ each IsAttr (printed_attrs f.coroutine) ⨾ pairs ⨾ mark marks.OpenCurly) l (blocks_symbols f.names f.blocks ++ syms.Mark marks.CloseCurly ∷ more))
            (sym (append_assoc (head_symbols f ++ blocks_symbols f.names f.blocks) (syms.Mark marks.CloseCurly ∷ []) more ∙ append_assoc (head_symbols f) (blocks_symbols f.names f.blocks) (syms.Mark marks.CloseCurly ∷ more)))
            (head.at (blocks_symbols f.names f.blocks ++ syms.Mark marks.CloseCurly ∷ more));
        coroutine = coroutine_again [] f.coroutine;
        names = params.1;
        numbers = numbers_of f.names f.params 0;
        params = params_named f.names f.params 0 [] h.1;
        blocks = blocks.at (syms.Mark marks.CloseCurly ∷ more);
      };
    }

functions_hold : (types : List TypeItem) (fs : List Function) → shape.Each shape.IsFunction fs → Holds (each (IsFunction types []) (map function_order fs)) (functions_symbols fs)
functions_hold types [] h = holds_nothing
functions_hold types (f ∷ fs) h = holds_seq (function_holds types f h.0) (functions_hold types fs h.1)

-- ---- the other items

type_item_holds : (t : TypeItem) → shape.IsTypeItem t → Holds (IsTypeItem t) (type_item_symbols t)
type_item_holds t h =
    let whole = holds_seq (holds_these (syms.Local (Some t.name) ∷ syms.Mark marks.Equals ∷ syms.Word words.Type ∷ [])) (type_holds (structure h.0) h.2) in
    holds_same (ap (λ (y : Ty). syms.Local (Some t.name) ∷ syms.Mark marks.Equals ∷ syms.Word words.Type ∷ type_symbols y) (sym h.1)) (record { at = λ more. (h.0, h.1, whole.at more) })

keyword_holds : (c : Bool) → Holds (IsKeyword c) (syms.Word (kind_of c) ∷ [])
keyword_holds true = holds_word words.Constant
keyword_holds false = holds_word words.Global

initial_holds : (x : Operand) → shape.IsInitial x → Holds (IsInitial x) (operand_symbol [] x ∷ [])
initial_holds (operands.Local i) h = absurd h
initial_holds (operands.Global n) h = holds_these (syms.Global (Some n) ∷ [])
initial_holds (operands.Number z) h = integer_holds z
initial_holds operands.True h = holds_word words.True
initial_holds operands.False h = holds_word words.False
initial_holds operands.Null h = holds_word words.Null
initial_holds operands.None h = absurd h
initial_holds operands.Poison h = absurd h

global_holds : (types : List TypeItem) (g : GlobalItem) → shape.IsGlobal g → Holds (IsGlobal types g) (global_item_symbols g)
global_holds types g h =
    holds_same (simp append-nil)
    (holds_seq (holds_these (syms.Global (Some g.name) ∷ [])) (holds_seq (holds_mark marks.Equals) (holds_seq attributes_hold (holds_seq (keyword_holds g.constant) (holds_seq (scalar_holds g.ty h.0)
    (holds_seq (initial_holds g.init h.1) (holds_seq (aligned_holds types g.ty g.align) no_metadata)))))))
  where
    no_metadata : Holds metadata []
    no_metadata = record { at = λ more. ([], refl) }

-- ---- the whole module

items_ordered : (m : Module) → shape.IsShaped m → AreItems (items_of (module_order m)) (module_symbols m) []
items_ordered m h =
    items_are (module_order m) (type_items_symbols m.types) (global_items_symbols m.globals) (declarations_symbols m.declarations) (functions_symbols m.functions)
    (holds_each IsTypeItem type_item_symbols type_items_symbols shape.IsTypeItem refl (λ t ts. refl) type_item_holds m.types h.types).at
    (holds_each (IsGlobal m.types) global_item_symbols global_items_symbols shape.IsGlobal refl (λ g gs. refl) (global_holds m.types) m.globals h.globals).at
    (holds_each IsDeclaration declaration_symbols declarations_symbols shape.IsDeclaration refl (λ d ds. refl) declaration_holds m.declarations h.declarations).at
    (functions_hold m.types m.functions h.functions).at

-- The canonical text of a module that has the shape stands for the module with its names in order.
pub stands_in_order : (m : Module) → shape.IsShaped m → IsPrintable m → StandsFor (module_text m) (module_order m)
stands_in_order m h p =
    let lexed = module_lexed m p in
    record {
      whole = ap (λ (s : Symbols). s.whole) lexed;
      items = items_of (module_order m);
      are = subst (λ (l : List Sym). AreItems (items_of (module_order m)) l []) (sym (ap (λ (s : Symbols). s.symbols) lexed)) (items_ordered m h);
      kept = sym (items_kept (module_order m));
    }
