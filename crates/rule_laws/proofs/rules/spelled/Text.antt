-- The functions of a module that a text of bytes stands for can be written.
use Rattle.std.proofs.Common.{◌≡◌, ℕ, zero, suc, List, [], ◌∷◌, ◌++◌, subst}
use Rattle.std.specs.Prelude.{Option, None, Some, option_to_list, slice_get}
use Rattle.text_canonical.specs.canonical.BlockSymbols.{blocks_symbols}
use Rattle.text_canonical.specs.canonical.InstrSymbols.{flag_symbols}
use Rattle.text_canonical.specs.canonical.ItemSymbols.{IsPrintable, declarations_symbols, function_symbols, functions_symbols, global_items_symbols, head_symbols, more_params_symbols, param_symbols, params_symbols, type_items_symbols}
use Rattle.text_canonical.specs.canonical.Marks.{close_curly, close_round, open_curly, open_round, word}
use Rattle.text_canonical.specs.canonical.OperandSymbols.{global_symbol, local_symbol, result_symbols}
use Rattle.text_canonical.specs.canonical.TypeSymbols.{type_symbols}
use Rattle.text_canonical.specs.canonical.Written.{AreWritten}
use Rattle.ir_laws.specs.ir_base.declared.name.Name.{Name}
use Rattle.ir_laws.specs.text_names.Spelling.{IsName}
use Rattle.rule_laws.proofs.rules.source_rules.Shaped.{function_shaped}
use Rattle.text_grammar.specs.Items.{IsItem, Item, declaration, function, functions_of, global_item, group, groups_of, other, type_item, types_of}
use Rattle.text_grammar.specs.Phrases.{each}
use Rattle.text_grammar.specs.Text.{StandsFor}
use Rattle.ir_laws.specs.ir_model.Ty.{Ty}
use Rattle.ir_laws.specs.ir_model.declared.module.Function.{Function}
use Rattle.ir_laws.specs.ir_model.declared.module.Module.{Module}
use Rattle.ir_laws.specs.ir_model.declared.module.Param.{Param}
use Rattle.ir_laws.specs.ir_model.declared.module.TypeItem.{TypeItem}
use Rattle.text_symbols.specs.Listing.{symbols_of}
use Rattle.text_symbols.specs.declared.sym.Sym.{Sym}
use Rattle.rule_laws.proofs.rules.spelled.Symbols.{blocks_spelled, written_first, written_rest}
use Rattle.rule_laws.proofs.texts.widths.Kept.{Keeps}
use Rattle.rule_laws.proofs.texts.widths.Said.{kept_item, names_said}
use Rattle.rule_laws.specs.texts.spelled.Spelled.{IsSpelled}
use Rattle.rule_laws.specs.rules.spelled.Spelled.{IsSpelledFunction}
use Rattle.text_canonical.proofs.order.Shaped.{text_is_shaped}
use Rattle.text_canonical.proofs.grammar.Again.{AreSound, IsSound}
use Rattle.text_canonical.proofs.grammar.Sound.{text_symbols_sound}
use Rattle.text_canonical.proofs.grammar.Whole.{is_printable}
use Rattle.text_canonical.specs.grammar.Bytes.{AreBytes}
use Rattle.ir_laws.specs.run_laws.changed.Changed.{Each}
use Rattle.rule_laws.proofs.texts.widths.Written.{some_blocks}
use Rattle.text_symbols.specs.declared.word.Word.TheVariants as words
use Rattle.text_canonical.specs.order.Shape as shape

-- ---- names

each_sound : (ss : List Sym) → AreSound ss → shape.Each IsSound ss
each_sound [] h = tt
each_sound (s ∷ ss) h = (h.0, each_sound ss h.1)

kept_sound : (types : List TypeItem) (groups : List (List ℕ)) (i : Item) → Keeps IsSound (IsItem types groups i)
kept_sound = kept_item IsSound IsName (λ n g. g) (λ n g. g) (λ k l. l)

functions_named : (types : List TypeItem) (groups : List (List ℕ)) (is : List Item) (ts rest : List Sym) → each (IsItem types groups) is ts rest → shape.Each IsSound ts → (k : ℕ) (f : Function) → slice_get (functions_of is) k ≡ Some f → shape.Each IsName f.names
functions_named types groups [] ts rest h g k f there = absurd (cc)
functions_named types groups (function x ∷ is) ts rest h g zero f there =
    let same : x ≡ f = cc in
    subst (λ (y : Function). shape.Each IsName y.names) same (names_said IsSound IsName (λ n g. g) (λ n g. g) (λ k l. l) types groups x ts h.0 h.1 g)
functions_named types groups (function x ∷ is) ts rest h g (suc k) f there = functions_named types groups is h.0 rest h.2 ((kept_sound types groups (function x)).at ts h.0 h.1 g) k f there
functions_named types groups (type_item x ∷ is) ts rest h g k f there = functions_named types groups is h.0 rest h.2 ((kept_sound types groups (type_item x)).at ts h.0 h.1 g) k f there
functions_named types groups (global_item x ∷ is) ts rest h g k f there = functions_named types groups is h.0 rest h.2 ((kept_sound types groups (global_item x)).at ts h.0 h.1 g) k f there
functions_named types groups (declaration x ∷ is) ts rest h g k f there = functions_named types groups is h.0 rest h.2 ((kept_sound types groups (declaration x)).at ts h.0 h.1 g) k f there
functions_named types groups (group x ∷ is) ts rest h g k f there = functions_named types groups is h.0 rest h.2 ((kept_sound types groups (group x)).at ts h.0 h.1 g) k f there
functions_named types groups (other ∷ is) ts rest h g k f there = functions_named types groups is h.0 rest h.2 ((kept_sound types groups other).at ts h.0 h.1 g) k f there

names_each : (names : List Name) → shape.Each IsName names → Each IsName names
names_each [] h = tt
names_each (n ∷ names) h = (h.0, names_each names h.1)

text_names : (text : List ℕ) (m : Module) → AreBytes text → StandsFor text m → (k : ℕ) (f : Function) → slice_get m.functions k ≡ Some f → Each IsName f.names
text_names text m bytes stands k f there =
    names_each f.names
    (functions_named (types_of stands.items) (groups_of stands.items) stands.items (symbols_of text).symbols [] stands.are (each_sound (symbols_of text).symbols (text_symbols_sound text bytes)) k f
    (subst (λ (x : Module). slice_get x.functions k ≡ Some f) stands.kept there))

-- ---- functions

function_at : (fs : List Function) (k : ℕ) (f : Function) → slice_get fs k ≡ Some f → AreWritten (functions_symbols fs) → AreWritten (function_symbols f)
function_at [] k f there w = absurd (cc)
function_at (x ∷ fs) zero f there w = let same : x ≡ f = cc in subst (λ (y : Function). AreWritten (function_symbols y)) same (written_first (function_symbols x) (functions_symbols fs) w)
function_at (x ∷ fs) (suc k) f there w = function_at fs k f there (written_rest (function_symbols x) (functions_symbols fs) w)

more_params_spelled : (names : List Name) (ps : List Param) → shape.Each (shape.IsParam names) ps → AreWritten (more_params_symbols names ps) → Each (λ p. IsSpelled p.ty) ps
more_params_spelled names [] h w = tt
more_params_spelled names (p ∷ ps) h w =
    let own : AreWritten (param_symbols names p) = written_first (param_symbols names p) (more_params_symbols names ps) w.1 in
    ((h.0.0, written_first (type_symbols p.ty) (local_symbol names p.name ∷ []) own), more_params_spelled names ps h.1 (written_rest (param_symbols names p) (more_params_symbols names ps) w.1))

params_spelled : (names : List Name) (ps : List Param) → shape.Each (shape.IsParam names) ps → AreWritten (params_symbols names ps) → Each (λ p. IsSpelled p.ty) ps
params_spelled names [] h w = tt
params_spelled names (p ∷ ps) h w = more_params_spelled names (p ∷ ps) h (tt, w)

result_spelled : (o : Option Ty) → shape.IsResult o → AreWritten (result_symbols o) → Each IsSpelled (option_to_list o)
result_spelled None h w = tt
result_spelled (Some t) h w = ((h, w), tt)

-- a function whose names can be written
function_spelled : (f : Function) → shape.IsFunction f → AreWritten (function_symbols f) → Each IsName f.names → IsSpelledFunction f
function_spelled f h w names =
    let body : List Sym = head_symbols f ++ blocks_symbols f.names f.blocks in
    let whole : AreWritten body = written_first body (close_curly ∷ []) w in
    let one : List Sym = word words.Define ∷ result_symbols f.result in
    let two : List Sym = global_symbol f.name ∷ open_round ∷ params_symbols f.names f.params in
    let three : List Sym = close_round ∷ flag_symbols f.coroutine words.Presplitcoroutine in
    let front : AreWritten (one ++ two) = written_first (one ++ two) three (written_first ((one ++ two) ++ three) (open_curly ∷ []) (written_first (head_symbols f) (blocks_symbols f.names f.blocks) whole)) in
    record {
      name = (written_rest one two front).0;
      result = result_spelled f.result h.0 (written_first one two front).1;
      params = params_spelled f.names f.params h.1 (written_rest one two front).1.1;
      blocks = blocks_spelled f.names f.blocks (some_blocks f.names f.blocks h.2) (written_rest (head_symbols f) (blocks_symbols f.names f.blocks) whole);
      names = names;
    }

pub source_spelled : (text : List ℕ) (m : Module) → AreBytes text → StandsFor text m → (k : ℕ) (f : Function) → slice_get m.functions k ≡ Some f → IsSpelledFunction f
source_spelled text m bytes stands k f there =
    let printable : IsPrintable m = is_printable text m bytes stands in
    let front : List Sym = (type_items_symbols m.types ++ global_items_symbols m.globals) ++ declarations_symbols m.declarations in
    function_spelled f (function_shaped m.functions k f (text_is_shaped text m stands).functions there) (function_at m.functions k f there (written_rest front (functions_symbols m.functions) printable)) (text_names text m bytes stands k f there)
