-- The tokens of printed items and modules.
use Rattle.std.proofs.Common.{◌≡◌, ℕ, Bool, true, false, List, [], ◌∷◌, ◌++◌, append_assoc, append-nil, refl, sym, ap, ◌∙◌}
use Rattle.std.specs.Prelude.{Some}
use Rattle.ir_base.specs.declared.name.Name.{Name}
use Rattle.ir_model.specs.Ty.{Ty}
use Rattle.ir_model.specs.declared.module.Declaration.{Declaration}
use Rattle.ir_model.specs.declared.module.Function.{Function}
use Rattle.ir_model.specs.declared.module.GlobalItem.{GlobalItem}
use Rattle.ir_model.specs.declared.module.Module.{Module}
use Rattle.ir_model.specs.declared.module.Param.{Param}
use Rattle.ir_model.specs.declared.module.TypeItem.{TypeItem}
use Rattle.text_symbols.specs.Listing.{symbols_of}
use Rattle.text_symbols.specs.declared.sym.Sym.{Sym}
use Rattle.text_canonical.specs.canonical.Items.{coroutine_text, declaration_text, declarations_text, function_text, functions_text, global_item_text, global_items_text, head_text, module_text, more_params_text, more_types_text, param_text, params_text, type_item_text, type_items_text, types_text}
use Rattle.text_canonical.specs.canonical.InstrSymbols.{flag_symbols}
use Rattle.text_canonical.specs.canonical.ItemSymbols.{IsPrintable, declaration_symbols, declarations_symbols, function_symbols, functions_symbols, global_item_symbols, global_items_symbols, head_symbols, module_symbols, more_params_symbols, more_types_symbols, param_symbols, params_symbols, type_item_symbols, type_items_symbols, types_symbols}
use Rattle.text_canonical.specs.canonical.Written.{AreWritten}
use Rattle.text_canonical.proofs.canonical.BlocksLexed.{blocks_lexed}
use Rattle.text_canonical.proofs.canonical.InstrsLexed.{align_lexed}
use Rattle.text_canonical.proofs.canonical.Lexed.{Lexed, empty, global, join, local, same_symbols, spaced, stops, then}
use Rattle.text_canonical.proofs.canonical.OperandsLexed.{local_lexed, operand_lexed, result_lexed}
use Rattle.text_canonical.proofs.canonical.Steps.{said_as}
use Rattle.text_canonical.proofs.canonical.TypesLexed.{type_lexed}
use Rattle.text_canonical.proofs.canonical.WordsLexed.{comma_space, curly_close_line, curly_open_line, declare_lexed, define_lexed, equals_space, kind_lexed, line, presplit_lexed, round_close, round_line, round_open, space, type_word_lexed}
use Rattle.text_symbols.specs.declared.word.Word.TheVariants as words

type_item_lexed : (t : TypeItem) → Lexed true (type_item_text t) (type_item_symbols t)
type_item_lexed t = spaced (then (then (local (Some t.name)) type_word_lexed refl) (type_lexed t.ty) refl) line refl

global_item_lexed : (g : GlobalItem) → Lexed true (global_item_text g) (global_item_symbols g)
global_item_lexed g =
    same_symbols (simp append_assoc) (spaced (then (then (spaced (then (spaced (then (then (global g.name) equals_space refl) (kind_lexed g.constant) refl) space refl) (type_lexed g.ty) refl) space refl) (operand_lexed [] g.init) refl) (align_lexed g.align) refl) line refl)

-- ---- declarations

more_types_pass : (ts : List Ty) (rest : List ℕ) → stops rest ≡ true → stops (more_types_text ts ++ rest) ≡ true
more_types_pass [] rest h = h
more_types_pass (t ∷ ts) rest h = refl

more_types_lexed : (ts : List Ty) → Lexed false (more_types_text ts) (more_types_symbols ts)
more_types_lexed [] = empty
more_types_lexed (t ∷ ts) = join (then comma_space (type_lexed t) refl) (more_types_lexed ts) (more_types_pass ts)

types_lexed : (ts : List Ty) → Lexed false (types_text ts) (types_symbols ts)
types_lexed [] = empty
types_lexed (t ∷ ts) = join (type_lexed t) (more_types_lexed ts) (more_types_pass ts)

declaration_lexed : (d : Declaration) → Lexed true (declaration_text d) (declaration_symbols d)
declaration_lexed d =
    same_symbols (simp append_assoc) (then (then (then (then (spaced (then declare_lexed (result_lexed d.result) refl) space refl) (global d.name) refl) round_open refl) (types_lexed d.params) refl) round_line refl)

-- ---- functions

param_lexed : (names : List Name) (p : Param) → Lexed false (param_text names p) (param_symbols names p)
param_lexed names p = then (spaced (type_lexed p.ty) space refl) (local_lexed names p.name) refl

more_params_pass : (names : List Name) (ps : List Param) (rest : List ℕ) → stops rest ≡ true → stops (more_params_text names ps ++ rest) ≡ true
more_params_pass names [] rest h = h
more_params_pass names (p ∷ ps) rest h = refl

more_params_lexed : (names : List Name) (ps : List Param) → Lexed false (more_params_text names ps) (more_params_symbols names ps)
more_params_lexed names [] = empty
more_params_lexed names (p ∷ ps) = join (then comma_space (param_lexed names p) refl) (more_params_lexed names ps) (more_params_pass names ps)

params_lexed : (names : List Name) (ps : List Param) → Lexed false (params_text names ps) (params_symbols names ps)
params_lexed names [] = empty
params_lexed names (p ∷ ps) = join (param_lexed names p) (more_params_lexed names ps) (more_params_pass names ps)

coroutine_lexed : (b : Bool) → Lexed false (coroutine_text b) (flag_symbols b words.Presplitcoroutine)
coroutine_lexed true = presplit_lexed
coroutine_lexed false = empty

head_lexed : (f : Function) → Lexed true (head_text f) (head_symbols f)
head_lexed f =
    same_symbols (simp append_assoc) (then (then (then (then (then (then (spaced (then define_lexed (result_lexed f.result) refl) space refl) (global f.name) refl) round_open refl) (params_lexed f.names f.params) refl) round_close refl) (coroutine_lexed f.coroutine) refl) curly_open_line refl)

function_lexed : (f : Function) → Lexed true (function_text f) (function_symbols f)
function_lexed f = then (then (head_lexed f) (blocks_lexed f.names f.blocks) refl) curly_close_line refl

-- ---- modules

type_items_lexed : (ts : List TypeItem) → Lexed true (type_items_text ts) (type_items_symbols ts)
type_items_lexed [] = empty
type_items_lexed (t ∷ ts) = then (type_item_lexed t) (type_items_lexed ts) refl

global_items_lexed : (gs : List GlobalItem) → Lexed true (global_items_text gs) (global_items_symbols gs)
global_items_lexed [] = empty
global_items_lexed (g ∷ gs) = then (global_item_lexed g) (global_items_lexed gs) refl

declarations_lexed : (ds : List Declaration) → Lexed true (declarations_text ds) (declarations_symbols ds)
declarations_lexed [] = empty
declarations_lexed (d ∷ ds) = then (declaration_lexed d) (declarations_lexed ds) refl

functions_lexed : (fs : List Function) → Lexed true (functions_text fs) (functions_symbols fs)
functions_lexed [] = empty
functions_lexed (f ∷ fs) = then (function_lexed f) (functions_lexed fs) refl

parts_lexed : (m : Module) → Lexed true (module_text m) (module_symbols m)
parts_lexed m = then (then (then (type_items_lexed m.types) (global_items_lexed m.globals) refl) (declarations_lexed m.declarations) refl) (functions_lexed m.functions) refl

-- a text that is free by itself
whole : (w : List ℕ) (ss : List Sym) → Lexed true w ss → AreWritten ss → symbols_of w ≡ said_as ss true
whole w ss h written =
    ap symbols_of (sym (append-nil w)) ∙ h.says [] written refl ∙ ap (λ (l : List Sym). said_as l true) (append-nil ss)

pub module_lexed : (m : Module) → IsPrintable m → symbols_of (module_text m) ≡ record { symbols = module_symbols m; whole = true }
module_lexed m printable = whole (module_text m) (module_symbols m) (parts_lexed m) printable
