-- The symbols of items and modules.
use Rattle.std.specs.Prelude.{Bool, Some, List, [], ◌∷◌, ◌++◌, if◌then◌else◌}
use Rattle.text_canonical.specs.canonical.BlockSymbols.{blocks_symbols}
use Rattle.text_canonical.specs.canonical.InstrSymbols.{align_symbols, flag_symbols}
use Rattle.text_canonical.specs.canonical.Marks.{word, equals, comma, open_round, close_round, open_curly, close_curly}
use Rattle.text_canonical.specs.canonical.OperandSymbols.{global_symbol, local_symbol, operand_symbol, result_symbols}
use Rattle.text_canonical.specs.canonical.TypeSymbols.{type_symbols}
use Rattle.text_canonical.specs.canonical.Written.{AreWritten}
use Rattle.ir_base.specs.declared.name.Name.{Name}
use Rattle.ir_model.specs.Ty.{Ty}
use Rattle.ir_model.specs.declared.module.Declaration.{Declaration}
use Rattle.ir_model.specs.declared.module.Function.{Function}
use Rattle.ir_model.specs.declared.module.GlobalItem.{GlobalItem}
use Rattle.ir_model.specs.declared.module.Module.{Module}
use Rattle.ir_model.specs.declared.module.Param.{Param}
use Rattle.ir_model.specs.declared.module.TypeItem.{TypeItem}
use Rattle.text_symbols.specs.declared.sym.Sym.{Sym}
use Rattle.text_symbols.specs.declared.word.Word.{Word}
use Rattle.text_symbols.specs.declared.sym.Sym.TheVariants as syms
use Rattle.text_symbols.specs.declared.word.Word.TheVariants as words

abbrev pub type_item_symbols : TypeItem → List Sym
type_item_symbols t = syms.Local (Some t.name) ∷ equals ∷ word words.Type ∷ type_symbols t.ty

abbrev pub kind_of : Bool → Word
kind_of constant = if constant then words.Constant else words.Global

abbrev pub global_item_symbols : GlobalItem → List Sym
global_item_symbols g =
    global_symbol g.name ∷ equals ∷ word (kind_of g.constant) ∷ type_symbols g.ty ++ operand_symbol [] g.init ∷ align_symbols g.align

-- those behind the first
abbrev pub more_types_symbols : List Ty → List Sym
more_types_symbols [] = []
more_types_symbols (t ∷ ts) = comma ∷ type_symbols t ++ more_types_symbols ts

abbrev pub types_symbols : List Ty → List Sym
types_symbols [] = []
types_symbols (t ∷ ts) = type_symbols t ++ more_types_symbols ts

abbrev pub declaration_symbols : Declaration → List Sym
declaration_symbols d = word words.Declare ∷ result_symbols d.result ++ global_symbol d.name ∷ open_round ∷ types_symbols d.params ++ close_round ∷ []

abbrev pub param_symbols : List Name → Param → List Sym
param_symbols names p = type_symbols p.ty ++ local_symbol names p.name ∷ []

-- those behind the first
abbrev pub more_params_symbols : List Name → List Param → List Sym
more_params_symbols names [] = []
more_params_symbols names (p ∷ ps) = comma ∷ param_symbols names p ++ more_params_symbols names ps

abbrev pub params_symbols : List Name → List Param → List Sym
params_symbols names [] = []
params_symbols names (p ∷ ps) = param_symbols names p ++ more_params_symbols names ps

-- the first line of a function
abbrev pub head_symbols : Function → List Sym
head_symbols f =
    word words.Define ∷ result_symbols f.result ++ global_symbol f.name ∷ open_round ∷ params_symbols f.names f.params ++ close_round ∷ flag_symbols f.coroutine words.Presplitcoroutine ++ open_curly ∷ []

abbrev pub function_symbols : Function → List Sym
function_symbols f = head_symbols f ++ blocks_symbols f.names f.blocks ++ close_curly ∷ []

abbrev pub type_items_symbols : List TypeItem → List Sym
type_items_symbols [] = []
type_items_symbols (t ∷ ts) = type_item_symbols t ++ type_items_symbols ts

abbrev pub global_items_symbols : List GlobalItem → List Sym
global_items_symbols [] = []
global_items_symbols (g ∷ gs) = global_item_symbols g ++ global_items_symbols gs

abbrev pub declarations_symbols : List Declaration → List Sym
declarations_symbols [] = []
declarations_symbols (d ∷ ds) = declaration_symbols d ++ declarations_symbols ds

abbrev pub functions_symbols : List Function → List Sym
functions_symbols [] = []
functions_symbols (f ∷ fs) = function_symbols f ++ functions_symbols fs

-- what the tokens of the canonical text say
abbrev pub module_symbols : Module → List Sym
module_symbols m =
    type_items_symbols m.types ++ global_items_symbols m.globals ++ declarations_symbols m.declarations ++ functions_symbols m.functions

-- its names are names, its widths are those of types and its numbers below 2^64
abbrev pub IsPrintable : Module → Type 0
IsPrintable m = AreWritten (module_symbols m)
