-- The text of items and modules.
use Rattle.std.specs.Prelude.{ℕ, Bool, List, [], ◌∷◌, ◌++◌, codes, if◌then◌else◌}
use Rattle.ir_base.specs.declared.name.Name.{Name}
use Rattle.text_names.specs.Spelling.{spelling}
use Rattle.ir_model.specs.Ty.{Ty}
use Rattle.ir_model.specs.declared.module.Declaration.{Declaration}
use Rattle.ir_model.specs.declared.module.Function.{Function}
use Rattle.ir_model.specs.declared.module.GlobalItem.{GlobalItem}
use Rattle.ir_model.specs.declared.module.Module.{Module}
use Rattle.ir_model.specs.declared.module.Param.{Param}
use Rattle.ir_model.specs.declared.module.TypeItem.{TypeItem}
use Rattle.text_canonical.specs.canonical.Blocks.{blocks_text}
use Rattle.text_canonical.specs.canonical.Instrs.{align_text}
use Rattle.text_canonical.specs.canonical.Operands.{global_text, local_text, operand_text, result_text}
use Rattle.text_canonical.specs.canonical.Types.{type_text}

abbrev pub type_item_text : TypeItem → List ℕ
type_item_text t = codes "%" ++ spelling t.name ++ codes " = type " ++ type_text t.ty ++ codes "\n"

abbrev pub kind_word : Bool → List ℕ
kind_word constant = if constant then codes "constant" else codes "global"

abbrev pub global_item_text : GlobalItem → List ℕ
global_item_text g =
    global_text g.name ++ codes " = " ++ kind_word g.constant ++ codes " " ++ type_text g.ty ++ codes " " ++ operand_text [] g.init ++ align_text g.align ++ codes "\n"

-- those behind the first
abbrev pub more_types_text : List Ty → List ℕ
more_types_text [] = []
more_types_text (t ∷ ts) = codes ", " ++ type_text t ++ more_types_text ts

abbrev pub types_text : List Ty → List ℕ
types_text [] = []
types_text (t ∷ ts) = type_text t ++ more_types_text ts

abbrev pub declaration_text : Declaration → List ℕ
declaration_text d = codes "declare " ++ result_text d.result ++ codes " " ++ global_text d.name ++ codes "(" ++ types_text d.params ++ codes ")\n"

abbrev pub param_text : List Name → Param → List ℕ
param_text names p = type_text p.ty ++ codes " " ++ local_text names p.name

-- those behind the first
abbrev pub more_params_text : List Name → List Param → List ℕ
more_params_text names [] = []
more_params_text names (p ∷ ps) = codes ", " ++ param_text names p ++ more_params_text names ps

abbrev pub params_text : List Name → List Param → List ℕ
params_text names [] = []
params_text names (p ∷ ps) = param_text names p ++ more_params_text names ps

abbrev pub coroutine_text : Bool → List ℕ
coroutine_text coroutine = if coroutine then codes " presplitcoroutine" else []

-- the first line of a function
abbrev pub head_text : Function → List ℕ
head_text f =
    codes "define " ++ result_text f.result ++ codes " " ++ global_text f.name ++ codes "(" ++ params_text f.names f.params ++ codes ")" ++ coroutine_text f.coroutine ++ codes " {\n"

abbrev pub function_text : Function → List ℕ
function_text f = head_text f ++ blocks_text f.names f.blocks ++ codes "}\n"

abbrev pub type_items_text : List TypeItem → List ℕ
type_items_text [] = []
type_items_text (t ∷ ts) = type_item_text t ++ type_items_text ts

abbrev pub global_items_text : List GlobalItem → List ℕ
global_items_text [] = []
global_items_text (g ∷ gs) = global_item_text g ++ global_items_text gs

abbrev pub declarations_text : List Declaration → List ℕ
declarations_text [] = []
declarations_text (d ∷ ds) = declaration_text d ++ declarations_text ds

abbrev pub functions_text : List Function → List ℕ
functions_text [] = []
functions_text (f ∷ fs) = function_text f ++ functions_text fs

-- the canonical text: all types, all globals, all declarations, all functions, each in order
abbrev pub module_text : Module → List ℕ
module_text m =
    type_items_text m.types ++ global_items_text m.globals ++ declarations_text m.declarations ++ functions_text m.functions
