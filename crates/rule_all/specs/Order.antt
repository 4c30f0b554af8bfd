-- The one order of refusals.
use Rattle.std.specs.Prelude.{ℕ, List, [], Some, None, Option, ◌+◌, ◌∷◌}
use Rattle.ir_base.specs.declared.rule.Rule.{Rule}
use Rattle.rule_shape.specs.OneOfEach.{wrong_call}
use Rattle.rule_shape.specs.Promise.{wrong_promise}
use Rattle.rule_shape.specs.Suspends.{second_final, suspend_too_many}
use Rattle.rule_shape.specs.Switches.{wrong_switch}
use Rattle.rule_phis.specs.Edges.{first_wrong_edge}
use Rattle.rule_all.specs.Faults.{faults_at}
use Rattle.rule_all.specs.declared.faults.PathFaults.{PathFaults}
use Rattle.ir_model.specs.declared.module.Function.{Function}
use Rattle.ir_model.specs.declared.module.Module.{Module}
use Rattle.rule_locals.specs.Addresses.{first_function_pointer}
use Rattle.rule_locals.specs.Calls.{first_closed_call}
use Rattle.rule_locals.specs.Entries.{first_late_alloca}
use Rattle.rule_locals.specs.Extents.{first_past_extent, misaligned_globals}
use Rattle.rule_locals.specs.Intrinsics.{first_misplaced}
use Rattle.rule_locals.specs.Markers.{first_other_mark}
use Rattle.rule_locals.specs.Transfers.{first_wrong_transfer}
use Rattle.rule_modules.specs.Order.{module_refusal, or_refusal}
use Rattle.rule_modules.specs.declared.order.Refusal.{Refusal}
use Rattle.rule_names.specs.Items.{first_place}
use Rattle.rule_names.specs.declared.stage.Stage.{Stage}
use Rattle.rule_values.specs.Initials.{wrong_initials}
use Rattle.rule_values.specs.Values.{first_wrong_value}

-- the first that there is
abbrev pub or_later : Option Refusal → Option Refusal → Option Refusal
or_later (Some r) later = Some r
or_later None later = later

-- ---- the rules of one function, in their order

-- the types of values, what is called, how large types are, and what must be a tail call
unfoldable pub value_refusal : Stage → Module → ℕ → Function → Option Refusal
value_refusal stage m k f =
    or_refusal Rule.Y1 (first_wrong_value m k f)
    (or_refusal Rule.Y3 (first_closed_call m k f)
    (or_refusal Rule.Y4 (first_past_extent stage m k f)
    (or_refusal Rule.Y5 (first_wrong_transfer stage k f) None)))

-- edges into blocks, uses without a definition, and allocas
unfoldable pub flow_refusal : ℕ → Function → PathFaults → Option Refusal
flow_refusal k f x =
    or_refusal Rule.F1 (first_wrong_edge k f)
    (or_refusal Rule.F2 x.undefined_use
    (or_refusal Rule.F3 (first_late_alloca k f) None))

-- functions' addresses, in a source alone
unfoldable pub pointer_refusal : Stage → Module → ℕ → Function → Option Refusal
pointer_refusal Stage.Source m k f = or_refusal Rule.P1 (first_function_pointer m k f) None
pointer_refusal Stage.Plain m k f = None

-- addresses of functions, and where coro intrinsics stand
unfoldable pub placing_refusal : Stage → Module → ℕ → Function → Option Refusal
placing_refusal stage m k f =
    or_later (pointer_refusal stage m k f)
    (or_refusal Rule.K1 (first_misplaced stage k f) None)

-- the parts that a coroutine has
unfoldable pub parts_refusal : ℕ → Function → Option Refusal
parts_refusal k f =
    or_refusal Rule.K2 (wrong_call k f)
    (or_refusal Rule.K3 (wrong_switch k f)
    (or_refusal Rule.K4 (second_final k f) None))

-- where they stand, and what stands in windows
unfoldable pub standing_refusal : PathFaults → Option Refusal
standing_refusal x =
    or_refusal Rule.K5 x.outside
    (or_refusal Rule.K6 x.window
    (or_refusal Rule.K7 x.kept_value None))

-- what stands of slots in windows, before begin and after the end
unfoldable pub slots_refusal : PathFaults → Option Refusal
slots_refusal x =
    or_refusal Rule.K8 x.marked_slot
    (or_refusal Rule.K9 x.early_address None)

-- the promise, and the number of suspends
unfoldable pub frame_refusal : ℕ → Function → Option Refusal
frame_refusal k f =
    or_refusal Rule.K10 (wrong_promise k f)
    (or_refusal Rule.K11 (suspend_too_many k f) None)

-- the shape of a coroutine, in a source alone
unfoldable pub shape_refusal : Stage → ℕ → Function → PathFaults → Option Refusal
shape_refusal Stage.Source k f x =
    or_later (parts_refusal k f)
    (or_later (standing_refusal x)
    (or_later (slots_refusal x) (frame_refusal k f)))
shape_refusal Stage.Plain k f x = None

-- the first broken rule of a function, of which the rules on paths have these faults
unfoldable pub function_refusal : Stage → Module → ℕ → Function → PathFaults → Option Refusal
function_refusal stage m k f x =
    or_later (value_refusal stage m k f)
    (or_later (flow_refusal k f x)
    (or_later (placing_refusal stage m k f)
    (or_later (shape_refusal stage k f x)
    (or_refusal Rule.K13 (first_other_mark m k f) None))))

abbrev pub functions_refusal : Stage → Module → List PathFaults → ℕ → List Function → Option Refusal
functions_refusal stage m faults k [] = None
functions_refusal stage m faults k (f ∷ fs) =
    or_later (function_refusal stage m k f (faults_at faults k)) (functions_refusal stage m faults (k + 1) fs)

-- ---- the whole order

-- the rules behind the module rules: those of globals, then those of the functions in order of the text
unfoldable pub items_refusal : Stage → Module → List PathFaults → Option Refusal
items_refusal stage m faults =
    or_refusal Rule.Y1 (first_place (wrong_initials m) m)
    (or_refusal Rule.Y4 (first_place misaligned_globals m)
    (functions_refusal stage m faults 0 m.functions))

-- the first broken rule of a module, with its first place
unfoldable pub refusal : Stage → Module → List PathFaults → Option Refusal
refusal stage m faults = or_later (module_refusal stage m) (items_refusal stage m faults)
