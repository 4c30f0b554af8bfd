-- Rule K10: the promise.
use Rattle.std.specs.Prelude.{ℕ, Bool, true, false, not, List, is_some, slice_get, Some, None, Option, option_map, option_and_then, position, ◌||◌, if◌then◌else◌, ◌==◌}
use Rattle.ir_base.specs.declared.outcome.Place.{Place}
use Rattle.rule_windows.specs.ir_calls.Calls.{first_call, is_null}
use Rattle.rule_shape.specs.Places.{places_where}
use Rattle.rule_windows.specs.ir_parts.Parts.{place_if}
use Rattle.ir_model.specs.declared.module.Function.{Function}
use Rattle.ir_model.specs.declared.operand.Intrinsic.{Intrinsic}
use Rattle.ir_model.specs.declared.operand.Operand.{Operand}
use Rattle.rule_windows.specs.ir_paths.Slots.{allocas_of}
use Rattle.rule_windows.specs.ir_paths.Windows.{call_operand, is_call_of}

-- the position of an alloca among the allocas of its function, in order of the text
abbrev pub slot_of : Function → ℕ → Option ℕ
slot_of f v = position (λ a. a == v) (allocas_of f)

-- the slot whose address the operand is
abbrev pub slot_named : Function → Operand → Option ℕ
slot_named f (Operand.Local v) = slot_of f v
slot_named f _ = None

-- the promise operand of id
abbrev pub promise_operand : Function → Option Operand
promise_operand f = option_map (λ i. call_operand i 1) (first_call Intrinsic.CoroId f)

-- the slot of the promise
abbrev pub promise_slot : Function → Option ℕ
promise_slot f = option_and_then (slot_named f) (promise_operand f)

abbrev pub is_promise : Function → Operand → Bool
is_promise f x = is_null x || is_some (slot_named f x)

abbrev pub is_wrong_promise : Function → Option Operand → Bool
is_wrong_promise f None = false
is_wrong_promise f (Some x) = not (is_promise f x)

-- K10: the promise operand is neither null nor an alloca; place: id
abbrev pub wrong_promise : ℕ → Function → Option Place
wrong_promise func f =
    if f.coroutine then option_and_then (place_if (is_wrong_promise f (promise_operand f))) (slice_get (places_where (is_call_of Intrinsic.CoroId) func f) 0)
    else None
