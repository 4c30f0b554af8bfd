-- Rules K4 and K11: final suspends, and how many suspends there may be.
use Rattle.std.specs.Prelude.{ℕ, Bool, slice_get, None, Option, List, ◌&&◌, if◌then◌else◌}
use Rattle.ir_base.specs.declared.outcome.Place.{Place}
use Rattle.rule_windows.specs.ir_calls.Calls.{is_final}
use Rattle.rule_shape.specs.Places.{places_where}
use Rattle.ir_model.specs.declared.instr.Instr.{Instr}
use Rattle.ir_model.specs.declared.module.Function.{Function}
use Rattle.ir_model.specs.declared.operand.Intrinsic.{Intrinsic}
use Rattle.rule_windows.specs.ir_paths.Windows.{is_call_of}

abbrev pub is_suspend : Instr → Bool
is_suspend i = is_call_of Intrinsic.CoroSuspend i

abbrev pub is_final_suspend : Instr → Bool
is_final_suspend i = is_suspend i && is_final i

-- the suspends of a function, in order of the text
abbrev pub suspends_of : ℕ → Function → List Place
suspends_of func f = places_where is_suspend func f

-- K4: a second final suspend
abbrev pub second_final : ℕ → Function → Option Place
second_final func f = if f.coroutine then slice_get (places_where is_final_suspend func f) 1 else None

-- K11: more than 65,536 suspends
abbrev pub suspend_too_many : ℕ → Function → Option Place
suspend_too_many func f = if f.coroutine then slice_get (suspends_of func f) 65536 else None
