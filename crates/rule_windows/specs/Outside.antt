-- Rule K5: what stands before begin or after the end.
use Rattle.std.specs.Prelude.{ℕ, Bool, true, false, List, Option, IsTrue, ◌≡◌, ◌&&◌, ◌||◌, ◌⊎◌}
use Rattle.ir_base.specs.declared.outcome.Place.{Place}
use Rattle.ir_parts.specs.Parts.{Part, OfInstr, Ending, parts_of}
use Rattle.ir_parts.specs.ir_model.declared.instr.Instr.{Instr}
use Rattle.ir_parts.specs.ir_model.declared.instr.Terminator.{Terminator}
use Rattle.ir_parts.specs.ir_model.declared.module.Function.{Function}
use Rattle.ir_parts.specs.ir_model.declared.operand.Intrinsic.{Intrinsic}
use Rattle.flow_points.specs.ir_paths.Windows.{is_call_of}
use Rattle.flow_points.specs.ir_paths.declared.point.Point.{Point}
use Rattle.flow_points.specs.Rows.{is_marked}
use Rattle.rule_windows.specs.First.{IsFirst}
use Rattle.rule_windows.specs.Points.{point_of}
use Rattle.rule_windows.specs.Sets.{AreThose, IsAfterEnd, IsWithoutBegin, RunsOut}
use Rattle.rule_windows.specs.declared.outside.Outside.{Outside}

-- what may not stand after the end
abbrev pub ends_with_it : Instr → Bool
ends_with_it i =
    is_call_of Intrinsic.CoroBegin i || (is_call_of Intrinsic.CoroSave i || (is_call_of Intrinsic.CoroSuspend i
    || (is_call_of Intrinsic.CoroFree i || is_call_of Intrinsic.CoroEnd i)))

-- what may not be reached without begin
abbrev pub needs_begin : Instr → Bool
needs_begin i =
    is_call_of Intrinsic.CoroSave i || (is_call_of Intrinsic.CoroSuspend i || (is_call_of Intrinsic.CoroFree i
    || (is_call_of Intrinsic.CoroFrame i || is_call_of Intrinsic.CoroEnd i)))

abbrev pub is_return : Terminator → Bool
is_return (Terminator.Ret value) = true
is_return _ = false

-- a part of a coroutine stands before begin or after the end, and may not
abbrev pub StandsOutside : Function → Place → Part → Type 0
StandsOutside f p (OfInstr i) = (IsTrue (ends_with_it i) × IsAfterEnd f (point_of f p)) ⊎ (IsTrue (needs_begin i) × IsWithoutBegin f (point_of f p))
StandsOutside f p (Ending t) = IsTrue (is_return t) × RunsOut f (point_of f p)
StandsOutside f p _ = ⊥

abbrev pub BreaksOutside : Function → Place × Part → Type 0
BreaksOutside f x = IsTrue f.coroutine × StandsOutside f x.0 x.1

-- K5: a ret after begin without the end between; a begin, save, suspend, free or end after the end; a save, suspend, free, frame or end that some path reaches without begin
abbrev pub IsFirstOutside : ℕ → Function → Option Place → Type 0
IsFirstOutside func f o = IsFirst (BreaksOutside f) (λ x. x.0) (parts_of func f) o

-- ---- the same, by sets of points

abbrev pub stands_outside : Function → List (List Bool) → List (List Bool) → List (List Bool) → Place → Part → Bool
stands_outside f out after before p (OfInstr i) = (ends_with_it i && is_marked after (point_of f p)) || (needs_begin i && is_marked before (point_of f p))
stands_outside f out after before p (Ending t) = is_return t && is_marked out (point_of f p)
stands_outside f out after before p _ = false

-- the sets are those of the function
pub record IsOutsideOf (f : Function) (r : Outside) : Type 0 where
  pub function : r.function.now ≡ f
  pub out : AreThose (RunsOut f) r.out
  pub after : AreThose (IsAfterEnd f) r.after
  pub before : AreThose (IsWithoutBegin f) r.before
