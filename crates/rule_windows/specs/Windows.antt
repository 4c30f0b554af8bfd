-- Rule K6: the windows of saves.
use Rattle.std.specs.Prelude.{ℕ, Bool, true, false, not, List, [], IsTrue, IsFalse, Some, None, Option, is_some, option_and_then, ◌≡◌, ◌&&◌, ◌||◌, ◌⊎◌, ◌∷◌}
use Rattle.ir_base.specs.declared.outcome.Place.{Place}
use Rattle.ir_calls.specs.Calls.{is_final}
use Rattle.ir_parts.specs.ir_model.declared.instr.Instr.{Instr}
use Rattle.ir_parts.specs.ir_model.declared.module.Function.{Function}
use Rattle.ir_parts.specs.ir_model.declared.operand.Intrinsic.{Intrinsic}
use Rattle.flow_points.specs.ir_paths.Paths.{Leads, entry_point, has_point, nexts, same_point}
use Rattle.flow_points.specs.ir_paths.Windows.{IsInWindow, call_result, destroy_label, instr_at, is_call_of, is_suspend_of, points_where, resume_label}
use Rattle.flow_points.specs.ir_paths.declared.point.Point.{Point}
use Rattle.flow_points.specs.Rows.{is_marked}
use Rattle.rule_windows.specs.First.{IsFirst}
use Rattle.rule_windows.specs.Points.{place_of}

-- the suspends that take a save's token
abbrev pub suspends_of : Function → Point → List Point
suspends_of f k = points_where (is_suspend_of (option_and_then call_result (instr_at f k))) f

-- what may not stand in a window
abbrev pub ends_window : Instr → Bool
ends_window i =
    is_call_of Intrinsic.CoroSave i || (is_call_of Intrinsic.CoroSuspend i || (is_call_of Intrinsic.CoroBegin i
    || (is_call_of Intrinsic.CoroFree i || is_call_of Intrinsic.CoroEnd i)))

abbrev pub passes : (Instr → Bool) → Option Instr → Bool
passes test None = false
passes test (Some i) = test i

abbrev pub ends_window_at : Function → Point → Bool
ends_window_at f p = passes ends_window (instr_at f p)

abbrev pub is_final_at : Function → Point → Bool
is_final_at f p = passes is_final (instr_at f p)

-- where a suspend's own resume and destroy edges lead
abbrev pub own_edges : Function → Point → List Point
own_edges f s = entry_point f (resume_label f s) ∷ entry_point f (destroy_label f s) ∷ []

-- from a point on an edge a path leads to the suspend without passing the save
abbrev pub ComesBack : Function → Point → Point → Point → Type 0
ComesBack f k s r = (r ≡ s) ⊎ (IsFalse (same_point r k) × Leads f (k ∷ s ∷ []) r s)

-- another save, a suspend, begin, free or end stands in the window
pub record HasCall (f : Function) (k s : Point) : Type 0 where
  pub point : Point
  pub is_inside : IsInWindow f k s point
  pub ends : IsTrue (ends_window_at f point)

-- an edge leads from the window to a point that is neither in it nor the suspend
pub record HasLeavingEdge (f : Function) (k s : Point) : Type 0 where
  pub from : Point
  pub to : Point
  pub is_inside : IsInWindow f k s from
  pub is_edge : IsTrue (has_point (nexts f from) to)
  pub is_outside : ¬ (IsInWindow f k s to)
  pub is_not_suspend : IsFalse (same_point to s)

-- a path leads from one of the suspend's own edges back to it without passing the save
pub record HasWayBack (f : Function) (k s : Point) : Type 0 where
  pub first : Point
  pub is_first : IsTrue (has_point (own_edges f s) first)
  pub comes_back : ComesBack f k s first

-- what is wrong with the window of a save with its suspend
pub data IsWrong (f : Function) (k s : Point) : Type 0 where
  NoPath : ¬ (Leads f (k ∷ s ∷ []) k s) → IsWrong f k s
  Back : HasWayBack f k s → IsWrong f k s
  Call : HasCall f k s → IsWrong f k s
  Left : IsTrue (is_final_at f s) → HasLeavingEdge f k s → IsWrong f k s

-- the save hasn't exactly one suspend, or their window is wrong
pub data BreaksWindow (f : Function) (k : Point) : Type 0 where
  NotOne : ((s : Point) → suspends_of f k ≡ s ∷ [] → ⊥) → BreaksWindow f k
  Between : (s : Point) → suspends_of f k ≡ s ∷ [] → IsWrong f k s → BreaksWindow f k

abbrev pub BreaksSave : Function → Point → Type 0
BreaksSave f k = IsTrue f.coroutine × BreaksWindow f k

-- K6: of a save: it hasn't exactly one suspend, or no path leads from it to that; a path leads from the suspend's own resume or destroy edge to it without passing the save; another save, a suspend, begin, free or end in its window; a leaving edge where its suspend is final
abbrev pub IsFirstWindow : ℕ → Function → Option Place → Type 0
IsFirstWindow func f o = IsFirst (BreaksSave f) (place_of func f) (points_where (is_call_of Intrinsic.CoroSave) f) o

-- ---- the same, by points found

-- a call that may not stand in the window, where it isn't the save or the suspend
abbrev pub is_call_between : Function → Point → Point → Point → Bool
is_call_between f k s p = not (same_point p k) && (not (same_point p s) && ends_window_at f p)

-- a point that isn't on the way to the suspend
abbrev pub is_off : List (List Bool) → Point → Point → Point → Bool
is_off back k s q = not (same_point q s) && (same_point q k || not (is_marked back q))

-- just the points from which a path leads to the suspend with neither it nor the save between
pub record AreOnTheWay (f : Function) (k s : Point) (back : List Point) : Type 0 where
  pub each : (p : Point) → (IsTrue (has_point back p) → Leads f (k ∷ s ∷ []) p s) × (Leads f (k ∷ s ∷ []) p s → IsTrue (has_point back p))

abbrev pub comes_back : List Point → Point → Point → Point → Bool
comes_back back k s r = same_point r s || (not (same_point r k) && has_point back r)

abbrev pub has_way_back : Function → List Point → Point → Point → Bool
has_way_back f back k s = comes_back back k s (entry_point f (resume_label f s)) || comes_back back k s (entry_point f (destroy_label f s))

-- the one point of a list, and none where it hasn't exactly one
abbrev pub IsOnly : List Point → Option Point → Type 0
IsOnly points None = (s : Point) → points ≡ s ∷ [] → ⊥
IsOnly points (Some s) = points ≡ s ∷ []

-- an instruction stands at the point
abbrev pub StandsAt : Function → Point → Type 0
StandsAt f p = IsTrue (is_some (instr_at f p))
