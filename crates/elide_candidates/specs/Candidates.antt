-- The calls in a coroutine whose callees' frames may lie in its own.
use Rattle.std.specs.Prelude.{ℕ, Bool, false, List, [], Some, None, Option, IsTrue, IsFalse, ◌≡◌, ◌||◌}
use Rattle.elide_candidates.specs.Onward.{GoesOn}
use Rattle.elide_shape.specs.Calls.{value_at}
use Rattle.elide_sites.specs.Handles.{is_handle}
use Rattle.elide_sites.specs.Sites.{CallsElidable, destroys_of, ends_use}
use Rattle.flow_points.specs.Reached.{IsReached}
use Rattle.flow_solver.specs.Paths.{IsListed}
use Rattle.ir_model.specs.declared.instr.Instr.{Instr}
use Rattle.ir_model.specs.declared.module.Function.{Function}
use Rattle.ir_model.specs.declared.module.Module.{Module}
use Rattle.ir_model.specs.declared.operand.Intrinsic.{Intrinsic}
use Rattle.ir_paths.specs.Paths.{has_point}
use Rattle.ir_paths.specs.Windows.{IsInWindow, instr_at, is_call_of, points_where, saves_of}
use Rattle.ir_paths.specs.declared.point.Point.{Point}
use Rattle.rule_windows.specs.Sets.{IsAfterEnd, IsWithoutBegin}

-- ---- where the call stands

-- in the window of some save
pub record StandsInWindow (f : Function) (p : Point) : Type 0 where
  pub save : Point
  pub suspend : Point
  pub are : IsListed (save, suspend) (saves_of f)
  pub inside : IsInWindow f save suspend p

abbrev pub frees_of : Function → List Point
frees_of f = points_where (is_call_of Intrinsic.CoroFree) f

-- it is reached only past begin, and from no coro.free; it stands in no window and not after the end
pub record StandsWithin (f : Function) (p : Point) : Type 0 where
  pub begun : IsWithoutBegin f p → ⊥
  pub unfreed : IsReached f (frees_of f) [] p → ⊥
  pub no_window : StandsInWindow f p → ⊥
  pub before_end : IsAfterEnd f p → ⊥

-- ---- its result

-- the value is destroyed outside every window
pub record IsRelease (f : Function) (v : Option ℕ) (p : Point) : Type 0 where
  pub destroys : IsTrue (has_point (destroys_of f v) p)
  pub outside : StandsInWindow f p → ⊥

abbrev pub is_free_or_end : Option Instr → Bool
is_free_or_end None = false
is_free_or_end (Some i) = is_call_of Intrinsic.CoroFree i || is_call_of Intrinsic.CoroEnd i

-- a coro.free, a coro.end, a ret, or the call again
abbrev pub ends_frame : Function → Point → Point → Bool
ends_frame f call p = is_free_or_end (instr_at f p) || ends_use f call p

-- each path without stop edges from the call to one of these passes such a destroy of its result
pub record IsReleased (f : Function) (call : Point) : Type 0 where
  pub before : (p : Point) → GoesOn f (IsRelease f (value_at f call)) call p → IsFalse (ends_frame f call p)

-- ---- candidates

-- a call of an elidable coroutine, with a result that is used in the five ways only
pub record IsCandidate (m : Module) (f : Function) (call : Point) : Type 0 where
  pub coroutine : IsTrue f.coroutine
  pub calls : CallsElidable m f call
  pub result : ℕ
  pub has_result : value_at f call ≡ Some result
  pub is_handle : IsTrue (is_handle f (Some result))
  pub stands : StandsWithin f call
  pub released : IsReleased f call
