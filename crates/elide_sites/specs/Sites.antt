-- The calls whose frames lie in the caller.
use Rattle.std.specs.List.{list_any}
use Rattle.std.specs.Prelude.{ℕ, Bool, true, false, List, [], length, nat_lt, slice_get, Some, None, Option, option_and_then, IsTrue, IsFalse, ◌≡◌, ◌&&◌, ◌||◌, ◌∷◌, ◌++◌, ◌==◌, if◌then◌else◌}
use Rattle.ir_base.specs.declared.outcome.Place.{Place}
use Rattle.rule_shape.specs.Places.{places_where}
use Rattle.elide_shape.specs.Calls.{value_at}
use Rattle.elide_sites.specs.Chosen.{AreChosen}
use Rattle.elide_sites.specs.Elidable.{IsElidable}
use Rattle.elide_sites.specs.Handles.{is_handle}
use Rattle.ir_model.specs.Names.{function_at, function_named, is_local}
use Rattle.ir_model.specs.declared.instr.Instr.{Instr}
use Rattle.ir_model.specs.declared.instr.Terminator.{Terminator}
use Rattle.ir_model.specs.declared.module.Block.{Block}
use Rattle.ir_model.specs.declared.module.Function.{Function}
use Rattle.ir_model.specs.declared.module.Module.{Module}
use Rattle.ir_model.specs.declared.operand.Callee.{Callee}
use Rattle.ir_model.specs.declared.operand.Intrinsic.{Intrinsic}
use Rattle.ir_paths.specs.Paths.{same_point}
use Rattle.ir_paths.specs.Windows.{call_operand, instr_at, is_call_of, points_where}
use Rattle.ir_paths.specs.declared.point.Point.{Point}
use Rattle.flow_points.specs.Reached.{IsReached}
use Rattle.rule_windows.specs.Outside.{is_return}
use Rattle.rule_windows.specs.Points.{point_of}

-- ---- calls

abbrev pub is_named_call : Instr → Bool
is_named_call (Instr.Call result must_tail ty (Callee.Named n) args) = true
is_named_call _ = false

-- the function of the module that is called
abbrev pub callee_in : Module → Option Instr → Option ℕ
callee_in m (Some (Instr.Call result must_tail ty (Callee.Named n) args)) = function_named m n
callee_in m _ = None

-- ---- what must be passed

abbrev pub is_destroy_of : Option ℕ → Instr → Bool
is_destroy_of None i = false
is_destroy_of (Some v) i = is_call_of Intrinsic.CoroDestroy i && is_local v (call_operand i 0)

-- the calls of coro.destroy on a value
abbrev pub destroys_of : Function → Option ℕ → List Point
destroys_of f v = points_where (is_destroy_of v) f

abbrev pub is_ret_in : Option Block → ℕ → Bool
is_ret_in None at = false
is_ret_in (Some b) at = (at == length b.instrs) && is_return b.term

-- a ret stands at the point
abbrev pub is_ret_at : Function → Point → Bool
is_ret_at f p = is_ret_in (slice_get f.blocks p.block) p.at

-- the point is a ret, or the call again
abbrev pub ends_use : Function → Point → Point → Bool
ends_use f call p = same_point p call || is_ret_at f p

-- each path from the call to a ret or to the call again passes a coro.destroy of its result
pub record IsDestroyed (f : Function) (call : Point) : Type 0 where
  pub before : (p : Point) → IsReached f (call ∷ []) (destroys_of f (value_at f call)) p → IsFalse (ends_use f call p)

-- ---- sites

-- an elidable function is called
pub record CallsElidable (m : Module) (f : Function) (call : Point) : Type 0 where
  pub callee : ℕ
  pub is_callee : callee_in m (instr_at f call) ≡ Some callee
  pub is_elidable : IsElidable (function_at m callee)

-- the call's result is used in the five ways only, and destroyed on each path
pub record IsHandled (f : Function) (call : Point) : Type 0 where
  pub is_handle : IsTrue (is_handle f (value_at f call))
  pub is_destroyed : IsDestroyed f call

pub record IsSiteAt (m : Module) (f : Function) (call : Point) : Type 0 where
  pub calls : CallsElidable m f call
  pub handled : IsHandled f call

abbrev pub IsSite : Module → Function → Place → Type 0
IsSite m f p = IsSiteAt m f (point_of f p)

-- the calls of named functions, where the function is no coroutine
abbrev pub plain_calls : ℕ → Function → List Place
plain_calls func f = if f.coroutine then [] else places_where is_named_call func f

-- The sites of functions, those of one behind those of the others before it.
pub data AreSitesOf (m : Module) : List Function → List Place → Type 0 where
  NoFunction : AreSitesOf m [] []
  More : (fs : List Function) (f : Function) (before here : List Place) → AreSitesOf m fs before → AreChosen (IsSite m f) (plain_calls (length fs) f) here → AreSitesOf m (fs ++ f ∷ []) (before ++ here)

-- exactly the sites in functions that are no coroutines, in order of place
abbrev pub AreSites : Module → List Place → Type 0
AreSites m all = AreSitesOf m m.functions all

-- ---- a test that needs no search

-- the other point stands behind the call in its block, and is one of so many instructions
abbrev pub is_ahead : ℕ → Point → Point → Bool
is_ahead count call p = (p.block == call.block) && (nat_lt call.at p.at && nat_lt p.at count)

-- one of these points stands behind the call in its block
pub record IsPassed (f : Function) (points : List Point) (call : Point) : Type 0 where
  pub block : Block
  pub is_block : slice_get f.blocks call.block ≡ Some block
  pub is_passed : IsTrue (list_any (is_ahead (length block.instrs) call) points)
