-- An activation that a coro.destroy has called: it has released its instance, or has yet to come to a coro.free.
use Rattle.std.specs.Prelude.{◌≡◌, ◌+◌, ◌<◌, ℕ, Bool, true, false, List, [], ◌∷◌, slice_get, Some, Option}
use Rattle.elide_sites.specs.Destroyed.{IsOn, is_free}
use Rattle.elide_sites.specs.declared.destroyed.Way.{Way}
use Rattle.pass_elide_proof.specs.Places.{instrs_of}
use Rattle.pass_proofs.specs.ir_model.Names.{function_at, position_of}
use Rattle.pass_proofs.specs.ir_model.Ty.{Ty}
use Rattle.pass_proofs.specs.ir_model.declared.instr.Instr.{Instr}
use Rattle.pass_proofs.specs.ir_model.declared.module.Function.{Function}
use Rattle.pass_proofs.specs.ir_model.declared.module.Module.{Module}
use Rattle.pass_proofs.specs.ir_model.declared.operand.Arg.{Arg}
use Rattle.pass_proofs.specs.ir_model.declared.operand.Callee.{Callee}
use Rattle.pass_proofs.specs.ir_model.declared.operand.Intrinsic.{Intrinsic}
use Rattle.pass_proofs.specs.ir_paths.Windows.{destroy_label, end_block, is_call_of}
use Rattle.pass_proofs.specs.ir_paths.declared.point.Point.{Point}
use Rattle.pass_proofs.specs.run_source.declared.state.Activation.{Activation}
use Rattle.pass_proofs.specs.run_source.declared.state.Instance.{Instance}
use Rattle.pass_proofs.specs.run_source.declared.state.Mode.{Mode}
use Rattle.pass_proofs.specs.run_source.declared.state.State.{State}
use Rattle.pass_proofs.specs.run_source.declared.state.Status.{Status}
use Rattle.pass_proofs.specs.run_step.Step.{AtInstr, fetch}
use Rattle.pass_proofs.specs.run_step.Values.{Env}

-- the activation stands behind a coro.destroy of its block
pub record IsBehindDestroy (f : Function) (b : Activation) : Type 0 where
  pub at : ℕ
  pub behind : b.at ≡ at + 1
  pub instr : Instr
  pub there : slice_get (instrs_of f b.block) at ≡ Some instr
  pub destroys : is_call_of Intrinsic.CoroDestroy instr ≡ true

-- the instance was released; or its activation is on a path from a destroy edge on which no coro.free stands; or it is
-- about to enter such a path behind its allocas
pub data IsToFree (f : Function) (x : Instance) (a : Activation) : Type 0 where
  Released : x.released ≡ true → IsToFree f x a
  Unfreed : IsOn Way.Unfreed f a.block
      → ((k : ℕ) (i : Instr) → k < a.at → slice_get (instrs_of f a.block) k ≡ Some i → is_free i ≡ false)
      → ((from label : ℕ) → a.mode ≡ Mode.Entering from label → ⊥) → IsToFree f x a
  Entering : (from label : ℕ) → a.mode ≡ Mode.Entering from label → IsOn Way.Unfreed f (position_of f label)
      → IsToFree f x a

-- the activation has an instance that it is to free
pub record HasToFree (m : Module) (xs : List Instance) (a : Activation) : Type 0 where
  pub number : ℕ
  pub instance : Instance
  pub own : a.instance ≡ Some number
  pub there : slice_get xs number ≡ Some instance
  pub frees : IsToFree (function_at m a.func) instance a

-- so it is with each that stands right on top of one which is behind a coro.destroy
abbrev pub AreToFree : Module → List Instance → List Activation → Type 0
AreToFree m xs [] = Unit {0}
AreToFree m xs (a ∷ []) = Unit {0}
AreToFree m xs (a ∷ b ∷ below) =
    (IsBehindDestroy (function_at m b.func) b → HasToFree m xs a) × AreToFree m xs (b ∷ below)

abbrev pub DestroysAreToFree : Module → State → Type 0
DestroysAreToFree m s = AreToFree m s.instances (s.top ∷ s.below)

-- from where a destroy of a suspended instance would enter it a path goes on to a coro.free
abbrev pub AreDestroysOnWay : Module → List Instance → Type 0
AreDestroysOnWay m xs =
    (i : ℕ) (x : Instance) (p : Point) (values : Env) → slice_get xs i ≡ Some x → x.status ≡ Status.Suspended p values
    → IsOn Way.Unfreed (function_at m x.coroutine)
    (position_of (function_at m x.coroutine) (destroy_label (function_at m x.coroutine) p))

-- ---- the end

-- an activation that a coro.destroy has called is at coro.end
pub record IsAtDestroyedEnd (m : Module) (s : State) : Type 0 where
  pub caller : Activation
  pub callers : List Activation
  pub below : s.below ≡ caller ∷ callers
  pub behind : IsBehindDestroy (function_at m caller.func) caller
  pub resumed : s.top.mode ≡ Mode.Resumed
  pub result : Option ℕ
  pub must_tail : Bool
  pub ty : Option Ty
  pub args : List Arg
  pub there : fetch (function_at m s.top.func) s.top.block s.top.at
      ≡ AtInstr (Instr.Call result must_tail ty (Callee.Intrinsic Intrinsic.CoroEnd) args)
  pub block : s.top.block ≡ end_block (function_at m s.top.func)
