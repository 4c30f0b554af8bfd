-- Where control goes on elsewhere: branches, calls and returns.
use Rattle.std.specs.Prelude.{◌≡◌, ℕ, Bool, List, Option, Result, Some, false, true, slice_get}
use Rattle.pass_kept_proof.specs.ir_base.declared.cause.Cause.{Cause}
use Rattle.pass_kept_proof.specs.ir_model.Names.{function_at, position_of}
use Rattle.pass_kept_proof.specs.ir_model.Ty.{Ty}
use Rattle.pass_kept_proof.specs.ir_model.declared.instr.Instr.{Instr}
use Rattle.pass_kept_proof.specs.ir_model.declared.module.Function.{Function}
use Rattle.pass_kept_proof.specs.ir_model.declared.module.Module.{Module}
use Rattle.pass_kept_proof.specs.ir_model.declared.operand.Arg.{Arg}
use Rattle.pass_kept_proof.specs.ir_model.declared.operand.Callee.{Callee}
use Rattle.pass_kept_proof.specs.ir_model.declared.operand.Intrinsic.{Intrinsic}
use Rattle.pass_kept_proof.specs.ir_paths.Facts.{IsWindow}
use Rattle.pass_kept_proof.specs.ir_paths.Windows.{end_block, leaves, suspend_of}
use Rattle.pass_kept_proof.specs.ir_paths.declared.point.Point.{Point}
use Rattle.pass_kept_proof.specs.ir_paths.declared.point.Window.{Window}
use Rattle.pass_kept_proof.specs.Needed.{BranchesTo}
use Rattle.pass_kept_proof.specs.SuspendRules.{IsCallAt}
use Rattle.pass_kept_proof.specs.run_memory.declared.pointer.Value.{Value}
use Rattle.pass_kept_proof.specs.run_source.Source.{return}
use Rattle.pass_kept_proof.specs.run_source.State.{is_suspended}
use Rattle.pass_kept_proof.specs.run_source.declared.state.Activation.{Activation}
use Rattle.pass_kept_proof.specs.run_source.declared.state.Instance.{Instance}
use Rattle.pass_kept_proof.specs.run_source.declared.state.Saved.{Saved}
use Rattle.pass_kept_proof.specs.run_source.declared.state.State.{State}
use Rattle.pass_kept_proof.specs.run_step.Step.{AtInstr, fetch}
use Rattle.pass_renewed_proof.specs.Ahead.{IsBehindSuspendCall}
use Rattle.pass_renewed_proof.specs.Beside.{place_in}
use Rattle.pass_renewed_proof.specs.Ordinary.{IsOrdinary}
use Rattle.pass_renewed_proof.specs.Renewed.{Roots}

-- a branch to the label stands at the activation's place; the switch of a suspend goes on to the end
pub record IsBranching (m : Module) (a : Activation) (label : ℕ) : Type 0 where
  pub branches : BranchesTo label (fetch (function_at m a.func) a.block a.at)
  pub stops : IsBehindSuspendCall (function_at m a.func) a.block a.at
      → position_of (function_at m a.func) label ≡ end_block (function_at m a.func)

-- the edge leaves no window
abbrev pub StaysInside : Function → Point → Point → Type 0
StaysInside f p q = (k u : Point) → IsCallAt Intrinsic.CoroSave f k → suspend_of f k ≡ Some u
    → (w : Window) × (w.save ≡ k) × (w.suspend ≡ u) × IsWindow f w × (leaves p q w ≡ false)

-- the edge leaves a window
pub record IsLeaving (f : Function) (p q : Point) : Type 0 where
  pub window : Window
  pub is_save : IsCallAt Intrinsic.CoroSave f window.save
  pub takes : suspend_of f window.save ≡ Some window.suspend
  pub facts : IsWindow f window
  pub leaves : leaves p q window ≡ true

-- the instance of a number is the activation's and Suspended, and its own save, with so many below it, is the last one
pub record MayComeBack (xs : List Instance) (depth : ℕ) (a : Activation) (number : ℕ) (x : Instance) : Type 0 where
  pub own : a.instance ≡ Some number
  pub there : slice_get xs number ≡ Some x
  pub suspended : is_suspended x.status ≡ true
  pub saved : Saved
  pub last : x.last_save ≡ Some saved
  pub is_its : saved.depth ≡ depth

-- ---- calls

-- of a defined function, by its name or through a pointer
abbrev pub IsCallee : Callee → Type 0
IsCallee (Callee.Named n) = Unit {0}
IsCallee (Callee.Local v) = Unit {0}
IsCallee _ = ⊥

-- such a call stands at the activation's place, and gives no address in a slot
pub record IsCalling (m : Module) (roots : Roots) (a : Activation) (result : Option ℕ) (must_tail : Bool) (ty : Option
    Ty) (callee : Callee) (args : List Arg) : Type 0 where
  pub place : IsOrdinary (function_at m a.func) (place_in a)
  pub here : fetch (function_at m a.func) a.block a.at ≡ AtInstr (Instr.Call result must_tail ty callee args)
  pub is : IsCallee callee
  pub no_part : (v slot : ℕ) → roots a.func v ≡ Some slot → result ≡ Some v → ⊥

-- ---- returns

-- back in the caller, or the run has returned
abbrev pub returned_by : State → Option Value → Result State Cause
returned_by s v = return s v

-- ---- windows

-- they are the windows of the function's saves, and each save with a suspend has one
pub record AreWindowsOf (f : Function) (windows : List Window) : Type 0 where
  pub each : (k : ℕ) (w : Window) → slice_get windows k ≡ Some w
      → IsCallAt Intrinsic.CoroSave f w.save × (suspend_of f w.save ≡ Some w.suspend) × IsWindow f w
  pub all : (k u : Point) → IsCallAt Intrinsic.CoroSave f k → suspend_of f k ≡ Some u
      → (n : ℕ) × (w : Window) × (slice_get windows n ≡ Some w) × (w.save ≡ k) × (w.suspend ≡ u)
