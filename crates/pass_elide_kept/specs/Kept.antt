-- The relation that is carried through both runs: the states are related, and the handle of each instance whose frame
-- was given is kept by its caller until a destroy has freed it in the framed run.
use Rattle.std.specs.Prelude.{◌≡◌, ◌⊎◌, ◌<◌, ℕ, true, List, [], ◌∷◌, slice_get, Some, None, Option}
use Rattle.std.specs.List.{Contains}
use Rattle.elide_sites.specs.Sites.{destroys_of}
use Rattle.pass_elide_proof.specs.Elision.{Elision, function_in}
use Rattle.pass_elide_proof.specs.Invariant.{IsDestroying, IsSiteOf, StandsAt, behind}
use Rattle.pass_elide_proof.specs.Places.{instrs_of}
use Rattle.pass_elide_proof.specs.Statement.{AreRelated}
use Rattle.pass_elide_proof.specs.pass_proofs.flow_points.Reached.{IsReached}
use Rattle.pass_elide_proof.specs.pass_proofs.ir_model.declared.instr.Instr.{Instr}
use Rattle.pass_elide_proof.specs.pass_proofs.ir_model.declared.operand.Intrinsic.{Intrinsic}
use Rattle.pass_elide_proof.specs.pass_proofs.ir_parts.Contents.{result_of}
use Rattle.pass_elide_proof.specs.pass_proofs.ir_paths.Windows.{is_call_of}
use Rattle.pass_elide_proof.specs.pass_proofs.ir_paths.declared.point.Point.{Point}
use Rattle.pass_elide_proof.specs.pass_proofs.run_framed.Framed.{is_given}
use Rattle.pass_elide_proof.specs.pass_proofs.run_memory.declared.pointer.Value.{Value}
use Rattle.pass_elide_proof.specs.pass_proofs.run_source.State.{began_at, frame_address_of, is_finished}
use Rattle.pass_elide_proof.specs.pass_proofs.run_source.declared.state.Activation.{Activation}
use Rattle.pass_elide_proof.specs.pass_proofs.run_source.declared.state.Instance.{Instance}
use Rattle.pass_elide_proof.specs.pass_proofs.run_source.declared.state.Mode.{Mode}
use Rattle.pass_elide_proof.specs.pass_proofs.run_source.declared.state.State.{State}
use Rattle.pass_elide_proof.specs.pass_proofs.run_step.Values.{pointer_to, value_in}

-- ---- an activation that keeps a handle

-- The caller waits for the ramp right above it; or no destroy of its handle has been passed since the call; or it
-- stands behind a coro.destroy and waits for what that has called.
pub data Keeps (e : Elision) (y : Instance) (number : ℕ) (call : Point) (i : Instr) (c : Activation)
    : Option Activation → Type 0 where
  Calling : (d : Activation) → StandsAt e c (behind call) → (d.func ≡ y.coroutine) → (d.result ≡ result_of i)
      → (d.instance ≡ Some number) → ((frame : Value) × (d.mode ≡ Mode.GivenRamp frame))
      → Keeps e y number call i c (Some d)
  Held : (p : Point) (above : Option Activation) → StandsAt e c p
      → IsReached (function_in e c.func) (call ∷ []) (destroys_of (function_in e c.func) (result_of i)) p
      → ((v : ℕ) → result_of i ≡ Some v → value_in c.values v ≡ frame_address_of y)
      → Keeps e y number call i c above
  Destroying : (p : Point) (j : Instr) (v : ℕ) (d : Activation) → StandsAt e c (behind p)
      → slice_get (instrs_of (function_in e c.func) p.block) p.at ≡ Some j → is_call_of Intrinsic.CoroDestroy j ≡ true
      → result_of i ≡ Some v → IsDestroying e y number d → Keeps e y number call i c (Some d)

-- The activation that called it by a site, with the one right above it. Its alloca has the frame.
pub record HasKeeper (e : Elision) (y : Instance) (number : ℕ) (c : Activation) (above : Option Activation)
    : Type 0 where
  pub call : Point
  pub instr : Instr
  pub name : ℕ
  pub site : IsSiteOf e c.func call instr name
  pub start : y.start ≡ 0
  pub address : value_in c.values name ≡ pointer_to y.block
  pub slot : Contains c.slots (record { alloca = name; block = y.block })
  pub keeps : Keeps e y number call instr c above

-- some activation of the stack is; the one right above it is given
abbrev pub IsKeptIn : Elision → Instance → ℕ → Option Activation → List Activation → Type 0
IsKeptIn e y number above [] = ⊥
IsKeptIn e y number above (c ∷ below) = HasKeeper e y number c above ⊎ IsKeptIn e y number (Some c) below

-- ---- states

-- An instance of both runs whose frame was given in the second one.
pub record IsGivenAt (s t : State) (number : ℕ) (x y : Instance) : Type 0 where
  pub first : slice_get s.instances number ≡ Some x
  pub second : slice_get t.instances number ≡ Some y
  pub given : is_given t.world.memory y ≡ true

-- it is over, and was freed in the framed run
abbrev pub IsFreed : Instance → Instance → Type 0
IsFreed x y = (is_finished y.status ≡ true) × (x.freed ≡ true)

pub record HaveKeepers (e : Elision) (s t : State) : Type 0 where
  -- it was freed, or an activation keeps its handle
  pub each : (number : ℕ) (x y : Instance) → IsGivenAt s t number x y
      → IsFreed x y ⊎ IsKeptIn e y number None (t.top ∷ t.below)
  -- it was freed if a later one began in its place
  pub replaced : (number later : ℕ) (x y z : Instance) → IsGivenAt s t number x y → slice_get t.instances later ≡ Some z
      → number < later → began_at y.block y.start z ≡ true → IsFreed x y

pub record AreKept (e : Elision) (s t : State) : Type 0 where
  pub related : AreRelated e s t
  pub keepers : HaveKeepers e s t
