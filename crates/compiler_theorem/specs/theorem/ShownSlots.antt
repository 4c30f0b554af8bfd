-- Which parts of states in a row stand in frames.
use Rattle.std.specs.Prelude.{◌≡◌, ℕ, false, List, Some, slice_get}
use Rattle.compiler_theorem.specs.theorem.SharedBytes.{AreDistancesIn, AreSlotsIn, AreValuesIn, Frame}
use Rattle.compiler.specs.frame_layout.declared.layout.Layout.{Layout}
use Rattle.compiler.specs.ir_model.declared.module.Module.{Module}
use Rattle.pass_frames_meaning.specs.pass_renewed_meaning.Followed.{AreInStep, Ended, Goes}
use Rattle.pass_frames_meaning.specs.pass_renewed_proof.Renewed.{Flags, Roots}
use Rattle.compiler.specs.run_framed.Framed.{layout_of}
use Rattle.compiler.specs.run_laws.memory.Pointers.{Home}
use Rattle.compiler.specs.run_source.declared.state.Instance.{Instance}
use Rattle.compiler.specs.run_source.declared.state.State.{State}

-- the homes of a state's memory in that of the run that makes slots anew
abbrev pub step_homes : (m : Module) (flags : Flags) (roots : Roots) (s t : State) → AreInStep m flags roots s t
    → List Home
step_homes m flags roots s t (Goes h) = h.ledger.homes
step_homes m flags roots s t (Ended h) = h.last.beside.ledger.homes

-- the frame of each instance is there, and has its live frame slots
abbrev pub AreSlotsShown : Module → List Layout → List Home → State → State → Type 0
AreSlotsShown m layouts homes s t =
    (i : ℕ) (x : Instance) → slice_get s.instances i ≡ Some x
    → (y : Frame t i) × AreSlotsIn m (layout_of layouts x.coroutine) homes s x y.instance.start y.block

-- the frame of each instance whose block isn't freed has the values that cross its suspend, and the distances
abbrev pub AreFieldsShown : Module → List Layout → List Home → State → State → Type 0
AreFieldsShown m layouts homes s t =
    (i : ℕ) (x : Instance) → slice_get s.instances i ≡ Some x → x.freed ≡ false → (y : Frame t i)
    → AreValuesIn m (layout_of layouts x.coroutine) homes x y.instance.start y.block
    × AreDistancesIn m (layout_of layouts x.coroutine) homes x y.instance.start y.block
