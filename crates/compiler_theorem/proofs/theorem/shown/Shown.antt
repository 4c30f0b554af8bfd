-- Frames show the fields of suspended instances.
use Rattle.std.proofs.Common.{◌≡◌, ℕ, false, List, Some, refl}
use Rattle.std.specs.Prelude.{slice_get}
use Rattle.compiler_theorem.proofs.theorem.shown.Fields.{was}
use Rattle.compiler_theorem.proofs.theorem.shown.Values.{at_number, coroutine, field_distance, field_value}
use Rattle.compiler_theorem.specs.theorem.Anew.{Anew}
use Rattle.compiler_theorem.specs.theorem.Built.{building}
use Rattle.compiler_theorem.specs.theorem.Entries.{Run}
use Rattle.compiler_theorem.specs.theorem.KeptFields.{AreFieldsKept, HasKeptField, KeepSmallOffsets}
use Rattle.compiler_theorem.specs.theorem.Lowered.{IsLowered, Lowered, edged, sizes_of}
use Rattle.compiler_theorem.specs.theorem.Rows.{joined}
use Rattle.compiler_theorem.specs.theorem.SharedBytes.{AreDistancesIn, AreValuesIn, Frame, HasField}
use Rattle.compiler_theorem.specs.theorem.ShownSlots.{AreFieldsShown, step_homes}
use Rattle.compiler_theorem.specs.theorem.Suspended.{IsSuspendedAs}
use Rattle.compiler_theorem.specs.theorem.Theorem.{AreMadeAnew}
use Rattle.compiler.specs.frame_crossing.Crossing.{Crosses}
use Rattle.compiler.specs.ir_model.Names.{function_at}
use Rattle.compiler.specs.ir_paths.declared.point.Point.{Point}
use Rattle.pass_frames_meaning.specs.pass_frames_proof.Related.{AreBuiltOf}
use Rattle.compiler.specs.pass_proofs.kept.sources.Beside.{IsKeptOf}
use Rattle.compiler.specs.run_framed.Framed.{layout_of}
use Rattle.compiler.specs.run_laws.memory.Pointers.{Home}
use Rattle.compiler.specs.run_source.declared.state.Instance.{Instance}
use Rattle.compiler.specs.run_source.declared.state.State.{State}
use Rattle.compiler.specs.run_source.declared.state.Status.{Status}
use Rattle.compiler.specs.run_step.Values.{Env}
use Rattle.pass_frames_meaning.specs.run_types.Fitting.{HaveBytes}

module _ (l : Lowered) (low : IsLowered l) (a : Anew) (r : Run) (s v u t : State)
    (fields : AreFieldsKept a l low r.answers) (small : KeepSmallOffsets s)
    (kept : IsKeptOf l.source (sizes_of l) r.answers s v) (made : AreMadeAnew l a v u)
    (built : AreBuiltOf (building l low.is_framed r.answers) u t) (fit : HaveBytes t.world.memory) where
  abbrev homes : List Home
  homes = joined (step_homes (edged l) a.flags a.roots v u made) built.homes

  own : (i : ℕ) (x : Instance) → slice_get s.instances i ≡ Some x → x.freed ≡ false → (p : Point) (values : Env)
      → x.status ≡ Status.Suspended p values → IsSuspendedAs s.instances i x.coroutine p values
  own i x e unfreed p values is =
      record { instance = x; there = e; coroutine = refl; status = is; unfreed = unfreed }

  has_field : (i : ℕ) (x : Instance) (p : Point) (values : Env) → IsSuspendedAs s.instances i x.coroutine p values
      → Frame t i → (n offset size : ℕ) → Crosses (function_at l.source x.coroutine) n p
      → HasField l.source (function_at l.source x.coroutine) (layout_of l.layouts.coroutines x.coroutine) n offset size
      → HasKeptField a l ((building l low.is_framed r.answers).framing x.coroutine) x.coroutine p n size
  has_field i x p values h f n offset size crosses field =
      let j = at_number l low a r s v u t kept made built fit i x.coroutine p values h f in
      fields x.coroutine p j.0 n offset size
      (was l low r.answers x.coroutine (coroutine l low a r s v u t kept made built fit i x.coroutine p values h f))
      j.1 crosses field

  values_in : (i : ℕ) (x : Instance) → slice_get s.instances i ≡ Some x → x.freed ≡ false → (f : Frame t i)
      → AreValuesIn l.source (layout_of l.layouts.coroutines x.coroutine) homes x f.instance.start f.block
  values_in i x e unfreed f p values n offset size is crosses field apart =
      let h = own i x e unfreed p values is in
      let k = has_field i x p values h f n offset size crosses field in
      field_value l low a r s v u t kept made built fit i x.coroutine p values h f n offset size k.value k.kept field
      (k.values apart)

  distances_in : (i : ℕ) (x : Instance) → slice_get s.instances i ≡ Some x → x.freed ≡ false → (f : Frame t i)
      → AreDistancesIn l.source (layout_of l.layouts.coroutines x.coroutine) homes x f.instance.start f.block
  distances_in i x e unfreed f p values n offset size at o is crosses field among address =
      let h = own i x e unfreed p values is in
      let k = has_field i x p values h f n offset size crosses field in
      field_distance l low a r s v u t kept made built fit i x.coroutine p values h f
      n offset size k.value k.kept field
      (k.distances among) at o address (small i x p values n at o e is address)

  pub fields_shown : AreFieldsShown l.source l.layouts.coroutines homes s t
  fields_shown i x e unfreed f = (values_in i x e unfreed f, distances_in i x e unfreed f)
