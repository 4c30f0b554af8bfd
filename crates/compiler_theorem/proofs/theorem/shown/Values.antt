-- Values that cross suspends of a source stand in the fields of frames.
use Rattle.std.proofs.Common.{◌≡◌, ◌⊎◌, inl, inr, ℕ, ◌+◌, ◌%◌, ◌^◌, ◌<◌, true, List, Option, length, sym, ap, ◌∙◌, subst, arith}
use Rattle.compiler_theorem.proofs.theorem.shown.Fields.{IsFieldOf, field_found}
use Rattle.compiler_theorem.proofs.theorem.shown.Homes.{value_joined}
use Rattle.compiler_theorem.proofs.theorem.shown.KeptStatus.{kept_suspended}
use Rattle.compiler_theorem.proofs.theorem.shown.Status.{HasSuspended, distance_held, step_suspended, value_held}
use Rattle.compiler_theorem.specs.theorem.Anew.{Anew}
use Rattle.compiler_theorem.specs.theorem.Built.{building}
use Rattle.compiler_theorem.specs.theorem.Entries.{Run}
use Rattle.compiler_theorem.specs.theorem.Lowered.{IsLowered, Lowered, early, edged, sizes_of}
use Rattle.compiler_theorem.specs.theorem.Rows.{joined}
use Rattle.compiler_theorem.specs.theorem.SharedBytes.{Frame, HasField, StandAt}
use Rattle.compiler_theorem.specs.theorem.ShownSlots.{step_homes}
use Rattle.compiler_theorem.specs.theorem.Suspended.{HasValue, IsDistanceKept, IsFieldKept, IsSuspendedAlike, IsSuspendedAs, IsValueKept, kept_place}
use Rattle.compiler_theorem.specs.theorem.Theorem.{AreMadeAnew}
use Rattle.compiler.specs.ir_model.Names.{function_at}
use Rattle.compiler.specs.ir_model.Ty.{Ty}
use Rattle.compiler.specs.ir_paths.declared.point.Point.{Point}
use Rattle.compiler.specs.pass_cells.declared.plan.KeptValue.{KeptValue}
use Rattle.compiler.specs.pass_fetch.Fetching.{value_bytes}
use Rattle.compiler.specs.pass_frames.Tables.{offset_at}
use Rattle.pass_frames_meaning.specs.pass_frames_proof.Places.{Framing}
use Rattle.pass_frames_meaning.specs.pass_frames_proof.Related.{AreBuiltOf, AreFieldsRight, AreInstances, Building, IsDistanceOf, IsKeptAs, IsStatus, IsSuspendNumber}
use Rattle.compiler.specs.pass_proofs.kept.sources.Beside.{IsKeptOf}
use Rattle.pass_frames_meaning.specs.pass_renewed_proof.SlotEnvs.{IsAddress}
use Rattle.compiler.specs.run_framed.Framed.{frame_rights, layout_of}
use Rattle.compiler.specs.run_laws.access.Lines.{Holds}
use Rattle.compiler.specs.run_laws.memory.Pointers.{Home, IsValue}
use Rattle.compiler.specs.run_memory.Memory.{Rights, decode, digits, encode}
use Rattle.compiler.specs.run_memory.Pointers.{moved}
use Rattle.compiler.specs.run_memory.declared.block.Byte.{Byte}
use Rattle.compiler.specs.run_memory.declared.pointer.Access.{Access}
use Rattle.compiler.specs.run_memory.declared.pointer.Offset.{Offset}
use Rattle.compiler.specs.run_memory.declared.pointer.Pointer.{Pointer}
use Rattle.compiler.specs.run_memory.declared.pointer.Value.{Value}
use Rattle.compiler.specs.run_source.declared.state.State.{State}
use Rattle.compiler.specs.run_source.declared.state.Status.{Status}
use Rattle.compiler.specs.run_step.Values.{Env, access_of, value_in}
use Rattle.pass_frames_meaning.specs.run_types.Fitting.{HaveBytes}

-- ---- values in a row

value_row : (homes more : List Home) (values others last : Env) (v : ℕ) (d : Value) → HasValue values others v
    → IsValue homes (value_in others v) (value_in last v) → IsValue more (value_in last v) d
    → IsValue (joined homes more) (value_in values v) d
value_row homes more values others last v d (inl e) h k =
    subst (λ (x : Value). IsValue (joined homes more) x d) (sym e) tt
value_row homes more values others last v d (inr e) h k =
    subst (λ (x : Value). IsValue (joined homes more) x d) e
    (value_joined homes more (value_in others v) (value_in last v) d h k)

offset_of : Offset → Value → Offset
offset_of o (Value.Ptr (Pointer.At b p)) = p
offset_of o (Value.Ptr Pointer.Null) = o
offset_of o (Value.Ptr (Pointer.Func f)) = o
offset_of o (Value.Int x) = o
offset_of o Value.Poison = o

no_poison : (b : ℕ) (o : Offset) (v : Value) → v ≡ Value.Ptr (Pointer.At b o) → v ≡ Value.Poison → ⊥
no_poison b o v e d = let no : Value.Ptr (Pointer.At b o) ≡ Value.Poison = sym e ∙ d in absurd (cc)

small_offset : (bits : ℕ) → bits < 2 ^ 64 → (bits + 0) % 2 ^ 64 ≡ bits
small_offset bits lt = omega (arith, lt)

distance_row : (values others last : Env) (v root : ℕ) (other slot d : Value) (b : ℕ) (o : Offset)
    → HasValue values others v → value_in values v ≡ Value.Ptr (Pointer.At b o) → o.bits < 2 ^ 64
    → (value_in others v ≡ Value.Poison) ⊎ IsAddress (value_in others root) other (value_in others v) (value_in last v)
    → IsDistanceOf slot (value_in last v) d → d ≡ Value.Int (record { width = 64; bits = o.bits })
unfolding offset_of
distance_row values others last v root other slot d b o (inl e) is lt h k =
    absurd (no_poison b o (value_in values v) is e)
distance_row values others last v root other slot d b o (inr e) is lt (inl p) k =
    absurd (no_poison b o (value_in others v) (e ∙ is) p)
distance_row values others last v root other slot d b o (inr e) is lt (inr a) (inl p) =
    absurd (no_poison a.target (moved a.offset 0) (value_in last v) a.stands p)
distance_row values others last v root other slot d b o (inr e) is lt (inr a) (inr k) =
    let first : a.offset ≡ o = ap (offset_of o) (sym a.source ∙ e ∙ is) in
    let second : k.1 ≡ moved a.offset 0 = ap (offset_of o) (sym k.3 ∙ a.stands) in
    let bits : k.1.bits ≡ o.bits =
    ap (λ (p : Offset). p.bits) second ∙ ap (λ (p : Offset). (moved p 0).bits) first ∙ small_offset o.bits lt in
    k.5 ∙ ap (λ (n : ℕ). Value.Int (record { width = 64; bits = n })) bits

-- ---- states in a row

module _ (l : Lowered) (low : IsLowered l) (a : Anew) (r : Run) (s v u t : State)
    (kept : IsKeptOf l.source (sizes_of l) r.answers s v) (made : AreMadeAnew l a v u)
    (built : AreBuiltOf (building l low.is_framed r.answers) u t) (fit : HaveBytes t.world.memory) (i func : ℕ)
    (p : Point) (values : Env) (h : IsSuspendedAs s.instances i func p values) (f : Frame t i) where
  abbrev b : Building
  b = building l low.is_framed r.answers

  abbrev x : Framing
  x = b.framing func

  abbrev first : List Home
  first = step_homes (edged l) a.flags a.roots v u made

  abbrev rights : Rights
  rights = frame_rights b.given t.instances

  alike : IsSuspendedAlike l.source v.instances i func p values
  alike = kept_suspended l.source (sizes_of l) r.answers s v kept i func p values h

  renewed : HasSuspended first a.roots u.instances i func (kept_place l.source func p) alike.others
  renewed = step_suspended (edged l) a.flags a.roots v u made i func (kept_place l.source func p) alike.others
      alike.as_it_was

  instances : AreInstances b built.homes t renewed.own.instance f.instance
  instances = built.instances i renewed.own.instance f.instance renewed.own.there f.there

  status : IsStatus b built.homes t renewed.own.instance f.instance
      (Status.Suspended (kept_place l.source func p) renewed.others) f.instance.status
  status = subst (λ (z : Status). IsStatus b built.homes t renewed.own.instance f.instance z f.instance.status)
      renewed.own.status instances.status

  pub coroutine : (function_at (early l) func).coroutine ≡ true
  coroutine = ap (λ (k : ℕ). (function_at (early l) k).coroutine) (sym renewed.own.coroutine) ∙ instances.is_coroutine

  number : IsSuspendNumber x status.1 (kept_place l.source func p)
  number = subst (λ (k : ℕ). IsSuspendNumber (b.framing k) status.1 (kept_place l.source func p)) renewed.own.coroutine
      status.3

  -- the suspend has a number
  pub at_number : (j : ℕ) × IsSuspendNumber x j (kept_place l.source func p)
  at_number = (status.1, number)

  fields : AreFieldsRight x built.homes rights t.world.memory status.1 renewed.others f.instance.block f.instance.start
  fields = subst (λ (k : ℕ). AreFieldsRight (b.framing k) built.homes rights t.world.memory status.1 renewed.others
      f.instance.block f.instance.start) renewed.own.coroutine (status.4 renewed.own.unfreed)

  module _ (n offset size : ℕ) (k : KeptValue) (is : IsFieldKept l.source x func p n size k)
      (field : HasField l.source (function_at l.source func) (layout_of l.layouts.coroutines func) n offset size) where
    found : IsFieldOf l low r.answers func coroutine n offset
    found = field_found l low r.answers func coroutine n offset size field

    held : (bytes : List Byte) × (length bytes ≡ value_bytes k.field_ty)
        × Holds rights t.world.memory f.instance.block (f.instance.start + offset_at x.layout found.position)
        (value_bytes k.field_ty) bytes
        × IsKeptAs built.homes renewed.others n k k.slot (decode (access_of k.field_ty) bytes)
    held = fields.each n found.position k is.kept (is.crossing status.1 number) found.position_is

    start : f.instance.start + offset_at x.layout found.position ≡ f.instance.start + offset
    start = ap (λ (o : ℕ). f.instance.start + o) found.offset_is

    pub field_value : IsValueKept (a.roots func) n k
        → StandAt (joined first built.homes) (encode size (value_in values n)) f.block (f.instance.start + offset)
    field_value own =
        let keeps = subst (λ (o : Option ℕ). IsKeptAs built.homes renewed.others n k o
        (decode (access_of k.field_ty) held.0)) own.no_slot held.3 in
        subst (StandAt (joined first built.homes) (encode size (value_in values n)) f.block) start
        (value_held rights t.world.memory f.instance.block (f.instance.start + offset_at x.layout found.position)
        (value_bytes k.field_ty) held.0 f.block fit held.2 f.held (joined first built.homes) (access_of k.field_ty)
        (value_in values n) size (held.1 ∙ is.bytes)
        (value_row first built.homes values alike.others renewed.others n (decode (access_of k.field_ty) held.0)
        (alike.each n is.needed) (renewed.envs.plain n own.unrooted) keeps))

    pub field_distance : IsDistanceKept (a.roots func) n k → (at : ℕ) (o : Offset)
        → value_in values n ≡ Value.Ptr (Pointer.At at o) → o.bits < 2 ^ 64
        → StandAt (joined first built.homes) (digits size o.bits) f.block (f.instance.start + offset)
    field_distance own at o address small =
        let keeps = subst (λ (z : Option ℕ). IsKeptAs built.homes renewed.others n k z
        (decode (access_of k.field_ty) held.0)) own.has_slot held.3 in
        let is_number : decode (Access.Int 64) held.0 ≡ Value.Int (record { width = 64; bits = o.bits }) =
        ap (λ (ty : Ty). decode (access_of ty) held.0) (sym own.number)
        ∙ distance_row values alike.others renewed.others n own.root (value_in renewed.others own.root)
        (value_in renewed.others own.slot) (decode (access_of k.field_ty) held.0) at o (alike.each n is.needed) address
        small (renewed.envs.rooted n own.root own.rooted) keeps in
        subst (StandAt (joined first built.homes) (digits size o.bits) f.block) start
        (distance_held rights t.world.memory f.instance.block (f.instance.start + offset_at x.layout found.position)
        (value_bytes k.field_ty) held.0 f.block fit held.2 f.held (joined first built.homes) size o.bits
        (held.1 ∙ is.bytes) is_number)
