-- Live frame slots of a source's run stand in the frames of the framed run.
use Rattle.std.proofs.Common.{◌≡◌, ℕ, zero, suc, ◌+◌, ◌≤◌, true, List, [], ◌∷◌, None, Some, length, take, drop, sym, ap, ◌∙◌, subst, arith}
use Rattle.std.specs.List.{Contains}
use Rattle.std.specs.Prelude.{◌==◌, slice_get}
use Rattle.compiler_theorem.proofs.theorem.shown.Fields.{field_found, frame_unflagged}
use Rattle.compiler_theorem.proofs.theorem.shown.Homes.{bytes_joined}
use Rattle.compiler_theorem.proofs.theorem.shown.Kept.{HasLike, kept_instance, kept_world}
use Rattle.compiler_theorem.proofs.theorem.shown.Placed.{frame_there, slot_placed}
use Rattle.compiler_theorem.proofs.theorem.shown.Step.{HasFrameBeside, step_frame, step_slot}
use Rattle.compiler_theorem.specs.theorem.Anew.{Anew, IsAnewOf}
use Rattle.compiler_theorem.specs.theorem.Built.{building}
use Rattle.compiler_theorem.specs.theorem.Entries.{Run}
use Rattle.compiler_theorem.specs.theorem.Lowered.{IsLowered, Lowered, early, edged, sizes_of, source_run}
use Rattle.compiler_theorem.specs.theorem.Rows.{joined}
use Rattle.compiler_theorem.specs.theorem.SharedBytes.{AreSlotsIn, Frame, StandAt}
use Rattle.compiler_theorem.specs.theorem.ShownSlots.{AreSlotsShown, step_homes}
use Rattle.compiler_theorem.specs.theorem.Theorem.{AreMadeAnew}
use Rattle.compiler.specs.frame_contents.Held.{position_of}
use Rattle.compiler.specs.ir_model.Names.{function_at}
use Rattle.compiler.specs.pass_frames.Tables.{offset_at}
use Rattle.pass_frames_meaning.specs.pass_frames_proof.Related.{AreBuiltOf, Building}
use Rattle.compiler.specs.pass_proofs.kept.sources.Beside.{IsKeptOf}
use Rattle.compiler.specs.run_agreement.Machines.{state_at}
use Rattle.compiler.specs.run_framed.Framed.{layout_of}
use Rattle.pass_frames_meaning.proofs.run_hooks.Steps.{same_runs, source_step}
use Rattle.pass_frames_meaning.specs.run_hooks.Hooks.{step_of}
use Rattle.pass_frames_meaning.specs.run_hooks.Meanings.{source_hooks}
use Rattle.compiler.specs.run_laws.memory.Pointers.{AreBytes, Home}
use Rattle.compiler.specs.run_memory.declared.block.Byte.{Byte}
use Rattle.compiler.specs.run_memory.declared.block.MemoryBlock.{MemoryBlock}
use Rattle.pass_frames_meaning.proofs.run_slots.Meanings.{source_keeps_slots}
use Rattle.pass_frames_meaning.proofs.run_slots.Steps.{states_slotted}
use Rattle.pass_frames_meaning.proofs.run_slots.Times.{itself, same_there}
use Rattle.pass_frames_meaning.specs.run_slots.Slots.{IsSlottedState, once_if, times, times_in}
use Rattle.compiler.specs.run_source.Source.{continue, first_state, given, step}
use Rattle.compiler.specs.run_source.declared.state.Instance.{Instance}
use Rattle.compiler.specs.run_source.declared.state.State.{State}
use Rattle.compiler.specs.run_source_tables.Given.{Given}
use Rattle.compiler.specs.run_step.declared.world.Slot.{Slot}
use Rattle.compiler.specs.run_step.declared.world.World.{World}

-- ---- slots of a source's run

pub source_slotted : (l : Lowered) (r : Run) (n : ℕ) → IsSlottedState (state_at (source_run l r) n)
source_slotted l r n =
    let g : Given = given l.source (sizes_of l) r.answers in
    let e = same_runs (step g) (step_of (source_hooks g)) (source_step g (continue g)) n
    (first_state g.code r.entry r.args) in
    subst IsSlottedState (sym e) (states_slotted (source_hooks g) (source_keeps_slots g) r.entry r.args n)

contained_times : (ss : List Slot) (slot : Slot) → Contains ss slot → 1 ≤ times slot.block ss
contained_times [] slot (k, lt, e) = absurd (omega (arith, lt))
contained_times (s ∷ ss) slot (zero, lt, e) =
    let k : once_if (s.block == slot.block) ≡ 1 =
    ap (λ (z : Slot). once_if (s.block == z.block)) (sym e) ∙ ap once_if (itself s.block) in
    omega (arith, k)
contained_times (s ∷ ss) slot (suc k, lt, e) =
    let h = contained_times ss slot (k, omega (arith, lt), e) in omega (arith, h)

times_among : (n : ℕ) (xs : List Instance) (i : ℕ) (x : Instance) → slice_get xs i ≡ Some x
    → times n x.slots ≤ times_in n xs
times_among n [] i x e = absurd (cc)
times_among n (z ∷ xs) zero x e =
    let same : z ≡ x = cc in
    let k : times n z.slots ≡ times n x.slots = ap (λ (y : Instance). times n y.slots) same in
    omega (arith, k)
times_among n (z ∷ xs) (suc i) x e = let h = times_among n xs i x e in omega (arith, h)

-- nobody owns the block of an instance's slot
slot_free : (s : State) → IsSlottedState s → (i : ℕ) (x : Instance) → slice_get s.instances i ≡ Some x → (slot : Slot)
    → Contains x.slots slot → (y : MemoryBlock) → slice_get s.world.memory slot.block ≡ Some y → y.owned ≡ None
slot_free s h i x e slot own y there =
    let one = contained_times x.slots slot own in
    let among = times_among slot.block s.instances i x e in
    let z = h.slotted.there slot.block (omega (arith, one, among)) in
    ap (λ (w : MemoryBlock). w.owned)
    (same_there (slice_get s.world.memory slot.block) y z.block there z.there) ∙ z.free

-- ---- in a row

rows_joined : (homes others : List Home) (xs ys : List Byte) (block : MemoryBlock) (at : ℕ) → length ys ≡ length xs
    → AreBytes homes xs ys → StandAt others ys block at → StandAt (joined homes others) xs block at
rows_joined homes others xs ys block at long h k =
    bytes_joined homes others xs ys (take (length xs) (drop at block.bytes)) h
    (subst (λ (n : ℕ). AreBytes others ys (take n (drop at block.bytes))) long k)

module _ (l : Lowered) (low : IsLowered l) (a : Anew) (anew : IsAnewOf (early l) a) (r : Run) (n : ℕ) (v u t : State)
    (kept : IsKeptOf l.source (sizes_of l) r.answers (state_at (source_run l r) n) v) (made : AreMadeAnew l a v u)
    (built : AreBuiltOf (building l low.is_framed r.answers) u t) where
  abbrev s : State
  s = state_at (source_run l r) n

  abbrev b : Building
  b = building l low.is_framed r.answers

  abbrev first : List Home
  first = step_homes (edged l) a.flags a.roots v u made

  world : v.world ≡ s.world
  world = kept_world l.source (sizes_of l) r.answers s v kept

  module _ (i : ℕ) (x : Instance) (e : slice_get s.instances i ≡ Some x) where
    abbrev like : HasLike v.instances i x
    like = kept_instance l.source (sizes_of l) r.answers s v kept i x e

    frame_beside : HasFrameBeside u i like.instance
    frame_beside =
        let z = (source_slotted l r n).slotted.frames i x e in
        step_frame (edged l) a.flags a.roots v u made i like.instance like.there z.block
        ((λ j. slice_get (world j).memory (like.like.block j)) ∙ z.there)

    pub frame : Frame t i
    frame = frame_there b u t built i frame_beside.instance frame_beside.there frame_beside.block frame_beside.held

    pub coroutine : (function_at (early l) x.coroutine).coroutine ≡ true
    coroutine =
        let f = frame_beside in
        let is = (built.instances i f.instance frame.instance f.there frame.there).is_coroutine in
        subst (λ (k : ℕ). (function_at (early l) k).coroutine ≡ true) (f.coroutine ∙ like.like.coroutine) is

    pub slots_in : AreSlotsIn l.source (layout_of l.layouts.coroutines x.coroutine) (joined first built.homes) s x
        frame.instance.start frame.block
    slots_in slot y offset own class there live field =
        let off = frame_unflagged l low r.answers x.coroutine coroutine a anew slot.alloca class in
        let free = slot_free s (source_slotted l r n) i x e slot own y there in
        let z = step_slot (edged l) a.flags a.roots v u made i like.instance like.there slot
        (subst (λ (ss : List Slot). Contains ss slot) (sym like.like.slots) own)
        (ap (λ (k : ℕ). a.flags k slot.alloca) like.like.coroutine ∙ off) y
        (ap (λ (w : World). slice_get w.memory slot.block) world ∙ there) live free in
        let found = field_found l low r.answers x.coroutine coroutine slot.alloca offset y.size field in
        let st = z.standing in
        let same : z.instance.coroutine ≡ x.coroutine = z.coroutine ∙ like.like.coroutine in
        rows_joined first built.homes y.bytes st.bytes frame.block (frame.instance.start + offset) st.full st.stand
        (slot_placed b u t built i z.instance z.there frame (record { alloca = slot.alloca; block = z.block }) z.own
        (record y { bytes = st.bytes }) st.there live free found.position offset
        (ap (λ (k : ℕ). position_of (b.framing k).contents.held slot.alloca) same ∙ found.position_is)
        (ap (λ (k : ℕ). offset_at (b.framing k).layout found.position) same ∙ found.offset_is))

  pub slots_shown : AreSlotsShown l.source l.layouts.coroutines (joined first built.homes) s t
  slots_shown i x e = (frame i x e, slots_in i x e)
