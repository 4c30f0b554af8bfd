-- Frame slots, and values that cross suspends, have fields.
use Rattle.std.proofs.Common.{◌≡◌, ◌∷◌, ℕ, true, List, Some, refl, sym, ap, ◌∙◌, subst}
use Rattle.std.specs.List.{Contains}
use Rattle.std.specs.Prelude.{slice_get, slice_index_or}
use Rattle.compiler_theorem.proofs.apart.Facts as facts
use Rattle.compiler_theorem.proofs.apart.Kept.{alive, edged_is}
use Rattle.compiler_theorem.proofs.apart.Whole.{IsOfSize, size_there}
use Rattle.compiler_theorem.proofs.kinds.Held.{IsPlacedAs}
use Rattle.compiler_theorem.proofs.theorem.Needed.{StandsIn, stands_at}
use Rattle.compiler_theorem.proofs.theorem.shown.Crossed.{numbered, own, pair}
use Rattle.compiler_theorem.proofs.theorem.shown.Fields.{class_now, contents_are, same_allocas, was}
use Rattle.compiler_theorem.proofs.theorem.shown.Kept.{HasLike, kept_instance, kept_world}
use Rattle.compiler_theorem.specs.kinds.Held.{IsHeldAsValue}
use Rattle.compiler_theorem.specs.known.Counts.{counts}
use Rattle.compiler_theorem.specs.theorem.Anew.{Anew, IsAnewOf}
use Rattle.compiler_theorem.specs.theorem.Between.{setting}
use Rattle.compiler_theorem.specs.theorem.Built.{building}
use Rattle.compiler_theorem.specs.theorem.Entries.{IsEntryCall, Run}
use Rattle.compiler_theorem.specs.theorem.Lowered.{HasFewBytes, IsLowered, Lowered, early, edged, sizes_of}
use Rattle.compiler_theorem.specs.theorem.SharedBytes.{HasField}
use Rattle.compiler.specs.flow_solver.Paths.{IsListed}
use Rattle.compiler.specs.frame_classes.Classes.{IsOf, suspends}
use Rattle.compiler.specs.frame_classes.declared.class.SlotClass.{SlotClass}
use Rattle.compiler.specs.frame_contents.Held.{slot_held, value_held}
use Rattle.compiler.specs.frame_crossing.Crossing.{Crosses}
use Rattle.compiler.specs.ir_model.Layout.{size_of}
use Rattle.compiler.specs.ir_model.Names.{function_at}
use Rattle.compiler.specs.ir_model.Ty.{Ty}
use Rattle.compiler.specs.ir_model.declared.module.Function.{Function}
use Rattle.compiler.proofs.ir_laws.paths.uses.Paths.{place_of}
use Rattle.compiler.specs.ir_paths.Slots.{allocas_of, promise_of}
use Rattle.compiler.specs.ir_paths.declared.point.Point.{Point}
use Rattle.compiler.specs.ir_sizes.Cut.{capped}
use Rattle.compiler.specs.pass_cells.declared.plan.KeptValue.{KeptValue}
use Rattle.compiler.specs.pass_edges.EdgeBlocks.{with_edge_blocks}
use Rattle.compiler.specs.pass_fetch.Fetching.{value_bytes}
use Rattle.pass_frames_meaning.proofs.pass_frames_proof.lines.Cells.{contained}
use Rattle.pass_frames_meaning.proofs.sized.Hooks.{kept_keeps_slots}
use Rattle.pass_frames_meaning.proofs.sized.Renewed.{kept_keeps_sizes}
use Rattle.pass_frames_meaning.proofs.sized.Sized.{states_sized}
use Rattle.pass_frames_meaning.specs.Sized.{IsSizedAt, IsSizedState}
use Rattle.pass_frames_meaning.specs.pass_frames_proof.Places.{Framing}
use Rattle.pass_frames_meaning.specs.pass_frames_proof.Related.{IsKeptValue}
use Rattle.pass_frames_meaning.specs.pass_renewed_meaning.Offsets.{first_at}
use Rattle.pass_frames_meaning.specs.pass_renewed_proof.SlotRules.{IsMadeOnce}
use Rattle.compiler.specs.pass_kept_proof.Kept.{continue_keeping}
use Rattle.compiler.proofs.pass_kept_proof.Read.{listed_by_name}
use Rattle.compiler.proofs.pass_proofs.edges.paths.Slots.{same_allocas as edged_allocas}
use Rattle.compiler.specs.pass_proofs.kept.sources.Beside.{IsKeptOf}
use Rattle.run_accepted.proofs.Accepted.{edged_switches}
use Rattle.run_accepted.proofs.Alive.{listed}
use Rattle.compiler.specs.run_framed.Framed.{layout_of}
use Rattle.pass_frames_meaning.proofs.run_hooks.Keeping.{kept_keeps}
use Rattle.pass_frames_meaning.proofs.run_hooks.Reaching.{states_reached}
use Rattle.pass_frames_meaning.proofs.run_hooks.Steps.{same_runs, source_step}
use Rattle.pass_frames_meaning.proofs.run_hooks.alive.Parts.{all_where}
use Rattle.pass_frames_meaning.specs.run_hooks.Hooks.{step_of}
use Rattle.pass_frames_meaning.specs.run_hooks.Meanings.{kept_hooks}
use Rattle.pass_frames_meaning.specs.run_hooks.alive.Alive.{IsAliveInstance, IsAliveState, account_of}
use Rattle.compiler.specs.run_memory.declared.block.MemoryBlock.{MemoryBlock}
use Rattle.compiler.specs.run_source.Source.{first_state, given, step_by}
use Rattle.compiler.specs.run_source.declared.state.Instance.{Instance}
use Rattle.compiler.specs.run_source.declared.state.State.{State}
use Rattle.compiler.specs.run_source_tables.Given.{Given}
use Rattle.compiler.specs.run_step.declared.world.Slot.{Slot}
use Rattle.compiler.specs.run_step.declared.world.World.{World}

-- ---- frame slots

-- a frame slot is held with a size, and is an alloca of the function
pub record IsHeldAsSlot (x : Framing) (f : Function) (v size : ℕ) : Type 0 where
  pub ty : Ty
  pub align : ℕ
  pub place : IsPlacedAs x.contents.held (slot_held x.code (promise_of x.function) v ty align)
  pub sized : capped (size_of x.code ty) ≡ size
  pub alloca : StandsIn (allocas_of f) v

module _ (l : Lowered) (low : IsLowered l) (few : HasFewBytes l) (a : Anew) (anew : IsAnewOf (early l) a) (r : Run)
    (entered : IsEntryCall l.source r) (k : ℕ) where
  abbrev z : State
  z = first_at (setting l a r) k

  -- blocks of slots have the sizes of their allocas where resumes hand values on
  sized : IsSizedState (edged l) (first_at (setting l a r) k)
  sized =
      let g : Given = given (edged l) (sizes_of l) r.answers in
      let e = same_runs (step_by g (continue_keeping g a.keep)) (step_of (kept_hooks g a.keep))
      (source_step g (continue_keeping g a.keep)) k (first_state g.code r.entry r.args) in
      subst (IsSizedState (edged l)) (sym e)
      (states_sized (kept_hooks g a.keep) (kept_keeps_sizes g a.keep)
      (λ u. kept_keeps_slots (IsSizedAt (edged l) u) g a.keep) r.entry r.args
      (λ j. states_reached (kept_hooks g a.keep)
      (edged_switches l.text l.source low.source.stands low.source.accepted) (kept_keeps g a.keep) r.entry r.args j) k)

  module _ (i : ℕ) (y : Instance) (there : slice_get (first_at (setting l a r) k).instances i ≡ Some y)
      (coroutine : (function_at (early l) y.coroutine).coroutine ≡ true) (slot : Slot)
      (own_slot : Contains y.slots slot) where
    abbrev g : Function
    g = function_at (early l) y.coroutine

    abbrev f : Function
    f = function_at l.source y.coroutine

    abbrev x : Framing
    x = (building l low.is_framed r.answers).framing y.coroutine

    whole : IsAliveState (edged l) (counts l a r) z
    whole = alive l low few a anew r entered k

    inst : IsAliveInstance (edged l) (counts l a r) (account_of whole.tags z) (z.top ∷ z.below) i y
    inst = whole.instances i y there

    place : (n : ℕ) × (slice_get y.slots n ≡ Some slot)
    place = place_of y.slots slot (contained y.slots slot own_slot)

    once : IsMadeOnce (function_at (edged l) y.coroutine) slot.alloca
    once = (all_where _ y.slots inst.owned place.0 _ place.1).made

    is_alloca : IsListed slot.alloca (allocas_of (function_at (early l) y.coroutine))
    is_alloca =
        subst (IsListed slot.alloca) (edged_allocas g)
        (listed_by_name (allocas_of (with_edge_blocks g)) slot.alloca (listed (with_edge_blocks g) slot.alloca
        (subst (λ (h : Function). IsMadeOnce h slot.alloca) (edged_is l low few a anew r entered y.coroutine coroutine)
        once)))

    module _ (class : IsOf (function_at l.source y.coroutine) slot.alloca SlotClass.Frame) (w : MemoryBlock)
        (held : slice_get (first_at (setting l a r) k).world.memory slot.block ≡ Some w) where
      size : IsOfSize (edged l) (function_at (edged l) y.coroutine) slot.alloca w
      size = size_there (edged l) z sized i y there slot (contained y.slots slot own_slot) once w held

      frame : IsOf (function_at (early l) y.coroutine) slot.alloca SlotClass.Frame
      frame = class_now l low r.answers y.coroutine coroutine SlotClass.Frame slot.alloca is_alloca class

      pub slot_found : IsHeldAsSlot ((building l low.is_framed r.answers).framing y.coroutine)
          (function_at l.source y.coroutine) slot.alloca w.size
      slot_found = record {
        ty = size.ty;
        align = size.align;
        place = facts.placed l low a r y.coroutine coroutine size.at slot.alloca size.align size.ty size.stands frame;
        sized = facts.size_is l low a r y.coroutine coroutine size.at slot.alloca size.align size.ty size.stands frame
            ∙ sym size.sized;
        alloca = stands_at slot.alloca (allocas_of f)
            (subst (IsListed slot.alloca) (same_allocas l low r.answers y.coroutine coroutine) is_alloca);
      }

-- so it has a field
pub slot_field : (l : Lowered) (low : IsLowered l) (r : Run) (func : ℕ)
    (coroutine : (function_at (early l) func).coroutine ≡ true) (v size : ℕ)
    → IsHeldAsSlot ((building l low.is_framed r.answers).framing func) (function_at l.source func) v size
    → (offset : ℕ) × HasField l.source (function_at l.source func) (layout_of l.layouts.coroutines func) v offset size
slot_field l low r func coroutine v size h = (
  slice_index_or (layout_of l.layouts.coroutines func).offsets h.place.position 0,
  record {
    contents = ((building l low.is_framed r.answers).framing func).contents;
    contents_are = contents_are l low r.answers func coroutine;
    position = h.place.position;
    position_is = h.place.told;
    holding = slot_held ((building l low.is_framed r.answers).framing func).code
        (promise_of ((building l low.is_framed r.answers).framing func).function) v h.ty h.align;
    holding_is = h.place.there;
    offset_is = refl;
    size_is = h.sized;
  },
)

-- ---- values

module _ (l : Lowered) (low : IsLowered l) (a : Anew) (anew : IsAnewOf (early l) a) (r : Run) (func : ℕ)
    (coroutine : (function_at (early l) func).coroutine ≡ true) (j v : ℕ) (p : Point)
    (number : slice_get (suspends (function_at l.source func)) j ≡ Some p)
    (crosses : Crosses (function_at l.source func) v p) where
  abbrev frames : Framing
  frames = (building l low.is_framed r.answers).framing func

  pub kept : (k : KeptValue) × IsKeptValue ((building l low.is_framed r.answers).framing func) v k
  kept =
      let is = was l low r.answers func coroutine in
      own l low a anew r func is p j v (numbered l low a anew r func is j p number) crosses

  value_found : IsHeldAsValue ((building l low.is_framed r.answers).framing func) v kept.0
  value_found = facts.held l low a r func coroutine v kept.0 kept.1

  pub value_place : IsPlacedAs ((building l low.is_framed r.answers).framing func).contents.held
      (value_held v (value_bytes kept.0.field_ty))
  value_place = record { position = value_found.position; told = value_found.told; there = value_found.there }

  pub value_pair : IsListed {X = ℕ × ℕ} (v, j) ((building l low.is_framed r.answers).framing func).contents.crossing
  value_pair =
      let is = was l low r.answers func coroutine in
      pair l low a anew r func is p v crosses j (numbered l low a anew r func is j p number)

  pub value_field : (offset : ℕ) × ((size : ℕ)
      × HasField l.source (function_at l.source func) (layout_of l.layouts.coroutines func) v offset size)
  value_field = (
    slice_index_or (layout_of l.layouts.coroutines func).offsets value_place.position 0,
    (
      value_bytes kept.0.field_ty,
      record {
        contents = frames.contents;
        contents_are = contents_are l low r.answers func coroutine;
        position = value_place.position;
        position_is = value_place.told;
        holding = value_held v (value_bytes kept.0.field_ty);
        holding_is = value_place.there;
        offset_is = refl;
        size_is = refl;
      },
    ),
  )

-- ---- of a state of a source

module _ (l : Lowered) (low : IsLowered l) (few : HasFewBytes l) (a : Anew) (anew : IsAnewOf (early l) a) (r : Run)
    (entered : IsEntryCall l.source r) (k : ℕ) (s : State)
    (beside : IsKeptOf l.source (sizes_of l) r.answers s (first_at (setting l a r) k)) (i : ℕ) (x : Instance)
    (e : slice_get s.instances i ≡ Some x) (coroutine : (function_at (early l) x.coroutine).coroutine ≡ true)
    (slot : Slot) (among : Contains x.slots slot)
    (class : IsOf (function_at l.source x.coroutine) slot.alloca SlotClass.Frame) (w : MemoryBlock)
    (there : slice_get s.world.memory slot.block ≡ Some w) where
  like : HasLike (first_at (setting l a r) k).instances i x
  like = kept_instance l.source (sizes_of l) r.answers s (first_at (setting l a r) k) beside i x e

  same : like.instance.coroutine ≡ x.coroutine
  same = like.like.coroutine

  -- a frame slot of an instance is held
  pub held_slot : IsHeldAsSlot ((building l low.is_framed r.answers).framing x.coroutine)
      (function_at l.source x.coroutine) slot.alloca w.size
  held_slot =
      subst (λ (func : ℕ). IsHeldAsSlot ((building l low.is_framed r.answers).framing func)
      (function_at l.source func) slot.alloca w.size) same
      (slot_found l low few a anew r entered k i like.instance like.there
      (ap (λ (func : ℕ). (function_at (early l) func).coroutine) same ∙ coroutine) slot
      (subst (λ (ss : List Slot). Contains ss slot) (sym like.like.slots) among)
      (subst (λ (func : ℕ). IsOf (function_at l.source func) slot.alloca SlotClass.Frame) (sym same) class) w
      (ap (λ (z : World). slice_get z.memory slot.block)
      (kept_world l.source (sizes_of l) r.answers s (first_at (setting l a r) k) beside) ∙ there))
