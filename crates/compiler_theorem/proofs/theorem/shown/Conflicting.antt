-- The fields conflict of what lives or is kept at once in a state of a source.
use Rattle.std.proofs.Common.{◌≡◌, ◌≢◌, ℕ, true, None, Option, Some, refl, sym, subst}
use Rattle.std.specs.Prelude.{slice_get}
use Rattle.compiler_theorem.proofs.kinds.Held.{slot_kind_is}
use Rattle.compiler_theorem.proofs.kinds.Pairs.{alive_conflict, kinds_differ, places_differ, slots_conflict, values_conflict}
use Rattle.compiler_theorem.proofs.theorem.Facts.{live_apart}
use Rattle.compiler_theorem.proofs.theorem.shown.Fields.{contents_are}
use Rattle.compiler_theorem.proofs.theorem.shown.Found.{IsHeldAsSlot, held_slot, kept, value_pair, value_place}
use Rattle.compiler_theorem.specs.theorem.Anew.{Anew, IsAnewOf}
use Rattle.compiler_theorem.specs.theorem.Between.{setting}
use Rattle.compiler_theorem.specs.theorem.Built.{building}
use Rattle.compiler_theorem.specs.theorem.Conflicting.{HasConflicts, HaveConflict}
use Rattle.compiler_theorem.specs.theorem.Entries.{IsEntryCall, Run}
use Rattle.compiler_theorem.specs.theorem.Lowered.{HasFewBytes, IsLowered, Lowered, early, sizes_of, source_run}
use Rattle.compiler.specs.frame_classes.Classes.{IsOf, suspends}
use Rattle.compiler.specs.frame_classes.declared.class.SlotClass.{SlotClass}
use Rattle.compiler.specs.frame_contents.Held.{slot_held, value_held}
use Rattle.compiler.specs.frame_contents.declared.contents.Contents.{Contents}
use Rattle.compiler.specs.frame_contents.declared.held.Holding.{Holding}
use Rattle.compiler.specs.frame_crossing.Crossing.{Crosses}
use Rattle.compiler.proofs.ir_laws.paths.path_rules.Where.{where_has}
use Rattle.compiler.proofs.ir_laws.paths.threaded.Whole.{has_listed}
use Rattle.compiler.proofs.ir_laws.paths.uses.Paths.{place_of, there_listed}
use Rattle.compiler.specs.ir_model.Names.{function_at}
use Rattle.compiler.specs.ir_model.declared.module.Function.{Function}
use Rattle.compiler.specs.ir_model.declared.operand.Intrinsic.{Intrinsic}
use Rattle.compiler.specs.ir_paths.Slots.{promise_of}
use Rattle.compiler.specs.ir_paths.Windows.{is_call_of}
use Rattle.compiler.specs.ir_paths.declared.point.Point.{Point}
use Rattle.compiler.specs.pass_fetch.Fetching.{value_bytes}
use Rattle.pass_frames_meaning.proofs.pass_frames_proof.from_edges.Front.{listed_contains}
use Rattle.pass_frames_meaning.specs.pass_frames_proof.Places.{Framing}
use Rattle.pass_frames_meaning.specs.pass_renewed_meaning.Offsets.{first_at}
use Rattle.compiler.specs.pass_proofs.kept.sources.Beside.{IsKeptOf}
use Rattle.compiler.proofs.rule_laws.rules.sources.Places.{instr_there}
use Rattle.run_accepted.proofs.Accepted.{switches}
use Rattle.compiler.specs.run_agreement.Machines.{state_at}
use Rattle.pass_frames_meaning.proofs.run_hooks.Keeping.{source_keeps}
use Rattle.pass_frames_meaning.proofs.run_hooks.Placing.{suspended_call}
use Rattle.pass_frames_meaning.proofs.run_hooks.Reaching.{states_reached}
use Rattle.pass_frames_meaning.proofs.run_hooks.Steps.{same_runs, source_step}
use Rattle.pass_frames_meaning.specs.run_hooks.Hooks.{step_of}
use Rattle.pass_frames_meaning.specs.run_hooks.Meanings.{source_hooks}
use Rattle.pass_frames_meaning.specs.run_hooks.Reached.{IsReachedState}
use Rattle.pass_frames_meaning.specs.run_hooks.alive.Apart.{IsLiveSlot}
use Rattle.pass_frames_meaning.specs.run_hooks.alive.Slots.{life_of}
use Rattle.compiler.specs.run_memory.Memory.{is_live}
use Rattle.compiler.specs.run_memory.declared.block.MemoryBlock.{MemoryBlock}
use Rattle.compiler.specs.run_source.Source.{continue, first_state, given, step}
use Rattle.compiler.specs.run_source.declared.state.Instance.{Instance}
use Rattle.compiler.specs.run_source.declared.state.State.{State}
use Rattle.compiler.specs.run_source.declared.state.Status.{Status}
use Rattle.compiler.specs.run_source_tables.Given.{Given}
use Rattle.compiler.specs.run_step.Values.{Env}
use Rattle.compiler.specs.run_step.declared.world.Slot.{Slot}

module _ (l : Lowered) (low : IsLowered l) (few : HasFewBytes l) (a : Anew) (anew : IsAnewOf (early l) a) (r : Run)
    (entered : IsEntryCall l.source r) (n k : ℕ)
    (beside : IsKeptOf l.source (sizes_of l) r.answers (state_at (source_run l r) n) (first_at (setting l a r) k))
    (coroutines : (i : ℕ) (x : Instance) → slice_get (state_at (source_run l r) n).instances i ≡ Some x
    → (function_at (early l) x.coroutine).coroutine ≡ true) where
  abbrev s : State
  s = state_at (source_run l r) n

  abbrev g : Given
  g = given l.source (sizes_of l) r.answers

  reached : IsReachedState g s
  reached =
      let e = same_runs (step g) (step_of (source_hooks g)) (source_step g (continue g)) n
      (first_state g.code r.entry r.args) in
      subst (IsReachedState g) (sym e)
      (states_reached (source_hooks g) (switches l.text l.source low.source.stands low.source.accepted)
      (source_keeps g) r.entry r.args n)

  module _ (i : ℕ) (x : Instance) (e : slice_get (state_at (source_run l r) n).instances i ≡ Some x) where
    abbrev f : Function
    f = function_at l.source x.coroutine

    abbrev framing : Framing
    framing = (building l low.is_framed r.answers).framing x.coroutine

    abbrev c : Contents
    c = framing.contents

    coroutine : (function_at (early l) x.coroutine).coroutine ≡ true
    coroutine = coroutines i x e

    -- ---- what is there

    -- the suspend where it is Suspended has a number
    pub suspend_number : (p : Point) (values : Env) → x.status ≡ Status.Suspended p values
        → (j : ℕ) × (slice_get (suspends (function_at l.source x.coroutine)) j ≡ Some p)
    suspend_number p values is =
        let call = suspended_call (source_hooks g) s reached i x p values e is in
        place_of (suspends f) p (has_listed p (suspends f)
        (where_has (is_call_of Intrinsic.CoroSuspend) f p call.instr
        (instr_there f p.block p.at call.instr call.stands) call.is))

    live_slot : (slot : Slot) → IsLiveSlot s x slot → IsOf f slot.alloca SlotClass.Frame
        → (size : ℕ) × IsHeldAsSlot framing f slot.alloca size
    live_slot slot live class = on (slice_get s.world.memory slot.block) refl live.is_live
      where
        on : (o : Option MemoryBlock) → slice_get s.world.memory slot.block ≡ o → is_live (life_of o) ≡ true
            → (size : ℕ) × IsHeldAsSlot framing f slot.alloca size
        on None d h = absurd (cc)
        on (Some w) d h = (
          w.size,
          held_slot l low few a anew r entered k s beside i x e coroutine slot
              (listed_contains x.slots slot (there_listed x.slots live.position slot live.is_slot)) class w d,
        )

    -- ---- what conflicts

    slots : (one other : Slot) → IsLiveSlot s x one → IsLiveSlot s x other → one.alloca ≢ other.alloca
        → IsOf f one.alloca SlotClass.Frame → IsOf f other.alloca SlotClass.Frame
        → HaveConflict l.source f one.alloca other.alloca
    slots one other live live_too unlike frame frame_too =
        let y = (live_slot one live frame).1 in
        let z = (live_slot other live_too frame_too).1 in
        let h : Holding = slot_held framing.code (promise_of framing.function) one.alloca y.ty y.align in
        let q : Holding = slot_held framing.code (promise_of framing.function) other.alloca z.ty z.align in
        record {
          contents = c;
          contents_are = contents_are l low r.answers x.coroutine coroutine;
          first = y.place.position;
          first_is = y.place.told;
          second = z.place.position;
          second_is = z.place.told;
          conflict = slots_conflict f c h q y.place z.place (places_differ c h q y.place z.place unlike) y.alloca.at
              z.alloca.at (record { stands = y.alloca.there; is_frame = frame })
              (record { stands = z.alloca.there; is_frame = frame_too })
              ((live_apart l low.source r n).slots i x one other e live live_too);
        }

    module _ (p : Point) (values : Env) (is : x.status ≡ Status.Suspended p values) where
      number : (j : ℕ) × (slice_get (suspends f) j ≡ Some p)
      number = suspend_number p values is

      abbrev held_value : (v : ℕ) → Crosses f v p → Holding
      held_value v crosses = value_held v (value_bytes
          (kept l low a anew r x.coroutine coroutine number.0 v p number.1 crosses).0.field_ty)

      pairs : (one other : ℕ) → Crosses f one p → Crosses f other p → one ≢ other
          → HaveConflict l.source f one other
      pairs one other crosses too unlike =
          let y = value_place l low a anew r x.coroutine coroutine number.0 one p number.1 crosses in
          let z = value_place l low a anew r x.coroutine coroutine number.0 other p number.1 too in
          let h = held_value one crosses in
          let q = held_value other too in
          record {
            contents = c;
            contents_are = contents_are l low r.answers x.coroutine coroutine;
            first = y.position;
            first_is = y.told;
            second = z.position;
            second_is = z.told;
            conflict = values_conflict f c h q y z (places_differ c h q y z unlike) number.0
                (value_pair l low a anew r x.coroutine coroutine number.0 one p number.1 crosses)
                (value_pair l low a anew r x.coroutine coroutine number.0 other p number.1 too);
          }

      mixed : (slot : Slot) (v : ℕ) → IsLiveSlot s x slot → IsOf f slot.alloca SlotClass.Frame → Crosses f v p
          → HaveConflict l.source f slot.alloca v
      mixed slot v live frame crosses =
          let y = (live_slot slot live frame).1 in
          let z = value_place l low a anew r x.coroutine coroutine number.0 v p number.1 crosses in
          let h : Holding = slot_held framing.code (promise_of framing.function) slot.alloca y.ty y.align in
          let q = held_value v crosses in
          record {
            contents = c;
            contents_are = contents_are l low r.answers x.coroutine coroutine;
            first = y.place.position;
            first_is = y.place.told;
            second = z.position;
            second_is = z.told;
            conflict = alive_conflict f c h q y.place z
                (kinds_differ c h q y.place z (slot_kind_is (promise_of framing.function) slot.alloca) refl)
                y.alloca.at number.0 p (record { stands = y.alloca.there; is_frame = frame }) number.1
                ((live_apart l low.source r n).values i x p values slot e is live)
                (value_pair l low a anew r x.coroutine coroutine number.0 v p number.1 crosses);
          }

  pub conflicts_there : HasConflicts l.source (state_at (source_run l r) n)
  conflicts_there = record {
    slots = λ i x one other e. slots i x e one other;
    values = λ i x p values one other e is. pairs i x e p values is one other;
    mixed = λ i x p values slot v e is. mixed i x e p values is slot v;
  }
