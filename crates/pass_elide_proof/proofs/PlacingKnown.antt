-- Each step of a framed run keeps that instances are of coroutines, and what modes its activations are in.
use Rattle.std.proofs.Common.{◌≡◌, ◌<◌, ◌⊎◌, ◌+◌, inl, inr, ℕ, zero, suc, Bool, true, false, not, List, [], ◌∷◌, ◌++◌, length, map, Result, Ok, Err, refl, sym, ap, ◌∙◌, subst, arith, if◌then◌else◌, ◌&&◌, ◌==◌}
use Rattle.std.specs.List.{list_all}
use Rattle.std.specs.Prelude.{◌≢◌, None, Option, Some, filter, is_none, negsuc, option_map, replicate, slice_get, unwrap_or}
use Rattle.std.proofs.lemmas.List.{length-replicate}
use Rattle.pass_elide_proof.proofs.Begun.{end_or_before}
use Rattle.pass_elide_proof.proofs.Changing.{WasSet, was_set}
use Rattle.pass_elide_proof.proofs.Facts.{not_both}
use Rattle.pass_elide_proof.proofs.Found.{where_last}
use Rattle.pass_elide_proof.proofs.OwnPlaces.{instr_there}
use Rattle.pass_elide_proof.proofs.PlacingActions.{EntersNone, instr_none, term_none}
use Rattle.pass_elide_proof.proofs.PlacingFacts.{by_truth}
use Rattle.pass_elide_proof.proofs.Saves.{own_number}
use Rattle.pass_elide_proof.specs.PlacingStates.{BeginsInCoroutines, ComeFromCalls, IsBehindCall, IsEntryLowest, IsKnownAct, IsKnownState, is_entering}
use Rattle.pass_elide_proof.proofs.PhiValues.{all_long}
use Rattle.pass_proofs.proofs.ir_laws.facts.Lists.{get_last}
use Rattle.pass_proofs.proofs.ir_laws.facts.Truth.{and_first}
use Rattle.pass_proofs.proofs.run_states.sound_states.Acts.{entry_length}
use Rattle.pass_proofs.proofs.run_states.sound_states.Fits.{Fits, calls_at, fits, result_length}
use Rattle.pass_proofs.specs.ir_base.declared.cause.Cause.{Cause}
use Rattle.pass_proofs.specs.ir_base.declared.outcome.Outcome.{Outcome}
use Rattle.pass_proofs.specs.ir_base.declared.outcome.Word.{Word}
use Rattle.pass_proofs.specs.ir_base.declared.name.Name.{Name}
use Rattle.pass_proofs.specs.ir_model.Names.{first_where, function_at, no_function, noalloc_of, position_of, same_name}
use Rattle.pass_proofs.specs.ir_model.declared.instr.Instr.{Instr}
use Rattle.pass_proofs.specs.ir_model.declared.module.Function.{Function}
use Rattle.pass_proofs.specs.ir_model.declared.module.Module.{Module}
use Rattle.pass_proofs.specs.ir_model.declared.operand.Arg.{Arg}
use Rattle.pass_proofs.specs.ir_model.declared.operand.Callee.{Callee}
use Rattle.pass_proofs.specs.ir_model.declared.operand.Intrinsic.{Intrinsic}
use Rattle.pass_proofs.specs.ir_model.declared.operand.Operand.{Operand}
use Rattle.pass_proofs.specs.ir_parts.Contents.{result_of}
use Rattle.pass_proofs.specs.ir_paths.Windows.{destroy_label, is_call_of, operand_at, resume_label, suspend_of}
use Rattle.pass_proofs.specs.ir_paths.declared.point.Point.{Point}
use Rattle.pass_proofs.specs.ir_paths.declared.point.Window.{Window}
use Rattle.pass_proofs.specs.run_framed.Framed.{FramedGiven, alloca_from, are_finished_at, at_point, begin_given, begin_given_at, begin_in_block, begin_in_frame, begin_name, continue_framed, disown_given, enter_after, enter_given, frame_around, framed_act, framed_advance, framed_begin, framed_context, framed_coro, framed_finish, framed_next, framed_promise, framed_slot, framed_state_at, framed_step, given_ramp, has_room, has_size, is_stack_block, last_value, reentry_values, with_mode}
use Rattle.pass_proofs.specs.run_laws.changed.Changed.{Each, result_at, result_of as named_result}
use Rattle.pass_proofs.specs.run_memory.Memory.{disown, own}
use Rattle.pass_proofs.specs.run_memory.declared.block.Kind.{Kind}
use Rattle.pass_proofs.specs.run_memory.declared.block.MemoryBlock.{MemoryBlock}
use Rattle.pass_proofs.specs.run_memory.declared.pointer.Pointer.{Pointer}
use Rattle.pass_proofs.specs.run_memory.declared.pointer.Value.{Value}
use Rattle.pass_proofs.specs.run_source.Source.{Sleeper, after_end, begin, begin_at, begun, branch_leaving, called, change_own, deallocate, destroy, done_at, end_of, enter_block, first_state, given_back, if_let_go, is_among, is_live_at, leave, left_windows, let_go, may_be_freed, may_leave, mode_of, new_instance, pop, push, release, resume, resumed, return, returned, save, save_before, save_for, sleeper_at, sleeper_of, slots_of, suspend}
use Rattle.pass_proofs.specs.run_source.State.{began_at, frame_address_of, function_of, gives, instance_at, next, or_undefined, own_facts, own_frame, own_instance, point_of, settled, with_instance, with_left, with_memory, with_slots, with_status, work_of}
use Rattle.pass_proofs.specs.run_source.declared.state.Activation.{Activation}
use Rattle.pass_proofs.specs.run_source.declared.state.Instance.{Instance}
use Rattle.pass_proofs.specs.run_source.declared.state.Mode.{Mode}
use Rattle.pass_proofs.specs.run_source.declared.state.State.{State}
use Rattle.pass_proofs.specs.run_source.declared.state.Status.{Status}
use Rattle.pass_proofs.specs.run_source_tables.Given.{has_final, is_final}
use Rattle.pass_proofs.specs.run_step.Results.{and_then, found, ok_if}
use Rattle.pass_proofs.specs.run_step.Runs.{iterate}
use Rattle.pass_proofs.specs.run_step.Step.{Action, AtInstr, AtTerm, Coro, Deallocate, Done, Enter, Fetched, GoTo, NewSlot, Nowhere, Return, Stuck, Work, action_of, block_of, deallocated, fetch, label_of, outcome_of, phi_values, phis_of, without_slots}
use Rattle.pass_proofs.specs.run_step.Values.{arg_values, integer, nth, truth_value}
use Rattle.pass_proofs.specs.run_step.declared.world.Slot.{Slot}

-- ---- activations

-- of one function, with the same result and instance, in the same mode
act_same : (m : Module) (a c : Activation) → c.func ≡ a.func → c.result ≡ a.result → c.instance ≡ a.instance
    → c.mode ≡ a.mode → length c.values ≡ length a.values → IsKnownAct m a → IsKnownAct m c
act_same m a c func result instance mode long h = record {
  room = long ∙ (h.room ∙ ap (λ (n : ℕ). length (function_at m n).names) (sym func));
  resumed = λ is. result ∙ h.resumed (sym mode ∙ is);
  entering = λ from label is. result ∙ h.entering from label (sym mode ∙ is);
  plain = λ no.
      let p = h.plain (ap (λ (n : ℕ). (function_at m n).coroutine) (sym func) ∙ no) in
      (mode ∙ p.0, instance ∙ p.1);
}

-- of a coroutine, which gives nothing back
act_of : (m : Module) (a : Activation) → length a.values ≡ length (function_at m a.func).names
    → (function_at m a.func).coroutine ≡ true → a.result ≡ None → IsKnownAct m a
act_of m a long is none = record {
  room = long;
  resumed = λ h. none;
  entering = λ from label h. none;
  plain = λ no. absurd (not_both (function_at m a.func).coroutine is no);
}

same_lowest : (a c : Activation) (below : List Activation) → c.mode ≡ a.mode → IsEntryLowest (a ∷ below)
    → IsEntryLowest (c ∷ below)
same_lowest a c [] mode h = mode ∙ h
same_lowest a c (b ∷ below) mode h = h

same_coming : (m : Module) (a c : Activation) (below : List Activation) → c.result ≡ a.result
    → ComeFromCalls m (a ∷ below) → ComeFromCalls m (c ∷ below)
same_coming m a c [] same h = tt
same_coming m a c (b ∷ below) same h = (
  subst (λ (o : Option ℕ). (o ≡ None) ⊎ IsBehindCall m o b) (sym same) h.0,
  h.1,
)

on_more : (a c : Activation) (bs : List Activation) (b : Activation) (below : List Activation) → bs ≡ b ∷ below
    → IsEntryLowest (a ∷ bs) → IsEntryLowest (c ∷ bs)
on_more a c [] b below e h = absurd (cc)
on_more a c (x ∷ bs) b below e h = h

-- ---- results

same_result : (i : Instr) → named_result i ≡ result_of i
same_result (Instr.Binary r op flags ty a b) = refl
same_result (Instr.Icmp r pred ty a b) = refl
same_result (Instr.Select r x a b) = refl
same_result (Instr.Cast r op nneg arg to) = refl
same_result (Instr.Alloca r ty align) = refl
same_result (Instr.Load r ty p align) = refl
same_result (Instr.Store arg p align) = refl
same_result (Instr.Gep r inbounds ty base indices) = refl
same_result (Instr.Call r must_tail ty callee args) = refl

-- ---- ramps that are given their frames

abbrev is_ramp : Name → Function → Bool
is_ramp n f = f.coroutine && same_name (noalloc_of f.name) n

-- by the function that is found behind the first
further : (n : Name) (f : Function) (fs : List Function) (o : Option ℕ) (func : ℕ)
    → ((k : ℕ) → o ≡ Some k → (unwrap_or (slice_get fs k) no_function).coroutine ≡ true)
    → option_map suc o ≡ Some func → (unwrap_or (slice_get (f ∷ fs) func) no_function).coroutine ≡ true
further n f fs None func rest e = absurd (cc)
further n f fs (Some k) func rest e =
    let same : suc k ≡ func = cc in
    subst (λ (j : ℕ). (unwrap_or (slice_get (f ∷ fs) j) no_function).coroutine ≡ true) same (rest k refl)

first_ramp : (n : Name) (f : Function) (fs : List Function) (b : Bool) (o : Option ℕ) (func : ℕ) → is_ramp n f ≡ b
    → ((k : ℕ) → o ≡ Some k → (unwrap_or (slice_get fs k) no_function).coroutine ≡ true)
    → (if b then Some 0 else option_map suc o) ≡ Some func
    → (unwrap_or (slice_get (f ∷ fs) func) no_function).coroutine ≡ true
first_ramp n f fs true o func eb rest e =
    let same : 0 ≡ func = cc in
    subst (λ (j : ℕ). (unwrap_or (slice_get (f ∷ fs) j) no_function).coroutine ≡ true) same
    (and_first f.coroutine (same_name (noalloc_of f.name) n) eb)
first_ramp n f fs false o func eb rest e = further n f fs o func rest e

ramp_coroutine : (fs : List Function) (n : Name) (func : ℕ) → first_where (is_ramp n) fs ≡ Some func
    → (unwrap_or (slice_get fs func) no_function).coroutine ≡ true
ramp_coroutine [] n func is = absurd (cc)
ramp_coroutine (f ∷ fs) n func is =
    first_ramp n f fs (is_ramp n f) (first_where (is_ramp n) fs) func refl (λ k found. ramp_coroutine fs n k found) is

pub first_known : (m : Module) (entry : ℕ) (args : List Word) → IsKnownState m (first_state m entry args)
first_known m entry args = record {
  instances = λ i x is. absurd (cc);
  acts = (
    record {
      room = entry_length (function_at m entry) (map Value.Int args);
      resumed = λ e. absurd (cc);
      entering = λ from label e. absurd (cc);
      plain = λ no. (refl, refl);
    },
    tt,
  );
  lowest = refl;
  coming = tt;
  behind = tt;
}

module _ (g : FramedGiven) (begins : BeginsInCoroutines g.given.code) where
  abbrev m : Module
  m = g.given.code

  abbrev Known : State → Type 0
  Known s = IsKnownState m s

  abbrev Keeps : Result State Cause → Type 0
  Keeps (Err cause) = Unit {0}
  Keeps (Ok s) = Known s

  then_keeps : (r : Result State Cause) (q : State → State) → Keeps r → ((s : State) → Known s → Known (q s))
      → Keeps (and_then r (λ (s : State). Ok (q s)))
  then_keeps (Err cause) q h on = tt
  then_keeps (Ok s) q h on = on s h

  if_keeps : (t : Bool) (cause : Cause) (s : State) → Known s → Keeps (ok_if t cause s)
  if_keeps true cause s h = h
  if_keeps false cause s h = tt

  -- ---- small changes

  -- another activation on top, of the same kind
  with_top : (s t : State) → t.instances ≡ s.instances → t.below ≡ s.below → t.top.func ≡ s.top.func
      → t.top.result ≡ s.top.result → t.top.instance ≡ s.top.instance → t.top.mode ≡ s.top.mode
      → length t.top.values ≡ length s.top.values → Known s → Known t
  with_top s t instances below func result instance mode long h = record {
    instances = λ i x is. h.instances i x (ap (λ (xs : List Instance). slice_get xs i) (sym instances) ∙ is);
    acts = (
      act_same m s.top t.top func result instance mode long h.acts.0,
      subst (λ (bs : List Activation). Each (IsKnownAct m) bs) (sym below) h.acts.1,
    );
    lowest = subst (λ (bs : List Activation). IsEntryLowest (t.top ∷ bs)) (sym below)
        (same_lowest s.top t.top s.below mode h.lowest);
    coming = subst (λ (bs : List Activation). ComeFromCalls m (t.top ∷ bs)) (sym below)
        (same_coming m s.top t.top s.below result h.coming);
    behind = subst (λ (bs : List Activation). Each (λ (b : Activation). 0 < b.at) bs) (sym below) h.behind;
  }

  gives_known : (s : State) (result : Option ℕ) (v : Value) → Known s → Known (gives s result v)
  gives_known s result v h =
      with_top s (gives s result v) refl refl refl refl refl refl (result_length s.top.values result v) h

  memory_known : (s : State) (memory : List MemoryBlock) → Known s → Known (with_memory s memory)
  memory_known s memory h = with_top s (with_memory s memory) refl refl refl refl refl refl refl h

  next_known : (s : State) → Known s → Known (next s)
  next_known s h = with_top s (next s) refl refl refl refl refl refl refl h

  -- an instance stays one of its function
  instance_known : (s : State) (i : ℕ) (x new : Instance) → slice_get s.instances i ≡ Some x
      → new.coroutine ≡ x.coroutine → Known s → Known (with_instance s i new)
  instance_known s i x new there kind h = record {
    instances = λ j y is. by j y (was_set s.instances i x new there j y is);
    acts = h.acts;
    lowest = h.lowest;
    coming = h.coming;
    behind = h.behind;
  }
    where
      by : (j : ℕ) (y : Instance) → WasSet s.instances i new j y → (function_at m y.coroutine).coroutine ≡ true
      by j y was = which was.is
        where
          which : ((j ≡ i) × (y ≡ new)) ⊎ ((j ≢ i) × (y ≡ was.was)) → (function_at m y.coroutine).coroutine ≡ true
          which (inl e) =
              ap (λ (z : Instance). (function_at m z.coroutine).coroutine) e.1
              ∙ (ap (λ (n : ℕ). (function_at m n).coroutine) kind ∙ h.instances i x there)
          which (inr e) =
              ap (λ (z : Instance). (function_at m z.coroutine).coroutine) e.1 ∙ h.instances j was.was was.at

  push_known : (s : State) (a : Activation) → IsKnownAct m a
      → (a.result ≡ None) ⊎ IsBehindCall m a.result (record s.top { at = s.top.at + 1 }) → Known s
      → Known (push s a)
  push_known s a act from h = record {
    instances = h.instances;
    acts = (act, (act_same m s.top (record s.top { at = s.top.at + 1 }) refl refl refl refl refl h.acts.0, h.acts.1));
    lowest = same_lowest s.top (record s.top { at = s.top.at + 1 }) s.below refl h.lowest;
    coming = (from, same_coming m s.top (record s.top { at = s.top.at + 1 }) s.below refl h.coming);
    behind = (omega arith, h.behind);
  }

  -- a function that is called is in the mode of a ramp if it is a coroutine
  called_known : (func : ℕ) (args : List Value) (result : Option ℕ)
      → IsKnownAct m (called m func args result (mode_of (function_at m func)))
  called_known func args result = by (function_at m func).coroutine refl
    where
      by : (b : Bool) → (function_at m func).coroutine ≡ b
          → IsKnownAct m (called m func args result (if b then Mode.Ramp else Mode.Plain))
      by true is = record {
        room = entry_length (function_at m func) args;
        resumed = λ e. absurd (cc);
        entering = λ from label e. absurd (cc);
        plain = λ no. absurd (not_both (function_at m func).coroutine is no);
      }
      by false is = record {
        room = entry_length (function_at m func) args;
        resumed = λ e. absurd (cc);
        entering = λ from label e. absurd (cc);
        plain = λ no. (refl, refl);
      }

  -- ---- behind allocas

  entered_long : (s : State) (label : ℕ) → length (enter_block g.given s label).top.values ≡ length s.top.values
  entered_long s label =
      all_long s.top.values
      (phi_values m s.top.values (label_of (slice_get (function_of g.given s).blocks s.top.block))
      (phis_of (slice_get (function_of g.given s).blocks (position_of (function_of g.given s) label))))

  after_known : (s : State) (from label : ℕ) (o : Option Point) → (function_at m s.top.func).coroutine ≡ true
      → s.top.result ≡ None → (b : Activation) (below : List Activation) → s.below ≡ b ∷ below → Known s
      → Known (enter_after g s from label o)
  after_known s from label (Some p) is none b below more h = record {
    instances = h.instances;
    acts = (act_of m (enter_after g s from label (Some p)).top h.acts.0.room is none, h.acts.1);
    lowest = on_more s.top (enter_after g s from label (Some p)).top s.below b below more h.lowest;
    coming = same_coming m s.top (enter_after g s from label (Some p)).top s.below refl h.coming;
    behind = h.behind;
  }
  after_known s from label None is none b below more h = record {
    instances = h.instances;
    acts = (
      act_of m (enter_after g s from label None).top
          (entered_long (at_point (with_mode s Mode.Resumed) (record { block = from; at = 0 })) label ∙ h.acts.0.room)
          is none,
      h.acts.1,
    );
    lowest = on_more s.top (enter_after g s from label None).top s.below b below more h.lowest;
    coming = same_coming m s.top (enter_after g s from label None).top s.below refl h.coming;
    behind = h.behind;
  }

  slot_known : (s : State) (slots : List Slot) → Known s → Known (with_slots s slots)
  slot_known s slots h = with_top s (with_slots s slots) refl refl refl refl refl refl refl h

  -- one that is entering isn't the lowest
  not_lowest : (s : State) (from label : ℕ) → s.top.mode ≡ Mode.Entering from label → Known s
      → (b : Activation) × ((below : List Activation) × (s.below ≡ b ∷ below))
  not_lowest s from label is h = by s.below h.lowest
    where
      by : (bs : List Activation) → IsEntryLowest (s.top ∷ bs)
          → (b : Activation) × ((below : List Activation) × (bs ≡ b ∷ below))
      by [] e = absurd (plain (sym is ∙ e))
        where
          plain : Mode.Entering from label ≡ Mode.Plain → ⊥
          plain q = cc
      by (b ∷ below) e = (b, (below, refl))

  framed_slot_known : (s : State) (z : Slot) (mode : Mode) → s.top.mode ≡ mode → Known s
      → Known (framed_slot g s z mode)
  framed_slot_known s z Mode.Plain is h = slot_known s (z ∷ s.top.slots) h
  framed_slot_known s z Mode.Ramp is h = slot_known s (z ∷ s.top.slots) h
  framed_slot_known s z Mode.Resumed is h = slot_known s (z ∷ s.top.slots) h
  framed_slot_known s z (Mode.GivenRamp frame) is h = slot_known s (z ∷ s.top.slots) h
  framed_slot_known s z (Mode.Entering from label) is h =
      let low = not_lowest s from label is h in
      after_known (with_slots s (z ∷ s.top.slots)) from label (alloca_from (function_of g.given s) s.top.at)
      (a_coroutine (function_at m s.top.func).coroutine refl) (h.acts.0.entering from label is) low.0 low.1.0 low.1.1
      (slot_known s (z ∷ s.top.slots) h)
    where
      a_coroutine : (b : Bool) → (function_at m s.top.func).coroutine ≡ b → (function_at m s.top.func).coroutine ≡ true
      a_coroutine true e = e
      a_coroutine false e = absurd (plain (sym is ∙ (h.acts.0.plain e).0))
        where
          plain : Mode.Entering from label ≡ Mode.Plain → ⊥
          plain q = cc

  -- ---- begins

  abbrev begun_alone : State → ℕ → ℕ → State
  begun_alone s b start =
      record s {
        instances = s.instances ++ new_instance s.top.func b start ∷ [];
        top = record s.top { instance = Some (length s.instances); slots = [] };
      }

  alone_known : (s : State) (b start : ℕ) → (function_at m s.top.func).coroutine ≡ true → Known s
      → Known (begun_alone s b start)
  alone_known s b start is h = record {
    instances = λ i x at. by i x (end_or_before s.instances (new_instance s.top.func b start) x i at);
    acts = (
      record {
        room = h.acts.0.room;
        resumed = h.acts.0.resumed;
        entering = h.acts.0.entering;
        plain = λ no. absurd (not_both (function_at m s.top.func).coroutine is no);
      },
      h.acts.1,
    );
    lowest = same_lowest s.top (begun_alone s b start).top s.below refl h.lowest;
    coming = same_coming m s.top (begun_alone s b start).top s.below refl h.coming;
    behind = h.behind;
  }
    where
      by : (i : ℕ) (x : Instance) → ((i ≡ length s.instances) × (x ≡ new_instance s.top.func b start))
          ⊎ (slice_get s.instances i ≡ Some x) → (function_at m x.coroutine).coroutine ≡ true
      by i x (inl e) = ap (λ (z : Instance). (function_at m z.coroutine).coroutine) e.1 ∙ is
      by i x (inr e) = h.instances i x e

  begun_known : (s : State) (b start : ℕ) → (function_at m s.top.func).coroutine ≡ true → Known s
      → Known (begun g.given s b start)
  begun_known s b start is h =
      let x = new_instance s.top.func b start in
      let z = alone_known s b start is h in
      let new = record x {
        slots = filter (λ (slot : Slot). not (is_among (own_facts g.given s).ramp_slots slot)) s.top.slots ++ [];
      } in
      with_top (with_instance (begun_alone s b start) (length s.instances) new) (begun g.given s b start) refl refl refl
      refl refl refl refl
      (instance_known (begun_alone s b start) (length s.instances) x new (get_last s.instances x) refl z)

  begin_at_known : (s : State) (mem : Value) (kind : Kind) → (function_at m s.top.func).coroutine ≡ true → Known s
      → Keeps (begin_at g.given s mem kind)
  begin_at_known s mem kind is h = by (own s.world.memory mem (own_frame g.given s).size kind) (block_of mem)
    where
      by : (r : Result (List MemoryBlock) Cause) (o : Option ℕ) → Keeps (and_then r (λ (memory : List MemoryBlock).
          and_then (found Cause.Begin o) (λ (b : ℕ). Ok (begun g.given (with_memory s memory) b 0))))
      by (Err cause) o = tt
      by (Ok memory) None = tt
      by (Ok memory) (Some b) =
          begun_known (with_memory s memory) b 0 is (memory_known s memory h)

  begin_known : (s : State) (result : Option ℕ) (mem : Value) → (function_at m s.top.func).coroutine ≡ true → Known s
      → Keeps (begin g.given s result mem)
  begin_known s result mem is h = by (is_none s.top.instance)
    where
      by : (t : Bool) → Keeps (and_then (ok_if t Cause.Begin s) (λ (z : State).
          and_then (begin_at g.given z mem Kind.Allocator) (λ (u : State). Ok (gives u result mem))))
      by true =
          then_keeps (begin_at g.given s mem Kind.Allocator) (λ (z : State). gives z result mem)
          (begin_at_known s mem Kind.Allocator is h) (λ z k. gives_known z result mem k)
      by false = tt

  given_at_known : (s : State) (frame : Value) → (function_at m s.top.func).coroutine ≡ true → Known s
      → Keeps (begin_given_at g s frame)
  given_at_known s (Value.Ptr (Pointer.At b o)) is h =
      by (has_room g o.bits (own_frame g.given s).size (frame_around g s.instances b o.bits))
    where
      in_block : (t : Bool) → Keeps (and_then (ok_if t Cause.Begin s)
          (λ (z : State). begin_at g.given z (Value.Ptr (Pointer.At b o)) Kind.Stack))
      in_block true = begin_at_known s (Value.Ptr (Pointer.At b o)) Kind.Stack is h
      in_block false = tt

      by : (t : Bool) → Keeps (if t then begin_in_frame g s b o else begin_in_block g s b o)
      by true = if_keeps (is_live_at s.world.memory b) Cause.Begin _ (begun_known s b o.bits is h)
      by false = in_block ((o.bits == 0) && has_size s.world.memory b (own_frame g.given s).size)
  given_at_known s (Value.Ptr Pointer.Null) is h = tt
  given_at_known s (Value.Ptr (Pointer.Func f)) is h = tt
  given_at_known s Value.Poison is h = tt
  given_at_known s (Value.Int n) is h = tt

  begin_given_known : (s : State) (result : Option ℕ) (frame : Value) → (function_at m s.top.func).coroutine ≡ true
      → Known s → Keeps (begin_given g s result frame)
  begin_given_known s result frame is h = by (is_none s.top.instance && are_finished_at s.instances frame)
    where
      by : (t : Bool) → Keeps (and_then (ok_if t Cause.Begin s) (λ (z : State).
          and_then (begin_given_at g z frame) (λ (u : State). Ok (gives u result frame))))
      by true =
          then_keeps (begin_given_at g s frame) (λ (z : State). gives z result frame) (given_at_known s frame is h)
          (λ z k. gives_known z result frame k)
      by false = tt

  framed_begin_known : (s : State) (result : Option ℕ) (mem : Value) (mode : Mode)
      → (function_at m s.top.func).coroutine ≡ true → Known s → Keeps (framed_begin g s result mem mode)
  framed_begin_known s result mem (Mode.GivenRamp frame) is h = begin_given_known s result frame is h
  framed_begin_known s result mem Mode.Plain is h = begin_known s result mem is h
  framed_begin_known s result mem Mode.Ramp is h = begin_known s result mem is h
  framed_begin_known s result mem Mode.Resumed is h = begin_known s result mem is h
  framed_begin_known s result mem (Mode.Entering from label) is h = begin_known s result mem is h

  -- ---- saves, suspends and frees

  left_known : (s : State) (left : Bool) → Known s → Known (with_left s left)
  left_known s left h = with_top s (with_left s left) refl refl refl refl refl refl refl h

  save_for_known : (s : State) (p q : Point) → Known s → Keeps (save_for s p q)
  save_for_known s p q h = by (own_instance s) refl
    where
      by : (o : Option (ℕ × Instance)) → own_instance s ≡ o
          → Keeps (and_then (found Cause.State o) (λ (i, x). ok_if (not x.freed) Cause.State
          (with_left
          (with_instance s i (record x {
            status = Status.Suspended q s.top.values;
            last_save = Some (record { depth = length s.below; save = p });
          }))
          true)))
      by None eo = tt
      by (Some (i, x)) eo =
          if_keeps (not x.freed) Cause.State _
          (left_known (with_instance s i (record x {
            status = Status.Suspended q s.top.values;
            last_save = Some (record { depth = length s.below; save = p });
          })) true
          (instance_known s i x (record x {
            status = Status.Suspended q s.top.values;
            last_save = Some (record { depth = length s.below; save = p });
          }) (own_number s i x eo).1 refl h))

  save_known : (s : State) → Known s → Keeps (save g.given s)
  save_known s h = by (suspend_of (function_of g.given s) (point_of s))
    where
      by : (o : Option Point) → Keeps (and_then (found Cause.State o) (λ (q : Point).
          and_then (save_for s (point_of s) q) (λ (z : State). Ok (next z))))
      by None = tt
      by (Some q) = then_keeps (save_for s (point_of s) q) next (save_for_known s (point_of s) q h) next_known

  before_known : (s : State) (x : Operand) → Known s → Keeps (save_before s x)
  before_known s Operand.None h = save_for_known s (point_of s) (point_of s) h
  before_known s (Operand.Local v) h = h
  before_known s (Operand.Global name) h = h
  before_known s (Operand.Number z) h = h
  before_known s Operand.True h = h
  before_known s Operand.False h = h
  before_known s Operand.Null h = h
  before_known s Operand.Poison h = h

  suspend_known : (s : State) (result : Option ℕ) (x : Operand) → Known s → Keeps (suspend s result x)
  suspend_known s result x h =
      then_keeps (save_before s x) (λ (z : State). gives z result (integer 8 (negsuc 0))) (before_known s x h)
      (λ z k. gives_known z result (integer 8 (negsuc 0)) k)

  release_known : (s : State) → Known s → Known (release s)
  release_known s h = by (own_instance s) refl
    where
      by : (o : Option (ℕ × Instance)) → own_instance s ≡ o
          → Known (change_own s (λ (x : Instance). record x { released = true }) o)
      by None eo = h
      by (Some (i, x)) eo = instance_known s i x (record x { released = true }) (own_number s i x eo).1 refl h

  -- ---- returns and ends

  pop_known : (s : State) (v : Option Value) (below : List Activation) → s.below ≡ below → Known s
      → Keeps (pop s v below)
  pop_known s v [] is h = by (outcome_of v)
    where
      by : (r : Result Outcome Cause) → Keeps (and_then r (λ (outcome : Outcome). Ok (record s { outcome = outcome })))
      by (Err cause) = tt
      by (Ok outcome) = record { instances = h.instances; acts = h.acts; lowest = h.lowest; coming = h.coming; behind = h.behind }
  pop_known s v (a ∷ below) is h =
      let acts : Each (IsKnownAct m) (a ∷ below) = subst (λ (bs : List Activation). Each (IsKnownAct m) bs) is h.acts.1 in
      let low : IsEntryLowest (s.top ∷ (a ∷ below))
      = subst (λ (bs : List Activation). IsEntryLowest (s.top ∷ bs)) is h.lowest in
      let waits : Each (λ (b : Activation). 0 < b.at) (a ∷ below)
      = subst (λ (bs : List Activation). Each (λ (b : Activation). 0 < b.at) bs) is h.behind in
      let come : ComeFromCalls m (s.top ∷ (a ∷ below))
      = subst (λ (bs : List Activation). ComeFromCalls m (s.top ∷ bs)) is h.coming in
      record {
        instances = h.instances;
        acts = (
          act_same m a (given_back a s.top.result v) refl refl refl refl
              (result_length a.values s.top.result (unwrap_or v Value.Poison)) acts.0,
          acts.1,
        );
        lowest = same_lowest a (given_back a s.top.result v) below refl low;
        coming = same_coming m a (given_back a s.top.result v) below refl come.1;
        behind = waits.1;
      }

  return_known : (s : State) (v : Option Value) → Known s → Keeps (return s v)
  return_known s v h =
      pop_known (returned s) v s.below refl (with_top s (returned s) refl refl refl refl refl refl refl h)

  finish_known : (s : State) → Known s → Known (framed_finish s)
  finish_known s h = by (own_instance s) refl
    where
      by : (o : Option (ℕ × Instance)) → own_instance s ≡ o
          → Known (disown_given (with_memory (change_own s (λ (x : Instance). record x { status = Status.Finished }) o)
          (without_slots s.world.memory (slots_of o))) o)
      by None eo = h
      by (Some (i, x)) eo = on (is_stack_block (without_slots s.world.memory x.slots) x.block && (x.start == 0))
        where
          ended : Known (with_memory (with_instance s i (record x { status = Status.Finished }))
              (without_slots s.world.memory x.slots))
          ended =
              memory_known (with_instance s i (record x { status = Status.Finished }))
              (without_slots s.world.memory x.slots)
              (instance_known s i x (record x { status = Status.Finished }) (own_number s i x eo).1 refl h)

          on : (t : Bool) → Known (if t
              then with_memory (with_memory (with_instance s i (record x { status = Status.Finished }))
              (without_slots s.world.memory x.slots)) (disown (without_slots s.world.memory x.slots) x.block)
              else with_memory (with_instance s i (record x { status = Status.Finished }))
              (without_slots s.world.memory x.slots))
          on true =
              memory_known (with_memory (with_instance s i (record x { status = Status.Finished }))
              (without_slots s.world.memory x.slots)) (disown (without_slots s.world.memory x.slots) x.block) ended
          on false = ended

  ended_known : (s : State) (result : Option ℕ) (mode : Mode) → Known s → Keeps (after_end s result mode)
  ended_known s result Mode.Resumed h = return_known s None h
  ended_known s result Mode.Plain h = gives_known s result (truth_value false) h
  ended_known s result Mode.Ramp h = gives_known s result (truth_value false) h
  ended_known s result (Mode.GivenRamp frame) h = gives_known s result (truth_value false) h
  ended_known s result (Mode.Entering from label) h = gives_known s result (truth_value false) h

  end_known : (s : State) (result : Option ℕ) → Known s → Keeps (end_of s framed_finish result)
  end_known s result h =
      ended_known (if s.top.has_left then s else framed_finish s) result s.top.mode (by s.top.has_left)
    where
      by : (t : Bool) → Known (if t then s else framed_finish s)
      by true = h
      by false = finish_known s h

  reentry_long : (f : Function) (v : Value) → length (reentry_values f v) ≡ length f.names
  reentry_long f v =
      result_length (replicate (length f.names) None) (begin_name f) v
      ∙ length-replicate {A = Option Value} (length f.names) None

  -- ---- instances that are found

  found_there : (s : State) (p : Value) (i : ℕ) (x : Instance) → instance_at s.instances p ≡ Some (i, x)
      → slice_get s.instances i ≡ Some x
  found_there s (Value.Ptr (Pointer.At b o)) i x is = (where_last (began_at b o.bits) s.instances i x is).there
  found_there s (Value.Ptr Pointer.Null) i x is = absurd (cc)
  found_there s (Value.Ptr (Pointer.Func f)) i x is = absurd (cc)
  found_there s Value.Poison i x is = absurd (cc)
  found_there s (Value.Int n) i x is = absurd (cc)

  abbrev Woken : State → Result Sleeper Cause → Type 0
  Woken s (Err cause) = Unit {0}
  Woken s (Ok y) = slice_get s.instances y.number ≡ Some y.instance

  asleep : (s : State) (p : Value) → Woken s (sleeper_at s p)
  asleep s p = by (instance_at s.instances p) refl
    where
      by_status : (i : ℕ) (x : Instance) (status : Status) → slice_get s.instances i ≡ Some x
          → Woken s (sleeper_of i x status)
      by_status i x Status.Running there = tt
      by_status i x Status.Finished there = tt
      by_status i x (Status.Suspended point values) there = there

      by : (o : Option (ℕ × Instance)) → instance_at s.instances p ≡ o
          → Woken s (and_then (found Cause.Frame o) (λ (i, x). sleeper_of i x x.status))
      by None eo = tt
      by (Some (i, x)) eo = by_status i x x.status (found_there s p i x eo)

  woken_known : (s : State) (y : Sleeper) (label : ℕ) → slice_get s.instances y.number ≡ Some y.instance → Known s
      → Known (continue_framed g s y.number y.instance y.suspend y.values label)
  woken_known s y label there h =
      let is = h.instances y.number y.instance there in
      let running = instance_known s y.number y.instance (record y.instance { status = Status.Running }) there refl h in
      let a = resumed y.number y.instance y.suspend
      (reentry_values (function_at m y.instance.coroutine) (frame_address_of y.instance)) in
      let b = record s.top { at = s.top.at + 1 } in
      after_known (push (with_status s y.number y.instance Status.Running) a) y.suspend.block label
      (alloca_from (function_at m y.instance.coroutine) 0) is refl b s.below refl
      (push_known (with_status s y.number y.instance Status.Running) a
      (act_of m a (reentry_long (function_at m y.instance.coroutine) (frame_address_of y.instance)) is refl) (inl refl)
      running)

  resume_known : (s : State) (p : Value) → Known s → Keeps (resume g.given (continue_framed g) s p)
  resume_known s p h = by (sleeper_at s p) (asleep s p)
    where
      by : (r : Result Sleeper Cause) → Woken s r → Keeps (and_then r (λ (y : Sleeper).
          ok_if (not (is_final (function_at g.given.code y.instance.coroutine) y.suspend)) Cause.State
          (continue_framed g s y.number y.instance y.suspend y.values
          (resume_label (function_at g.given.code y.instance.coroutine) y.suspend))))
      by (Err cause) k = tt
      by (Ok y) k =
          if_keeps (not (is_final (function_at g.given.code y.instance.coroutine) y.suspend)) Cause.State _
          (woken_known s y (resume_label (function_at g.given.code y.instance.coroutine) y.suspend) k h)

  destroy_known : (s : State) (p : Value) → Known s → Keeps (destroy g.given (continue_framed g) s p)
  destroy_known s p h = by (sleeper_at s p) (asleep s p)
    where
      by : (r : Result Sleeper Cause) → Woken s r → Keeps (and_then r (λ (y : Sleeper).
          Ok (continue_framed g s y.number y.instance y.suspend y.values
          (destroy_label (function_at g.given.code y.instance.coroutine) y.suspend))))
      by (Err cause) k = tt
      by (Ok y) k = woken_known s y (destroy_label (function_at g.given.code y.instance.coroutine) y.suspend) k h

  done_known : (s : State) (result : Option ℕ) (p : Value) → Known s → Keeps (done_at g.given s result p)
  done_known s result p h = by (sleeper_at s p)
    where
      by : (r : Result Sleeper Cause) → Keeps (and_then r (λ (y : Sleeper).
          ok_if (has_final (function_at g.given.code y.instance.coroutine)) Cause.State
          (gives s result (truth_value (is_final (function_at g.given.code y.instance.coroutine) y.suspend)))))
      by (Err cause) = tt
      by (Ok y) =
          if_keeps (has_final (function_at g.given.code y.instance.coroutine)) Cause.State _
          (gives_known s result (truth_value (is_final (function_at g.given.code y.instance.coroutine) y.suspend)) h)

  promise_known : (s : State) (result : Option ℕ) (r : Result Value Cause) → Known s
      → Keeps (and_then r (λ (v : Value). Ok (gives s result v)))
  promise_known s result (Err cause) h = tt
  promise_known s result (Ok v) h = gives_known s result v h

  coro_known : (s : State) (i : Intrinsic) (args : List Arg) (vs : List Value) (result : Option ℕ)
      → (i ≡ Intrinsic.CoroBegin → (function_at m s.top.func).coroutine ≡ true) → Known s
      → Keeps (framed_coro g s i args vs result)
  coro_known s Intrinsic.CoroId args vs result at h = next_known s h
  coro_known s Intrinsic.CoroSizeI32 args vs result at h = gives_known s result _ h
  coro_known s Intrinsic.CoroSizeI64 args vs result at h = gives_known s result _ h
  coro_known s Intrinsic.CoroAlignI32 args vs result at h = gives_known s result _ h
  coro_known s Intrinsic.CoroAlignI64 args vs result at h = gives_known s result _ h
  coro_known s Intrinsic.CoroAlloc args vs result at h = gives_known s result _ h
  coro_known s Intrinsic.CoroBegin args vs result at h = framed_begin_known s result (nth vs 1) s.top.mode (at refl) h
  coro_known s Intrinsic.CoroFree args vs result at h = gives_known (release s) result _ (release_known s h)
  coro_known s Intrinsic.CoroFrame args vs result at h = gives_known s result _ h
  coro_known s Intrinsic.CoroSave args vs result at h = save_known s h
  coro_known s Intrinsic.CoroSuspend args vs result at h = suspend_known s result (operand_at args 0) h
  coro_known s Intrinsic.CoroEnd args vs result at h = end_known s result h
  coro_known s Intrinsic.CoroResume args vs result at h = resume_known s (nth vs 0) h
  coro_known s Intrinsic.CoroDestroy args vs result at h = destroy_known s (nth vs 0) h
  coro_known s Intrinsic.CoroDone args vs result at h = done_known s result (nth vs 0) h
  coro_known s Intrinsic.CoroPromise args vs result at h =
      promise_known s result (framed_promise g s (nth vs 0) (operand_at args 2)) h
  coro_known s Intrinsic.LifetimeStart args vs result at h = next_known s h
  coro_known s Intrinsic.LifetimeEnd args vs result at h = next_known s h
  coro_known s Intrinsic.MemcpyI64 args vs result at h = next_known s h
  coro_known s Intrinsic.MemcpyI32 args vs result at h = next_known s h

  -- ---- deallocation and branches

  if_let_go_known : (s : State) (p : Value) (o : Option (ℕ × Instance)) → instance_at s.instances p ≡ o → Known s
      → Known (if_let_go s o)
  if_let_go_known s p None eo h = h
  if_let_go_known s p (Some (i, x)) eo h = by (may_be_freed x)
    where
      by : (t : Bool) → Known (if t then let_go s i x else s)
      by true =
          memory_known (with_instance s i (record x { freed = true }))
          (disown (without_slots s.world.memory x.slots) x.block)
          (instance_known s i x (record x { freed = true }) (found_there s p i x eo) refl h)
      by false = h

  deallocate_known : (s : State) (p : Value) → Known s → Keeps (deallocate s p)
  deallocate_known s p h =
      by (if_let_go s (instance_at s.instances p)) (if_let_go_known s p (instance_at s.instances p) refl h)
    where
      by : (z : State) → Known z → Keeps (and_then (deallocated z.world.memory p)
          (λ (memory : List MemoryBlock). Ok (next (with_memory z memory))))
      by z k = on (deallocated z.world.memory p)
        where
          on : (r : Result (List MemoryBlock) Cause) → Keeps (and_then r
              (λ (memory : List MemoryBlock). Ok (next (with_memory z memory))))
          on (Err cause) = tt
          on (Ok n) = with_top z (next (with_memory z n)) refl refl refl refl refl refl refl k

  enter_known : (s : State) (label : ℕ) → Known s → Known (enter_block g.given s label)
  enter_known s label h =
      with_top s (enter_block g.given s label) refl refl refl refl refl refl (entered_long s label) h

  leave_known : (s : State) (label : ℕ) (ws : List Window) → Known s → Keeps (leave g.given s label ws)
  leave_known s label ws h = by (own_instance s) refl
    where
      by : (o : Option (ℕ × Instance)) → own_instance s ≡ o
          → Keeps (and_then (found Cause.State o) (λ (i, x).
          ok_if (list_all (may_leave (length s.below) x) ws) Cause.State
          (enter_block g.given (with_left (with_status s i x Status.Running) false) label)))
      by None eo = tt
      by (Some (i, x)) eo =
          if_keeps (list_all (may_leave (length s.below) x) ws) Cause.State _
          (enter_known (with_left (with_status s i x Status.Running) false) label
          (left_known (with_status s i x Status.Running) false
          (instance_known s i x (record x { status = Status.Running }) (own_number s i x eo).1 refl h)))

  branch_known : (s : State) (label : ℕ) (ws : List Window) → Known s → Keeps (branch_leaving g.given s label ws)
  branch_known s label [] h = enter_known s label h
  branch_known s label (w ∷ ws) h = leave_known s label (w ∷ ws) h

  -- ---- steps

  settled_known : (s : State) (w : Work) → length w.values ≡ length s.top.values → Known s → Known (settled s w)
  settled_known s w long h = with_top s (settled s w) refl refl refl refl refl refl long h

  -- an instruction that enters a function is a call
  abbrev EntersBy : Fetched → Action → Type 0
  EntersBy (AtInstr i) a = (is_entering i ≡ true) ⊎ EntersNone a
  EntersBy _ a = EntersNone a

  here_enters : (s : State) (x : Fetched) → EntersBy x (action_of (framed_context g s) (work_of s) x)
  here_enters s Nowhere = tt
  here_enters s (AtTerm t) = term_none (framed_context g s) (work_of s) t
  here_enters s (AtInstr i) =
      by_truth (is_entering i) (λ e. inl e) (λ e. inr (instr_none (framed_context g s) (work_of s) i e))

  behind_call : (s : State) (x : Fetched) (func : ℕ) (args : List Value) (result : Option ℕ) (must_tail : Bool)
      → fetch (function_of g.given s) s.top.block s.top.at ≡ x → EntersBy x (Enter func args result must_tail)
      → result ≡ result_at x → IsBehindCall m result (record s.top { at = s.top.at + 1 })
  behind_call s Nowhere func args result must_tail is none same = absurd none
  behind_call s (AtTerm t) func args result must_tail is none same = absurd none
  behind_call s (AtInstr i) func args result must_tail is (inr none) same = absurd none
  behind_call s (AtInstr i) func args result must_tail is (inl enters) same = record {
    at = s.top.at;
    instr = i;
    behind = refl;
    there = instr_there (function_of g.given s) s.top.block s.top.at i is;
    enters = enters;
    same = same ∙ same_result i;
  }

  act_known : (s : State) (x : Fetched) (a : Action) → fetch (function_of g.given s) s.top.block s.top.at ≡ x
      → Fits s.top.values x a → EntersBy x a → Known s → Keeps (framed_act g s a)
  act_known s x (Done w) is k by h = settled_known s w k h
  act_known s x (NewSlot w z) is k by h = framed_slot_known (settled s w) z s.top.mode refl (settled_known s w k h)
  act_known s x (Enter func args result must_tail) is k by h =
      push_known s (called g.given.code func args result (mode_of (function_at g.given.code func)))
      (called_known func args result) (inr (behind_call s x func args result must_tail is by k)) h
  act_known s x (Coro i args result) is k enters h =
      coro_known s i args (arg_values g.given.code s.top.values args) result (by x is k.0) h
    where
      by : (y : Fetched) → fetch (function_of g.given s) s.top.block s.top.at ≡ y → calls_at i y ≡ true
          → i ≡ Intrinsic.CoroBegin → (function_at m s.top.func).coroutine ≡ true
      by Nowhere at calls same = absurd (cc)
      by (AtTerm t) at calls same = absurd (cc)
      by (AtInstr j) at calls same =
          begins s.top.func s.top.block s.top.at j at (ap (λ (q : Intrinsic). is_call_of q j) (sym same) ∙ calls)
  act_known s x (Deallocate p) is k by h = deallocate_known s p h
  act_known s x (GoTo label) is k by h = branch_known s label (left_windows g.given s label) h
  act_known s x (Return v) is k by h = return_known s v h
  act_known s x (Stuck cause) is k by h = tt

  module _ (s : State) (h : Known s) where
    abbrev here : Fetched
    here = fetch (function_of g.given s) s.top.block s.top.at

    acted : (x : Fetched) → here ≡ x → Keeps (framed_act g s (action_of (framed_context g s) (work_of s) x))
    acted x is =
        act_known s x (action_of (framed_context g s) (work_of s) x) is (fits (framed_context g s) (work_of s) x)
        (here_enters s x) h

    given_known : (func : ℕ) (vs : List Value) (result : Option ℕ) → (function_at m func).coroutine ≡ true
        → IsKnownAct m (called m func vs result (Mode.GivenRamp (last_value vs)))
    given_known func vs result is = record {
      room = entry_length (function_at m func) vs;
      resumed = λ e. absurd (cc);
      entering = λ from label e. absurd (cc);
      plain = λ no. absurd (not_both (function_at m func).coroutine is no);
    }

    named : (x : Fetched) → here ≡ x → (result : Option ℕ) (vs : List Value) (n : Name)
        → IsBehindCall m result (record s.top { at = s.top.at + 1 }) → (o : Option ℕ) → given_ramp m n ≡ o
        → Keeps (unwrap_or (enter_given g s result vs o)
        (framed_act g s (action_of (framed_context g s) (work_of s) x)))
    named x is result vs n from None ramp = acted x is
    named x is result vs n from (Some func) ramp =
        push_known s (called g.given.code func vs result (Mode.GivenRamp (last_value vs)))
        (given_known func vs result (ramp_coroutine m.functions n func ramp)) (inr from) h

    next_keeps : (x : Fetched) → here ≡ x → Keeps (framed_next g s x)
    next_keeps Nowhere is = acted Nowhere is
    next_keeps (AtTerm t) is = acted (AtTerm t) is
    next_keeps (AtInstr (Instr.Call result must_tail ty (Callee.Named name) args)) is =
        named (AtInstr (Instr.Call result must_tail ty (Callee.Named name) args)) is result
        (arg_values g.given.code s.top.values args) name
        (record {
          at = s.top.at;
          instr = Instr.Call result must_tail ty (Callee.Named name) args;
          behind = refl;
          there = instr_there (function_of g.given s) s.top.block s.top.at
              (Instr.Call result must_tail ty (Callee.Named name) args) is;
          enters = refl;
          same = refl;
        }) (given_ramp g.given.code name) refl
    next_keeps (AtInstr (Instr.Call result must_tail ty (Callee.Allocator a) args)) is =
        acted (AtInstr (Instr.Call result must_tail ty (Callee.Allocator a) args)) is
    next_keeps (AtInstr (Instr.Call result must_tail ty (Callee.Intrinsic i) args)) is =
        acted (AtInstr (Instr.Call result must_tail ty (Callee.Intrinsic i) args)) is
    next_keeps (AtInstr (Instr.Call result must_tail ty (Callee.Local v) args)) is =
        acted (AtInstr (Instr.Call result must_tail ty (Callee.Local v) args)) is
    next_keeps (AtInstr (Instr.Binary name op flags ty a b)) is = acted (AtInstr (Instr.Binary name op flags ty a b)) is
    next_keeps (AtInstr (Instr.Icmp name pred ty a b)) is = acted (AtInstr (Instr.Icmp name pred ty a b)) is
    next_keeps (AtInstr (Instr.Select name x a b)) is = acted (AtInstr (Instr.Select name x a b)) is
    next_keeps (AtInstr (Instr.Cast name op nneg arg to)) is = acted (AtInstr (Instr.Cast name op nneg arg to)) is
    next_keeps (AtInstr (Instr.Alloca name ty align)) is = acted (AtInstr (Instr.Alloca name ty align)) is
    next_keeps (AtInstr (Instr.Load name ty p align)) is = acted (AtInstr (Instr.Load name ty p align)) is
    next_keeps (AtInstr (Instr.Store arg p align)) is = acted (AtInstr (Instr.Store arg p align)) is
    next_keeps (AtInstr (Instr.Gep name inbounds ty base indices)) is =
        acted (AtInstr (Instr.Gep name inbounds ty base indices)) is

    undefined_keeps : (r : Result State Cause) → Keeps r → Known (or_undefined g.given s r)
    undefined_keeps (Err cause) k = record { instances = h.instances; acts = h.acts; lowest = h.lowest; coming = h.coming; behind = h.behind }
    undefined_keeps (Ok u) k = k

    advance_known : (o : Outcome) → Known (framed_advance g s o)
    advance_known Outcome.Running = undefined_keeps (framed_next g s here) (next_keeps here refl)
    advance_known (Outcome.Returned v) = h
    advance_known (Outcome.Undefined cause place) = h

    pub step_known : Known (framed_step g s)
    step_known = advance_known s.outcome

  -- ---- runs

  runs_known : (n : ℕ) (s : State) → Known s → Known (iterate (framed_step g) n s)
  runs_known zero s h = h
  runs_known (suc n) s h = runs_known n (framed_step g s) (step_known s h)

  pub states_known : (entry : ℕ) (args : List Word) (n : ℕ) → Known (framed_state_at g entry args n)
  states_known entry args n = runs_known n (first_state g.given.code entry args) (first_known m entry args)
