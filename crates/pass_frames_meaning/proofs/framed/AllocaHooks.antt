-- The hooks that make slots anew keep where names of allocas lead, so no marker is of a frame's block.
use Rattle.std.proofs.Common.{◌≡◌, inl, inr, ℕ, zero, suc, Bool, true, false, List, [], ◌∷◌, ◌++◌, length, Option}
use Rattle.std.proofs.Common.{Some, None, Result, Ok, Err, refl, sym, ap, ◌∙◌, subst, ◌&&◌, ◌||◌, not}
use Rattle.std.specs.Prelude.{if◌then◌else◌, is_none, slice_get}
use Rattle.pass_frames_proof.specs.ir_base.declared.cause.Cause.{Cause}
use Rattle.pass_frames_proof.specs.ir_base.declared.outcome.Word.{Word}
use Rattle.pass_frames_proof.specs.ir_model.Names.{function_at}
use Rattle.pass_frames_proof.specs.ir_model.declared.instr.Instr.{Instr}
use Rattle.pass_frames_proof.specs.ir_model.declared.module.Module.{Module}
use Rattle.pass_frames_proof.specs.ir_model.declared.operand.Arg.{Arg}
use Rattle.pass_frames_proof.specs.ir_model.declared.operand.Callee.{Callee}
use Rattle.pass_frames_proof.specs.ir_model.declared.operand.Operand.{Operand}
use Rattle.pass_frames_proof.specs.ir_paths.Windows.{operand_at}
use Rattle.pass_frames_proof.specs.ir_paths.declared.point.Point.{Point}
use Rattle.pass_frames_meaning.proofs.called.CalledHooks.{renewed_keeps_called, states_called}
use Rattle.pass_frames_meaning.proofs.framed.AllocaSteps.{enter_allocas, gives_allocas, instance_allocas, step_allocas}
use Rattle.pass_frames_meaning.proofs.framed.Allocas.{GivesStay, Stay, all_stay, entry_allocas, kept_allocas}
use Rattle.pass_frames_meaning.proofs.framed.Allocas.{killed_stay, own_stay, renewed_allocas, set_asleep, with_stay}
use Rattle.pass_frames_meaning.proofs.framed.Allocas.{without_stay}
use Rattle.pass_frames_meaning.proofs.framed.Renewed.{renewed_states_held}
use Rattle.pass_frames_meaning.specs.Framed.{AreAllocasAsleep, AreAllocasIn, HasAllocas}
use Rattle.pass_frames_meaning.specs.Framed.{IsHeldState, IsNoAlloca, KeepsAllocas, MarksNoFrame, StaysAllocas}
use Rattle.pass_frames_meaning.specs.Framed.{is_alloca_in}
use Rattle.pass_frames_proof.specs.Marking.{marker}
use Rattle.pass_frames_proof.specs.pass_kept_proof.Kept.{kept}
use Rattle.pass_renewed_meaning.specs.Rules.{IsMarked, KeepsStepRules}
use Rattle.pass_frames_proof.specs.pass_renewed_proof.Renewed.{RenewedGiven, renew_after, renewed_from, renewed_slot, renewed_step}
use Rattle.pass_frames_proof.specs.pass_renewed_proof.Renewed.{with_life, with_renewed}
use Rattle.pass_frames_proof.specs.pass_renewed_proof.SlotRules.{KeepsAllSlots}
use Rattle.pass_frames_proof.specs.run_framed.Framed.{at_point, with_mode}
use Rattle.pass_renewed_meaning.proofs.run_hooks.Keeping.{renewed_keeps}
use Rattle.pass_renewed_meaning.proofs.run_hooks.PlacedKeeping.{renewed_keeps_placed}
use Rattle.pass_renewed_meaning.proofs.run_hooks.PlacedSteps.{states_placed}
use Rattle.pass_renewed_meaning.proofs.run_hooks.Reached.{own_is}
use Rattle.pass_renewed_meaning.proofs.run_hooks.Reaching.{states_reached}
use Rattle.pass_renewed_meaning.proofs.run_hooks.Steps.{renewed_steps, same_runs}
use Rattle.pass_renewed_meaning.specs.run_hooks.Away.{KeepsAllPlaceRules}
use Rattle.pass_renewed_meaning.specs.run_hooks.Hooks.{Hooks, hooked_state_at, step_of}
use Rattle.pass_renewed_meaning.specs.run_hooks.Meanings.{renewed_hooks}
use Rattle.pass_renewed_meaning.specs.run_hooks.Reached.{AllHaveSwitches}
use Rattle.pass_frames_proof.specs.run_memory.Memory.{killed, own, same_kind, start, started}
use Rattle.pass_frames_proof.specs.run_memory.declared.block.Kind.{Kind}
use Rattle.pass_frames_proof.specs.run_memory.declared.block.MemoryBlock.{MemoryBlock}
use Rattle.pass_frames_proof.specs.run_memory.declared.pointer.Value.{Value}
use Rattle.run_slots.proofs.Blocks.{started_alike}
use Rattle.run_slots.proofs.Meanings.{renewed_keeps_slots}
use Rattle.run_slots.proofs.Steps.{states_slotted}
use Rattle.run_slots.specs.Slots.{IsFrameBlock, IsSlottedState}
use Rattle.pass_frames_proof.specs.run_source.Source.{begin, begin_at, begun, change_own, finish, first_state, is_among, is_over}
use Rattle.pass_frames_proof.specs.run_source.Source.{kill_late, new_instance, new_slot, push, resumed, slots_of, with_new_slots}
use Rattle.pass_frames_proof.specs.run_source.State.{function_of, gives, own_facts, own_frame, own_instance, with_memory, with_slots}
use Rattle.pass_frames_proof.specs.run_source.State.{with_status}
use Rattle.pass_frames_proof.specs.run_source.declared.state.Instance.{Instance}
use Rattle.pass_frames_proof.specs.run_source.declared.state.Mode.{Mode}
use Rattle.pass_frames_proof.specs.run_source.declared.state.State.{State}
use Rattle.pass_frames_proof.specs.run_source.declared.state.Status.{Status}
use Rattle.pass_frames_proof.specs.run_source_tables.Given.{Given}
use Rattle.pass_frames_proof.specs.run_step.Results.{and_then, found, ok_if}
use Rattle.pass_frames_proof.specs.run_step.Runs.{iterate}
use Rattle.pass_frames_proof.specs.run_step.Step.{AtInstr, block_of, fetch, without_slots}
use Rattle.pass_frames_proof.specs.run_step.Values.{Env, arg_values, nth, operand_value, value_in}
use Rattle.pass_frames_proof.specs.run_step.declared.world.Slot.{Slot}
use Rattle.pass_renewed_meaning.specs.run_types.Rules.{KeepsAllTypes}

-- ---- new slots, begin and the end

module _ (g : Given) where
  slot_allocas : (s : State) (slot : Slot) → HasAllocas g.code s → HasAllocas g.code (new_slot g s slot)
  slot_allocas s slot h = on (own_instance s) (λ i x e. own_is s i x e)
    where
      by : (i : ℕ) (x : Instance) → slice_get s.instances i ≡ Some x → (b : Bool)
          → HasAllocas g.code (with_new_slots (own_facts g s).ramp_slots (Some (i, x))
          (if b then with_memory s (killed s.world.memory slot.block) else s) (slot ∷ []))
      by i x e true =
          let k = all_stay g.code s.world.memory (killed s.world.memory slot.block)
          (killed_stay s.world.memory slot.block) (s.top ∷ s.below) s.instances h in
          (k.0, set_asleep g.code (killed s.world.memory slot.block) s.instances i _ (k.1 i x e) k.1)
      by i x e false = (h.0, set_asleep g.code s.world.memory s.instances i _ (h.1 i x e) h.1)

      on : (o : Option (ℕ × Instance)) → ((i : ℕ) (x : Instance) → o ≡ Some (i, x) → slice_get s.instances i ≡ Some x)
          → HasAllocas g.code (with_new_slots (own_facts g s).ramp_slots o
          (kill_late (own_facts g s).ramp_slots o s slot) (slot ∷ []))
      on None is = h
      on (Some (i, x)) is = by i x (is i x refl) (is_over x && not (is_among (own_facts g s).ramp_slots slot))

  more_asleep : (m : List MemoryBlock) (xs : List Instance) (y : Instance)
      → AreAllocasAsleep m (function_at g.code y.coroutine) y.status → AreAllocasIn g.code m xs
      → AreAllocasIn g.code m (xs ++ y ∷ [])
  more_asleep m [] y k h zero x e =
      let same : y ≡ x = cc in
      subst (λ (w : Instance). AreAllocasAsleep m (function_at g.code w.coroutine) w.status) same k
  more_asleep m [] y k h (suc i) x e = absurd (cc)
  more_asleep m (z ∷ xs) y k h zero x e = h 0 x e
  more_asleep m (z ∷ xs) y k h (suc i) x e = more_asleep m xs y k (λ j w d. h (suc j) w d) i x e

  begun_allocas : (s : State) (memory : List MemoryBlock) → Stay s.world.memory memory → (b : ℕ) → HasAllocas g.code s
      → HasAllocas g.code (begun g (with_memory s memory) b 0)
  begun_allocas s memory stay b h =
      let k = all_stay g.code s.world.memory memory stay (s.top ∷ s.below) s.instances h in (
        k.0,
        set_asleep g.code memory (s.instances ++ new_instance s.top.func b 0 ∷ []) (length s.instances) _ tt
            (more_asleep memory s.instances (new_instance s.top.func b 0) tt k.1),
      )

  begin_allocas : (s : State) (result : Option ℕ) (mem : Value) → HasAllocas g.code s
      → IsNoAlloca (function_at g.code s.top.func) result → StaysAllocas g.code (begin g s result mem)
  begin_allocas s result mem h free = on (is_none s.top.instance)
    where
      last : (memory : List MemoryBlock) → Stay s.world.memory memory → (o : Option ℕ)
          → StaysAllocas g.code (and_then (and_then (found Cause.Begin o)
          (λ b. Ok (begun g (with_memory s memory) b 0))) (λ t. Ok (gives t result mem)))
      last memory stay None = tt
      last memory stay (Some b) =
          gives_allocas g.code (begun g (with_memory s memory) b 0) result mem (begun_allocas s memory stay b h) free

      by : (r : Result (List MemoryBlock) Cause) → GivesStay s.world.memory r
          → StaysAllocas g.code (and_then (and_then r (λ memory.
          and_then (found Cause.Begin (block_of mem)) (λ b. Ok (begun g (with_memory s memory) b 0))))
          (λ t. Ok (gives t result mem)))
      by (Err cause) k = tt
      by (Ok memory) k = last memory k (block_of mem)

      on : (b : Bool) → StaysAllocas g.code (and_then (ok_if b Cause.Begin s)
          (λ z. and_then (begin_at g z mem Kind.Allocator) (λ t. Ok (gives t result mem))))
      on true = by (own s.world.memory mem (own_frame g s).size Kind.Allocator)
          (own_stay s.world.memory mem (own_frame g s).size Kind.Allocator)
      on false = tt

  finish_allocas : (s : State) → HasAllocas g.code s → HasAllocas g.code (finish s)
  finish_allocas s h = on (own_instance s)
    where
      on : (o : Option (ℕ × Instance))
          → HasAllocas g.code (with_memory (change_own s (λ x. record x { status = Status.Finished }) o)
          (without_slots s.world.memory (slots_of o)))
      on None = h
      on (Some p) =
          let k = all_stay g.code s.world.memory (without_slots s.world.memory p.1.slots)
          (without_stay s.world.memory p.1.slots) (s.top ∷ s.below) s.instances h in (
            k.0,
            set_asleep g.code (without_slots s.world.memory p.1.slots) s.instances p.0
                (record p.1 { status = Status.Finished }) tt k.1,
          )

-- ---- slots that are made anew

module _ (g : RenewedGiven) (rules : KeepsAllSlots g.given.code g.keep g.flags g.roots) where
  renews_allocas : (s : State) (from label : ℕ) (o : Option Point) → HasAllocas g.given.code s
      → HasAllocas g.given.code (renew_after g s from label o)
  renews_allocas s from label (Some p) h = h
  renews_allocas s from label None h =
      enter_allocas g.given.code g.given refl
      (at_point (with_mode (with_renewed (g.roots s.top.func) s) Mode.Resumed) (record { block = from; at = 0 }))
      label (
        (
          renewed_allocas s.world.memory g.given.code (function_at g.given.code s.top.func) (g.flags s.top.func)
              (g.roots s.top.func) (rules.each s.top.func) s.top.values h.0.0,
          h.0.1,
        ),
        h.1,
      )

  place_allocas : (s : State) (slot : Slot) (mode : Mode) → HasAllocas g.given.code s
      → HasAllocas g.given.code (renewed_slot g s slot mode)
  place_allocas s slot (Mode.Entering from label) h =
      renews_allocas (with_slots s (slot ∷ s.top.slots)) from label
      (renewed_from (g.flags s.top.func) (function_of g.given s) s.top.at) h
  place_allocas s slot Mode.Plain h = slot_allocas g.given s slot h
  place_allocas s slot Mode.Ramp h = slot_allocas g.given s slot h
  place_allocas s slot Mode.Resumed h = slot_allocas g.given s slot h
  place_allocas s slot (Mode.GivenRamp frame) h = slot_allocas g.given s slot h

  life_allocas : (s : State) (slot : Slot) (mode : Mode) → HasAllocas g.given.code s
      → HasAllocas g.given.code (renewed_slot g (with_life g s slot) slot mode)
  life_allocas s slot mode h = on (g.flags s.top.func slot.alloca)
    where
      on : (b : Bool) → HasAllocas g.given.code (renewed_slot g
          (if b then with_memory s (start s.world.memory slot.block) else s) slot mode)
      on true = place_allocas (with_memory s (start s.world.memory slot.block)) slot mode
          (all_stay g.given.code s.world.memory (start s.world.memory slot.block)
          (with_stay started (λ x. (started_alike x).kind) s.world.memory slot.block) (s.top ∷ s.below) s.instances h)
      on false = place_allocas s slot mode h

  resumes_allocas : (s : State) (i : ℕ) (x : Instance) (at : Point) (values : Env) (label : ℕ)
      → HasAllocas g.given.code s → slice_get s.instances i ≡ Some x → x.status ≡ Status.Suspended at values
      → HasAllocas g.given.code (renew_after g (push (with_status s i x Status.Running) (resumed i x at
      (kept (g.keep x.coroutine at) values))) at.block label
      (renewed_from (g.flags x.coroutine) (function_at g.given.code x.coroutine) 0))
  resumes_allocas s i x at values label h there asleep =
      let own = subst (AreAllocasAsleep s.world.memory (function_at g.given.code x.coroutine)) asleep
      (h.1 i x there) in
      let k = instance_allocas g.given.code s h i (record x { status = Status.Running }) tt in
      renews_allocas (push (with_status s i x Status.Running) (resumed i x at (kept (g.keep x.coroutine at) values)))
      at.block label (renewed_from (g.flags x.coroutine) (function_at g.given.code x.coroutine) 0) (
        (
          kept_allocas s.world.memory (function_at g.given.code x.coroutine) (g.keep x.coroutine at) values own,
          k.0,
        ),
        k.1,
      )

  pub renewed_keeps_allocas : KeepsAllocas (renewed_hooks g)
  renewed_keeps_allocas = record {
    go_on = λ s i x at values label h there asleep. resumes_allocas s i x at values label h there asleep;
    place = λ s slot h. life_allocas s slot s.top.mode h;
    start = λ s result mem h free. begin_allocas g.given s result mem h free;
    close = λ s h. finish_allocas g.given s h;
    closed = (renewed_keeps_placed g).closed;
    ungiven = λ s block at. refl;
  }

-- ---- markers

-- the value of a marker's second operand
second_value : (m : Module) (values : Env) (args : List Arg) (name : ℕ) → operand_at args 1 ≡ Operand.Local name
    → nth (arg_values m values args) 1 ≡ value_in values name
second_value m values [] name e = absurd (cc)
second_value m values (a ∷ []) name e = absurd (cc)
second_value m values (a ∷ b ∷ args) name e = ap (operand_value m values b.ty) e

pub marks_apart : (h : Hooks) → ((func : ℕ) → KeepsStepRules h.given.code (function_at h.given.code func))
    → (s : State) → IsSlottedState s → HasAllocas h.given.code s → MarksNoFrame h s
marks_apart h rules s slotted allocas runs starts result must_tail ty args there idle b marked i x e u same =
    let one : is_alloca_in (slice_get s.world.memory b) ≡ true =
    allocas.0.0 marks.slot b marks.made
    (sym (ap block_of (second_value h.given.code s.top.values args marks.slot marks.takes)) ∙ marked) in
    let no : is_alloca_in (slice_get s.world.memory x.block) ≡ false = ap is_alloca_in frame.there
    ∙ ap (λ (k : Kind). same_kind k Kind.Slot || same_kind k Kind.Stack) frame.heap in
    let other : is_alloca_in (slice_get s.world.memory x.block) ≡ true =
    ap (λ (n : ℕ). is_alloca_in (slice_get s.world.memory n)) same ∙ one in
    cc
  where
    by : (t : Bool) → fetch (function_of h.given s) s.top.block s.top.at
        ≡ AtInstr (Instr.Call result must_tail ty (Callee.Intrinsic (marker t)) args)
        → IsMarked (function_at h.given.code s.top.func) args
    by true d = (rules s.top.func).marked s.top.block s.top.at result must_tail ty (marker true) args d (inl refl)
    by false d = (rules s.top.func).marked s.top.block s.top.at result must_tail ty (marker false) args d (inr refl)

    marks : IsMarked (function_at h.given.code s.top.func) args
    marks = by starts there

    frame : IsFrameBlock s.world.memory x
    frame = slotted.slotted.frames i x e

-- ---- runs

module _ (g : RenewedGiven) (entry : ℕ) (args : List Word) (ok : AllHaveSwitches g.given.code)
    (places : KeepsAllPlaceRules g.given) (types : KeepsAllTypes g.given.code)
    (slots : KeepsAllSlots g.given.code g.keep g.flags g.roots)
    (rules : (func : ℕ) → KeepsStepRules g.given.code (function_at g.given.code func)) where
  one_more : (n : ℕ) (s : State)
      → iterate (step_of (renewed_hooks g)) (suc n) s
      ≡ step_of (renewed_hooks g) (iterate (step_of (renewed_hooks g)) n s)
  one_more zero s = refl
  one_more (suc n) s = one_more n (step_of (renewed_hooks g) s)

  states_allocas : (n : ℕ) → HasAllocas g.given.code (hooked_state_at (renewed_hooks g) entry args n)
  states_allocas zero = (
    (entry_allocas (first_state g.given.code entry args).world.memory (function_at g.given.code entry) _, tt),
    λ i x e. absurd (cc),
  )
  states_allocas (suc n) =
      subst (HasAllocas g.given.code) (sym (one_more n (first_state g.given.code entry args)))
      (step_allocas (renewed_hooks g) (renewed_keeps_allocas g slots) types
      (hooked_state_at (renewed_hooks g) entry args n)
      (states_reached (renewed_hooks g) ok (renewed_keeps g) entry args n)
      (states_called (renewed_hooks g) (renewed_keeps_called g) types entry args
      (λ k. states_placed (renewed_hooks g) ok (renewed_keeps g) places (renewed_keeps_placed g) entry args k) n)
      (states_allocas n))

  pub runs_mark_no_frame : (n : ℕ)
      → MarksNoFrame (renewed_hooks g) (iterate (renewed_step g) n (first_state g.given.code entry args))
  runs_mark_no_frame n =
      subst (MarksNoFrame (renewed_hooks g)) (sym (same_runs (renewed_step g) (step_of (renewed_hooks g))
      (renewed_steps g) n (first_state g.given.code entry args)))
      (marks_apart (renewed_hooks g) rules (hooked_state_at (renewed_hooks g) entry args n)
      (states_slotted (renewed_hooks g) (renewed_keeps_slots g) entry args n) (states_allocas n))

  pub runs_hold_frames : (n : ℕ)
      → IsHeldState g.given.sizes (iterate (renewed_step g) n (first_state g.given.code entry args))
  runs_hold_frames n = renewed_states_held g entry args n (λ k lt. runs_mark_no_frame k)
