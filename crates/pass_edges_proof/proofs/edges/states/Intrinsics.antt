-- What the calls of coro intrinsics do to a state, and to that of the module whose edges have blocks.
use Rattle.std.proofs.Common.{◌≡◌, ℕ, ◌+◌, Bool, true, false, List, [], ◌∷◌, ◌++◌, length, refl, sym, ap, ◌∙◌, subst}
use Rattle.std.proofs.lemmas.List.{length-map, map-append}
use Rattle.std.specs.List.{find}
use Rattle.std.specs.Option.{option_map_or}
use Rattle.std.specs.Prelude.{ℤ, negsuc, Some, None, Ok, Err, Option, Result, is_none, map, not, option_and_then, option_map, slice_get, if◌then◌else◌, ◌==◌}
use Rattle.pass_early_proof.specs.run_memory.Memory.{own}
use Rattle.pass_early_proof.specs.run_memory.declared.block.Kind.{Kind}
use Rattle.pass_early_proof.specs.run_memory.declared.block.MemoryBlock.{MemoryBlock}
use Rattle.pass_early_proof.specs.run_memory.declared.pointer.Pointer.{Pointer}
use Rattle.pass_early_proof.specs.run_memory.declared.pointer.Value.{Value}
use Rattle.pass_early_proof.specs.ir_base.declared.cause.Cause.{Cause}
use Rattle.pass_early_proof.specs.run_source.Source.{Sleeper, after_end, begin, begin_at, begun, block_of_slot, change_own, continue, destroy, done_at, end_of, finish, frame_address, frame_of_promise, given, has_promise_at, is_live_at, is_over, new_instance, promise, promise_block, promise_of_frame, release, resume, save, save_for, sleeper_at, slots_of, suspend, with_new_slots}
use Rattle.pass_early_proof.specs.run_source.State.{frame_address_of, gives, instance_at, next, own_facts, own_frame, own_instance, point_of, with_instance, with_left, with_memory}
use Rattle.pass_early_proof.specs.run_source.declared.state.Instance.{Instance}
use Rattle.pass_early_proof.specs.run_source.declared.state.Mode.{Mode}
use Rattle.pass_early_proof.specs.run_source.declared.state.State.{State}
use Rattle.pass_early_proof.specs.run_source.declared.state.Status.{Status}
use Rattle.ir_model.specs.Names.{function_at}
use Rattle.ir_model.specs.declared.module.Frame.{Frame}
use Rattle.ir_model.specs.declared.module.Function.{Function}
use Rattle.ir_model.specs.declared.module.Module.{Module}
use Rattle.ir_model.specs.declared.operand.Operand.{Operand}
use Rattle.pass_early_proof.specs.ir_paths.Facts.{facts_of}
use Rattle.pass_early_proof.specs.ir_paths.Slots.{promise_of}
use Rattle.pass_early_proof.specs.ir_paths.Windows.{destroy_label, label_at, resume_label, suspend_of}
use Rattle.pass_early_proof.specs.ir_paths.declared.point.Facts.{Facts}
use Rattle.pass_early_proof.specs.ir_paths.declared.point.Point.{Point}
use Rattle.pass_early_proof.specs.run_step.Results.{and_then, found, ok_if}
use Rattle.pass_early_proof.specs.run_step.Step.{block_of, without_slots}
use Rattle.pass_early_proof.specs.run_step.Values.{Env, integer, pointer_to, truth_value}
use Rattle.pass_early_proof.specs.run_step.declared.world.Slot.{Slot}
use Rattle.pass_early_proof.proofs.run_states.expanded.Environments.{result_grown}
use Rattle.pass_early_proof.specs.ir_laws.facts.expanded.Tokens.{IsNamedResult}
use Rattle.pass_early_proof.specs.ir_base.declared.outcome.Outcome.{Outcome}
use Rattle.pass_edges_proof.proofs.edges.states.Parts.{final_kept, function_moved, has_final_kept, promise_kept, ramp_kept, suspend_kept}
use Rattle.pass_edges_proof.proofs.edges.states.Ways.{label_enters}
use Rattle.pass_edges_proof.specs.edges.states.MovedState.{AreEdgesKept, Keeps, edge_count, edge_function, edges_split, placed, placed_block, moved_activation, moved_instance, moved_result, moved_state, moved_values}
use Rattle.pass_edges_proof.specs.edges.states.Near.{IsNear}
use Rattle.pass_edges_proof.specs.edges.states.Ways.{Enters}
use Rattle.pass_early_proof.specs.run_states.sound_states.Sound.{IsSuspendAt}
use Rattle.pass_edges_proof.proofs.edges.states.Acts.{new_slots_same, over_moved, slots_moved}
use Rattle.pass_edges_proof.proofs.edges.states.Calls.{return_moved}
use Rattle.pass_edges_proof.proofs.edges.states.Resumes.{continue_near, sleeper_moved, sleeping}
use Rattle.pass_early_proof.proofs.run_states.saved.States.{facts_are}
use Rattle.pass_edges_proof.proofs.edges.states.States.{facts_moved, found_moved, own_moved, with_instance_moved, with_number}
use Rattle.pass_edges_proof.proofs.edges.states.Suspends.{save_for_moved}
use Rattle.pass_early_proof.specs.run_states.branches.MovedState.{IsNamedBelow, IsOwnedBy}
use Rattle.pass_early_proof.specs.ir_laws.facts.sound_states.Named.{AreLocalsNamed}
use Rattle.pass_early_proof.specs.run_source_tables.Given.{Given, has_final, is_final, is_true}

-- ---- results of calls

module _ (m : Module) where
  pub gives_moved : (s : State) → (result : Option ℕ) (v : Value) → IsNamedResult (length s.top.values) result → gives (moved_state m s) result v ≡ moved_state m (gives s result v)
  gives_moved s result v named =
      ap (λ (e : Env). record (moved_state m s) { top = record (moved_activation m s.top) { at = (moved_activation m s.top).at + 1; values = e } }) (result_grown (edge_count (function_at m s.top.func)) s.top.values result v named)

  pub next_moved : (s : State) → next (moved_state m s) ≡ moved_state m (next s)
  next_moved s = refl

  -- ---- frame and free

  address_moved : (o : Option (ℕ × Instance)) → frame_address (with_number m o) ≡ frame_address o
  address_moved None = refl
  address_moved (Some (i, x)) = refl

  pub frame_moved : (s : State) → (result : Option ℕ) → IsNamedResult (length s.top.values) result → gives (moved_state m s) result (frame_address (own_instance (moved_state m s))) ≡ moved_state m (gives s result (frame_address (own_instance s)))
  frame_moved s result named =
      ap (gives (moved_state m s) result) (ap frame_address (own_moved m s) ∙ address_moved (own_instance s)) ∙ gives_moved s result (frame_address (own_instance s)) named

  abbrev is_released : Instance → Instance
  is_released x = record x { released = true }

  abbrev is_done : Instance → Instance
  is_done x = record x { status = Status.Finished }

  freed : (s : State) → (result : Option ℕ) → IsNamedResult (length s.top.values) result → (o : Option (ℕ × Instance)) → gives (change_own (moved_state m s) is_released (with_number m o)) result (frame_address (with_number m o)) ≡ moved_state m (gives (change_own s is_released o) result (frame_address o))
  freed s result named None = gives_moved s result Value.Poison named
  freed s result named (Some (i, x)) =
      ap (λ (t : State). gives t result (frame_address_of x)) (with_instance_moved m s i (is_released x))
      ∙ gives_moved (with_instance s i (is_released x)) result (frame_address_of x) named

  pub free_moved : (s : State) → (result : Option ℕ) → IsNamedResult (length s.top.values) result → gives (release (moved_state m s)) result (frame_address (own_instance (moved_state m s))) ≡ moved_state m (gives (release s) result (frame_address (own_instance s)))
  free_moved s result named =
      ap (λ (o : Option (ℕ × Instance)). gives (change_own (moved_state m s) is_released o) result (frame_address o)) (own_moved m s) ∙ freed s result named (own_instance s)

  -- ---- end

  after_moved : (s : State) → IsNamedBelow s.top.result s.below → (result : Option ℕ) → IsNamedResult (length s.top.values) result → (mode : Mode) → after_end (moved_state m s) result mode ≡ moved_result m (after_end s result mode)
  after_moved s below result named Mode.Resumed = return_moved m s None below
  after_moved s below result named Mode.Plain = ap Ok (gives_moved s result (truth_value false) named)
  after_moved s below result named Mode.Ramp = ap Ok (gives_moved s result (truth_value false) named)
  after_moved s below result named (Mode.GivenRamp v) = ap Ok (gives_moved s result (truth_value false) named)
  after_moved s below result named (Mode.Entering from label) = ap Ok (gives_moved s result (truth_value false) named)

  slots_same : (o : Option (ℕ × Instance)) → slots_of (with_number m o) ≡ slots_of o
  slots_same None = refl
  slots_same (Some (i, x)) = refl

  module _ (s : State) (below : IsNamedBelow s.top.result s.below) (result : Option ℕ) (named : IsNamedResult (length s.top.values) result) where
    finished : (memory : List MemoryBlock) (o : Option (ℕ × Instance)) → after_end (with_memory (change_own (moved_state m s) is_done (with_number m o)) memory) result s.top.mode ≡ moved_result m (after_end (with_memory (change_own s is_done o) memory) result s.top.mode)
    finished memory None = after_moved (with_memory s memory) below result named s.top.mode
    finished memory (Some (i, x)) =
        ap (λ (t : State). after_end (with_memory t memory) result s.top.mode) (with_instance_moved m s i (is_done x))
        ∙ after_moved (with_memory (with_instance s i (is_done x)) memory) below result named s.top.mode

    finish_moved : after_end (finish (moved_state m s)) result s.top.mode ≡ moved_result m (after_end (finish s) result s.top.mode)
    finish_moved =
        ap (λ (o : Option (ℕ × Instance)). after_end (with_memory (change_own (moved_state m s) is_done o) (without_slots s.world.memory (slots_of o))) result s.top.mode) (own_moved m s)
        ∙ ap (λ (slots : List Slot). after_end (with_memory (change_own (moved_state m s) is_done (with_number m (own_instance s))) (without_slots s.world.memory slots)) result s.top.mode) (slots_same (own_instance s))
        ∙ finished (without_slots s.world.memory (slots_of (own_instance s))) (own_instance s)

    pub end_moved : end_of (moved_state m s) finish result ≡ moved_result m (end_of s finish result)
    end_moved = on s.top.has_left
      where
        on : (b : Bool) → after_end (if b then moved_state m s else finish (moved_state m s)) result s.top.mode ≡ moved_result m (after_end (if b then s else finish s) result s.top.mode)
        on true = after_moved s below result named s.top.mode
        on false = finish_moved

  -- ---- saves and suspends

  -- what goes on behind a save, in both
  pub behind_save : (s : State) (save suspend : Point) (F G : State → State) → ((i : ℕ) (x : Instance) → F (moved_state m (with_left (with_instance s i x) true)) ≡ moved_state m (G (with_left (with_instance s i x) true))) → and_then (moved_result m (save_for s save suspend)) (λ (t : State). Ok (F t)) ≡ moved_result m (and_then (save_for s save suspend) (λ (t : State). Ok (G t)))
  behind_save s save suspend F G h = on (own_instance s)
    where
      kept : Instance → Instance
      kept x = record x { status = Status.Suspended suspend s.top.values; last_save = Some (record { depth = length s.below; save = save }) }

      test : (b : Bool) (i : ℕ) (x : Instance) → and_then (moved_result m (ok_if b Cause.State (with_left (with_instance s i (kept x)) true))) (λ (t : State). Ok (F t)) ≡ moved_result m (and_then (ok_if b Cause.State (with_left (with_instance s i (kept x)) true)) (λ (t : State). Ok (G t)))
      test true i x = ap Ok (h i (kept x))
      test false i x = refl

      on : (o : Option (ℕ × Instance)) → and_then (moved_result m (and_then (found Cause.State o) (λ (y : ℕ × Instance). ok_if (not y.1.freed) Cause.State (with_left (with_instance s y.0 (kept y.1)) true)))) (λ (t : State). Ok (F t)) ≡ moved_result m (and_then (and_then (found Cause.State o) (λ (y : ℕ × Instance). ok_if (not y.1.freed) Cause.State (with_left (with_instance s y.0 (kept y.1)) true))) (λ (t : State). Ok (G t)))
      on None = refl
      on (Some y) = test (not y.1.freed) y.0 y.1

  module _ (s : State) (own : IsOwnedBy s (own_instance s)) where
    abbrev v : Value
    v = integer 8 (negsuc 0)

    saving_suspend : (result : Option ℕ) → IsNamedResult (length s.top.values) result → and_then (save_for (moved_state m s) (placed (function_at m s.top.func) (point_of s)) (placed (function_at m s.top.func) (point_of s))) (λ (t : State). Ok (gives t result v)) ≡ moved_result m (and_then (save_for s (point_of s) (point_of s)) (λ (t : State). Ok (gives t result v)))
    saving_suspend result named =
        ap (λ (r : Result State Cause). and_then r (λ (t : State). Ok (gives t result v))) (save_for_moved m s (point_of s) (point_of s) own)
        ∙ behind_save s (point_of s) (point_of s) (λ t. gives t result v) (λ t. gives t result v) (λ i x. gives_moved (with_left (with_instance s i x) true) result v named)

    pub suspend_moved : (result : Option ℕ) → IsNamedResult (length s.top.values) result → (x : Operand) → suspend (moved_state m s) result x ≡ moved_result m (suspend s result x)
    suspend_moved result named Operand.None = saving_suspend result named
    suspend_moved result named (Operand.Local n) = ap Ok (gives_moved s result v named)
    suspend_moved result named (Operand.Global n) = ap Ok (gives_moved s result v named)
    suspend_moved result named (Operand.Number z) = ap Ok (gives_moved s result v named)
    suspend_moved result named Operand.True = ap Ok (gives_moved s result v named)
    suspend_moved result named Operand.False = ap Ok (gives_moved s result v named)
    suspend_moved result named Operand.Null = ap Ok (gives_moved s result v named)
    suspend_moved result named Operand.Poison = ap Ok (gives_moved s result v named)

  module _ (sizes : List Frame) (answers : List ℤ) where
    abbrev g : Given
    g = given m sizes answers

    abbrev k : Given
    k = given (edges_split m) sizes answers

    -- a save
    pub save_moved : (s : State) → IsOwnedBy s (own_instance s) → save k (moved_state m s) ≡ moved_result m (save g s)
    save_moved s own =
        ap (λ (o : Option Point). and_then (found Cause.State o) (λ (suspend : Point). and_then (save_for (moved_state m s) (placed f (point_of s)) suspend) (λ (t : State). Ok (next t))))
        (ap (λ (h : Function). suspend_of h (placed f (point_of s))) (function_moved m s.top.func) ∙ suspend_kept f (point_of s))
        ∙ on (suspend_of f (point_of s))
      where
        f : Function
        f = function_at m s.top.func

        on : (o : Option Point) → and_then (found Cause.State (option_map (placed f) o)) (λ (suspend : Point). and_then (save_for (moved_state m s) (placed f (point_of s)) suspend) (λ (t : State). Ok (next t))) ≡ moved_result m (and_then (found Cause.State o) (λ (suspend : Point). and_then (save_for s (point_of s) suspend) (λ (t : State). Ok (next t))))
        on None = refl
        on (Some q) =
            ap (λ (r : Result State Cause). and_then r (λ (t : State). Ok (next t))) (save_for_moved m s (point_of s) q own)
            ∙ behind_save s (point_of s) q next next (λ j x. next_moved (with_left (with_instance s j x) true))

    -- ---- begin

    begun_moved : (s : State) → Keeps (function_at m s.top.func) → (block start : ℕ) → begun k (moved_state m s) block start ≡ moved_state m (begun g s block start)
    begun_moved s keeps block start =
        ap (λ (n : ℕ). with_new_slots (own_facts k (moved_state m s)).ramp_slots (Some (n, x)) (record (moved_state m s) { instances = map (moved_instance m) s.instances ++ x ∷ []; top = record (moved_activation m s.top) { instance = Some n; slots = [] } }) s.top.slots) (length-map s.instances (moved_instance m))
        ∙ ap (λ (xs : List Instance). with_new_slots (own_facts k (moved_state m s)).ramp_slots (Some (length s.instances, x)) (record (moved_state m s) { instances = xs; top = record (moved_activation m s.top) { instance = Some (length s.instances); slots = [] } }) s.top.slots) (sym (map-append (moved_instance m) s.instances (x ∷ [])))
        ∙ ap (λ (y : Facts). with_new_slots y.ramp_slots (Some (length s.instances, x)) (moved_state m t) s.top.slots) (facts_moved m s.top.func)
        ∙ new_slots_same (facts_of (edge_function f)).ramp_slots (facts_of f).ramp_slots (Some (length s.instances, x)) (moved_state m t) s.top.slots (ramp_kept f keeps)
        ∙ slots_moved m (facts_of f).ramp_slots (Some (length s.instances, x)) t s.top.slots
        ∙ ap (λ (y : Facts). moved_state m (with_new_slots y.ramp_slots (Some (length s.instances, x)) t s.top.slots)) (sym (facts_are m s.top.func))
      where
        f : Function
        f = function_at m s.top.func

        x : Instance
        x = new_instance s.top.func block start

        t : State
        t = record s { instances = s.instances ++ x ∷ []; top = record s.top { instance = Some (length s.instances); slots = [] } }

    pub begin_moved : (s : State) → Keeps (function_at m s.top.func) → (result : Option ℕ) → IsNamedResult (length s.top.values) result → (mem : Value) → begin k (moved_state m s) result mem ≡ moved_result m (begin g s result mem)
    begin_moved s keeps result named mem = on (is_none s.top.instance)
      where
        there : (memory : List MemoryBlock) (o : Option ℕ) → and_then (and_then (found Cause.Begin o) (λ (b : ℕ). Ok (begun k (with_memory (moved_state m s) memory) b 0))) (λ (u : State). Ok (gives u result mem)) ≡ moved_result m (and_then (and_then (found Cause.Begin o) (λ (b : ℕ). Ok (begun g (with_memory s memory) b 0))) (λ (u : State). Ok (gives u result mem)))
        there memory None = refl
        there memory (Some b) =
            ap (λ (u : State). Ok (gives u result mem)) (begun_moved (with_memory s memory) keeps b 0)
            ∙ ap Ok (gives_moved (begun g (with_memory s memory) b 0) result mem named)

        owned : (r : Result (List MemoryBlock) Cause) → and_then (and_then r (λ (memory : List MemoryBlock). and_then (found Cause.Begin (block_of mem)) (λ (b : ℕ). Ok (begun k (with_memory (moved_state m s) memory) b 0)))) (λ (u : State). Ok (gives u result mem)) ≡ moved_result m (and_then (and_then r (λ (memory : List MemoryBlock). and_then (found Cause.Begin (block_of mem)) (λ (b : ℕ). Ok (begun g (with_memory s memory) b 0)))) (λ (u : State). Ok (gives u result mem)))
        owned (Err cause) = refl
        owned (Ok memory) = there memory (block_of mem)

        on : (b : Bool) → and_then (ok_if b Cause.Begin (moved_state m s)) (λ (t : State). and_then (begin_at k t mem Kind.Allocator) (λ (u : State). Ok (gives u result mem))) ≡ moved_result m (and_then (ok_if b Cause.Begin s) (λ (t : State). and_then (begin_at g t mem Kind.Allocator) (λ (u : State). Ok (gives u result mem))))
        on true = owned (own s.world.memory mem (own_frame g s).size Kind.Allocator)
        on false = refl

    -- ---- resume, destroy and done

    -- the values that a suspended instance keeps are those of its coroutine's names
    abbrev pub HaveKeptRoom : State → Type 0
    HaveKeptRoom s = (p : Value) (y : Sleeper) → sleeper_at s p ≡ Ok y → length y.values ≡ length (function_at m y.instance.coroutine).names

    abbrev AreRetained : State → Result Sleeper Cause → Type 0
    AreRetained s r = (y : Sleeper) → r ≡ Ok y → length y.values ≡ length (function_at m y.instance.coroutine).names

    abbrev AreAsleep : Result Sleeper Cause → Type 0
    AreAsleep r = (y : Sleeper) → r ≡ Ok y → IsSuspendAt (function_at m y.instance.coroutine) y.suspend

    module _ (names : AreLocalsNamed m) (keeps : AreEdgesKept m) (s : State) (running : s.outcome ≡ Outcome.Running) where
      -- by the labels behind a suspend
      goes_near : (n : ℕ) (y : Sleeper) → length y.values ≡ length (function_at m y.instance.coroutine).names → IsSuspendAt (function_at m y.instance.coroutine) y.suspend → IsNear m sizes answers (Ok (continue g s y.number y.instance y.suspend y.values (label_at n (slice_get (function_at m y.instance.coroutine).blocks y.suspend.block)))) (Ok (continue k (moved_state m s) y.number (moved_instance m y.instance) (placed (function_at m y.instance.coroutine) y.suspend) (moved_values (function_at m y.instance.coroutine) y.values) (label_at n (slice_get (function_at (edges_split m) y.instance.coroutine).blocks (placed_block (function_at m y.instance.coroutine) y.suspend.block)))))
      goes_near n y room asleep =
          continue_near m sizes answers s y.number y.instance y.suspend y.values (label_at n (slice_get f.blocks y.suspend.block)) (label_at n (slice_get (function_at (edges_split m) y.instance.coroutine).blocks (placed_block f y.suspend.block))) (keeps y.instance.coroutine) (names y.instance.coroutine).phis room running
          (subst (λ (h : Function). Enters f h (placed f) y.suspend.block (label_at n (slice_get f.blocks y.suspend.block)) (label_at n (slice_get h.blocks (placed_block f y.suspend.block)))) (sym (function_moved m y.instance.coroutine))
          (label_enters f (keeps y.instance.coroutine) n y.suspend asleep))
        where
          f : Function
          f = function_at m y.instance.coroutine

      near_if : (a b : Bool) (x u : State) → b ≡ a → IsNear m sizes answers (Ok x) (Ok u) → IsNear m sizes answers (ok_if (not a) Cause.State x) (ok_if (not b) Cause.State u)
      near_if true true x u e n = refl
      near_if true false x u e n = absurd (cc)
      near_if false true x u e n = absurd (cc)
      near_if false false x u e n = n

      resume_by : (r : Result Sleeper Cause) → AreRetained s r → AreAsleep r → IsNear m sizes answers (and_then r (λ (y : Sleeper). ok_if (not (is_final (function_at m y.instance.coroutine) y.suspend)) Cause.State (continue g s y.number y.instance y.suspend y.values (resume_label (function_at m y.instance.coroutine) y.suspend)))) (and_then (sleeping m sizes answers r) (λ (y : Sleeper). ok_if (not (is_final (function_at (edges_split m) y.instance.coroutine) y.suspend)) Cause.State (continue k (moved_state m s) y.number y.instance y.suspend y.values (resume_label (function_at (edges_split m) y.instance.coroutine) y.suspend))))
      resume_by (Err cause) h d = refl
      resume_by (Ok y) h d =
          near_if (is_final (function_at m y.instance.coroutine) y.suspend) (is_final (function_at (edges_split m) y.instance.coroutine) (placed (function_at m y.instance.coroutine) y.suspend))
          (continue g s y.number y.instance y.suspend y.values (resume_label (function_at m y.instance.coroutine) y.suspend))
          (continue k (moved_state m s) y.number (moved_instance m y.instance) (placed (function_at m y.instance.coroutine) y.suspend) (moved_values (function_at m y.instance.coroutine) y.values) (resume_label (function_at (edges_split m) y.instance.coroutine) (placed (function_at m y.instance.coroutine) y.suspend)))
          (ap (λ (f : Function). is_final f (placed (function_at m y.instance.coroutine) y.suspend)) (function_moved m y.instance.coroutine) ∙ final_kept (function_at m y.instance.coroutine) y.suspend)
          (goes_near 0 y (h y refl) (d y refl))

      pub resume_near : HaveKeptRoom s → (p : Value) → AreAsleep (sleeper_at s p) → IsNear m sizes answers (resume g (continue g) s p) (resume k (continue k) (moved_state m s) p)
      resume_near room p asleep =
          subst (λ (r : Result Sleeper Cause). IsNear m sizes answers (resume g (continue g) s p) (and_then r (λ (y : Sleeper). ok_if (not (is_final (function_at (edges_split m) y.instance.coroutine) y.suspend)) Cause.State (continue k (moved_state m s) y.number y.instance y.suspend y.values (resume_label (function_at (edges_split m) y.instance.coroutine) y.suspend))))) (sym (sleeper_moved m sizes answers s p))
          (resume_by (sleeper_at s p) (room p) asleep)

      destroy_by : (r : Result Sleeper Cause) → AreRetained s r → AreAsleep r → IsNear m sizes answers (and_then r (λ (y : Sleeper). Ok (continue g s y.number y.instance y.suspend y.values (destroy_label (function_at m y.instance.coroutine) y.suspend)))) (and_then (sleeping m sizes answers r) (λ (y : Sleeper). Ok (continue k (moved_state m s) y.number y.instance y.suspend y.values (destroy_label (function_at (edges_split m) y.instance.coroutine) y.suspend))))
      destroy_by (Err cause) h d = refl
      destroy_by (Ok y) h d = goes_near 1 y (h y refl) (d y refl)

      pub destroy_near : HaveKeptRoom s → (p : Value) → AreAsleep (sleeper_at s p) → IsNear m sizes answers (destroy g (continue g) s p) (destroy k (continue k) (moved_state m s) p)
      destroy_near room p asleep =
          subst (λ (r : Result Sleeper Cause). IsNear m sizes answers (destroy g (continue g) s p) (and_then r (λ (y : Sleeper). Ok (continue k (moved_state m s) y.number y.instance y.suspend y.values (destroy_label (function_at (edges_split m) y.instance.coroutine) y.suspend))))) (sym (sleeper_moved m sizes answers s p))
          (destroy_by (sleeper_at s p) (room p) asleep)

    module _ (s : State) (result : Option ℕ) (named : IsNamedResult (length s.top.values) result) where
      done_by : (r : Result Sleeper Cause) → and_then (sleeping m sizes answers r) (λ (y : Sleeper). ok_if (has_final (function_at (edges_split m) y.instance.coroutine)) Cause.State (gives (moved_state m s) result (truth_value (is_final (function_at (edges_split m) y.instance.coroutine) y.suspend)))) ≡ moved_result m (and_then r (λ (y : Sleeper). ok_if (has_final (function_at m y.instance.coroutine)) Cause.State (gives s result (truth_value (is_final (function_at m y.instance.coroutine) y.suspend)))))
      done_by (Err cause) = refl
      done_by (Ok y) =
          ap (λ (f2 : Function). ok_if (has_final f2) Cause.State (gives (moved_state m s) result (truth_value (is_final f2 (placed f y.suspend))))) (function_moved m y.instance.coroutine)
          ∙ ap (λ (b : Bool). ok_if b Cause.State (gives (moved_state m s) result (truth_value (is_final (edge_function f) (placed f y.suspend))))) (has_final_kept f)
          ∙ ap (λ (b : Bool). ok_if (has_final f) Cause.State (gives (moved_state m s) result (truth_value b))) (final_kept f y.suspend)
          ∙ ap (ok_if (has_final f) Cause.State) (gives_moved s result (truth_value (is_final f y.suspend)) named)
          ∙ on (has_final f)
        where
          f : Function
          f = function_at m y.instance.coroutine

          on : (b : Bool) → ok_if b Cause.State (moved_state m (gives s result (truth_value (is_final f y.suspend)))) ≡ moved_result m (ok_if b Cause.State (gives s result (truth_value (is_final f y.suspend))))
          on true = refl
          on false = refl

      pub done_moved : (p : Value) → done_at k (moved_state m s) result p ≡ moved_result m (done_at g s result p)
      done_moved p =
          ap (λ (r : Result Sleeper Cause). and_then r (λ (y : Sleeper). ok_if (has_final (function_at (edges_split m) y.instance.coroutine)) Cause.State (gives (moved_state m s) result (truth_value (is_final (function_at (edges_split m) y.instance.coroutine) y.suspend))))) (sleeper_moved m sizes answers s p)
          ∙ done_by (sleeper_at s p)

    -- ---- the promise

    promise_there : (x : Instance) → promise_block k (moved_instance m x) ≡ promise_block g x
    promise_there x =
        ap (option_and_then (block_of_slot x.slots)) (ap promise_of (function_moved m x.coroutine) ∙ promise_kept (function_at m x.coroutine))

    to_promise : (o : Option (ℕ × Instance)) → and_then (found Cause.Frame (with_number m o)) (λ (y : ℕ × Instance). and_then (found Cause.Promise (promise_block k y.1)) (λ (b : ℕ). ok_if (not (is_over y.1)) Cause.Dead (pointer_to b))) ≡ and_then (found Cause.Frame o) (λ (y : ℕ × Instance). and_then (found Cause.Promise (promise_block g y.1)) (λ (b : ℕ). ok_if (not (is_over y.1)) Cause.Dead (pointer_to b)))
    to_promise None = refl
    to_promise (Some (i, x)) =
        let block = promise_there x in
        let over = over_moved m x in
        λ j. and_then (found Cause.Promise (block j)) (λ (b : ℕ). ok_if (not (over j)) Cause.Dead (pointer_to b))

    find_moved : (b : ℕ) (xs : List Instance) → find (has_promise_at k b) (map (moved_instance m) xs) ≡ option_map (moved_instance m) (find (has_promise_at g b) xs)
    find_moved b [] = refl
    find_moved b (x ∷ xs) =
        ap (λ (o : Option ℕ). if option_map_or (λ (c : ℕ). b == c) o false then Some (moved_instance m x) else find (has_promise_at k b) (map (moved_instance m) xs)) (promise_there x)
        ∙ ap (λ (o : Option Instance). if has_promise_at g b x then Some (moved_instance m x) else o) (find_moved b xs)
        ∙ on (has_promise_at g b x)
      where
        on : (t : Bool) → (if t then Some (moved_instance m x) else option_map (moved_instance m) (find (has_promise_at g b) xs)) ≡ option_map (moved_instance m) (if t then Some x else find (has_promise_at g b) xs)
        on true = refl
        on false = refl

    from_promise : (s : State) (v : Value) → frame_of_promise k (moved_state m s) v ≡ frame_of_promise g s v
    from_promise s (Value.Ptr (Pointer.At b offset)) =
        ap (λ (o : Option Instance). and_then (found Cause.Promise (if offset.bits == 0 then o else None)) (λ (x : Instance). ok_if (is_live_at s.world.memory b) Cause.Promise (frame_address_of x))) (find_moved b s.instances)
        ∙ on (offset.bits == 0) (find (has_promise_at g b) s.instances)
      where
        on : (t : Bool) (o : Option Instance) → and_then (found Cause.Promise (if t then option_map (moved_instance m) o else None)) (λ (x : Instance). ok_if (is_live_at s.world.memory b) Cause.Promise (frame_address_of x)) ≡ and_then (found Cause.Promise (if t then o else None)) (λ (x : Instance). ok_if (is_live_at s.world.memory b) Cause.Promise (frame_address_of x))
        on true None = refl
        on true (Some x) = refl
        on false o = refl
    from_promise s (Value.Ptr Pointer.Null) = refl
    from_promise s (Value.Ptr (Pointer.Func f)) = refl
    from_promise s Value.Poison = refl
    from_promise s (Value.Int x) = refl

    promise_same : (s : State) (v : Value) (from : Operand) → promise k (moved_state m s) v from ≡ promise g s v from
    promise_same s v from = on (is_true from)
      where
        on : (t : Bool) → (if t then frame_of_promise k (moved_state m s) v else promise_of_frame k (moved_state m s) v) ≡ (if t then frame_of_promise g s v else promise_of_frame g s v)
        on true = from_promise s v
        on false =
            ap (λ (o : Option (ℕ × Instance)). and_then (found Cause.Frame o) (λ (y : ℕ × Instance). and_then (found Cause.Promise (promise_block k y.1)) (λ (b : ℕ). ok_if (not (is_over y.1)) Cause.Dead (pointer_to b)))) (found_moved m s.instances v)
            ∙ to_promise (instance_at s.instances v)

    pub promise_moved : (s : State) → (result : Option ℕ) → IsNamedResult (length s.top.values) result → (v : Value) (from : Operand) → and_then (promise k (moved_state m s) v from) (λ (w : Value). Ok (gives (moved_state m s) result w)) ≡ moved_result m (and_then (promise g s v from) (λ (w : Value). Ok (gives s result w)))
    promise_moved s result named v from =
        ap (λ (r : Result Value Cause). and_then r (λ (w : Value). Ok (gives (moved_state m s) result w))) (promise_same s v from)
        ∙ on (promise g s v from)
      where
        on : (r : Result Value Cause) → and_then r (λ (w : Value). Ok (gives (moved_state m s) result w)) ≡ moved_result m (and_then r (λ (w : Value). Ok (gives s result w)))
        on (Err cause) = refl
        on (Ok w) = ap Ok (gives_moved s result w named)
