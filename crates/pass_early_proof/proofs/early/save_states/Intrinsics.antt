-- What the calls of coro intrinsics do to a state, and to that of the module whose saves are written out.
use Rattle.std.proofs.Common.{◌≡◌, ℕ, ◌+◌, Bool, true, false, List, [], ◌∷◌, ◌++◌, length, refl, sym, ap, ◌∙◌, add-zero}
use Rattle.std.proofs.lemmas.List.{length-map, map-append}
use Rattle.std.specs.List.{find}
use Rattle.std.specs.Option.{option_map_or}
use Rattle.std.specs.Prelude.{ℤ, negsuc, Some, None, Ok, Err, Option, Result, is_none, map, not, option_and_then, option_map, slice_get, if◌then◌else◌, ◌==◌}
use Rattle.rule_laws.specs.run_memory.Memory.{own}
use Rattle.rule_laws.specs.run_memory.declared.block.Kind.{Kind}
use Rattle.rule_laws.specs.run_memory.declared.block.MemoryBlock.{MemoryBlock}
use Rattle.rule_laws.specs.run_memory.declared.pointer.Pointer.{Pointer}
use Rattle.rule_laws.specs.run_memory.declared.pointer.Value.{Value}
use Rattle.rule_laws.specs.ir_base.declared.cause.Cause.{Cause}
use Rattle.rule_laws.specs.run_source.Source.{Sleeper, after_end, begin, begin_at, begun, block_of_slot, change_own, continue, destroy, done_at, end_of, finish, frame_address, frame_of_promise, given, has_promise_at, is_live_at, is_over, new_instance, promise, promise_block, promise_of_frame, release, resume, save, save_for, sleeper_at, slots_of, suspend, with_new_slots}
use Rattle.rule_laws.specs.run_source.State.{frame_address_of, gives, instance_at, next, own_facts, own_frame, own_instance, point_of, with_instance, with_left, with_memory, work_of}
use Rattle.rule_laws.specs.run_source.declared.state.Instance.{Instance}
use Rattle.rule_laws.specs.run_source.declared.state.Mode.{Mode}
use Rattle.rule_laws.specs.run_source.declared.state.State.{State}
use Rattle.rule_laws.specs.run_source.declared.state.Status.{Status}
use Rattle.ir_model.specs.Names.{function_at}
use Rattle.ir_model.specs.declared.instr.Instr.{Instr}
use Rattle.ir_model.specs.declared.module.Block.{Block}
use Rattle.ir_model.specs.declared.module.Frame.{Frame}
use Rattle.ir_model.specs.declared.module.Function.{Function}
use Rattle.ir_model.specs.declared.module.Module.{Module}
use Rattle.ir_model.specs.declared.operand.Operand.{Operand}
use Rattle.rule_laws.specs.ir_paths.Facts.{facts_of}
use Rattle.rule_laws.specs.ir_paths.Slots.{promise_of}
use Rattle.rule_laws.specs.ir_paths.Windows.{call_result, destroy_label, label_at, resume_label, suspend_of}
use Rattle.rule_laws.specs.ir_paths.declared.point.Facts.{Facts}
use Rattle.rule_laws.specs.ir_paths.declared.point.Point.{Point}
use Rattle.rule_laws.specs.run_step.Results.{and_then, found, ok_if}
use Rattle.rule_laws.specs.run_step.Step.{block_of, without_slots}
use Rattle.rule_laws.specs.run_step.Values.{Env, integer, pointer_to, truth_value, with_result}
use Rattle.rule_laws.specs.run_step.declared.world.Slot.{Slot}
use Rattle.pass_early_proof.proofs.early.saves.Blocks.{get_block}
use Rattle.run_states.proofs.expanded.Environments.{result_grown}
use Rattle.pass_early_proof.proofs.early.saves.Parts.{final_saved, function_saved, has_final_saved}
use Rattle.pass_early_proof.proofs.early.saves.Slots.{same_promise, same_ramp_slots}
use Rattle.pass_early_proof.proofs.early.saves.Windows.{suspend_lone}
use Rattle.pass_early_proof.specs.early.saves.SavesWritten.{is_bare, save_count, saved_block, saved_function, saves_written}
use Rattle.pass_early_proof.specs.early.saves.Spots.{back_of, front_of, number_of_block}
use Rattle.rule_laws.specs.ir_laws.facts.expanded.Spots.{instrs_in}
use Rattle.rule_laws.specs.ir_laws.paths.expanded.Tokens.{HasNamedTokens}
use Rattle.rule_laws.specs.ir_laws.facts.expanded.Tokens.{IsNamedResult}
use Rattle.pass_early_proof.proofs.early.save_states.Acts.{new_slots_same, over_saved, settled_saved, slots_saved}
use Rattle.pass_early_proof.proofs.early.save_states.Calls.{return_saved}
use Rattle.pass_early_proof.proofs.early.save_states.Resumes.{continue_saved, sleeper_saved, sleeping}
use Rattle.run_states.proofs.saved.States.{facts_are}
use Rattle.pass_early_proof.proofs.early.save_states.States.{facts_saved, found_saved, own_saved, with_instance_saved, with_number}
use Rattle.pass_early_proof.proofs.early.save_states.Suspends.{save_for_saved}
use Rattle.rule_laws.specs.ir_laws.paths.saved.SavedState.{AreTokensNamed}
use Rattle.pass_early_proof.specs.early.save_states.SavedState.{IsNamedBelow, IsOwnedBy, StandsAlone, saved_activation, saved_instance, saved_result, saved_state, saved_values}
use Rattle.rule_laws.specs.ir_laws.facts.sound_states.Named.{AreLocalsNamed}
use Rattle.rule_laws.specs.run_source_tables.Given.{Given, has_final, is_final, is_true}

-- ---- labels behind a suspend

label_there : (f : Function) (n : ℕ) (s : Point) → label_at n (slice_get (saved_function f).blocks s.block) ≡ label_at n (slice_get f.blocks s.block)
label_there f n s = ap (label_at n) (get_block f.coroutine s.block (length f.names) f.blocks) ∙ on (slice_get f.blocks s.block)
  where
    on : (o : Option Block) → label_at n (option_map (saved_block f.coroutine (number_of_block f.coroutine s.block (length f.names) f.blocks)) o) ≡ label_at n o
    on None = refl
    on (Some b) = refl

-- ---- results of calls

module _ (m : Module) where
  pub gives_saved : (s : State) → StandsAlone m s → (result : Option ℕ) (v : Value) → IsNamedResult (length s.top.values) result → gives (saved_state m s) result v ≡ saved_state m (gives s result v)
  gives_saved s lone result v named =
      ap (λ (e : Env). record (saved_state m s) { top = record (saved_activation m s.top) { at = (saved_activation m s.top).at + 1; values = e } }) (result_grown (save_count (function_at m s.top.func)) s.top.values result v named)
      ∙ settled_saved m s lone (record { world = s.world; values = with_result s.top.values result v })

  pub next_saved : (s : State) → StandsAlone m s → next (saved_state m s) ≡ saved_state m (next s)
  next_saved s lone = settled_saved m s lone (work_of s)

  -- ---- frame and free

  address_saved : (o : Option (ℕ × Instance)) → frame_address (with_number m o) ≡ frame_address o
  address_saved None = refl
  address_saved (Some (i, x)) = refl

  pub frame_saved : (s : State) → StandsAlone m s → (result : Option ℕ) → IsNamedResult (length s.top.values) result → gives (saved_state m s) result (frame_address (own_instance (saved_state m s))) ≡ saved_state m (gives s result (frame_address (own_instance s)))
  frame_saved s lone result named =
      ap (gives (saved_state m s) result) (ap frame_address (own_saved m s) ∙ address_saved (own_instance s)) ∙ gives_saved s lone result (frame_address (own_instance s)) named

  abbrev is_released : Instance → Instance
  is_released x = record x { released = true }

  abbrev is_done : Instance → Instance
  is_done x = record x { status = Status.Finished }

  freed : (s : State) → StandsAlone m s → (result : Option ℕ) → IsNamedResult (length s.top.values) result → (o : Option (ℕ × Instance)) → gives (change_own (saved_state m s) is_released (with_number m o)) result (frame_address (with_number m o)) ≡ saved_state m (gives (change_own s is_released o) result (frame_address o))
  freed s lone result named None = gives_saved s lone result Value.Poison named
  freed s lone result named (Some (i, x)) =
      ap (λ (t : State). gives t result (frame_address_of x)) (with_instance_saved m s i (is_released x))
      ∙ gives_saved (with_instance s i (is_released x)) lone result (frame_address_of x) named

  pub free_saved : (s : State) → StandsAlone m s → (result : Option ℕ) → IsNamedResult (length s.top.values) result → gives (release (saved_state m s)) result (frame_address (own_instance (saved_state m s))) ≡ saved_state m (gives (release s) result (frame_address (own_instance s)))
  free_saved s lone result named =
      ap (λ (o : Option (ℕ × Instance)). gives (change_own (saved_state m s) is_released o) result (frame_address o)) (own_saved m s) ∙ freed s lone result named (own_instance s)

  -- ---- end

  after_saved : (s : State) → StandsAlone m s → IsNamedBelow s.top.result s.below → (result : Option ℕ) → IsNamedResult (length s.top.values) result → (mode : Mode) → after_end (saved_state m s) result mode ≡ saved_result m (after_end s result mode)
  after_saved s lone below result named Mode.Resumed = return_saved m s None below
  after_saved s lone below result named Mode.Plain = ap Ok (gives_saved s lone result (truth_value false) named)
  after_saved s lone below result named Mode.Ramp = ap Ok (gives_saved s lone result (truth_value false) named)
  after_saved s lone below result named (Mode.GivenRamp v) = ap Ok (gives_saved s lone result (truth_value false) named)
  after_saved s lone below result named (Mode.Entering from label) = ap Ok (gives_saved s lone result (truth_value false) named)

  slots_same : (o : Option (ℕ × Instance)) → slots_of (with_number m o) ≡ slots_of o
  slots_same None = refl
  slots_same (Some (i, x)) = refl

  module _ (s : State) (lone : StandsAlone m s) (below : IsNamedBelow s.top.result s.below) (result : Option ℕ) (named : IsNamedResult (length s.top.values) result) where
    finished : (memory : List MemoryBlock) (o : Option (ℕ × Instance)) → after_end (with_memory (change_own (saved_state m s) is_done (with_number m o)) memory) result s.top.mode ≡ saved_result m (after_end (with_memory (change_own s is_done o) memory) result s.top.mode)
    finished memory None = after_saved (with_memory s memory) lone below result named s.top.mode
    finished memory (Some (i, x)) =
        ap (λ (t : State). after_end (with_memory t memory) result s.top.mode) (with_instance_saved m s i (is_done x))
        ∙ after_saved (with_memory (with_instance s i (is_done x)) memory) lone below result named s.top.mode

    finish_saved : after_end (finish (saved_state m s)) result s.top.mode ≡ saved_result m (after_end (finish s) result s.top.mode)
    finish_saved =
        ap (λ (o : Option (ℕ × Instance)). after_end (with_memory (change_own (saved_state m s) is_done o) (without_slots s.world.memory (slots_of o))) result s.top.mode) (own_saved m s)
        ∙ ap (λ (slots : List Slot). after_end (with_memory (change_own (saved_state m s) is_done (with_number m (own_instance s))) (without_slots s.world.memory slots)) result s.top.mode) (slots_same (own_instance s))
        ∙ finished (without_slots s.world.memory (slots_of (own_instance s))) (own_instance s)

    pub end_saved : end_of (saved_state m s) finish result ≡ saved_result m (end_of s finish result)
    end_saved = on s.top.has_left
      where
        on : (b : Bool) → after_end (if b then saved_state m s else finish (saved_state m s)) result s.top.mode ≡ saved_result m (after_end (if b then s else finish s) result s.top.mode)
        on true = after_saved s lone below result named s.top.mode
        on false = finish_saved

  -- ---- saves and suspends that stand alone

  -- what goes on behind a save, in both
  pub saved_then : (s : State) (save suspend : Point) (F G : State → State) → ((i : ℕ) (x : Instance) → F (saved_state m (with_left (with_instance s i x) true)) ≡ saved_state m (G (with_left (with_instance s i x) true))) → and_then (saved_result m (save_for s save suspend)) (λ (t : State). Ok (F t)) ≡ saved_result m (and_then (save_for s save suspend) (λ (t : State). Ok (G t)))
  saved_then s save suspend F G h = on (own_instance s)
    where
      kept : Instance → Instance
      kept x = record x { status = Status.Suspended suspend s.top.values; last_save = Some (record { depth = length s.below; save = save }) }

      test : (b : Bool) (i : ℕ) (x : Instance) → and_then (saved_result m (ok_if b Cause.State (with_left (with_instance s i (kept x)) true))) (λ (t : State). Ok (F t)) ≡ saved_result m (and_then (ok_if b Cause.State (with_left (with_instance s i (kept x)) true)) (λ (t : State). Ok (G t)))
      test true i x = ap Ok (h i (kept x))
      test false i x = refl

      on : (o : Option (ℕ × Instance)) → and_then (saved_result m (and_then (found Cause.State o) (λ (y : ℕ × Instance). ok_if (not y.1.freed) Cause.State (with_left (with_instance s y.0 (kept y.1)) true)))) (λ (t : State). Ok (F t)) ≡ saved_result m (and_then (and_then (found Cause.State o) (λ (y : ℕ × Instance). ok_if (not y.1.freed) Cause.State (with_left (with_instance s y.0 (kept y.1)) true))) (λ (t : State). Ok (G t)))
      on None = refl
      on (Some y) = test (not y.1.freed) y.0 y.1

  lone_back : (s : State) → StandsAlone m s → back_of (function_at m s.top.func) (point_of s) ≡ front_of (function_at m s.top.func) (point_of s)
  lone_back s lone = ap (λ (k : ℕ). record { block = s.top.block; at = k }) (ap (λ (k : ℕ). (front_of (function_at m s.top.func) (point_of s)).at + k) lone ∙ add-zero (front_of (function_at m s.top.func) (point_of s)).at)

  module _ (s : State) (lone : StandsAlone m s) (own : IsOwnedBy s (own_instance s)) where
    abbrev v : Value
    v = integer 8 (negsuc 0)

    bare_suspend : (result : Option ℕ) → IsNamedResult (length s.top.values) result → and_then (save_for (saved_state m s) (front_of (function_at m s.top.func) (point_of s)) (front_of (function_at m s.top.func) (point_of s))) (λ (t : State). Ok (gives t result v)) ≡ saved_result m (and_then (save_for s (point_of s) (point_of s)) (λ (t : State). Ok (gives t result v)))
    bare_suspend result named =
        ap (λ (q : Point). and_then (save_for (saved_state m s) (front_of (function_at m s.top.func) (point_of s)) q) (λ (t : State). Ok (gives t result v))) (sym (lone_back s lone))
        ∙ ap (λ (r : Result State Cause). and_then r (λ (t : State). Ok (gives t result v))) (save_for_saved m s (point_of s) (point_of s) own)
        ∙ saved_then s (point_of s) (point_of s) (λ t. gives t result v) (λ t. gives t result v) (λ i x. gives_saved (with_left (with_instance s i x) true) lone result v named)

    pub suspend_saved : (result : Option ℕ) → IsNamedResult (length s.top.values) result → (x : Operand) → suspend (saved_state m s) result x ≡ saved_result m (suspend s result x)
    suspend_saved result named Operand.None = bare_suspend result named
    suspend_saved result named (Operand.Local n) = ap Ok (gives_saved s lone result v named)
    suspend_saved result named (Operand.Global n) = ap Ok (gives_saved s lone result v named)
    suspend_saved result named (Operand.Number z) = ap Ok (gives_saved s lone result v named)
    suspend_saved result named Operand.True = ap Ok (gives_saved s lone result v named)
    suspend_saved result named Operand.False = ap Ok (gives_saved s lone result v named)
    suspend_saved result named Operand.Null = ap Ok (gives_saved s lone result v named)
    suspend_saved result named Operand.Poison = ap Ok (gives_saved s lone result v named)

  module _ (sizes : List Frame) (answers : List ℤ) where
    abbrev g : Given
    g = given m sizes answers

    abbrev k : Given
    k = given (saves_written m) sizes answers

    -- what stands at the place of a state
    abbrev pub here_in : State → Option Instr
    here_in s = slice_get (instrs_in (slice_get (function_at m s.top.func).blocks s.top.block)) s.top.at

    -- a save that was there
    pub save_saved : (s : State) → StandsAlone m s → IsOwnedBy s (own_instance s) → HasNamedTokens (function_at m s.top.func) → (i : Instr) → here_in s ≡ Some i → is_bare (function_at m s.top.func).coroutine i ≡ false → IsNamedResult (length (function_at m s.top.func).names) (call_result i) → save k (saved_state m s) ≡ saved_result m (save g s)
    save_saved s lone own tokens i e b named =
        ap (λ (o : Option Point). and_then (found Cause.State o) (λ (suspend : Point). and_then (save_for (saved_state m s) (front_of f (point_of s)) suspend) (λ (t : State). Ok (next t))))
        (ap (λ (h : Function). suspend_of h (front_of f (point_of s))) (function_saved m s.top.func) ∙ suspend_lone f tokens (point_of s) i e b named)
        ∙ on (suspend_of f (point_of s))
      where
        f : Function
        f = function_at m s.top.func

        on : (o : Option Point) → and_then (found Cause.State (option_map (back_of f) o)) (λ (suspend : Point). and_then (save_for (saved_state m s) (front_of f (point_of s)) suspend) (λ (t : State). Ok (next t))) ≡ saved_result m (and_then (found Cause.State o) (λ (suspend : Point). and_then (save_for s (point_of s) suspend) (λ (t : State). Ok (next t))))
        on None = refl
        on (Some q) =
            ap (λ (r : Result State Cause). and_then r (λ (t : State). Ok (next t))) (save_for_saved m s (point_of s) q own)
            ∙ saved_then s (point_of s) q next next (λ j x. next_saved (with_left (with_instance s j x) true) lone)

    -- ---- begin

    begun_saved : (s : State) → HasNamedTokens (function_at m s.top.func) → (block start : ℕ) → begun k (saved_state m s) block start ≡ saved_state m (begun g s block start)
    begun_saved s tokens block start =
        ap (λ (n : ℕ). with_new_slots (own_facts k (saved_state m s)).ramp_slots (Some (n, x)) (record (saved_state m s) { instances = map (saved_instance m) s.instances ++ x ∷ []; top = record (saved_activation m s.top) { instance = Some n; slots = [] } }) s.top.slots) (length-map s.instances (saved_instance m))
        ∙ ap (λ (xs : List Instance). with_new_slots (own_facts k (saved_state m s)).ramp_slots (Some (length s.instances, x)) (record (saved_state m s) { instances = xs; top = record (saved_activation m s.top) { instance = Some (length s.instances); slots = [] } }) s.top.slots) (sym (map-append (saved_instance m) s.instances (x ∷ [])))
        ∙ ap (λ (y : Facts). with_new_slots y.ramp_slots (Some (length s.instances, x)) (saved_state m t) s.top.slots) (facts_saved m s.top.func)
        ∙ new_slots_same (facts_of (saved_function f)).ramp_slots (facts_of f).ramp_slots (Some (length s.instances, x)) (saved_state m t) s.top.slots (same_ramp_slots f tokens)
        ∙ slots_saved m (facts_of f).ramp_slots (Some (length s.instances, x)) t s.top.slots
        ∙ ap (λ (y : Facts). saved_state m (with_new_slots y.ramp_slots (Some (length s.instances, x)) t s.top.slots)) (sym (facts_are m s.top.func))
      where
        f : Function
        f = function_at m s.top.func

        x : Instance
        x = new_instance s.top.func block start

        t : State
        t = record s { instances = s.instances ++ x ∷ []; top = record s.top { instance = Some (length s.instances); slots = [] } }

    pub begin_saved : (s : State) → StandsAlone m s → HasNamedTokens (function_at m s.top.func) → (result : Option ℕ) → IsNamedResult (length s.top.values) result → (mem : Value) → begin k (saved_state m s) result mem ≡ saved_result m (begin g s result mem)
    begin_saved s lone tokens result named mem = on (is_none s.top.instance)
      where
        there : (memory : List MemoryBlock) (o : Option ℕ) → and_then (and_then (found Cause.Begin o) (λ (b : ℕ). Ok (begun k (with_memory (saved_state m s) memory) b 0))) (λ (u : State). Ok (gives u result mem)) ≡ saved_result m (and_then (and_then (found Cause.Begin o) (λ (b : ℕ). Ok (begun g (with_memory s memory) b 0))) (λ (u : State). Ok (gives u result mem)))
        there memory None = refl
        there memory (Some b) =
            ap (λ (u : State). Ok (gives u result mem)) (begun_saved (with_memory s memory) tokens b 0)
            ∙ ap Ok (gives_saved (begun g (with_memory s memory) b 0) lone result mem named)

        owned : (r : Result (List MemoryBlock) Cause) → and_then (and_then r (λ (memory : List MemoryBlock). and_then (found Cause.Begin (block_of mem)) (λ (b : ℕ). Ok (begun k (with_memory (saved_state m s) memory) b 0)))) (λ (u : State). Ok (gives u result mem)) ≡ saved_result m (and_then (and_then r (λ (memory : List MemoryBlock). and_then (found Cause.Begin (block_of mem)) (λ (b : ℕ). Ok (begun g (with_memory s memory) b 0)))) (λ (u : State). Ok (gives u result mem)))
        owned (Err cause) = refl
        owned (Ok memory) = there memory (block_of mem)

        on : (b : Bool) → and_then (ok_if b Cause.Begin (saved_state m s)) (λ (t : State). and_then (begin_at k t mem Kind.Allocator) (λ (u : State). Ok (gives u result mem))) ≡ saved_result m (and_then (ok_if b Cause.Begin s) (λ (t : State). and_then (begin_at g t mem Kind.Allocator) (λ (u : State). Ok (gives u result mem))))
        on true = owned (own s.world.memory mem (own_frame g s).size Kind.Allocator)
        on false = refl

    -- ---- resume, destroy and done

    -- the values that a suspended instance keeps are those of its coroutine's names
    abbrev pub HaveKeptRoom : State → Type 0
    HaveKeptRoom s = (p : Value) (y : Sleeper) → sleeper_at s p ≡ Ok y → length y.values ≡ length (function_at m y.instance.coroutine).names

    abbrev AreRetained : State → Result Sleeper Cause → Type 0
    AreRetained s r = (y : Sleeper) → r ≡ Ok y → length y.values ≡ length (function_at m y.instance.coroutine).names

    module _ (names : AreLocalsNamed m) (s : State) (lone : StandsAlone m s) where
      go_saved : (y : Sleeper) → length y.values ≡ length (function_at m y.instance.coroutine).names → (label : ℕ) → continue k (saved_state m s) y.number (saved_instance m y.instance) (back_of (function_at m y.instance.coroutine) y.suspend) (saved_values (function_at m y.instance.coroutine) y.values) label ≡ saved_state m (continue g s y.number y.instance y.suspend y.values label)
      go_saved y room label = continue_saved m sizes answers s y.number y.instance y.suspend y.values label lone (names y.instance.coroutine).phis room

      -- a resume by the function of the sleeper
      abbrev resumed_by : Sleeper → Function → Result State Cause
      resumed_by y f = ok_if (not (is_final f (back_of (function_at m y.instance.coroutine) y.suspend))) Cause.State (continue k (saved_state m s) y.number (saved_instance m y.instance) (back_of (function_at m y.instance.coroutine) y.suspend) (saved_values (function_at m y.instance.coroutine) y.values) (resume_label f (back_of (function_at m y.instance.coroutine) y.suspend)))

      resume_by : (r : Result Sleeper Cause) → AreRetained s r → and_then (sleeping m sizes answers r) (λ (y : Sleeper). ok_if (not (is_final (function_at (saves_written m) y.instance.coroutine) y.suspend)) Cause.State (continue k (saved_state m s) y.number y.instance y.suspend y.values (resume_label (function_at (saves_written m) y.instance.coroutine) y.suspend))) ≡ saved_result m (and_then r (λ (y : Sleeper). ok_if (not (is_final (function_at m y.instance.coroutine) y.suspend)) Cause.State (continue g s y.number y.instance y.suspend y.values (resume_label (function_at m y.instance.coroutine) y.suspend))))
      resume_by (Err cause) h = refl
      resume_by (Ok y) h =
          ap (resumed_by y) (function_saved m y.instance.coroutine)
          ∙ ap (λ (b : Bool). ok_if (not b) Cause.State (continue k (saved_state m s) y.number (saved_instance m y.instance) (back_of f y.suspend) (saved_values f y.values) (resume_label (saved_function f) (back_of f y.suspend)))) (final_saved f y.suspend)
          ∙ ap (λ (label : ℕ). ok_if (not (is_final f y.suspend)) Cause.State (continue k (saved_state m s) y.number (saved_instance m y.instance) (back_of f y.suspend) (saved_values f y.values) label)) (label_there f 0 y.suspend)
          ∙ ap (ok_if (not (is_final f y.suspend)) Cause.State) (go_saved y (h y refl) (resume_label f y.suspend))
          ∙ on (not (is_final f y.suspend))
        where
          f : Function
          f = function_at m y.instance.coroutine

          on : (b : Bool) → ok_if b Cause.State (saved_state m (continue g s y.number y.instance y.suspend y.values (resume_label f y.suspend))) ≡ saved_result m (ok_if b Cause.State (continue g s y.number y.instance y.suspend y.values (resume_label f y.suspend)))
          on true = refl
          on false = refl

      pub resume_saved : HaveKeptRoom s → (p : Value) → resume k (continue k) (saved_state m s) p ≡ saved_result m (resume g (continue g) s p)
      resume_saved room p =
          ap (λ (r : Result Sleeper Cause). and_then r (λ (y : Sleeper). ok_if (not (is_final (function_at (saves_written m) y.instance.coroutine) y.suspend)) Cause.State (continue k (saved_state m s) y.number y.instance y.suspend y.values (resume_label (function_at (saves_written m) y.instance.coroutine) y.suspend)))) (sleeper_saved m sizes answers s p)
          ∙ resume_by (sleeper_at s p) (room p)

      destroy_by : (r : Result Sleeper Cause) → AreRetained s r → and_then (sleeping m sizes answers r) (λ (y : Sleeper). Ok (continue k (saved_state m s) y.number y.instance y.suspend y.values (destroy_label (function_at (saves_written m) y.instance.coroutine) y.suspend))) ≡ saved_result m (and_then r (λ (y : Sleeper). Ok (continue g s y.number y.instance y.suspend y.values (destroy_label (function_at m y.instance.coroutine) y.suspend))))
      destroy_by (Err cause) h = refl
      destroy_by (Ok y) h =
          ap (λ (label : ℕ). Ok (continue k (saved_state m s) y.number (saved_instance m y.instance) (back_of f y.suspend) (saved_values f y.values) label))
          (ap (λ (f2 : Function). destroy_label f2 (back_of f y.suspend)) (function_saved m y.instance.coroutine) ∙ label_there f 1 y.suspend)
          ∙ ap Ok (go_saved y (h y refl) (destroy_label f y.suspend))
        where
          f : Function
          f = function_at m y.instance.coroutine

      pub destroy_saved : HaveKeptRoom s → (p : Value) → destroy k (continue k) (saved_state m s) p ≡ saved_result m (destroy g (continue g) s p)
      destroy_saved room p =
          ap (λ (r : Result Sleeper Cause). and_then r (λ (y : Sleeper). Ok (continue k (saved_state m s) y.number y.instance y.suspend y.values (destroy_label (function_at (saves_written m) y.instance.coroutine) y.suspend)))) (sleeper_saved m sizes answers s p)
          ∙ destroy_by (sleeper_at s p) (room p)

    module _ (s : State) (lone : StandsAlone m s) (result : Option ℕ) (named : IsNamedResult (length s.top.values) result) where
      done_by : (r : Result Sleeper Cause) → and_then (sleeping m sizes answers r) (λ (y : Sleeper). ok_if (has_final (function_at (saves_written m) y.instance.coroutine)) Cause.State (gives (saved_state m s) result (truth_value (is_final (function_at (saves_written m) y.instance.coroutine) y.suspend)))) ≡ saved_result m (and_then r (λ (y : Sleeper). ok_if (has_final (function_at m y.instance.coroutine)) Cause.State (gives s result (truth_value (is_final (function_at m y.instance.coroutine) y.suspend)))))
      done_by (Err cause) = refl
      done_by (Ok y) =
          ap (λ (f2 : Function). ok_if (has_final f2) Cause.State (gives (saved_state m s) result (truth_value (is_final f2 (back_of f y.suspend))))) (function_saved m y.instance.coroutine)
          ∙ ap (λ (b : Bool). ok_if b Cause.State (gives (saved_state m s) result (truth_value (is_final (saved_function f) (back_of f y.suspend))))) (has_final_saved f)
          ∙ ap (λ (b : Bool). ok_if (has_final f) Cause.State (gives (saved_state m s) result (truth_value b))) (final_saved f y.suspend)
          ∙ ap (ok_if (has_final f) Cause.State) (gives_saved s lone result (truth_value (is_final f y.suspend)) named)
          ∙ on (has_final f)
        where
          f : Function
          f = function_at m y.instance.coroutine

          on : (b : Bool) → ok_if b Cause.State (saved_state m (gives s result (truth_value (is_final f y.suspend)))) ≡ saved_result m (ok_if b Cause.State (gives s result (truth_value (is_final f y.suspend))))
          on true = refl
          on false = refl

      pub done_saved : (p : Value) → done_at k (saved_state m s) result p ≡ saved_result m (done_at g s result p)
      done_saved p =
          ap (λ (r : Result Sleeper Cause). and_then r (λ (y : Sleeper). ok_if (has_final (function_at (saves_written m) y.instance.coroutine)) Cause.State (gives (saved_state m s) result (truth_value (is_final (function_at (saves_written m) y.instance.coroutine) y.suspend))))) (sleeper_saved m sizes answers s p)
          ∙ done_by (sleeper_at s p)

    -- ---- the promise

    module _ (tokens : AreTokensNamed m) where
      promise_there : (x : Instance) → promise_block k (saved_instance m x) ≡ promise_block g x
      promise_there x =
          ap (option_and_then (block_of_slot x.slots)) (ap promise_of (function_saved m x.coroutine) ∙ same_promise (function_at m x.coroutine) (tokens x.coroutine))

      to_promise : (o : Option (ℕ × Instance)) → and_then (found Cause.Frame (with_number m o)) (λ (y : ℕ × Instance). and_then (found Cause.Promise (promise_block k y.1)) (λ (b : ℕ). ok_if (not (is_over y.1)) Cause.Dead (pointer_to b))) ≡ and_then (found Cause.Frame o) (λ (y : ℕ × Instance). and_then (found Cause.Promise (promise_block g y.1)) (λ (b : ℕ). ok_if (not (is_over y.1)) Cause.Dead (pointer_to b)))
      to_promise None = refl
      to_promise (Some (i, x)) =
          let block = promise_there x in
          let over = over_saved m x in
          λ j. and_then (found Cause.Promise (block j)) (λ (b : ℕ). ok_if (not (over j)) Cause.Dead (pointer_to b))

      find_saved : (b : ℕ) (xs : List Instance) → find (has_promise_at k b) (map (saved_instance m) xs) ≡ option_map (saved_instance m) (find (has_promise_at g b) xs)
      find_saved b [] = refl
      find_saved b (x ∷ xs) =
          ap (λ (o : Option ℕ). if option_map_or (λ (c : ℕ). b == c) o false then Some (saved_instance m x) else find (has_promise_at k b) (map (saved_instance m) xs)) (promise_there x)
          ∙ ap (λ (o : Option Instance). if has_promise_at g b x then Some (saved_instance m x) else o) (find_saved b xs)
          ∙ on (has_promise_at g b x)
        where
          on : (t : Bool) → (if t then Some (saved_instance m x) else option_map (saved_instance m) (find (has_promise_at g b) xs)) ≡ option_map (saved_instance m) (if t then Some x else find (has_promise_at g b) xs)
          on true = refl
          on false = refl

      from_promise : (s : State) (v : Value) → frame_of_promise k (saved_state m s) v ≡ frame_of_promise g s v
      from_promise s (Value.Ptr (Pointer.At b offset)) =
          ap (λ (o : Option Instance). and_then (found Cause.Promise (if offset.bits == 0 then o else None)) (λ (x : Instance). ok_if (is_live_at s.world.memory b) Cause.Promise (frame_address_of x))) (find_saved b s.instances)
          ∙ on (offset.bits == 0) (find (has_promise_at g b) s.instances)
        where
          on : (t : Bool) (o : Option Instance) → and_then (found Cause.Promise (if t then option_map (saved_instance m) o else None)) (λ (x : Instance). ok_if (is_live_at s.world.memory b) Cause.Promise (frame_address_of x)) ≡ and_then (found Cause.Promise (if t then o else None)) (λ (x : Instance). ok_if (is_live_at s.world.memory b) Cause.Promise (frame_address_of x))
          on true None = refl
          on true (Some x) = refl
          on false o = refl
      from_promise s (Value.Ptr Pointer.Null) = refl
      from_promise s (Value.Ptr (Pointer.Func f)) = refl
      from_promise s Value.Poison = refl
      from_promise s (Value.Int x) = refl

      promise_same : (s : State) (v : Value) (from : Operand) → promise k (saved_state m s) v from ≡ promise g s v from
      promise_same s v from = on (is_true from)
        where
          on : (t : Bool) → (if t then frame_of_promise k (saved_state m s) v else promise_of_frame k (saved_state m s) v) ≡ (if t then frame_of_promise g s v else promise_of_frame g s v)
          on true = from_promise s v
          on false =
              ap (λ (o : Option (ℕ × Instance)). and_then (found Cause.Frame o) (λ (y : ℕ × Instance). and_then (found Cause.Promise (promise_block k y.1)) (λ (b : ℕ). ok_if (not (is_over y.1)) Cause.Dead (pointer_to b)))) (found_saved m s.instances v)
              ∙ to_promise (instance_at s.instances v)

      pub promise_saved : (s : State) → StandsAlone m s → (result : Option ℕ) → IsNamedResult (length s.top.values) result → (v : Value) (from : Operand) → and_then (promise k (saved_state m s) v from) (λ (w : Value). Ok (gives (saved_state m s) result w)) ≡ saved_result m (and_then (promise g s v from) (λ (w : Value). Ok (gives s result w)))
      promise_saved s lone result named v from =
          ap (λ (r : Result Value Cause). and_then r (λ (w : Value). Ok (gives (saved_state m s) result w))) (promise_same s v from)
          ∙ on (promise g s v from)
        where
          on : (r : Result Value Cause) → and_then r (λ (w : Value). Ok (gives (saved_state m s) result w)) ≡ saved_result m (and_then r (λ (w : Value). Ok (gives s result w)))
          on (Err cause) = refl
          on (Ok w) = ap Ok (gives_saved s lone result w named)
