-- What actions do to a state whose values are cut: slots, calls and returns, deallocations, and the calls of coroutines.
use Rattle.std.proofs.Common.{◌≡◌, ℕ, Bool, true, false, List, [], ◌∷◌, ◌++◌, length, refl, sym, ap, ◌∙◌, arith}
use Rattle.std.proofs.lemmas.List.{length-map, map-append}
use Rattle.std.specs.Prelude.{Some, None, Ok, Err, Option, Result, filter, find, map, not, negsuc, option_map, unwrap_or, ◌&&◌, ◌||◌, ◌==◌, if◌then◌else◌, is_none, replicate}
use Rattle.ir_laws.specs.run_memory.Memory.{disown, killed, own}
use Rattle.ir_laws.specs.run_memory.declared.block.Kind.{Kind}
use Rattle.ir_laws.specs.run_memory.declared.block.MemoryBlock.{MemoryBlock}
use Rattle.ir_laws.specs.run_memory.declared.pointer.Pointer.{Pointer}
use Rattle.ir_laws.specs.run_memory.declared.pointer.Value.{Value}
use Rattle.ir_laws.specs.ir_base.declared.cause.Cause.{Cause}
use Rattle.ir_laws.specs.ir_base.declared.outcome.Outcome.{Outcome}
use Rattle.ir_laws.specs.run_source.Source.{Sleeper, after_end, begin, begin_at, begun, called, change_own, continue, deallocate, destroy, done_at, end_of, enter, enter_block, finish, frame_address, frame_of_promise, has_promise_at, if_let_go, is_live_at, is_over, kill_late, let_go, may_be_freed, mode_of, new_instance, new_slot, pop, promise, promise_block, promise_of_frame, push, release, resume, resumed, return, returned, save, save_before, save_for, sleeper_at, sleeper_of, slots_of, suspend, with_new_slots}
use Rattle.ir_laws.specs.run_source.State.{frame_address_of, function_of, gives, instance_at, is_finished, next, own_facts, own_frame, own_instance, point_of, with_instance, with_left, with_memory, with_slots, with_status}
use Rattle.ir_laws.specs.run_source.declared.state.Activation.{Activation}
use Rattle.ir_laws.specs.run_source.declared.state.Instance.{Instance}
use Rattle.ir_laws.specs.run_source.declared.state.Mode.{Mode}
use Rattle.ir_laws.specs.run_source.declared.state.State.{State}
use Rattle.ir_laws.specs.run_source.declared.state.Status.{Status}
use Rattle.run_states.proofs.shortened.Short.{blank_short, params_short, result_short}
use Rattle.run_states.proofs.shortened.ShortStates.{enter_short, found_short, gives_short, own_short, suspended_short, with_instance_short}
use Rattle.ir_laws.specs.facts.sound_states.Named.{AreUsesNamed}
use Rattle.run_states.specs.shortened.Shortened.{IsOwned, cut, short_activation, short_instance, short_numbered, short_result, short_state, short_status}
use Rattle.ir_laws.specs.ir_model.Names.{function_at}
use Rattle.ir_laws.specs.ir_model.declared.module.Module.{Module}
use Rattle.ir_laws.specs.ir_model.declared.operand.Operand.{Operand}
use Rattle.ir_laws.specs.ir_paths.Slots.{has_name}
use Rattle.ir_laws.specs.ir_paths.Windows.{destroy_label, resume_label, suspend_of}
use Rattle.ir_laws.specs.ir_paths.declared.point.Point.{Point}
use Rattle.ir_laws.specs.run_step.Results.{and_then, found, ok_if}
use Rattle.ir_laws.specs.run_step.Step.{block_of, deallocated, outcome_of, with_params, without_slots}
use Rattle.ir_laws.specs.run_step.Values.{Env, integer, pointer_to, truth_value}
use Rattle.ir_laws.specs.run_step.declared.world.Slot.{Slot}
use Rattle.ir_laws.specs.run_source_tables.Given.{Given, has_final, is_final, is_true}

module _ (m : Module) where
  -- ---- slots

  slots_short : (r : List ℕ) (o : Option (ℕ × Instance)) (s : State) (slots : List Slot) → with_new_slots r (short_numbered m o) (short_state m s) slots ≡ short_state m (with_new_slots r o s slots)
  slots_short r None s slots = refl
  slots_short r (Some (i, x)) s slots =
      ap (λ (t : State). with_slots t (filter (λ (slot : Slot). has_name r slot.alloca) slots ++ s.top.slots))
      (with_instance_short m s i (record x { slots = filter (λ (slot : Slot). not (has_name r slot.alloca)) slots ++ x.slots }))

  finished_short : (func : ℕ) (status : Status) → is_finished (short_status m func status) ≡ is_finished status
  finished_short func Status.Running = refl
  finished_short func (Status.Suspended p values) = refl
  finished_short func Status.Finished = refl

  over_short : (x : Instance) → is_over (short_instance m x) ≡ is_over x
  over_short x = ap (λ (b : Bool). b || x.freed) (finished_short x.coroutine x.status)

  kill_short : (r : List ℕ) (o : Option (ℕ × Instance)) (s : State) (slot : Slot) → kill_late r (short_numbered m o) (short_state m s) slot ≡ short_state m (kill_late r o s slot)
  kill_short r None s slot = refl
  kill_short r (Some (i, x)) s slot =
      ap (λ (b : Bool). if b && not (has_name r slot.alloca) then with_memory (short_state m s) (killed s.world.memory slot.block) else short_state m s) (over_short x)
      ∙ on (is_over x && not (has_name r slot.alloca))
    where
      on : (b : Bool) → (if b then with_memory (short_state m s) (killed s.world.memory slot.block) else short_state m s) ≡ short_state m (if b then with_memory s (killed s.world.memory slot.block) else s)
      on true = refl
      on false = refl

  -- ---- deallocation

  may_be_freed_short : (x : Instance) → may_be_freed (short_instance m x) ≡ may_be_freed x
  may_be_freed_short x = ap (λ (b : Bool). x.released && not b) (suspended_short m x.coroutine x.status)

  let_go_short : (s : State) (i : ℕ) (x : Instance) → let_go (short_state m s) i (short_instance m x) ≡ short_state m (let_go s i x)
  let_go_short s i x = ap (λ (t : State). with_memory t (disown (without_slots s.world.memory x.slots) x.block)) (with_instance_short m s i (record x { freed = true }))

  if_let_go_short : (s : State) (o : Option (ℕ × Instance)) → if_let_go (short_state m s) (short_numbered m o) ≡ short_state m (if_let_go s o)
  if_let_go_short s None = refl
  if_let_go_short s (Some (i, x)) =
      ap (λ (b : Bool). if b then let_go (short_state m s) i (short_instance m x) else short_state m s) (may_be_freed_short x) ∙ on (may_be_freed x)
    where
      on : (b : Bool) → (if b then let_go (short_state m s) i (short_instance m x) else short_state m s) ≡ short_state m (if b then let_go s i x else s)
      on true = let_go_short s i x
      on false = refl

  -- what a deallocation of the address in a state leaves
  abbrev freed_in : State → Value → Result State Cause
  freed_in t p = and_then (deallocated t.world.memory p) (λ (memory : List MemoryBlock). Ok (next (with_memory t memory)))

  freed_in_short : (t : State) (p : Value) → freed_in (short_state m t) p ≡ short_result m (freed_in t p)
  freed_in_short t p = on (deallocated t.world.memory p)
    where
      on : (r : Result (List MemoryBlock) Cause) → and_then r (λ (memory : List MemoryBlock). Ok (next (with_memory (short_state m t) memory))) ≡ short_result m (and_then r (λ (memory : List MemoryBlock). Ok (next (with_memory t memory))))
      on (Err cause) = refl
      on (Ok memory) = refl

  pub deallocate_short : (s : State) (p : Value) → deallocate (short_state m s) p ≡ short_result m (deallocate s p)
  deallocate_short s p =
      ap (λ (o : Option (ℕ × Instance)). freed_in (if_let_go (short_state m s) o) p) (found_short m s.instances p)
      ∙ ap (λ (t : State). freed_in t p) (if_let_go_short s (instance_at s.instances p))
      ∙ freed_in_short (if_let_go s (instance_at s.instances p)) p

  -- ---- returns

  pop_short : (s : State) (v : Option Value) (below : List Activation) → pop (short_state m s) v (map (short_activation m) below) ≡ short_result m (pop s v below)
  pop_short s v [] = on (outcome_of v)
    where
      on : (r : Result Outcome Cause) → and_then r (λ outcome. Ok (record (short_state m s) { outcome = outcome })) ≡ short_result m (and_then r (λ outcome. Ok (record s { outcome = outcome })))
      on (Err cause) = refl
      on (Ok outcome) = refl
  pop_short s v (a ∷ below) =
      ap (λ (e : Env). Ok (record (short_state m s) { top = record (short_activation m a) { values = e }; below = map (short_activation m) below }))
      (result_short (length (function_at m a.func).names) a.values s.top.result (unwrap_or v Value.Poison))

  pub return_short : (s : State) (v : Option Value) → return (short_state m s) v ≡ short_result m (return s v)
  return_short s v = pop_short (returned s) v s.below

  -- ---- free and end

  address_short : (o : Option (ℕ × Instance)) → frame_address (short_numbered m o) ≡ frame_address o
  address_short None = refl
  address_short (Some (i, x)) = refl

  change_short : (s : State) (f : Instance → Instance) → ((x : Instance) → f (short_instance m x) ≡ short_instance m (f x)) → (o : Option (ℕ × Instance)) → change_own (short_state m s) f (short_numbered m o) ≡ short_state m (change_own s f o)
  change_short s f h None = refl
  change_short s f h (Some (i, x)) = ap (with_instance (short_state m s) i) (h x) ∙ with_instance_short m s i (f x)

  release_short : (s : State) → release (short_state m s) ≡ short_state m (release s)
  release_short s =
      ap (change_own (short_state m s) (λ (x : Instance). record x { released = true })) (own_short m s)
      ∙ change_short s (λ (x : Instance). record x { released = true }) (λ x. refl) (own_instance s)

  pub free_short : (s : State) (result : Option ℕ) → gives (release (short_state m s)) result (frame_address (own_instance (short_state m s))) ≡ short_state m (gives (release s) result (frame_address (own_instance s)))
  free_short s result =
      (λ i. gives (release_short s i) result (frame_address (own_short m s i)))
      ∙ ap (gives (short_state m (release s)) result) (address_short (own_instance s))
      ∙ gives_short m (release s) result (frame_address (own_instance s))

  pub frame_short : (s : State) (result : Option ℕ) → gives (short_state m s) result (frame_address (own_instance (short_state m s))) ≡ short_state m (gives s result (frame_address (own_instance s)))
  frame_short s result =
      ap (λ (o : Option (ℕ × Instance)). gives (short_state m s) result (frame_address o)) (own_short m s)
      ∙ ap (gives (short_state m s) result) (address_short (own_instance s))
      ∙ gives_short m s result (frame_address (own_instance s))

  slots_of_short : (o : Option (ℕ × Instance)) → slots_of (short_numbered m o) ≡ slots_of o
  slots_of_short None = refl
  slots_of_short (Some (i, x)) = refl

  finish_short : (s : State) → finish (short_state m s) ≡ short_state m (finish s)
  finish_short s =
      ap (λ (o : Option (ℕ × Instance)). with_memory (change_own (short_state m s) (λ (x : Instance). record x { status = Status.Finished }) o) (without_slots s.world.memory (slots_of o))) (own_short m s)
      ∙ (λ i. with_memory (change_short s (λ (x : Instance). record x { status = Status.Finished }) (λ x. refl) (own_instance s) i) (without_slots s.world.memory (slots_of_short (own_instance s) i)))

  after_end_short : (s : State) (result : Option ℕ) (mode : Mode) → after_end (short_state m s) result mode ≡ short_result m (after_end s result mode)
  after_end_short s result Mode.Resumed = return_short s None
  after_end_short s result Mode.Plain = ap Ok (gives_short m s result (truth_value false))
  after_end_short s result Mode.Ramp = ap Ok (gives_short m s result (truth_value false))
  after_end_short s result (Mode.GivenRamp v) = ap Ok (gives_short m s result (truth_value false))
  after_end_short s result (Mode.Entering from label) = ap Ok (gives_short m s result (truth_value false))

  pub end_short : (s : State) (result : Option ℕ) → end_of (short_state m s) finish result ≡ short_result m (end_of s finish result)
  end_short s result = on s.top.has_left
    where
      on : (b : Bool) → after_end (if b then short_state m s else finish (short_state m s)) result s.top.mode ≡ short_result m (after_end (if b then s else finish s) result s.top.mode)
      on true = after_end_short s result s.top.mode
      on false = ap (λ (t : State). after_end t result s.top.mode) (finish_short s) ∙ after_end_short (finish s) result s.top.mode

  -- ---- save and suspend

  save_for_short : (s : State) (save suspend : Point) → IsOwned s (own_instance s) → save_for (short_state m s) save suspend ≡ short_result m (save_for s save suspend)
  save_for_short s save suspend own =
      ap (λ (o : Option (ℕ × Instance)). saved_in (short_state m s) (length (map (short_activation m) s.below)) (cut m s.top.func s.top.values) o) (own_short m s)
      ∙ ap (λ (n : ℕ). saved_in (short_state m s) n (cut m s.top.func s.top.values) (short_numbered m (own_instance s))) (length-map s.below (short_activation m))
      ∙ on (own_instance s) own
    where
      saved_in : State → ℕ → Env → Option (ℕ × Instance) → Result State Cause
      saved_in t depth values o = and_then (found Cause.State o) (λ (y : ℕ × Instance). ok_if (not y.1.freed) Cause.State (with_left (with_instance t y.0 (record y.1 { status = Status.Suspended suspend values; last_save = Some (record { depth = depth; save = save }) })) true))

      tested : (b : Bool) (x : State) → ok_if b Cause.State (short_state m x) ≡ short_result m (ok_if b Cause.State x)
      tested true x = refl
      tested false x = refl

      on : (o : Option (ℕ × Instance)) → IsOwned s o → saved_in (short_state m s) (length s.below) (cut m s.top.func s.top.values) (short_numbered m o) ≡ short_result m (saved_in s (length s.below) s.top.values o)
      on None h = refl
      on (Some y) h =
          ap (λ (func : ℕ). saved_in (short_state m s) (length s.below) (cut m func s.top.values) (short_numbered m (Some y))) (sym h)
          ∙ ap (λ (t : State). ok_if (not y.1.freed) Cause.State (with_left t true)) (with_instance_short m s y.0 (record y.1 { status = Status.Suspended suspend s.top.values; last_save = Some (record { depth = length s.below; save = save }) }))
          ∙ tested (not y.1.freed) (with_left (with_instance s y.0 (record y.1 { status = Status.Suspended suspend s.top.values; last_save = Some (record { depth = length s.below; save = save }) })) true)

  then_short : (f : State → State) → ((s : State) → f (short_state m s) ≡ short_state m (f s)) → (r : Result State Cause) → and_then (short_result m r) (λ (t : State). Ok (f t)) ≡ short_result m (and_then r (λ (t : State). Ok (f t)))
  then_short f h (Err cause) = refl
  then_short f h (Ok s) = ap Ok (h s)

  before_short : (s : State) (x : Operand) → IsOwned s (own_instance s) → save_before (short_state m s) x ≡ short_result m (save_before s x)
  before_short s Operand.None own = save_for_short s (point_of s) (point_of s) own
  before_short s (Operand.Local n) own = refl
  before_short s (Operand.Global n) own = refl
  before_short s (Operand.Number z) own = refl
  before_short s Operand.True own = refl
  before_short s Operand.False own = refl
  before_short s Operand.Null own = refl
  before_short s Operand.Poison own = refl

  pub suspend_short : (s : State) (result : Option ℕ) (x : Operand) → IsOwned s (own_instance s) → suspend (short_state m s) result x ≡ short_result m (suspend s result x)
  suspend_short s result x own =
      ap (λ (r : Result State Cause). and_then r (λ (t : State). Ok (gives t result (integer 8 (negsuc 0))))) (before_short s x own)
      ∙ then_short (λ (t : State). gives t result (integer 8 (negsuc 0))) (λ t. gives_short m t result (integer 8 (negsuc 0))) (save_before s x)

  pub save_short : (g : Given) → g.code ≡ m → (s : State) → IsOwned s (own_instance s) → save g (short_state m s) ≡ short_result m (save g s)
  save_short g is s own = on (suspend_of (function_of g s) (point_of s))
    where
      on : (o : Option Point) → and_then (found Cause.State o) (λ (q : Point). and_then (save_for (short_state m s) (point_of s) q) (λ (t : State). Ok (next t))) ≡ short_result m (and_then (found Cause.State o) (λ (q : Point). and_then (save_for s (point_of s) q) (λ (t : State). Ok (next t))))
      on None = refl
      on (Some q) =
          ap (λ (r : Result State Cause). and_then r (λ (t : State). Ok (next t))) (save_for_short s (point_of s) q own)
          ∙ then_short next (λ t. refl) (save_for s (point_of s) q)

  -- ---- what is kept of a suspended instance

  abbrev pub short_sleeper : Sleeper → Sleeper
  short_sleeper y = record y { instance = short_instance m y.instance; values = cut m y.instance.coroutine y.values }

  abbrev pub short_found : Result Sleeper Cause → Result Sleeper Cause
  short_found (Err cause) = Err cause
  short_found (Ok y) = Ok (short_sleeper y)

  sleeper_of_short : (i : ℕ) (x : Instance) (status : Status) → sleeper_of i (short_instance m x) (short_status m x.coroutine status) ≡ short_found (sleeper_of i x status)
  sleeper_of_short i x Status.Running = refl
  sleeper_of_short i x (Status.Suspended suspend values) = refl
  sleeper_of_short i x Status.Finished = refl

  pub sleeper_short : (s : State) (p : Value) → sleeper_at (short_state m s) p ≡ short_found (sleeper_at s p)
  sleeper_short s p =
      ap (λ (o : Option (ℕ × Instance)). and_then (found Cause.Frame o) (λ (y : ℕ × Instance). sleeper_of y.0 y.1 y.1.status)) (found_short m s.instances p)
      ∙ on (instance_at s.instances p)
    where
      on : (o : Option (ℕ × Instance)) → and_then (found Cause.Frame (short_numbered m o)) (λ (y : ℕ × Instance). sleeper_of y.0 y.1 y.1.status) ≡ short_found (and_then (found Cause.Frame o) (λ (y : ℕ × Instance). sleeper_of y.0 y.1 y.1.status))
      on None = refl
      on (Some y) = sleeper_of_short y.0 y.1 y.1.status

module _ (g : Given) (named : AreUsesNamed g.code) where
  abbrev short : State → State
  short s = short_state g.code s

  -- ---- a new slot

  pub new_slot_short : (s : State) (slot : Slot) → new_slot g (short s) slot ≡ short (new_slot g s slot)
  new_slot_short s slot =
      let r : List ℕ = (own_facts g s).ramp_slots in
      ap (λ (o : Option (ℕ × Instance)). with_new_slots r o (kill_late r o (short s) slot) (slot ∷ [])) (own_short g.code s)
      ∙ ap (λ (t : State). with_new_slots r (short_numbered g.code (own_instance s)) t (slot ∷ [])) (kill_short g.code r (own_instance s) s slot)
      ∙ slots_short g.code r (own_instance s) (kill_late r (own_instance s) s slot) (slot ∷ [])

  -- ---- calls

  pub called_short : (func : ℕ) (args : List Value) (result : Option ℕ) (mode : Mode) → called g.code func args result mode ≡ short_activation g.code (called g.code func args result mode)
  called_short func args result mode =
      ap (λ (e : Env). record (called g.code func args result mode) { values = e })
      (ap (λ (e : Env). with_params e (function_at g.code func).params args) (sym (blank_short n n (omega arith)))
      ∙ params_short n (replicate n None) (function_at g.code func).params args)
    where
      n : ℕ
      n = length (function_at g.code func).names

  pub enter_call_short : (s : State) (func : ℕ) (args : List Value) (result : Option ℕ) → enter g (short s) func args result ≡ short (enter g s func args result)
  enter_call_short s func args result = ap (push (short s)) (called_short func args result (mode_of (function_at g.code func)))

  -- ---- begin

  instances_short : (xs : List Instance) (x : Instance) → map (short_instance g.code) xs ++ short_instance g.code x ∷ [] ≡ map (short_instance g.code) (xs ++ x ∷ [])
  instances_short xs x = sym (map-append (short_instance g.code) xs (x ∷ []))

  begun_short : (s : State) (block start : ℕ) → begun g (short s) block start ≡ short (begun g s block start)
  begun_short s block start =
      let x : Instance = new_instance s.top.func block start in
      let n : ℕ = length s.instances in
      let t : State = record s { instances = s.instances ++ x ∷ []; top = record s.top { instance = Some n; slots = [] } } in
      (λ j. with_new_slots (own_facts g s).ramp_slots (Some (length-map s.instances (short_instance g.code) j, x)) (record (short s) { instances = instances_short s.instances x j; top = record (short s).top { instance = Some (length-map s.instances (short_instance g.code) j); slots = [] } }) s.top.slots)
      ∙ slots_short g.code (own_facts g s).ramp_slots (Some (n, x)) t s.top.slots

  begin_at_short : (s : State) (mem : Value) (kind : Kind) → begin_at g (short s) mem kind ≡ short_result g.code (begin_at g s mem kind)
  begin_at_short s mem kind = on (own s.world.memory mem (own_frame g s).size kind)
    where
      at_block : (memory : List MemoryBlock) (o : Option ℕ) → and_then (found Cause.Begin o) (λ (b : ℕ). Ok (begun g (with_memory (short s) memory) b 0)) ≡ short_result g.code (and_then (found Cause.Begin o) (λ (b : ℕ). Ok (begun g (with_memory s memory) b 0)))
      at_block memory None = refl
      at_block memory (Some b) = ap Ok (begun_short (with_memory s memory) b 0)

      on : (r : Result (List MemoryBlock) Cause) → and_then r (λ (memory : List MemoryBlock). and_then (found Cause.Begin (block_of mem)) (λ (b : ℕ). Ok (begun g (with_memory (short s) memory) b 0))) ≡ short_result g.code (and_then r (λ (memory : List MemoryBlock). and_then (found Cause.Begin (block_of mem)) (λ (b : ℕ). Ok (begun g (with_memory s memory) b 0))))
      on (Err cause) = refl
      on (Ok memory) = at_block memory (block_of mem)

  pub begin_short : (s : State) (result : Option ℕ) (mem : Value) → begin g (short s) result mem ≡ short_result g.code (begin g s result mem)
  begin_short s result mem = on (is_none s.top.instance)
    where
      on : (b : Bool) → and_then (ok_if b Cause.Begin (short s)) (λ (t : State). and_then (begin_at g t mem Kind.Allocator) (λ (u : State). Ok (gives u result mem))) ≡ short_result g.code (and_then (ok_if b Cause.Begin s) (λ (t : State). and_then (begin_at g t mem Kind.Allocator) (λ (u : State). Ok (gives u result mem))))
      on false = refl
      on true =
          ap (λ (r : Result State Cause). and_then r (λ (u : State). Ok (gives u result mem))) (begin_at_short s mem Kind.Allocator)
          ∙ then_short g.code (λ (u : State). gives u result mem) (λ u. gives_short g.code u result mem) (begin_at g s mem Kind.Allocator)

  -- ---- resume, destroy, done

  goes_on : (s : State) (y : Sleeper) (label : ℕ) → continue g (short s) y.number (short_instance g.code y.instance) y.suspend (cut g.code y.instance.coroutine y.values) label ≡ short (continue g s y.number y.instance y.suspend y.values label)
  goes_on s y label =
      ap (λ (t : State). enter_block g (push t (resumed y.number (short_instance g.code y.instance) y.suspend (cut g.code y.instance.coroutine y.values))) label) (with_instance_short g.code s y.number (record y.instance { status = Status.Running }))
      ∙ enter_short g named (push (with_status s y.number y.instance Status.Running) (resumed y.number y.instance y.suspend y.values)) label

  tested_short : (b : Bool) (cause : Cause) (x : State) → ok_if b cause (short x) ≡ short_result g.code (ok_if b cause x)
  tested_short true cause x = refl
  tested_short false cause x = refl

  pub resume_short : (s : State) (p : Value) → resume g (continue g) (short s) p ≡ short_result g.code (resume g (continue g) s p)
  resume_short s p = ap (λ (r : Result Sleeper Cause). and_then r (awake (short s))) (sleeper_short g.code s p) ∙ on (sleeper_at s p)
    where
      awake : State → Sleeper → Result State Cause
      awake t y = let f = function_at g.code y.instance.coroutine in ok_if (not (is_final f y.suspend)) Cause.State (continue g t y.number y.instance y.suspend y.values (resume_label f y.suspend))

      on : (r : Result Sleeper Cause) → and_then (short_found g.code r) (awake (short s)) ≡ short_result g.code (and_then r (awake s))
      on (Err cause) = refl
      on (Ok y) =
          let f = function_at g.code y.instance.coroutine in
          ap (ok_if (not (is_final f y.suspend)) Cause.State) (goes_on s y (resume_label f y.suspend))
          ∙ tested_short (not (is_final f y.suspend)) Cause.State (continue g s y.number y.instance y.suspend y.values (resume_label f y.suspend))

  pub destroy_short : (s : State) (p : Value) → destroy g (continue g) (short s) p ≡ short_result g.code (destroy g (continue g) s p)
  destroy_short s p = ap (λ (r : Result Sleeper Cause). and_then r (awake (short s))) (sleeper_short g.code s p) ∙ on (sleeper_at s p)
    where
      awake : State → Sleeper → Result State Cause
      awake t y = Ok (continue g t y.number y.instance y.suspend y.values (destroy_label (function_at g.code y.instance.coroutine) y.suspend))

      on : (r : Result Sleeper Cause) → and_then (short_found g.code r) (awake (short s)) ≡ short_result g.code (and_then r (awake s))
      on (Err cause) = refl
      on (Ok y) = ap Ok (goes_on s y (destroy_label (function_at g.code y.instance.coroutine) y.suspend))

  pub done_short : (s : State) (result : Option ℕ) (p : Value) → done_at g (short s) result p ≡ short_result g.code (done_at g s result p)
  done_short s result p = ap (λ (r : Result Sleeper Cause). and_then r (told (short s))) (sleeper_short g.code s p) ∙ on (sleeper_at s p)
    where
      told : State → Sleeper → Result State Cause
      told t y = let f = function_at g.code y.instance.coroutine in ok_if (has_final f) Cause.State (gives t result (truth_value (is_final f y.suspend)))

      on : (r : Result Sleeper Cause) → and_then (short_found g.code r) (told (short s)) ≡ short_result g.code (and_then r (told s))
      on (Err cause) = refl
      on (Ok y) =
          let f = function_at g.code y.instance.coroutine in
          ap (ok_if (has_final f) Cause.State) (gives_short g.code s result (truth_value (is_final f y.suspend)))
          ∙ tested_short (has_final f) Cause.State (gives s result (truth_value (is_final f y.suspend)))

  -- ---- the promise

  of_frame_short : (s : State) (p : Value) → promise_of_frame g (short s) p ≡ promise_of_frame g s p
  of_frame_short s p = ap (λ (o : Option (ℕ × Instance)). and_then (found Cause.Frame o) told) (found_short g.code s.instances p) ∙ on (instance_at s.instances p)
    where
      told : ℕ × Instance → Result Value Cause
      told y = and_then (found Cause.Promise (promise_block g y.1)) (λ (b : ℕ). ok_if (not (is_over y.1)) Cause.Dead (pointer_to b))

      on : (o : Option (ℕ × Instance)) → and_then (found Cause.Frame (short_numbered g.code o)) told ≡ and_then (found Cause.Frame o) told
      on None = refl
      on (Some y) = ap (λ (over : Bool). and_then (found Cause.Promise (promise_block g y.1)) (λ (b : ℕ). ok_if (not over) Cause.Dead (pointer_to b))) (over_short g.code y.1)

  find_short : (b : ℕ) (xs : List Instance) → find (has_promise_at g b) (map (short_instance g.code) xs) ≡ option_map (short_instance g.code) (find (has_promise_at g b) xs)
  find_short b [] = refl
  find_short b (x ∷ xs) = on (has_promise_at g b x) (find_short b xs)
    where
      on : (t : Bool) → find (has_promise_at g b) (map (short_instance g.code) xs) ≡ option_map (short_instance g.code) (find (has_promise_at g b) xs) → (if t then Some (short_instance g.code x) else find (has_promise_at g b) (map (short_instance g.code) xs)) ≡ option_map (short_instance g.code) (if t then Some x else find (has_promise_at g b) xs)
      on true rest = refl
      on false rest = rest

  of_promise_short : (s : State) (p : Value) → frame_of_promise g (short s) p ≡ frame_of_promise g s p
  of_promise_short s (Value.Ptr (Pointer.At b offset)) = on (offset.bits == 0)
    where
      told : Instance → Result Value Cause
      told x = ok_if (is_live_at s.world.memory b) Cause.Promise (frame_address_of x)

      found_in : (o : Option Instance) → and_then (found Cause.Promise (option_map (short_instance g.code) o)) told ≡ and_then (found Cause.Promise o) told
      found_in None = refl
      found_in (Some x) = refl

      on : (t : Bool) → and_then (found Cause.Promise (if t then find (has_promise_at g b) (map (short_instance g.code) s.instances) else None)) told ≡ and_then (found Cause.Promise (if t then find (has_promise_at g b) s.instances else None)) told
      on true = ap (λ (o : Option Instance). and_then (found Cause.Promise o) told) (find_short b s.instances) ∙ found_in (find (has_promise_at g b) s.instances)
      on false = refl
  of_promise_short s (Value.Ptr Pointer.Null) = refl
  of_promise_short s (Value.Ptr (Pointer.Func f)) = refl
  of_promise_short s Value.Poison = refl
  of_promise_short s (Value.Int x) = refl

  pub promise_short : (s : State) (result : Option ℕ) (p : Value) (x : Operand) → and_then (promise g (short s) p x) (λ (v : Value). Ok (gives (short s) result v)) ≡ short_result g.code (and_then (promise g s p x) (λ (v : Value). Ok (gives s result v)))
  promise_short s result p x = ap (λ (r : Result Value Cause). and_then r (λ (v : Value). Ok (gives (short s) result v))) (from (is_true x)) ∙ on (promise g s p x)
    where
      from : (b : Bool) → (if b then frame_of_promise g (short s) p else promise_of_frame g (short s) p) ≡ (if b then frame_of_promise g s p else promise_of_frame g s p)
      from true = of_promise_short s p
      from false = of_frame_short s p

      on : (r : Result Value Cause) → and_then r (λ (v : Value). Ok (gives (short s) result v)) ≡ short_result g.code (and_then r (λ (v : Value). Ok (gives s result v)))
      on (Err cause) = refl
      on (Ok v) = ap Ok (gives_short g.code s result v)
