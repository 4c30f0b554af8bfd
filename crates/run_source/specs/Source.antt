-- The meaning of a source, which keeps a suspended coroutine as a whole activation.
use Rattle.std.specs.Prelude.{ℕ, Bool, true, false, not, List, [], map, length, ℤ, pos, negsuc, is_none, slice_get, Some, None, Ok, Err, filter, find, Option, Result, unwrap_or, option_map, option_and_then, ◌+◌, ◌&&◌, ◌||◌, ◌∷◌, ◌++◌, if◌then◌else◌, ◌==◌}
use Rattle.run_memory.specs.Memory.{disown, is_live, killed, own, owner_rights}
use Rattle.run_memory.specs.declared.block.Kind.{Kind}
use Rattle.run_memory.specs.declared.block.MemoryBlock.{MemoryBlock}
use Rattle.run_memory.specs.declared.pointer.Pointer.{Pointer}
use Rattle.run_memory.specs.declared.pointer.Value.{Value}
use Rattle.ir_base.specs.declared.cause.Cause.{Cause}
use Rattle.ir_base.specs.declared.outcome.Outcome.{Outcome}
use Rattle.ir_base.specs.declared.outcome.Word.{Word}
use Rattle.run_source.specs.State.{frame_address_of, function_of, gives, instance_at, is_finished, is_suspended, next, or_undefined, own_facts, own_frame, own_instance, point_of, settled, with_instance, with_left, with_memory, with_slots, with_status, work_of}
use Rattle.run_source_tables.specs.Given.{Given, has_final, is_final, is_true}
use Rattle.run_source.specs.declared.state.Activation.{Activation}
use Rattle.run_source.specs.declared.state.Instance.{Instance}
use Rattle.run_source.specs.declared.state.Mode.{Mode}
use Rattle.run_source.specs.declared.state.Saved.{Saved}
use Rattle.run_source.specs.declared.state.State.{State}
use Rattle.run_source.specs.declared.state.Status.{Status}
use Rattle.ir_model.specs.Names.{function_at, position_of}
use Rattle.ir_model.specs.declared.module.Frame.{Frame}
use Rattle.ir_model.specs.declared.module.Function.{Function}
use Rattle.ir_model.specs.declared.module.Module.{Module}
use Rattle.ir_model.specs.declared.operand.Arg.{Arg}
use Rattle.ir_model.specs.declared.operand.Intrinsic.{Intrinsic}
use Rattle.ir_model.specs.declared.operand.Operand.{Operand}
use Rattle.ir_paths.specs.Facts.{all_facts}
use Rattle.ir_paths.specs.Paths.{entry_point, same_point}
use Rattle.ir_paths.specs.Slots.{promise_of}
use Rattle.ir_paths.specs.Windows.{destroy_label, leaves, operand_at, resume_label, suspend_of}
use Rattle.ir_paths.specs.declared.point.Point.{Point}
use Rattle.ir_paths.specs.declared.point.Window.{Window}
use Rattle.run_source_tables.specs.run_step.Results.{and_then, found, ok_if}
use Rattle.run_source_tables.specs.run_step.Runs.{Seen, iterate, seen_of}
use Rattle.run_source_tables.specs.run_step.Step.{Action, Context, Coro, Deallocate, Done, Enter, GoTo, NewSlot, Return, Stuck, action_of, alloca, block_of, deallocated, entry_values, fetch, first_world, label_of, outcome_of, values_in, without_slots}
use Rattle.run_source_tables.specs.run_step.Values.{Env, arg_values, integer, nth, pointer_to, truth_value, with_result}
use Rattle.run_source_tables.specs.run_step.declared.world.Slot.{Slot}
use Rattle.std.specs.List.{list_all, list_any}
use Rattle.std.specs.Option.{option_map_or}

abbrev pub context_of : Given → State → Context
context_of g s = record { code = g.code; answers = g.answers; rights = owner_rights; function = function_of g s }

-- ---- entering a block

-- the activation enters the block of a label, from the block in which it stands
abbrev pub enter_block : Given → State → ℕ → State
enter_block g s label =
    let f = function_of g s in
    let b = position_of f label in
    let values = values_in g.code (slice_get f.blocks b) (label_of (slice_get f.blocks s.top.block)) s.top.values in
    record s { top = record s.top { block = b; at = 0; values = values } }

-- ---- leaving edges

abbrev pub is_save : ℕ → Point → Option Saved → Bool
is_save depth save None = false
is_save depth save (Some x) = (x.depth == depth) && same_point x.save save

-- the instance is Suspended, and its last save is the window's save by the activation with so many below it
abbrev pub may_leave : ℕ → Instance → Window → Bool
may_leave depth x w = is_suspended x.status && is_save depth w.save x.last_save

-- the windows that the branch to a label leaves
abbrev pub left_windows : Given → State → ℕ → List Window
left_windows g s label = filter (leaves (point_of s) (entry_point (function_of g s) label)) (own_facts g s).windows

-- on a leaving edge the instance is Running again, and the activation goes on with its own values
abbrev pub leave : Given → State → ℕ → List Window → Result State Cause
leave g s label windows =
    and_then (found Cause.State (own_instance s)) (λ (i, x).
    ok_if (list_all (may_leave (length s.below) x) windows) Cause.State
    (enter_block g (with_left (with_status s i x Status.Running) false) label))

abbrev pub branch_leaving : Given → State → ℕ → List Window → Result State Cause
branch_leaving g s label [] = Ok (enter_block g s label)
branch_leaving g s label (w ∷ windows) = leave g s label (w ∷ windows)

abbrev pub go_to : Given → State → ℕ → Result State Cause
go_to g s label = branch_leaving g s label (left_windows g s label)

-- ---- calls and returns

abbrev pub mode_of : Function → Mode
mode_of f = if f.coroutine then Mode.Ramp else Mode.Plain

abbrev pub called : Module → ℕ → List Value → Option ℕ → Mode → Activation
called m func args result mode =
    record {
      func = func;
      block = 0;
      at = 0;
      values = entry_values (function_at m func) args;
      slots = [];
      result = result;
      mode = mode;
      instance = None;
      has_left = false;
    }

-- an activation on top of those that there are, the topmost of which goes on behind its instruction when that one has returned
abbrev pub push : State → Activation → State
push s a = record s { top = a; below = record s.top { at = s.top.at + 1 } ∷ s.below }

abbrev pub enter : Given → State → ℕ → List Value → Option ℕ → State
enter g s func args result = push s (called g.code func args result (mode_of (function_at g.code func)))

-- a callee that returns no value gives poison
abbrev pub given_back : Activation → Option ℕ → Option Value → Activation
given_back a result v = record a { values = with_result a.values result (unwrap_or v Value.Poison) }

-- back in the activation below, or the run has returned
abbrev pub pop : State → Option Value → List Activation → Result State Cause
pop s v [] = and_then (outcome_of v) (λ outcome. Ok (record s { outcome = outcome }))
pop s v (a ∷ below) = Ok (record s { top = given_back a s.top.result v; below = below })

-- the slots that are the topmost activation's own die
abbrev pub returned : State → State
returned s = with_slots (with_memory s (without_slots s.world.memory s.top.slots)) []

abbrev pub return : State → Option Value → Result State Cause
return s v = pop (returned s) v s.below

-- ---- slots

abbrev pub is_among : List ℕ → Slot → Bool
is_among allocas slot = list_any (λ a. a == slot.alloca) allocas

-- slots more for an instance, which keeps the coroutine slots among them, and the activation the ramp slots
abbrev pub with_new_slots : List ℕ → Option (ℕ × Instance) → State → List Slot → State
with_new_slots ramp_slots None s slots = with_slots s (slots ++ s.top.slots)
with_new_slots ramp_slots (Some (i, x)) s slots =
    with_slots
    (with_instance s i (record x { slots = filter (λ slot. not (is_among ramp_slots slot)) slots ++ x.slots }))
    (filter (is_among ramp_slots) slots ++ s.top.slots)

-- an instance whose slots have died
abbrev pub is_over : Instance → Bool
is_over x = is_finished x.status || x.freed

-- a coroutine slot that comes to such an instance is dead at once
abbrev pub kill_late : List ℕ → Option (ℕ × Instance) → State → Slot → State
kill_late ramp_slots None s slot = s
kill_late ramp_slots (Some (i, x)) s slot =
    if is_over x && not (is_among ramp_slots slot) then with_memory s (killed s.world.memory slot.block) else s

-- a new slot is the activation's before begin, and then by its class
abbrev pub new_slot : Given → State → Slot → State
new_slot g s slot =
    let ramp_slots = (own_facts g s).ramp_slots in
    with_new_slots ramp_slots (own_instance s) (kill_late ramp_slots (own_instance s) s slot) (slot ∷ [])

-- ---- begin

abbrev pub new_instance : ℕ → ℕ → ℕ → Instance
new_instance coroutine block start =
    record { coroutine = coroutine; block = block; start = start; slots = []; status = Status.Running; last_save = None; released = false; freed = false }

-- the activation's instance begins at an offset of a block
abbrev pub begun : Given → State → ℕ → ℕ → State
begun g s block start =
    let x = new_instance s.top.func block start in
    let i = length s.instances in
    let s' = record s { instances = s.instances ++ x ∷ []; top = record s.top { instance = Some i; slots = [] } } in
    with_new_slots (own_facts g s).ramp_slots (Some (i, x)) s' s.top.slots

-- begin at a block that becomes owned to the printed size
abbrev pub begin_at : Given → State → Value → Kind → Result State Cause
begin_at g s mem kind =
    and_then (own s.world.memory mem (own_frame g s).size kind) (λ memory.
    and_then (found Cause.Begin (block_of mem)) (λ b.
    Ok (begun g (with_memory s memory) b 0)))

abbrev pub begin : Given → State → Option ℕ → Value → Result State Cause
begin g s result mem =
    and_then (ok_if (is_none s.top.instance) Cause.Begin s) (λ s.
    and_then (begin_at g s mem Kind.Allocator) (λ s. Ok (gives s result mem)))

-- ---- save and suspend

-- the values are kept in the instance, which is Suspended at a suspend; the activation has left
abbrev pub save_for : State → Point → Point → Result State Cause
save_for s save suspend =
    and_then (found Cause.State (own_instance s)) (λ (i, x).
    ok_if (not x.freed) Cause.State
    (with_left
    (with_instance s i (record x {
      status = Status.Suspended suspend s.top.values;
      last_save = Some (record { depth = length s.below; save = save });
    }))
    true))

abbrev pub save : Given → State → Result State Cause
save g s =
    let point = point_of s in
    and_then (found Cause.State (suspend_of (function_of g s) point)) (λ suspend.
    and_then (save_for s point suspend) (λ s. Ok (next s)))

-- a suspend without a token saves right before itself
abbrev pub save_before : State → Operand → Result State Cause
save_before s Operand.None = save_for s (point_of s) (point_of s)
save_before s of_save = Ok s

-- a suspend gives -1, at which its switch takes the stop edge
abbrev pub suspend : State → Option ℕ → Operand → Result State Cause
suspend s result of_save = and_then (save_before s of_save) (λ s. Ok (gives s result (integer 8 (negsuc 0))))

-- ---- resume, destroy, done

-- an activation of an instance with the kept values, as it stands at the suspend
abbrev pub resumed : ℕ → Instance → Point → Env → Activation
resumed i x suspend values =
    record {
      func = x.coroutine;
      block = suspend.block;
      at = suspend.at;
      values = values;
      slots = [];
      result = None;
      mode = Mode.Resumed;
      instance = Some i;
      has_left = false;
    }

-- how a meaning goes on at a label behind an instance's suspend
abbrev pub Continues : Type 0
Continues = State → ℕ → Instance → Point → Env → (label : ℕ) → State

-- the source goes on with the kept values
abbrev pub continue : Given → Continues
continue g s i x suspend values label = enter_block g (push (with_status s i x Status.Running) (resumed i x suspend values)) label

-- a suspended instance with its number, its suspend and its kept values
pub record Sleeper : Type 0 where
  pub number : ℕ
  pub instance : Instance
  pub suspend : Point
  pub values : Env

abbrev pub sleeper_of : ℕ → Instance → Status → Result Sleeper Cause
sleeper_of i x Status.Running = Err Cause.State
sleeper_of i x (Status.Suspended suspend values) = Ok (record { number = i; instance = x; suspend = suspend; values = values })
sleeper_of i x Status.Finished = Err Cause.State

-- the suspended instance of a frame address
abbrev pub sleeper_at : State → Value → Result Sleeper Cause
sleeper_at s p = and_then (found Cause.Frame (instance_at s.instances p)) (λ (i, x). sleeper_of i x x.status)

-- a resume goes on at the label of 0, but at no final suspend
abbrev pub resume : Given → Continues → State → Value → Result State Cause
resume g go s p =
    and_then (sleeper_at s p) (λ y.
    let f = function_at g.code y.instance.coroutine in
    ok_if (not (is_final f y.suspend)) Cause.State (go s y.number y.instance y.suspend y.values (resume_label f y.suspend)))

-- a destroy goes on at the label of 1
abbrev pub destroy : Given → Continues → State → Value → Result State Cause
destroy g go s p =
    and_then (sleeper_at s p) (λ y.
    Ok (go s y.number y.instance y.suspend y.values (destroy_label (function_at g.code y.instance.coroutine) y.suspend)))

abbrev pub done_at : Given → State → Option ℕ → Value → Result State Cause
done_at g s result p =
    and_then (sleeper_at s p) (λ y.
    let f = function_at g.code y.instance.coroutine in
    ok_if (has_final f) Cause.State (gives s result (truth_value (is_final f y.suspend))))

-- ---- the promise

abbrev pub block_of_slot : List Slot → ℕ → Option ℕ
block_of_slot slots alloca = option_map (λ slot. slot.block) (find (λ slot. slot.alloca == alloca) slots)

-- the block of an instance's promise
abbrev pub promise_block : Given → Instance → Option ℕ
promise_block g x = option_and_then (block_of_slot x.slots) (promise_of (function_at g.code x.coroutine))

abbrev pub has_promise_at : Given → ℕ → Instance → Bool
has_promise_at g b x = option_map_or (λ c. b == c) (promise_block g x) false

abbrev pub is_live_at : List MemoryBlock → ℕ → Bool
is_live_at memory b = option_map_or (λ x. is_live x.life) (slice_get memory b) false

-- from a frame address to its promise
abbrev pub promise_of_frame : Given → State → Value → Result Value Cause
promise_of_frame g s p =
    and_then (found Cause.Frame (instance_at s.instances p)) (λ (i, x).
    and_then (found Cause.Promise (promise_block g x)) (λ b.
    ok_if (not (is_over x)) Cause.Dead (pointer_to b)))

-- from a live promise back to its frame
abbrev pub frame_of_promise : Given → State → Value → Result Value Cause
frame_of_promise g s (Value.Ptr (Pointer.At b offset)) =
    and_then (found Cause.Promise (if offset.bits == 0 then find (has_promise_at g b) s.instances else None)) (λ x.
    ok_if (is_live_at s.world.memory b) Cause.Promise (frame_address_of x))
frame_of_promise g s p = Err Cause.Promise

abbrev pub promise : Given → State → Value → Operand → Result Value Cause
promise g s p from = if is_true from then frame_of_promise g s p else promise_of_frame g s p

-- ---- free and end

abbrev pub frame_address : Option (ℕ × Instance) → Value
frame_address None = Value.Poison
frame_address (Some (i, x)) = frame_address_of x

abbrev pub change_own : State → (Instance → Instance) → Option (ℕ × Instance) → State
change_own s f None = s
change_own s f (Some (i, x)) = with_instance s i (f x)

-- coro.free marks the instance released
abbrev pub release : State → State
release s = change_own s (λ x. record x { released = true }) (own_instance s)

abbrev pub slots_of : Option (ℕ × Instance) → List Slot
slots_of None = []
slots_of (Some (i, x)) = x.slots

-- the instance is Finished, and its slots die
abbrev pub finish : State → State
finish s =
    with_memory
    (change_own s (λ x. record x { status = Status.Finished }) (own_instance s))
    (without_slots s.world.memory (slots_of (own_instance s)))

-- behind the end a resumed activation returns, and a ramp goes on
abbrev pub after_end : State → Option ℕ → Mode → Result State Cause
after_end s result Mode.Resumed = return s None
after_end s result mode = Ok (gives s result (truth_value false))

abbrev pub end_of : State → (State → State) → Option ℕ → Result State Cause
end_of s finished result = after_end (if s.top.has_left then s else finished s) result s.top.mode

-- ---- deallocation

-- an instance lets its block be freed where it was released and is Running or Finished
abbrev pub may_be_freed : Instance → Bool
may_be_freed x = x.released && not (is_suspended x.status)

-- the block is owned no more, and the slots die
abbrev pub let_go : State → ℕ → Instance → State
let_go s i x =
    with_memory (with_instance s i (record x { freed = true })) (disown (without_slots s.world.memory x.slots) x.block)

abbrev pub if_let_go : State → Option (ℕ × Instance) → State
if_let_go s None = s
if_let_go s (Some (i, x)) = if may_be_freed x then let_go s i x else s

abbrev pub deallocate : State → Value → Result State Cause
deallocate s p =
    let s' = if_let_go s (instance_at s.instances p) in
    and_then (deallocated s'.world.memory p) (λ memory. Ok (next (with_memory s' memory)))

-- ---- the coro intrinsics

abbrev pub coro : Given → Continues → State → Intrinsic → List Arg → List Value → Option ℕ → Result State Cause
coro g go s Intrinsic.CoroId args vs result = Ok (next s)
coro g go s Intrinsic.CoroSizeI32 args vs result = Ok (gives s result (integer 32 (pos (own_frame g s).size)))
coro g go s Intrinsic.CoroSizeI64 args vs result = Ok (gives s result (integer 64 (pos (own_frame g s).size)))
coro g go s Intrinsic.CoroAlignI32 args vs result = Ok (gives s result (integer 32 (pos (own_frame g s).align)))
coro g go s Intrinsic.CoroAlignI64 args vs result = Ok (gives s result (integer 64 (pos (own_frame g s).align)))
coro g go s Intrinsic.CoroAlloc args vs result = Ok (gives s result (truth_value true))
coro g go s Intrinsic.CoroBegin args vs result = begin g s result (nth vs 1)
coro g go s Intrinsic.CoroFree args vs result = Ok (gives (release s) result (frame_address (own_instance s)))
coro g go s Intrinsic.CoroFrame args vs result = Ok (gives s result (frame_address (own_instance s)))
coro g go s Intrinsic.CoroSave args vs result = save g s
coro g go s Intrinsic.CoroSuspend args vs result = suspend s result (operand_at args 0)
coro g go s Intrinsic.CoroEnd args vs result = end_of s finish result
coro g go s Intrinsic.CoroResume args vs result = resume g go s (nth vs 0)
coro g go s Intrinsic.CoroDestroy args vs result = destroy g go s (nth vs 0)
coro g go s Intrinsic.CoroDone args vs result = done_at g s result (nth vs 0)
coro g go s Intrinsic.CoroPromise args vs result = and_then (promise g s (nth vs 0) (operand_at args 2)) (λ v. Ok (gives s result v))
coro g go s _ args vs result = Ok (next s)

-- ---- a step, by a way to go on behind a suspend

abbrev pub act : Given → Continues → State → Action → Result State Cause
act g go s (Done w) = Ok (settled s w)
act g go s (NewSlot w slot) = Ok (new_slot g (settled s w) slot)
act g go s (Enter func args result must_tail) = Ok (enter g s func args result)
act g go s (Coro i args result) = coro g go s i args (arg_values g.code s.top.values args) result
act g go s (Deallocate p) = deallocate s p
act g go s (GoTo label) = go_to g s label
act g go s (Return v) = return s v
act g go s (Stuck cause) = Err cause

abbrev pub advance_by : Given → Continues → State → Outcome → State
advance_by g go s Outcome.Running = or_undefined g s (act g go s (action_of (context_of g s) (work_of s) (fetch (function_of g s) s.top.block s.top.at)))
advance_by g go s (Outcome.Returned v) = s
advance_by g go s (Outcome.Undefined cause place) = s

-- one step; a run that is over stays as it is
abbrev pub step_by : Given → Continues → State → State
step_by g go s = advance_by g go s s.outcome

-- the source's step
abbrev pub step : Given → State → State
step g s = step_by g (continue g) s

-- ---- runs

-- the globals' blocks, and one Plain activation at the entry
abbrev pub first_state : Module → ℕ → List Word → State
first_state m entry args =
    record {
      world = first_world m;
      instances = [];
      top = called m entry (map Value.Int args) None Mode.Plain;
      below = [];
      outcome = Outcome.Running;
    }

abbrev pub given : Module → List Frame → List ℤ → Given
given m sizes answers = record { code = m; sizes = sizes; answers = answers; facts = all_facts m }

-- the state of a source run after n steps
abbrev pub state_at : Given → ℕ → List Word → ℕ → State
state_at g entry args n = iterate (step g) n (first_state g.code entry args)

-- what is seen of it
abbrev pub SeenOf : Given → ℕ → List Word → ℕ → Seen
SeenOf g entry args n = let s = state_at g entry args n in seen_of g.code s.world s.outcome

-- what is seen of a source run after n steps
abbrev pub SourceAt : Module → List Frame → ℕ → List Word → List ℤ → ℕ → Seen
SourceAt m sizes entry args answers n = SeenOf (given m sizes answers) entry args n
