-- The meaning of a framed module: the source meaning, except for what stands here.
use Rattle.std.specs.Prelude.{ℕ, zero, suc, Bool, true, false, not, List, [], map, drop, length, replicate, ℤ, is_none, nat_lt, nat_le, slice_get, Some, None, Ok, Err, find, Option, Result, unwrap_or, option_map, option_and_then, ◌+◌, ◌-◌, ◌%◌, ◌&&◌, ◌||◌, ◌∷◌, if◌then◌else◌, ◌==◌}
use Rattle.run_memory.specs.Memory.{Rights, disown, meets, same_kind}
use Rattle.run_memory.specs.declared.block.Kind.{Kind}
use Rattle.run_memory.specs.declared.block.MemoryBlock.{MemoryBlock}
use Rattle.run_memory.specs.Pointers.{moved, offset_of}
use Rattle.run_memory.specs.declared.pointer.Offset.{Offset}
use Rattle.run_memory.specs.declared.pointer.Pointer.{Pointer}
use Rattle.run_memory.specs.declared.pointer.Value.{Value}
use Rattle.ir_base.specs.declared.cause.Cause.{Cause}
use Rattle.ir_base.specs.declared.name.Name.{Name}
use Rattle.ir_base.specs.declared.outcome.Outcome.{Outcome}
use Rattle.ir_base.specs.declared.outcome.Word.{Word}
use Rattle.run_source.specs.Source.{Continues, act, begin, begin_at, begun, called, coro, end_of, enter_block, finish, first_state, is_live_at, push, release, resumed, suspend}
use Rattle.run_source.specs.run_source_tables.Given.{is_true}
use Rattle.run_source.specs.State.{began_at, frame_address_of, function_of, gives, instance_at, is_finished, last_where, or_undefined, own_frame, own_instance, settled, with_memory, with_slots, with_status, work_of}
use Rattle.run_source.specs.run_source_tables.Given.{Given}
use Rattle.run_source.specs.declared.state.Instance.{Instance}
use Rattle.run_source.specs.declared.state.Mode.{Mode}
use Rattle.run_source.specs.declared.state.State.{State}
use Rattle.run_source.specs.declared.state.Status.{Status}
use Rattle.frame_layout.specs.declared.layout.FieldKind.{FieldKind}
use Rattle.frame_layout.specs.declared.layout.Layout.{Layout}
use Rattle.frame_layout.specs.declared.layout.Layouts.{Layouts}
use Rattle.frame_layout.specs.declared.layout.PlacedField.{PlacedField}
use Rattle.ir_model.specs.Names.{first_where, function_at, noalloc_of, same_name}
use Rattle.ir_model.specs.declared.instr.Instr.{Instr}
use Rattle.ir_model.specs.declared.module.Block.{Block}
use Rattle.ir_model.specs.declared.module.Frame.{Frame}
use Rattle.ir_model.specs.declared.module.Function.{Function}
use Rattle.ir_model.specs.declared.module.Module.{Module}
use Rattle.ir_model.specs.declared.operand.Arg.{Arg}
use Rattle.ir_model.specs.declared.operand.Callee.{Callee}
use Rattle.ir_model.specs.declared.operand.Intrinsic.{Intrinsic}
use Rattle.ir_model.specs.declared.operand.Operand.{Operand}
use Rattle.ir_paths.specs.Slots.{allocas_of}
use Rattle.ir_paths.specs.Windows.{call_result, instr_at, is_call_of, operand_at, points_where, windows_of}
use Rattle.ir_paths.specs.declared.point.Facts.{Facts}
use Rattle.ir_paths.specs.declared.point.Point.{Point}
use Rattle.run_step.specs.Effects.{is_alloca}
use Rattle.run_step.specs.Results.{and_then, found, ok_if}
use Rattle.run_step.specs.Runs.{Seen, iterate, seen_of}
use Rattle.run_step.specs.Step.{Action, AtInstr, Context, Coro, Fetched, NewSlot, action_of, fetch}
use Rattle.run_step.specs.Values.{Env, arg_values, nth, truth_value, with_result}
use Rattle.run_step.specs.declared.world.Slot.{Slot}
use Rattle.std.specs.List.{list_all, list_any}
use Rattle.std.specs.Option.{option_map_or}

-- what a run is given, and the layouts of its coroutines
pub record FramedGiven : Type 0 where
  pub given : Given
  pub layouts : List Layout

abbrev pub no_layout : ℕ → Layout
no_layout f = record { coroutine = f; size = 0; align = 1; index = 0; offsets = []; fields = [] }

abbrev pub layout_of : List Layout → ℕ → Layout
layout_of layouts f = unwrap_or (find (λ l. l.coroutine == f) layouts) (no_layout f)

-- ---- the bytes of a frame, alignment in it, and comparing pointers into it

-- the promise, the values and the slots of a frame may be touched; the index, the header and where callees' frames lie may not
abbrev pub is_open_kind : FieldKind → Bool
is_open_kind FieldKind.Promise = true
is_open_kind FieldKind.Value = true
is_open_kind FieldKind.Slot = true
is_open_kind FieldKind.Index = false
is_open_kind FieldKind.Frame = false

abbrev pub field_opens : ℕ → PlacedField → Bool
field_opens k x = is_open_kind x.kind && nat_le x.offset k && nat_lt k (x.offset + x.size)

-- the frame of the instance has a byte of the block
abbrev pub covers : FramedGiven → ℕ → ℕ → Instance → Bool
covers g b k x = (x.block == b) && nat_le x.start k && nat_lt k (x.start + (layout_of g.layouts x.coroutine).size)

-- the frame by which a byte is judged, that of the last instance that has it
abbrev pub judge_of : FramedGiven → List Instance → ℕ → ℕ → Option (ℕ × Instance)
judge_of g instances b k = last_where (covers g b k) instances

-- a byte is in no frame, or in an open field of its frame
abbrev pub is_open_byte : FramedGiven → ℕ → Option (ℕ × Instance) → Bool
is_open_byte g k None = true
is_open_byte g k (Some (i, x)) = list_any (field_opens (k - x.start)) (layout_of g.layouts x.coroutine).fields

-- all of a range's bytes are
abbrev pub is_open : FramedGiven → List Instance → ℕ → ℕ → ℕ → Bool
is_open g instances b offset zero = true
is_open g instances b offset (suc n) = is_open_byte g offset (judge_of g instances b offset) && is_open g instances b (offset + 1) n

-- in a frame an alignment is met where it divides the distance from the frame's start and is at most the frame's
abbrev pub meets_in : FramedGiven → MemoryBlock → ℕ → ℕ → Option (ℕ × Instance) → Bool
meets_in g block offset align None = meets block offset align
meets_in g block offset align (Some (i, x)) = ((offset - x.start) % align == 0) && nat_le align (layout_of g.layouts x.coroutine).align

abbrev pub frame_rights : FramedGiven → List Instance → Rights
frame_rights g instances =
    record {
      is_closed = λ b x offset len. not (is_open g instances b offset len);
      is_aligned = λ b x offset align. meets_in g x offset align (judge_of g instances b offset);
      is_comparable = λ b x offset. true;
    }

abbrev pub framed_context : FramedGiven → State → Context
framed_context g s =
    record { code = g.given.code; answers = g.given.answers; rights = frame_rights g s.instances; function = function_of g.given s }

-- ---- entry of a resumed activation

-- the frame address as begin's value, and no other
abbrev pub begin_name : Function → Option ℕ
begin_name f = option_and_then call_result (option_and_then (instr_at f) (slice_get (points_where (is_call_of Intrinsic.CoroBegin) f) 0))

abbrev pub reentry_values : Function → Value → Env
reentry_values f frame = with_result (replicate (length f.names) None) (begin_name f) frame

-- the first alloca among instructions, the first of which stands at a position
abbrev pub alloca_in : ℕ → List Instr → Option ℕ
alloca_in at [] = None
alloca_in at (i ∷ instrs) = if is_alloca i then Some at else alloca_in (suc at) instrs

abbrev pub alloca_of : Option Block → ℕ → Option ℕ
alloca_of None at = None
alloca_of (Some b) at = alloca_in at (drop at b.instrs)

-- the first alloca of the entry block from a position on
abbrev pub alloca_from : Function → ℕ → Option Point
alloca_from f at = option_map (λ k. record { block = 0; at = k }) (alloca_of (slice_get f.blocks 0) at)

abbrev pub with_mode : State → Mode → State
with_mode s mode = record s { top = record s.top { mode = mode } }

abbrev pub at_point : State → Point → State
at_point s p = record s { top = record s.top { block = p.block; at = p.at } }

-- goes on to the next alloca, or enters the label from the block of the suspend
abbrev pub enter_after : FramedGiven → State → ℕ → ℕ → Option Point → State
enter_after g s from label (Some p) = at_point (with_mode s (Mode.Entering from label)) p
enter_after g s from label None = enter_block g.given (at_point (with_mode s Mode.Resumed) (record { block = from; at = 0 })) label

-- a resumed activation first executes its function's allocas, each a step
abbrev pub continue_framed : FramedGiven → Continues
continue_framed g s i x suspend values label =
    let f = function_at g.given.code x.coroutine in
    let s' = push (with_status s i x Status.Running) (resumed i x suspend (reentry_values f (frame_address_of x))) in
    enter_after g s' suspend.block label (alloca_from f 0)

-- the slots of its allocas are the activation's own, which die when it returns
abbrev pub framed_slot : FramedGiven → State → Slot → Mode → State
framed_slot g s slot (Mode.Entering from label) =
    enter_after g (with_slots s (slot ∷ s.top.slots)) from label (alloca_from (function_of g.given s) s.top.at)
framed_slot g s slot mode = with_slots s (slot ∷ s.top.slots)

-- ---- the promise

abbrev pub is_promise_kind : FieldKind → Bool
is_promise_kind FieldKind.Promise = true
is_promise_kind _ = false

-- the offset of the promise in a coroutine's frame
abbrev pub promise_offset : FramedGiven → Instance → Option ℕ
promise_offset g x = option_map (λ y. y.offset) (find (λ y. is_promise_kind y.kind) (layout_of g.layouts x.coroutine).fields)

abbrev pub is_over : Instance → Bool
is_over x = is_finished x.status || x.freed

-- so many bytes behind an instance's frame address
abbrev pub address_behind : Instance → ℕ → Value
address_behind x distance = Value.Ptr (Pointer.At x.block (moved (offset_of x.start) distance))

abbrev pub framed_promise_of_frame : FramedGiven → State → Value → Result Value Cause
framed_promise_of_frame g s p =
    and_then (found Cause.Frame (instance_at s.instances p)) (λ (i, x).
    and_then (found Cause.Promise (promise_offset g x)) (λ offset.
    ok_if (not (is_over x)) Cause.Dead (address_behind x offset)))

-- the promise of the instance stands at an offset of a block
abbrev pub is_promise_at : FramedGiven → ℕ → ℕ → Instance → Bool
is_promise_at g b o x = (x.block == b) && option_map_or (λ offset. o == x.start + offset) (promise_offset g x) false

abbrev pub framed_frame_of_promise : FramedGiven → State → Value → Result Value Cause
framed_frame_of_promise g s (Value.Ptr (Pointer.At b o)) =
    and_then (found Cause.Promise (last_where (is_promise_at g b o.bits) s.instances)) (λ (i, x).
    ok_if (not (is_over x)) Cause.Promise (frame_address_of x))
framed_frame_of_promise g s p = Err Cause.Promise

abbrev pub framed_promise : FramedGiven → State → Value → Operand → Result Value Cause
framed_promise g s p from = if is_true from then framed_frame_of_promise g s p else framed_promise_of_frame g s p

-- ---- calls without allocation

-- the coroutine g of a name g.noalloc
abbrev pub given_ramp : Module → Name → Option ℕ
given_ramp m n = first_where (λ f. f.coroutine && same_name (noalloc_of f.name) n) m.functions

abbrev pub last_value : List Value → Value
last_value vs = nth vs (length vs - 1)

abbrev pub enter_given : FramedGiven → State → Option ℕ → List Value → Option ℕ → Option (Result State Cause)
enter_given g s result vs None = None
enter_given g s result vs (Some func) = Some (Ok (push s (called g.given.code func vs result (Mode.GivenRamp (last_value vs)))))

-- what a call of g.noalloc does, none for any other instruction
abbrev pub given_call : FramedGiven → State → Fetched → Option (Result State Cause)
given_call g s (AtInstr (Instr.Call result must_tail ty (Callee.Named n) args)) =
    enter_given g s result (arg_values g.given.code s.top.values args) (given_ramp g.given.code n)
given_call g s _ = None

-- such a ramp's coro.alloc is false, any other's is true
abbrev pub allocates : Mode → Bool
allocates (Mode.GivenRamp frame) = false
allocates _ = true

-- a block of just the frame's size
abbrev pub has_size : List MemoryBlock → ℕ → ℕ → Bool
has_size memory b size = option_map_or (λ x. x.size == size) (slice_get memory b) false

-- in a live stack block of just the frame's size, at its start, which the instance then owns
abbrev pub begin_in_block : FramedGiven → State → ℕ → Offset → Result State Cause
begin_in_block g s b o =
    and_then (ok_if ((o.bits == 0) && has_size s.world.memory b (own_frame g.given s).size) Cause.Begin s) (λ s. begin_at g.given s (Value.Ptr (Pointer.At b o)) Kind.Stack)

abbrev pub is_frame_kind : FieldKind → Bool
is_frame_kind FieldKind.Frame = true
is_frame_kind _ = false

-- the field is for a callee's frame of just this size, and starts at an offset of the block in which its own frame starts at start
abbrev pub is_room_at : ℕ → ℕ → ℕ → PlacedField → Bool
is_room_at start offset size y = is_frame_kind y.kind && (start + y.offset == offset) && (y.size == size)

-- the frame in which another one starts: that of the last instance that has the byte and didn't begin there
abbrev pub frame_around : FramedGiven → List Instance → ℕ → ℕ → Option (ℕ × Instance)
frame_around g instances b offset = last_where (λ x. covers g b offset x && not (began_at b offset x)) instances

-- it is that of an instance that is neither Finished nor freed, and has such a field there
abbrev pub has_room : FramedGiven → ℕ → ℕ → Option (ℕ × Instance) → Bool
has_room g offset size None = false
has_room g offset size (Some (i, x)) = not (is_over x) && list_any (is_room_at x.start offset size) (layout_of g.layouts x.coroutine).fields

-- in a field of a frame in a live block: the instance owns no block of its own
abbrev pub begin_in_frame : FramedGiven → State → ℕ → Offset → Result State Cause
begin_in_frame g s b o = ok_if (is_live_at s.world.memory b) Cause.Begin (begun g.given s b o.bits)

-- such a ramp's begin takes the last argument, the address of a field or of a block
abbrev pub begin_given_at : FramedGiven → State → Value → Result State Cause
begin_given_at g s (Value.Ptr (Pointer.At b o)) =
    if has_room g o.bits (own_frame g.given s).size (frame_around g s.instances b o.bits) then begin_in_frame g s b o else begin_in_block g s b o
begin_given_at g s _ = Err Cause.Begin

-- earlier instances that began at an address are Finished
abbrev pub are_finished_at : List Instance → Value → Bool
are_finished_at instances (Value.Ptr (Pointer.At b o)) = list_all (λ x. not (began_at b o.bits x) || is_finished x.status) instances
are_finished_at instances _ = true

abbrev pub begin_given : FramedGiven → State → Option ℕ → Value → Result State Cause
begin_given g s result frame =
    and_then (ok_if (is_none s.top.instance && are_finished_at s.instances frame) Cause.Begin s) (λ s.
    and_then (begin_given_at g s frame) (λ s. Ok (gives s result frame)))

abbrev pub framed_begin : FramedGiven → State → Option ℕ → Value → Mode → Result State Cause
framed_begin g s result mem (Mode.GivenRamp frame) = begin_given g s result frame
framed_begin g s result mem mode = begin g.given s result mem

abbrev pub is_stack_block : List MemoryBlock → ℕ → Bool
is_stack_block memory b = option_map_or (λ x. same_kind x.kind Kind.Stack) (slice_get memory b) false

-- the frame of an instance was given to its ramp: it lies in a stack block, or behind the start of another frame
abbrev pub is_given : List MemoryBlock → Instance → Bool
is_given memory x = is_stack_block memory x.block || not (x.start == 0)

-- coro.free of such an instance gives null
abbrev pub freed_address : List MemoryBlock → Option (ℕ × Instance) → Value
freed_address memory None = Value.Poison
freed_address memory (Some (i, x)) = if is_given memory x then Value.Ptr Pointer.Null else frame_address_of x

-- an instance owns a stack block at whose start it began until it is Finished
abbrev pub disown_given : State → Option (ℕ × Instance) → State
disown_given s None = s
disown_given s (Some (i, x)) = if is_stack_block s.world.memory x.block && (x.start == 0) then with_memory s (disown s.world.memory x.block) else s

abbrev pub framed_finish : State → State
framed_finish s = disown_given (finish s) (own_instance s)

-- ---- a step

abbrev pub framed_coro : FramedGiven → State → Intrinsic → List Arg → List Value → Option ℕ → Result State Cause
framed_coro g s Intrinsic.CoroAlloc args vs result = Ok (gives s result (truth_value (allocates s.top.mode)))
framed_coro g s Intrinsic.CoroBegin args vs result = framed_begin g s result (nth vs 1) s.top.mode
framed_coro g s Intrinsic.CoroFree args vs result = Ok (gives (release s) result (freed_address s.world.memory (own_instance s)))
framed_coro g s Intrinsic.CoroEnd args vs result = end_of s framed_finish result
framed_coro g s Intrinsic.CoroPromise args vs result = and_then (framed_promise g s (nth vs 0) (operand_at args 2)) (λ v. Ok (gives s result v))
framed_coro g s i args vs result = coro g.given (continue_framed g) s i args vs result

abbrev pub framed_act : FramedGiven → State → Action → Result State Cause
framed_act g s (NewSlot w slot) = Ok (framed_slot g (settled s w) slot s.top.mode)
framed_act g s (Coro i args result) = framed_coro g s i args (arg_values g.given.code s.top.values args) result
framed_act g s action = act g.given (continue_framed g) s action

abbrev pub framed_next : FramedGiven → State → Fetched → Result State Cause
framed_next g s fetched =
    unwrap_or (given_call g s fetched) (framed_act g s (action_of (framed_context g s) (work_of s) fetched))

abbrev pub framed_advance : FramedGiven → State → Outcome → State
framed_advance g s Outcome.Running = or_undefined g.given s (framed_next g s (fetch (function_of g.given s) s.top.block s.top.at))
framed_advance g s (Outcome.Returned v) = s
framed_advance g s (Outcome.Undefined cause place) = s

-- one step; a run that is over stays as it is
abbrev pub framed_step : FramedGiven → State → State
framed_step g s = framed_advance g s s.outcome

-- ---- runs

abbrev pub frame_of_layout : Layout → Frame
frame_of_layout l = record { coroutine = l.coroutine; size = l.size; align = l.align }

-- no slot of a framed function belongs to an instance
abbrev pub framed_facts : Function → Facts
framed_facts f = record { windows = windows_of f; ramp_slots = allocas_of f }

abbrev pub framed_given : Module → List Layout → List ℤ → FramedGiven
framed_given m layouts answers =
    record { given = record { code = m; sizes = map frame_of_layout layouts; answers = answers; facts = map framed_facts m.functions }; layouts = layouts }

abbrev pub framed_state_at : FramedGiven → ℕ → List Word → ℕ → State
framed_state_at g entry args n = iterate (framed_step g) n (first_state g.given.code entry args)

-- what is seen of a framed run after n steps
abbrev pub FramedAt : Module → Layouts → ℕ → List Word → List ℤ → ℕ → Seen
FramedAt m layouts entry args answers n =
    let s = framed_state_at (framed_given m layouts.coroutines answers) entry args n in seen_of m s.world s.outcome
