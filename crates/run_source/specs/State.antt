-- Reading and changing the state of a run.
use Rattle.std.specs.Prelude.{ℕ, Bool, true, false, List, slice_get, slice_set, None, Ok, Err, Option, Result, option_map, option_and_then, ◌+◌, ◌&&◌, ◌==◌}
use Rattle.run_memory.specs.Pointers.{offset_of}
use Rattle.run_memory.specs.declared.block.MemoryBlock.{MemoryBlock}
use Rattle.run_memory.specs.declared.pointer.Pointer.{Pointer}
use Rattle.run_memory.specs.declared.pointer.Value.{Value}
use Rattle.ir_base.specs.declared.cause.Cause.{Cause}
use Rattle.ir_base.specs.declared.outcome.Outcome.{Outcome}
use Rattle.ir_base.specs.declared.outcome.Place.{Place}
pub use Rattle.run_source.specs.Indexes.{last_from, or_else}
use Rattle.run_source.specs.declared.state.Instance.{Instance}
use Rattle.run_source.specs.declared.state.State.{State}
use Rattle.run_source.specs.declared.state.Status.{Status}
use Rattle.ir_model.specs.Names.{function_at}
use Rattle.ir_model.specs.declared.module.Frame.{Frame}
use Rattle.ir_model.specs.declared.module.Function.{Function}
use Rattle.ir_paths.specs.declared.point.Facts.{Facts}
use Rattle.ir_paths.specs.declared.point.Point.{Point}
use Rattle.run_source_tables.specs.run_step.Step.{Work, place_at, set_result}
use Rattle.run_source_tables.specs.run_step.declared.world.Slot.{Slot}
use Rattle.run_source_tables.specs.Given.{Given, facts_at, frame_of}

-- ---- what the topmost activation has

-- the function of the topmost activation, its facts, and its frame's size and alignment
abbrev pub function_of : Given → State → Function
function_of g s = function_at g.code s.top.func

abbrev pub own_facts : Given → State → Facts
own_facts g s = facts_at g.facts s.top.func

abbrev pub own_frame : Given → State → Frame
own_frame g s = frame_of g.sizes s.top.func

-- ---- places

abbrev pub point_of : State → Point
point_of s = record { block = s.top.block; at = s.top.at }

abbrev pub place_of : Given → State → Place
place_of g s = place_at s.top.func (function_of g s) s.top.block s.top.at

abbrev pub undefined : Given → State → Cause → State
undefined g s cause = record s { outcome = Outcome.Undefined cause (place_of g s) }

-- the state that a step gives, or the run undefined at the instruction of that step
abbrev pub or_undefined : Given → State → Result State Cause → State
or_undefined g s (Err cause) = undefined g s cause
or_undefined g s (Ok s') = s'

-- ---- changes

abbrev pub work_of : State → Work
work_of s = record { world = s.world; values = s.top.values }

-- goes on to the next instruction
abbrev pub settled : State → Work → State
settled s w = record s { world = w.world; top = record s.top { at = s.top.at + 1; values = w.values } }

-- the same, with a result of the instruction
abbrev pub gives : State → Option ℕ → Value → State
gives s result v = settled s (set_result (work_of s) result v)

abbrev pub next : State → State
next s = settled s (work_of s)

abbrev pub with_memory : State → List MemoryBlock → State
with_memory s memory = record s { world = record s.world { memory = memory } }

abbrev pub with_instance : State → ℕ → Instance → State
with_instance s i x = record s { instances = slice_set s.instances i x }

abbrev pub with_status : State → ℕ → Instance → Status → State
with_status s i x status = with_instance s i (record x { status = status })

abbrev pub with_left : State → Bool → State
with_left s has_left = record s { top = record s.top { has_left = has_left } }

-- the topmost activation's slots
abbrev pub with_slots : State → List Slot → State
with_slots s slots = record s { top = record s.top { slots = slots } }

-- ---- instances

abbrev pub is_suspended : Status → Bool
is_suspended Status.Running = false
is_suspended (Status.Suspended point values) = true
is_suspended Status.Finished = false

abbrev pub is_finished : Status → Bool
is_finished Status.Running = false
is_finished (Status.Suspended point values) = false
is_finished Status.Finished = true

-- an instance with its number
abbrev pub numbered : List Instance → ℕ → Option (ℕ × Instance)
numbered instances i = option_map (λ x. (i, x)) (slice_get instances i)

-- the instance of the topmost activation
abbrev pub own_instance : State → Option (ℕ × Instance)
own_instance s = option_and_then (numbered s.instances) s.top.instance

abbrev pub last_where : (Instance → Bool) → List Instance → Option (ℕ × Instance)
last_where test instances = option_and_then (numbered instances) (last_from test 0 instances)

-- the instance began at an offset of a block
abbrev pub began_at : ℕ → ℕ → Instance → Bool
began_at block offset x = (x.block == block) && (x.start == offset)

-- the instance whose frame address a value is, the last that began there
abbrev pub instance_at : List Instance → Value → Option (ℕ × Instance)
instance_at instances (Value.Ptr (Pointer.At block offset)) = last_where (began_at block offset.bits) instances
instance_at instances _ = None

abbrev pub address_in : ℕ → ℕ → Value
address_in block offset = Value.Ptr (Pointer.At block (offset_of offset))

-- an instance's frame address
abbrev pub frame_address_of : Instance → Value
frame_address_of x = address_in x.block x.start
