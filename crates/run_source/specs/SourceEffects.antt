-- What the code of a source step does by the effect of an instruction.
use Rattle.std.specs.Prelude.{ℕ, Bool, true, false, List, [], Some, None, Ok, Err, Option, Result, slice_get, ◌≡◌, ◌∷◌, if◌then◌else◌}
use Rattle.run_memory.specs.Memory.{killed}
use Rattle.run_memory.specs.declared.block.Kind.{Kind}
use Rattle.run_memory.specs.declared.pointer.Value.{Value}
use Rattle.ir_base.specs.declared.cause.Cause.{Cause}
use Rattle.run_source.specs.Source.{begin_at, continue, coro, deallocate, enter, go_to, let_go, new_slot, return}
use Rattle.run_source.specs.State.{gives, instance_at, next, settled, with_instance, with_memory, with_slots}
use Rattle.run_source_tables.specs.Given.{Given}
use Rattle.run_source.specs.declared.effects.Stop.{Stop}
use Rattle.run_source_tables.specs.declared.program.SourceProgram.{SourceProgram}
use Rattle.run_source.specs.declared.state.Activation.{Activation}
use Rattle.run_source.specs.declared.state.Mode.{Mode}
use Rattle.run_source.specs.declared.stepping.Owner.{Owner}
use Rattle.run_source.specs.declared.state.Instance.{Instance}
use Rattle.run_source.specs.declared.resuming.Sleeping.{Sleeping}
use Rattle.run_source.specs.declared.state.State.{State}
use Rattle.run_source.specs.declared.state.Status.{Status}
use Rattle.ir_model.specs.declared.operand.Arg.{Arg}
use Rattle.run_source_tables.specs.run_step.Results.{and_then}
use Rattle.run_source_tables.specs.run_step.Step.{Action, Coro, NewSlot, Stuck, Work, deallocated}
use Rattle.run_source_tables.specs.run_step.Values.{Env, arg_values}
use Rattle.run_source_tables.specs.run_step.declared.effect.Effect.{Effect}
use Rattle.run_source_tables.specs.run_step.declared.world.Slot.{Slot}

-- what a program gives to the meaning
abbrev pub given_of : SourceProgram → Given
given_of p = record { code = p.program.module; sizes = p.sizes; answers = p.program.answers; facts = p.facts }

-- the state with other work
abbrev pub with_work : State → Work → State
with_work s w = record s { world = w.world; top = record s.top { values = w.values } }

-- what a state becomes by an effect of a call's arguments and result, the work being that which the instruction left
abbrev pub source_effect : Given → State → List Arg → Option ℕ → Effect → Result State Cause
source_effect g s args result Effect.Done = Ok (next s)
source_effect g s args result (Effect.NewSlot slot) = Ok (new_slot g (next s) slot)
source_effect g s args result (Effect.Enter func values name must_tail) = Ok (enter g s func values name)
source_effect g s args result (Effect.Coro i) = coro g (continue g) s i args (arg_values g.code s.top.values args) result
source_effect g s args result (Effect.Deallocate p) = deallocate s p
source_effect g s args result (Effect.GoTo label) = go_to g s label
source_effect g s args result (Effect.Return v) = return s v
source_effect g s args result (Effect.Stuck cause) = Err cause

-- why a step stopped: for want of memory, of which nothing is said, or by a cause
abbrev pub IsStop : Stop → Result State Cause → Type 0
IsStop Stop.NoMemory r = Unit {0}
IsStop (Stop.Undefined cause) r = r ≡ Err cause

-- a suspended instance is that of a frame address
pub record IsSleeping (s : State) (p : Value) (sleeping : Sleeping) : Type 0 where
  pub instance : Instance
  pub values : Env
  pub place : instance_at s.instances p ≡ Some (sleeping.instance, instance)
  pub got : slice_get s.instances sleeping.instance ≡ Some instance
  pub coroutine : instance.coroutine ≡ sleeping.coroutine
  pub status : instance.status ≡ Status.Suspended sleeping.suspend values

-- a resumed activation with values
abbrev pub woken : Sleeping → Env → Activation
woken y values =
    record {
      func = y.coroutine;
      block = y.suspend.block;
      at = y.suspend.at;
      values = values;
      slots = [];
      result = None;
      mode = Mode.Resumed;
      instance = Some y.instance;
      has_left = false;
    }

-- begin at a block of a kind, which gives its address
abbrev pub begin_in : Given → State → Option ℕ → Value → Kind → Result State Cause
begin_in g s result mem kind = and_then (begin_at g s mem kind) (λ s. Ok (gives s result mem))

-- a new slot of the topmost activation's own
abbrev pub own_slot : State → Action → Result State Cause
own_slot s (NewSlot w slot) = Ok (with_slots (settled s w) (slot ∷ s.top.slots))
own_slot s (Stuck cause) = Err cause
own_slot s _ = Err Cause.Unreachable

-- what comes of the deallocation of an address by an instance that lets it go
abbrev pub let_go_at : State → ℕ → Instance → Value → Result State Cause
let_go_at s i x p =
    let s' = let_go s i x in
    and_then (deallocated s'.world.memory p) (λ memory. Ok (next (with_memory s' memory)))

-- what comes of one that no instance lets go
abbrev pub deallocated_other : State → Value → Result State Cause
deallocated_other s p = and_then (deallocated s.world.memory p) (λ memory. Ok (next (with_memory s memory)))

abbrev pub slot_in : ℕ → Bool → Option Instance → State → Slot → State
slot_in i late None s slot = s
slot_in i late (Some x) s slot =
    let s' = with_instance s i (record x { slots = slot ∷ x.slots }) in if late then with_memory s' (killed s.world.memory slot.block) else s'

-- what comes of a new slot by its owner
abbrev pub slot_of : Owner → State → Slot → State
slot_of Owner.Own s slot = with_slots s (slot ∷ s.top.slots)
slot_of (Owner.Instance i late) s slot = slot_in i late (slice_get s.instances i) s slot

-- there is an instance with the number
pub record IsThereAt (s : State) (i : ℕ) : Type 0 where
  pub instance : Instance
  pub got : slice_get s.instances i ≡ Some instance

abbrev pub IsThere : State → Owner → Type 0
IsThere s Owner.Own = Unit {0}
IsThere s (Owner.Instance i late) = IsThereAt s i

-- to whom the slot of an alloca belongs
pub record IsOwner (g : Given) (s : State) (alloca : ℕ) (owner : Owner) : Type 0 where
  pub placed : (w : Work) (block : ℕ) → new_slot g (settled s w) (record { alloca = alloca; block = block }) ≡ slot_of owner (settled s w) (record { alloca = alloca; block = block })
  pub there : IsThere s owner

abbrev pub is_done : Effect → Bool
is_done Effect.Done = true
is_done _ = false

-- a call of a coro intrinsic has these arguments and this result
abbrev pub OfCall : List Arg → Option ℕ → Action → Type 0
OfCall args result (Coro i its_args its_result) = (its_args ≡ args) × (its_result ≡ result)
OfCall args result _ = Unit {0}
