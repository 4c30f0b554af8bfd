-- One step for all meanings that keep instances. What a meaning does in its own way is a record of hooks.
use Rattle.std.specs.Prelude.{ℕ, Bool, List, Ok, Option, Result, unwrap_or, if◌then◌else◌}
use Rattle.pass_renewed_proof.specs.ir_base.declared.cause.Cause.{Cause}
use Rattle.pass_renewed_proof.specs.ir_base.declared.outcome.Outcome.{Outcome}
use Rattle.pass_renewed_proof.specs.ir_base.declared.outcome.Word.{Word}
use Rattle.pass_renewed_proof.specs.ir_model.declared.operand.Arg.{Arg}
use Rattle.pass_renewed_proof.specs.ir_model.declared.operand.Intrinsic.{Intrinsic}
use Rattle.pass_renewed_proof.specs.ir_model.declared.operand.Operand.{Operand}
use Rattle.pass_renewed_proof.specs.ir_paths.Windows.{operand_at}
use Rattle.pass_renewed_proof.specs.run_memory.Memory.{Rights}
use Rattle.pass_renewed_proof.specs.run_memory.declared.pointer.Value.{Value}
use Rattle.pass_renewed_proof.specs.run_source.Source.{Continues, act, coro, end_of, first_state, release}
use Rattle.pass_renewed_proof.specs.run_source.State.{function_of, gives, next, or_undefined, settled, work_of}
use Rattle.pass_renewed_proof.specs.run_source.declared.state.Instance.{Instance}
use Rattle.pass_renewed_proof.specs.run_source.declared.state.State.{State}
use Rattle.pass_renewed_proof.specs.run_source_tables.Given.{Given}
use Rattle.pass_renewed_proof.specs.run_step.Results.{and_then}
use Rattle.pass_renewed_proof.specs.run_step.Runs.{Seen, iterate, seen_of}
use Rattle.pass_renewed_proof.specs.run_step.Step.{Action, Context, Coro, Fetched, NewSlot, action_of, fetch}
use Rattle.pass_renewed_proof.specs.run_step.Values.{arg_values, nth, truth_value}
use Rattle.pass_renewed_proof.specs.run_step.declared.world.Slot.{Slot}

-- what a run is given, and what its meaning does in its own way
pub record Hooks : Type 0 where
  pub given : Given
  -- what an access may do while there are these instances
  pub rights : List Instance → Rights
  -- how a resumed activation goes on at a label behind a suspend
  pub go_on : Continues
  -- whether an activation may be entering a label while it executes allocas
  pub enters : Bool
  -- what a new slot does, right behind its alloca
  pub place : State → Slot → State
  -- what coro.alloc gives
  pub allocates : State → Bool
  -- what coro.begin of a memory does, and what it gives to a name
  pub start : State → Option ℕ → Value → Result State Cause
  -- what coro.free gives
  pub freed : State → Value
  -- what coro.end does for an activation that hasn't left
  pub close : State → State
  -- from a frame address to its promise, or back
  pub promised : State → Value → Operand → Result Value Cause
  -- what a call that gives a ramp its frame does, none for any other instruction
  pub given_call : State → Fetched → Option (Result State Cause)
  -- a marker that does nothing
  pub is_idle : State → Fetched → Bool

-- ---- a step

abbrev pub hooked_context : Hooks → State → Context
hooked_context h s =
    record {
      code = h.given.code;
      answers = h.given.answers;
      rights = h.rights s.instances;
      function = function_of h.given s;
    }

abbrev pub hooked_coro : Hooks → State → Intrinsic → List Arg → List Value → Option ℕ → Result State Cause
hooked_coro h s Intrinsic.CoroAlloc args vs result = Ok (gives s result (truth_value (h.allocates s)))
hooked_coro h s Intrinsic.CoroBegin args vs result = h.start s result (nth vs 1)
hooked_coro h s Intrinsic.CoroFree args vs result = Ok (gives (release s) result (h.freed s))
hooked_coro h s Intrinsic.CoroEnd args vs result = end_of s h.close result
hooked_coro h s Intrinsic.CoroPromise args vs result =
    and_then (h.promised s (nth vs 0) (operand_at args 2)) (λ v. Ok (gives s result v))
hooked_coro h s i args vs result = coro h.given h.go_on s i args vs result

abbrev pub hooked_act : Hooks → State → Action → Result State Cause
hooked_act h s (NewSlot w slot) = Ok (h.place (settled s w) slot)
hooked_act h s (Coro i args result) = hooked_coro h s i args (arg_values h.given.code s.top.values args) result
hooked_act h s action = act h.given h.go_on s action

abbrev pub hooked_next : Hooks → State → Fetched → Result State Cause
hooked_next h s fetched =
    if h.is_idle s fetched then Ok (next s)
    else unwrap_or (h.given_call s fetched) (hooked_act h s (action_of (hooked_context h s) (work_of s) fetched))

abbrev pub hooked_advance : Hooks → State → Outcome → State
hooked_advance h s Outcome.Running =
    or_undefined h.given s (hooked_next h s (fetch (function_of h.given s) s.top.block s.top.at))
hooked_advance h s (Outcome.Returned v) = s
hooked_advance h s (Outcome.Undefined cause place) = s

-- one step; a run that is over stays as it is
abbrev pub step_of : Hooks → State → State
step_of h s = hooked_advance h s s.outcome

-- ---- runs

-- the state after n steps
abbrev pub hooked_state_at : Hooks → ℕ → List Word → ℕ → State
hooked_state_at h entry args n = iterate (step_of h) n (first_state h.given.code entry args)

-- what is seen of it
abbrev pub SeenBy : Hooks → ℕ → List Word → ℕ → Seen
SeenBy h entry args n = let s = hooked_state_at h entry args n in seen_of h.given.code s.world s.outcome
