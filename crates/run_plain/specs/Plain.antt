-- The meaning of a plain module, which has functions, bytes and calls alone.
use Rattle.std.specs.Prelude.{ℕ, Bool, true, false, List, [], map, ℤ, slice_get, None, Ok, Err, Option, Result, unwrap_or, ◌+◌, ◌∷◌, if◌then◌else◌}
use Rattle.run_memory.specs.Memory.{owner_rights}
use Rattle.run_memory.specs.declared.pointer.Value.{Value}
use Rattle.ir_base.specs.declared.cause.Cause.{Cause}
use Rattle.ir_base.specs.declared.outcome.Outcome.{Outcome}
use Rattle.ir_base.specs.declared.outcome.Place.{Place}
use Rattle.ir_base.specs.declared.outcome.Word.{Word}
use Rattle.ir_model.specs.Names.{function_at, is_noalloc, position_of}
use Rattle.ir_model.specs.declared.module.Function.{Function}
use Rattle.ir_model.specs.declared.module.Module.{Module}
use Rattle.ir_model.specs.declared.operand.Intrinsic.{Intrinsic}
use Rattle.run_step.specs.Results.{and_then}
use Rattle.run_step.specs.Runs.{Seen, iterate, seen_of}
use Rattle.run_step.specs.Step.{Action, Context, Coro, Deallocate, Done, Enter, GoTo, NewSlot, Return, Stuck, Work, action_of, deallocated, entry_values, fetch, first_world, label_of, outcome_of, place_at, risen, set_memory, values_in, without_slots}
use Rattle.run_step.specs.Values.{with_result}
use Rattle.run_step.specs.declared.world.Slot.{Slot}
use Rattle.run_plain.specs.declared.state.PlainActivation.{PlainActivation}
use Rattle.run_plain.specs.declared.state.PlainState.{PlainState}

-- the module and the answers
pub record PlainGiven : Type 0 where
  pub code : Module
  pub answers : List ℤ

abbrev pub plain_function : PlainGiven → PlainState → Function
plain_function g s = function_at g.code s.top.func

abbrev pub plain_context : PlainGiven → PlainState → Context
plain_context g s = record { code = g.code; answers = g.answers; rights = owner_rights; function = plain_function g s }

abbrev pub plain_work : PlainState → Work
plain_work s = record { world = s.world; values = s.top.values }

-- goes on to the next instruction
abbrev pub plain_settled : PlainState → Work → PlainState
plain_settled s w = record s { world = w.world; top = record s.top { at = s.top.at + 1; values = w.values } }

-- a slot more of the topmost activation, the newest first
abbrev pub plain_slot : PlainState → Slot → PlainState
plain_slot s slot = record s { top = record s.top { slots = slot ∷ s.top.slots } }

-- ---- branches

abbrev pub plain_go_to : PlainGiven → PlainState → ℕ → PlainState
plain_go_to g s label =
    let f = plain_function g s in
    let b = position_of f label in
    let values = values_in g.code (slice_get f.blocks b) (label_of (slice_get f.blocks s.top.block)) s.top.values in
    record s { top = record s.top { block = b; at = 0; values = values } }

-- ---- calls and returns

abbrev pub plain_called : Module → ℕ → List Value → Option ℕ → PlainActivation
plain_called m func args result =
    record { func = func; block = 0; at = 0; values = entry_values (function_at m func) args; slots = []; result = result }

-- the slots of the topmost activation die when it returns
abbrev pub plain_returned : PlainState → PlainState
plain_returned s =
    record s {
      world = record s.world { memory = without_slots s.world.memory s.top.slots };
      top = record s.top { slots = [] };
    }

-- a musttail call replaces its activation
abbrev pub plain_call : PlainGiven → PlainState → ℕ → List Value → Option ℕ → Bool → PlainState
plain_call g s func args result true = record (plain_returned s) { top = plain_called g.code func args s.top.result }
plain_call g s func args result false =
    record s { top = plain_called g.code func args result; below = record s.top { at = s.top.at + 1 } ∷ s.below }

abbrev pub counted : PlainGiven → ℕ → PlainState → PlainState
counted g func s = if is_noalloc (function_at g.code func).name then record s { elided = risen s.elided } else s

-- a callee that returns no value gives poison
abbrev pub plain_given_back : PlainActivation → Option ℕ → Option Value → PlainActivation
plain_given_back a result v = record a { values = with_result a.values result (unwrap_or v Value.Poison) }

abbrev pub plain_pop : PlainState → Option Value → List PlainActivation → Result PlainState Cause
plain_pop s v [] = and_then (outcome_of v) (λ outcome. Ok (record s { outcome = outcome }))
plain_pop s v (a ∷ below) = Ok (record s { top = plain_given_back a s.top.result v; below = below })

-- ---- a step

-- of the coro intrinsics coro.id alone has a meaning, a step that does nothing
abbrev pub plain_coro : PlainState → Intrinsic → Result PlainState Cause
plain_coro s Intrinsic.CoroId = Ok (plain_settled s (plain_work s))
plain_coro s _ = Err Cause.Call

abbrev pub plain_act : PlainGiven → PlainState → Action → Result PlainState Cause
plain_act g s (Done w) = Ok (plain_settled s w)
plain_act g s (NewSlot w slot) = Ok (plain_slot (plain_settled s w) slot)
plain_act g s (Enter func args result must_tail) = Ok (counted g func (plain_call g s func args result must_tail))
plain_act g s (Coro i args result) = plain_coro s i
plain_act g s (Deallocate p) = and_then (deallocated s.world.memory p) (λ memory. Ok (plain_settled s (set_memory (plain_work s) memory)))
plain_act g s (GoTo label) = Ok (plain_go_to g s label)
plain_act g s (Return v) = plain_pop (plain_returned s) v s.below
plain_act g s (Stuck cause) = Err cause

abbrev pub plain_place : PlainGiven → PlainState → Place
plain_place g s = place_at s.top.func (plain_function g s) s.top.block s.top.at

abbrev pub plain_or_undefined : PlainGiven → PlainState → Result PlainState Cause → PlainState
plain_or_undefined g s (Err cause) = record s { outcome = Outcome.Undefined cause (plain_place g s) }
plain_or_undefined g s (Ok s') = s'

abbrev pub plain_advance : PlainGiven → PlainState → Outcome → PlainState
plain_advance g s Outcome.Running =
    plain_or_undefined g s (plain_act g s (action_of (plain_context g s) (plain_work s) (fetch (plain_function g s) s.top.block s.top.at)))
plain_advance g s (Outcome.Returned v) = s
plain_advance g s (Outcome.Undefined cause place) = s

-- one step; a run that is over stays as it is
abbrev pub plain_step : PlainGiven → PlainState → PlainState
plain_step g s = plain_advance g s s.outcome

-- ---- runs

-- the globals' blocks, and one activation at the entry
abbrev pub plain_first : Module → ℕ → List Word → PlainState
plain_first m entry args =
    record { world = first_world m; top = plain_called m entry (map Value.Int args) None; below = []; elided = 0; outcome = Outcome.Running }

abbrev pub plain_state_at : PlainGiven → ℕ → List Word → ℕ → PlainState
plain_state_at g entry args n = iterate (plain_step g) n (plain_first g.code entry args)

-- what is seen of a plain run after n steps
abbrev pub PlainAt : Module → ℕ → List Word → List ℤ → ℕ → Seen
PlainAt m entry args answers n =
    let s = plain_state_at (record { code = m; answers = answers }) entry args n in seen_of m s.world s.outcome
