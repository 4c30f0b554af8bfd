-- What the code of a plain step does by the effect of an instruction.
use Rattle.std.specs.Prelude.{Bool, true, false, Ok, Err, Result, ◌≡◌}
use Rattle.ir_base.specs.declared.cause.Cause.{Cause}
use Rattle.run_step.specs.Results.{and_then}
use Rattle.run_step.specs.Step.{Coro, Deallocate, Done, Enter, GoTo, NewSlot, Return, Stuck, Work, deallocated, set_memory}
use Rattle.run_step.specs.declared.effect.Effect.{Effect}
use Rattle.run_step.specs.declared.program.Program.{Program}
use Rattle.run_plain.specs.Plain.{PlainGiven, counted, plain_call, plain_coro, plain_go_to, plain_pop, plain_returned, plain_settled, plain_slot, plain_work}
use Rattle.run_plain.specs.declared.effects.Stop.{Stop}
use Rattle.run_plain.specs.declared.state.PlainState.{PlainState}

-- the state with other work
abbrev pub with_work : PlainState → Work → PlainState
with_work s w = record s { world = w.world; top = record s.top { values = w.values } }

-- what a state becomes by an effect, the work being that which the instruction left
abbrev pub plain_effect : PlainGiven → PlainState → Effect → Result PlainState Cause
plain_effect g s Effect.Done = Ok (plain_settled s (plain_work s))
plain_effect g s (Effect.NewSlot slot) = Ok (plain_slot (plain_settled s (plain_work s)) slot)
plain_effect g s (Effect.Enter func args result must_tail) = Ok (counted g func (plain_call g s func args result must_tail))
plain_effect g s (Effect.Coro i) = plain_coro s i
plain_effect g s (Effect.Deallocate p) = and_then (deallocated s.world.memory p) (λ memory. Ok (plain_settled s (set_memory (plain_work s) memory)))
plain_effect g s (Effect.GoTo label) = Ok (plain_go_to g s label)
plain_effect g s (Effect.Return v) = plain_pop (plain_returned s) v s.below
plain_effect g s (Effect.Stuck cause) = Err cause

-- why a step stopped: for want of memory, of which nothing is said, or by a cause
abbrev pub IsStop : Stop → Result PlainState Cause → Type 0
IsStop Stop.NoMemory r = Unit {0}
IsStop (Stop.Undefined cause) r = r ≡ Err cause

abbrev pub given_of : Program → PlainGiven
given_of p = record { code = p.module; answers = p.answers }

abbrev pub is_done : Effect → Bool
is_done Effect.Done = true
is_done _ = false
