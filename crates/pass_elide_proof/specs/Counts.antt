-- Allocator calls: runs without their counts, and what elision takes from a count.
use Rattle.std.specs.Prelude.{◌≡◌, ℕ, ◌+◌, ◌-◌, ◌^◌, min, Result, Ok, Err, filter, length}
use Rattle.pass_proofs.specs.ir_base.declared.cause.Cause.{Cause}
use Rattle.pass_proofs.specs.run_agreement.Machines.{IsReturned, Machine, at, state_at}
use Rattle.pass_proofs.specs.run_framed.Framed.{is_given}
use Rattle.pass_proofs.specs.run_source.declared.state.State.{State}
use Rattle.pass_proofs.specs.run_step.Step.{Action, Coro, Deallocate, Done, Enter, GoTo, NewSlot, Return, Stuck, Work}
use Rattle.pass_proofs.specs.run_step.declared.world.World.{World}

-- ---- the same with another count

abbrev pub counted : ℕ → World → World
counted n w = record w { allocs = n }

abbrev pub counted_work : ℕ → Work → Work
counted_work n w = record w { world = counted n w.world }

abbrev pub counted_state : ℕ → State → State
counted_state n s = record s { world = counted n s.world }

abbrev pub counted_action : ℕ → Action → Action
counted_action n (Done w) = Done (counted_work n w)
counted_action n (NewSlot w slot) = NewSlot (counted_work n w) slot
counted_action n (Enter func args result must_tail) = Enter func args result must_tail
counted_action n (Coro i args result) = Coro i args result
counted_action n (Deallocate p) = Deallocate p
counted_action n (GoTo label) = GoTo label
counted_action n (Return v) = Return v
counted_action n (Stuck cause) = Stuck cause

-- ---- runs

-- a run without its count, which elision lowers
abbrev pub uncounted : {S : Type 0} → Machine S → Machine S
uncounted a = record a { seen = λ s. record (a.seen s) { allocs = 0 } }

-- the instances that were given their frames: each was begun by one executed elided call
abbrev pub given_frames : State → ℕ
given_frames s = length (filter (is_given s.world.memory) s.instances)

-- a count stands still at its type's end
abbrev pub capped : ℕ → ℕ
capped n = min n (2 ^ 128 - 1)

-- Where both have returned, the first made as many allocator calls as the second, and one more for each elided call,
-- as far as counts go.
abbrev pub LosesCalls : {S : Type 0} → Machine S → Machine State → Type 0
LosesCalls a b =
    (i j : ℕ) → IsReturned (at a i).outcome → IsReturned (at b j).outcome
    → (at a i).allocs ≡ capped ((at b j).allocs + given_frames (state_at b j))

-- ---- steps

abbrev pub counted_result : ℕ → Result State Cause → Result State Cause
counted_result n (Ok s) = Ok (counted_state n s)
counted_result n (Err cause) = Err cause
