-- What building frames keeps: the states of RenewedAt of the coroutines with blocks on edges and those of FramedAt of
-- the framed forms stand beside each other, and each step of the first pays for those of the second.
use Rattle.std.specs.Prelude.{◌≡◌, ℕ, ℤ, ◌+◌, ◌-◌, ◌≤◌, false, List, [], ◌∷◌, Option, Err, Ok, Result, option_map, if◌then◌else◌}
use Rattle.pass_proofs.specs.frame_layout.declared.layout.Layouts.{Layouts}
use Rattle.pass_proofs.specs.ir_base.declared.cause.Cause.{Cause}
use Rattle.pass_proofs.specs.ir_base.declared.outcome.Word.{Word}
use Rattle.pass_proofs.specs.ir_model.Names.{function_at, position_of}
use Rattle.pass_proofs.specs.ir_model.declared.module.Frame.{Frame}
use Rattle.pass_proofs.specs.ir_model.declared.operand.Intrinsic.{Intrinsic}
use Rattle.pass_proofs.specs.ir_paths.declared.point.Point.{Point}
use Rattle.pass_frames_code.specs.Costs.{call_cost, instr_cost, jump_cost, resume_cost, slot_cost, whole}
use Rattle.pass_frames_code.specs.Places.{Framing, own_place, place}
use Rattle.pass_frames_code.specs.Related.{AreBuilt, AreBuiltOf, AreShownAlike, Building, is_coroutine, point_of}
use Rattle.pass_proofs.specs.pass_kept_proof.Kept.{Keep}
use Rattle.pass_proofs.specs.edges.states.MovedState.{edges_split}
use Rattle.pass_renewed_proof.specs.Prices.{renewed_machine}
use Rattle.pass_renewed_proof.specs.Renewed.{Flags, RenewedGiven, Roots, renewed_from, renewed_given}
use Rattle.pass_renewed_proof.specs.SlotRules.{KeepsAllSlots}
use Rattle.pass_proofs.specs.run_agreement.Costs.{AgreesBy}
use Rattle.pass_proofs.specs.run_source.Source.{Sleeper, context_of, sleeper_at}
use Rattle.pass_proofs.specs.run_source.State.{function_of, work_of}
use Rattle.pass_proofs.specs.run_source.declared.state.Activation.{Activation}
use Rattle.pass_proofs.specs.run_source.declared.state.Mode.{Mode}
use Rattle.pass_proofs.specs.run_source.declared.state.State.{State}
use Rattle.pass_proofs.specs.run_states.moved_states.Beside.{framed_machine}
use Rattle.pass_proofs.specs.run_step.Step.{Action, Coro, Enter, GoTo, Return, action_of, fetch}
use Rattle.pass_proofs.specs.run_step.Values.{arg_values, nth}

-- ---- what the next step costs

-- up to and with the instruction itself
abbrev pub own_cost : Framing → Point → ℕ
own_cost x p = (own_place x p).at - (place x p).at + 1

-- what stands behind a call, to which a return comes back
abbrev pub behind_at : Framing → ℕ → ℕ → ℕ
behind_at x block at =
    (place x (record { block = block; at = at })).at - ((own_place x (record { block = block; at = at - 1 })).at + 1)

abbrev pub behind_cost : Building → List Activation → ℕ
behind_cost b [] = 0
behind_cost b (a ∷ below) = if is_coroutine b a.func then behind_at (b.framing a.func) a.block a.at else 0

-- the front of a ramp that is called
abbrev pub entered_cost : Building → ℕ → ℕ
entered_cost b func = if is_coroutine b func then call_cost (b.framing func) else 0

abbrev pub first_anew : RenewedGiven → ℕ → ℕ → Option ℕ
first_anew g func at = option_map (λ (p : Point). p.at) (renewed_from (g.flags func) (function_at g.given.code func) at)

-- the allocas before the first slot that a resume or destroy makes anew
abbrev pub woken_cost : Building → RenewedGiven → Result Sleeper Cause → ℕ
woken_cost b g (Err cause) = 0
woken_cost b g (Ok y) =
    resume_cost (b.framing y.instance.coroutine) (first_anew g y.instance.coroutine 0) - 1

abbrev pub sleeper_by : RenewedGiven → State → Action → Result Sleeper Cause
sleeper_by g s (Coro i args result) = sleeper_at s (nth (arg_values g.given.code s.top.values args) 0)
sleeper_by g s action = Err Cause.State

-- of a coroutine, with what stands in front of the instruction and behind it
abbrev pub coroutine_cost : Building → RenewedGiven → State → Action → ℕ
coroutine_cost b g s (Enter func args result must_tail) =
    own_cost (b.framing s.top.func) (point_of s.top) + entered_cost b func
coroutine_cost b g s (Coro Intrinsic.CoroResume args result) =
    own_cost (b.framing s.top.func) (point_of s.top)
    + woken_cost b g (sleeper_by g s (Coro Intrinsic.CoroResume args result))
coroutine_cost b g s (Coro Intrinsic.CoroDestroy args result) =
    own_cost (b.framing s.top.func) (point_of s.top)
    + woken_cost b g (sleeper_by g s (Coro Intrinsic.CoroDestroy args result))
coroutine_cost b g s (Coro Intrinsic.CoroEnd args result) =
    instr_cost (b.framing s.top.func) (point_of s.top) + behind_cost b s.below
coroutine_cost b g s (GoTo label) =
    jump_cost (b.framing s.top.func) s.top.block (position_of (function_of g.given s) label)
coroutine_cost b g s (Return v) =
    whole (b.framing s.top.func) s.top.block - (place (b.framing s.top.func) (point_of s.top)).at
    + behind_cost b s.below
coroutine_cost b g s action = instr_cost (b.framing s.top.func) (point_of s.top)

-- of a function that is no coroutine each step is one, but for what it enters and comes back to
abbrev pub other_cost : Building → RenewedGiven → State → Action → ℕ
other_cost b g s (Enter func args result must_tail) = 1 + entered_cost b func
other_cost b g s (Coro Intrinsic.CoroResume args result) =
    1 + woken_cost b g (sleeper_by g s (Coro Intrinsic.CoroResume args result))
other_cost b g s (Coro Intrinsic.CoroDestroy args result) =
    1 + woken_cost b g (sleeper_by g s (Coro Intrinsic.CoroDestroy args result))
other_cost b g s (Return v) = 1 + behind_cost b s.below
other_cost b g s action = 1

abbrev pub action_at : RenewedGiven → State → Action
action_at g s = action_of (context_of g.given s) (work_of s) (fetch (function_of g.given s) s.top.block s.top.at)

abbrev pub step_cost : Building → RenewedGiven → State → Mode → ℕ
step_cost b g s (Mode.Entering from label) =
    slot_cost (b.framing s.top.func) s.top.at (first_anew g s.top.func (s.top.at + 1))
step_cost b g s mode =
    if is_coroutine b s.top.func then coroutine_cost b g s (action_at g s) else other_cost b g s (action_at g s)

-- ---- the statement

-- each step is paid for
abbrev pub PaysForFrames : Building → RenewedGiven → (State → ℕ) → Type 0
PaysForFrames b g price = (s : State) → step_cost b g s s.top.mode ≤ price s

-- The building's code has blocks on its edges put in. What is still to be asked are good layouts, the tables of what is
-- handed on, of flags and roots, and what acceptance gives of the source.
abbrev pub KeepsFramedMeaning : Building → Layouts → Keep → Flags → Roots → List Frame → ℕ → List Word → List ℤ
    → (State → ℕ) → Type 0
KeepsFramedMeaning b layouts keep flags roots sizes entry args answers price =
    AreBuilt b → b.given.layouts ≡ layouts.coroutines → KeepsAllSlots (edges_split b.code) keep flags roots
    → is_coroutine b entry ≡ false
    → PaysForFrames b (renewed_given (edges_split b.code) keep flags roots sizes answers) price
    → AgreesBy (AreBuiltOf b) (AreShownAlike b)
    (renewed_machine (edges_split b.code) keep flags roots sizes entry args answers) price
    (framed_machine b.framed_code layouts entry args answers) (λ t. 1)
