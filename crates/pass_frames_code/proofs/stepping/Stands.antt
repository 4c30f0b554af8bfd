-- Where an activation stands, and what the step of the first run is and costs.
use Rattle.std.proofs.Common.{◌≡◌, Bool, true, false, List, refl, ap, ◌∙◌}
use Rattle.std.specs.Prelude.{Ok, if◌then◌else◌}
use Rattle.pass_proofs.specs.ir_base.declared.outcome.Outcome.{Outcome}
use Rattle.pass_frames_code.specs.Meaning.{action_at, coroutine_cost, other_cost, step_cost}
use Rattle.pass_frames_code.specs.Places.{Framing, place}
use Rattle.pass_frames_code.specs.Related.{AreCellsThere, AreCoroutines, AreMade, AreWheresThere, Building, HasValues, is_coroutine, place_by, point_of, top_place}
use Rattle.pass_frames_code.specs.Stepping.{IsNotEntering}
use Rattle.pass_renewed_proof.specs.Renewed.{RenewedGiven, is_idle, renewed_act, renewed_advance, renewed_next, renewed_step}
use Rattle.pass_proofs.specs.run_laws.memory.Pointers.{Home}
use Rattle.pass_proofs.specs.run_memory.Memory.{Rights}
use Rattle.pass_proofs.specs.run_memory.declared.block.MemoryBlock.{MemoryBlock}
use Rattle.pass_proofs.specs.run_source.Source.{context_of}
use Rattle.pass_proofs.specs.run_source.State.{function_of, or_undefined, settled, work_of}
use Rattle.pass_proofs.specs.run_source.declared.state.Activation.{Activation}
use Rattle.pass_proofs.specs.run_source.declared.state.Mode.{Mode}
use Rattle.pass_proofs.specs.run_source.declared.state.State.{State}
use Rattle.pass_proofs.specs.run_step.Step.{Action, Fetched, action_of, fetch}

-- ---- the step of the first run

-- by what stands at its place, where that is no marker of a slot that is made anew
pub renewed_does : (g : RenewedGiven) (s : State) (here : Fetched) (a : Action) → s.outcome ≡ Outcome.Running
    → fetch (function_of g.given s) s.top.block s.top.at ≡ here → is_idle (g.flags s.top.func) here ≡ false
    → action_of (context_of g.given s) (work_of s) here ≡ a
    → renewed_step g s ≡ or_undefined g.given s (renewed_act g s a)
renewed_does g s here a runs there idle does =
    ap (renewed_advance g s) runs
    ∙ ap (λ (x : Fetched). or_undefined g.given s (renewed_next g s x)) there
    ∙ ap (λ (k : Bool). or_undefined g.given s (if k then Ok (settled s (work_of s))
    else renewed_act g s (action_of (context_of g.given s) (work_of s) here))) idle
    ∙ ap (λ (z : Action). or_undefined g.given s (renewed_act g s z)) does

-- what it costs, where no slot is made anew
pub cost_is : (b : Building) (g : RenewedGiven) (s : State) (mode : Mode) → IsNotEntering mode
    → step_cost b g s mode
    ≡ (if is_coroutine b s.top.func then coroutine_cost b g s (action_at g s) else other_cost b g s (action_at g s))
cost_is b g s Mode.Plain h = refl
cost_is b g s Mode.Ramp h = refl
cost_is b g s (Mode.GivenRamp frame) h = refl
cost_is b g s Mode.Resumed h = refl
cost_is b g s (Mode.Entering from label) h = absurd h

-- ---- places

placed_at : (x : Framing) (a : Activation) (mode : Mode) → IsNotEntering mode → place_by x a mode
    ≡ place x (point_of a)
placed_at x a Mode.Plain h = refl
placed_at x a Mode.Ramp h = refl
placed_at x a (Mode.GivenRamp frame) h = refl
placed_at x a Mode.Resumed h = refl
placed_at x a (Mode.Entering from label) h = absurd h

-- of the topmost activation of a coroutine that makes no allocas
pub top_is : (b : Building) (a : Activation) → is_coroutine b a.func ≡ true → IsNotEntering a.mode
    → top_place b a ≡ place (b.framing a.func) (point_of a)
top_is b a is mode =
    ap (λ (k : Bool). if k then place_by (b.framing a.func) a a.mode else point_of a) is
    ∙ placed_at (b.framing a.func) a a.mode mode

pub made_of : (x : Framing) (rights : Rights) (m : List MemoryBlock) (c : Activation) (mode : Mode)
    → IsNotEntering mode
    → AreCellsThere x rights m c × AreWheresThere x rights m c → AreMade x rights m c mode
made_of x rights m c Mode.Plain h e = e
made_of x rights m c Mode.Ramp h e = e
made_of x rights m c (Mode.GivenRamp frame) h e = e
made_of x rights m c Mode.Resumed h e = e
made_of x rights m c (Mode.Entering from label) h e = absurd h

pub values_of : (b : Building) (homes : List Home) (rights : Rights) (t : State) (a c : Activation) (k : Bool)
    → k ≡ true → AreCoroutines (b.framing a.func) homes rights t a c → HasValues b homes rights t a c k
values_of b homes rights t a c true e h = h
values_of b homes rights t a c false e h = absurd (cc)
