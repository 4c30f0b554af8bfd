-- What holds of a state from which a step is taken.
use Rattle.std.proofs.Common.{◌≡◌, ℕ, Bool, false, List, Option, Some, None, Result, refl, ap, ◌∙◌}
use Rattle.pass_renewed_proof.specs.ir_base.declared.cause.Cause.{Cause}
use Rattle.pass_renewed_proof.specs.ir_model.declared.instr.Instr.{Instr}
use Rattle.pass_renewed_proof.specs.ir_model.declared.module.Function.{Function}
use Rattle.pass_renewed_proof.specs.ir_model.declared.module.Module.{Module}
use Rattle.pass_renewed_proof.specs.ir_model.declared.operand.Intrinsic.{Intrinsic}
use Rattle.pass_renewed_proof.specs.ir_paths.Windows.{is_call_of}
use Rattle.pass_renewed_proof.specs.ir_paths.declared.point.Point.{Point}
use Rattle.pass_renewed_proof.specs.pass_kept_proof.Needed.{given_by}
use Rattle.pass_renewed_proof.specs.SlotRules.{IsMadeOnce}
use Rattle.pass_renewed_proof.specs.Steps.{given_at}
use Rattle.run_hooks.proofs.alive.Acts.{gives_alive}
use Rattle.run_hooks.proofs.alive.Behind.{IsInOrder, not_made}
use Rattle.run_hooks.proofs.alive.Marks.{spot_is}
use Rattle.run_hooks.proofs.alive.Order.{order, still}
use Rattle.run_hooks.proofs.alive.Places.{placed}
use Rattle.run_hooks.specs.Away.{IsPlacedState, KeepsAllPlaceRules, KeepsPlaceRules, point_in, spot_of}
use Rattle.run_hooks.specs.Left.{IsLastState}
use Rattle.run_hooks.specs.Reached.{AllHaveSwitches, IsReachedState}
use Rattle.run_hooks.specs.alive.Alive.{HandsOver, IsAliveState, KeepsAllAliveRules, KeepsAliveRules, StaysAlive}
use Rattle.run_hooks.specs.alive.Alive.{handing}
use Rattle.pass_renewed_proof.specs.run_memory.declared.pointer.Value.{Value}
use Rattle.pass_renewed_proof.specs.run_source.State.{function_of, gives, next, own_facts}
use Rattle.pass_renewed_proof.specs.run_source.declared.state.Mode.{Mode}
use Rattle.pass_renewed_proof.specs.run_source.declared.state.State.{State}
use Rattle.pass_renewed_proof.specs.run_source_tables.Given.{Given}
use Rattle.pass_renewed_proof.specs.run_step.Effects.{is_alloca}
use Rattle.pass_renewed_proof.specs.run_step.Step.{AtInstr, Fetched, fetch}
use Rattle.pass_renewed_proof.specs.run_step.Values.{Env}
use Rattle.run_hooks.proofs.alive.Like.{unmade}

-- all that holds of a state from which a step is taken
pub record IsNow (g : Given) (counts : ℕ → ℕ → Bool) (hand : ℕ → Point → Env → Env) (s : State) : Type 0 where
  pub hands : HandsOver g.code counts hand
  pub rules : KeepsAllAliveRules g
  pub places : KeepsAllPlaceRules g
  pub ok : AllHaveSwitches g.code
  pub alive : IsAliveState g.code counts s
  pub reached : IsReachedState g s
  pub last : IsLastState s
  pub placed : IsPlacedState (handing g hand) s

module _ {g : Given} {counts : ℕ → ℕ → Bool} {hand : ℕ → Point → Env → Env} {s : State}
    (start : IsNow g counts hand s) where
  abbrev m : Module
  m = g.code

  abbrev f : Function
  f = function_of g s

  abbrev p : Point
  p = point_in s.top

  abbrev here : Fetched
  here = fetch f s.top.block s.top.at

  abbrev ramp : List ℕ
  ramp = (own_facts g s).ramp_slots

  abbrev h : IsAliveState g.code counts s
  h = start.alive

  pub own_rules : KeepsAliveRules (function_of g s) (own_facts g s).ramp_slots
  own_rules = start.rules s.top.func

  pub own_places : KeepsPlaceRules g.code (function_of g s)
  own_places = start.places.each s.top.func

  pub ordered : IsInOrder s
  ordered = order (handing g hand) refl start.places s start.reached start.last start.placed

  pub stays_here : (from label : ℕ) → s.top.mode ≡ Mode.Entering from label → ⊥
  stays_here = still (handing g hand) refl start.places s start.reached start.last start.placed

  pub at_point : spot_of (function_of g s) s.top ≡ p
  at_point = spot_is (function_of g s) s.top.mode p stays_here

  abbrev Fine : Result State Cause → Type 0
  Fine r = StaysAlive g.code counts r

  -- ---- what a call gives

  module _ (i : Instr) (stands : here ≡ AtInstr i) where
    pub apart_of : is_alloca i ≡ false → (result : Option ℕ) → given_by i ≡ result → (u : ℕ) → IsMadeOnce f u
        → result ≡ Some u → ⊥
    apart_of never result given u made e =
        not_made m counts s h ordered ramp own_rules stays_here i stands never u made (ap given_at stands ∙ given ∙ e)

    pub gives_here : is_call_of Intrinsic.CoroEnd i ≡ false → is_call_of Intrinsic.LifetimeEnd i ≡ false
        → (result : Option ℕ) (v : Value) → ((u : ℕ) → IsMadeOnce f u → result ≡ Some u → ⊥)
        → IsAliveState m counts (gives s result v)
    gives_here = gives_alive m counts s h ordered ramp own_rules stays_here i stands

    pub next_here : is_call_of Intrinsic.CoroEnd i ≡ false → is_call_of Intrinsic.LifetimeEnd i ≡ false
        → IsAliveState m counts (next s)
    next_here no_end no_mark = gives_here no_end no_mark None Value.Poison (λ u made e. unmade None u e)
