-- Lemmas on performs, that speak of no pass.
use Rattle.std.proofs.Common.{◌≡◌, ℕ, List, [], ◌∷◌, length, refl, subst}
use Rattle.std.specs.Prelude.{Some, None, Ok, Option}
use Rattle.ir_laws.specs.run_memory.declared.pointer.Value.{Value}
use Rattle.ir_laws.specs.run_source.Source.{Sleeper, sleeper_at}
use Rattle.ir_laws.specs.run_source.State.{own_instance}
use Rattle.ir_laws.specs.run_source.declared.state.Activation.{Activation}
use Rattle.ir_laws.specs.run_source.declared.state.Instance.{Instance}
use Rattle.ir_laws.specs.run_source.declared.state.State.{State}
use Rattle.run_states.specs.branches.MovedState.{IsNamedBelow, IsOwnedBy}
use Rattle.ir_laws.specs.ir_model.Names.{function_at}
use Rattle.ir_laws.specs.ir_model.declared.module.Module.{Module}
use Rattle.run_states.proofs.sound_states.Acts.{asleep_there}
use Rattle.run_states.proofs.sound_states.Kept.{own_is, own_there}
use Rattle.run_states.specs.sound_states.Sound.{AreSoundBelow, IsSound, IsSoundStatus, IsSuspendAt}

-- ---- what a sound state gives

module _ (m : Module) (s : State) (h : IsSound m s) where
  pub own_of : IsOwnedBy s (own_instance s)
  own_of = on (own_instance s) refl
    where
      on : (o : Option (ℕ × Instance)) → own_instance s ≡ o → IsOwnedBy s o
      on None e = tt
      on (Some (i, x)) e =
          let there = own_there s.instances s.top.instance i x e in
          own_is s.instances s.top.func s.top.instance i x there.0 there.1 h.top.instance

  pub below_of : IsNamedBelow s.top.result s.below
  below_of = on s.below h.below
    where
      on : (below : List Activation) → AreSoundBelow m s.instances s.top.result below → IsNamedBelow s.top.result below
      on [] b = tt
      on (a ∷ below) b = b.0

  pub kept_room : (p : Value) (y : Sleeper) → sleeper_at s p ≡ Ok y → length y.values ≡ length (function_at m y.instance.coroutine).names
  kept_room p y e =
      let there = asleep_there s p y e in
      (subst (IsSoundStatus m y.instance.coroutine) there.status (h.instances y.number y.instance there.got)).0

  pub asleep : (p : Value) (y : Sleeper) → sleeper_at s p ≡ Ok y → IsSuspendAt (function_at m y.instance.coroutine) y.suspend
  asleep p y e =
      let there = asleep_there s p y e in
      (subst (IsSoundStatus m y.instance.coroutine) there.status (h.instances y.number y.instance there.got)).1
