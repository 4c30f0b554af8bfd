-- The suspended instance of a frame address is found in both runs, and coro.done says the same of it.
use Rattle.std.proofs.Common.{◌≡◌, ℕ, Bool, true, false, Option, Some, None, Ok, Err, Result, refl, sym, ap, ◌∙◌, subst}
use Rattle.pass_kept_proof.specs.ir_base.declared.cause.Cause.{Cause}
use Rattle.pass_kept_proof.specs.ir_model.Names.{function_at}
use Rattle.pass_kept_proof.specs.ir_model.declared.instr.Instr.{Instr}
use Rattle.pass_kept_proof.specs.ir_model.declared.module.Function.{Function}
use Rattle.pass_kept_proof.specs.ir_model.declared.module.Module.{Module}
use Rattle.pass_kept_proof.specs.ir_paths.declared.point.Point.{Point}
use Rattle.run_laws.specs.memory.Pointers.{IsValue}
use Rattle.pass_kept_proof.specs.run_memory.declared.pointer.Value.{Value}
use Rattle.pass_kept_proof.specs.run_source.Source.{Sleeper, done_at, sleeper_at, sleeper_of}
use Rattle.pass_kept_proof.specs.run_source.State.{gives, instance_at}
use Rattle.pass_kept_proof.specs.run_source.declared.state.Instance.{Instance}
use Rattle.pass_kept_proof.specs.run_source.declared.state.State.{State}
use Rattle.pass_kept_proof.specs.run_source.declared.state.Status.{Status}
use Rattle.pass_kept_proof.specs.run_source_tables.Given.{Given, has_final, is_final}
use Rattle.pass_kept_proof.specs.run_step.Results.{and_then, found, ok_if}
use Rattle.pass_kept_proof.specs.run_step.Values.{truth_value}
use Rattle.pass_renewed_proof.proofs.Giving.{gives_beside}
use Rattle.pass_renewed_proof.proofs.Owning.{found_beside}
use Rattle.pass_renewed_proof.specs.Beside.{IsBeside, IsInstanceBeside, IsStatusBeside}
use Rattle.pass_renewed_proof.specs.Found.{IsSleeperBeside}
use Rattle.pass_renewed_proof.specs.Ledger.{Ledger}
use Rattle.pass_renewed_proof.specs.Making.{IsGiving}
use Rattle.pass_renewed_proof.specs.Renewed.{Flags, Roots}
use Rattle.pass_renewed_proof.specs.SlotRules.{KeepsSlots}

module _ (m : Module) (flags : Flags) (roots : Roots) (s t : State) (beside : IsBeside m flags roots s t) where
  abbrev l : Ledger
  l = beside.ledger

  -- what the second run finds
  abbrev Finds : Sleeper → Result Sleeper Cause → Type 0
  Finds y r = (z : Sleeper) × (r ≡ Ok z) × IsSleeperBeside m flags roots beside.ledger s.world.memory y z

  sleeps : (n : ℕ) (x w : Instance) (y : Sleeper) (status : Status) → x.status ≡ status
      → IsInstanceBeside m flags roots beside.ledger s.world.memory n x w → sleeper_of n x status ≡ Ok y
      → Finds y (sleeper_of n w w.status)
  sleeps n x w y Status.Running e h q = absurd (cc)
  sleeps n x w y Status.Finished e h q = absurd (cc)
  sleeps n x w y (Status.Suspended u values) e h q =
      let k = subst (λ st. IsStatusBeside m flags roots l s.world.memory x st h.status) e h.statuses in
      let status : w.status ≡ Status.Suspended u k.0 = ap (λ (z : Instance). z.status) h.is ∙ k.1 in
      subst (λ y. Finds y (sleeper_of n w w.status)) (same_ok q) (
        record { number = n; instance = w; suspend = u; values = k.0 },
        ap (sleeper_of n w) status,
        record { number = refl; suspend = refl; status = e; instance = h; kept = k.2 },
      )
    where
      same_ok : {a b : Sleeper} → ◌≡◌ {A = Result Sleeper Cause} (Ok a) (Ok b) → a ≡ b
      same_ok q = cc

  abbrev look : Option (ℕ × Instance) → Result Sleeper Cause
  look o = and_then (found Cause.Frame o) (λ (i, x). sleeper_of i x x.status)

  pub sleeper_beside : (p q : Value) → IsValue beside.ledger.homes p q → (y : Sleeper) → sleeper_at s p ≡ Ok y
      → Finds y (sleeper_at t q)
  sleeper_beside p q stands y e = on (instance_at s.instances p) refl e
    where
      on : (o : Option (ℕ × Instance)) → instance_at s.instances p ≡ o → look o ≡ Ok y → Finds y (sleeper_at t q)
      on None at k = absurd (cc)
      on (Some r) at k =
          let f = found_beside m flags roots s t beside p q stands r at in
          subst (λ o. Finds y (look o)) (sym f.1) (sleeps r.0 r.1 f.0 y r.1.status refl f.2 k)

  -- ---- coro.done

  module _ (keeps : (func : ℕ) → KeepsSlots m (function_at m func) (flags func) (roots func)) (i : Instr)
      (result : Option ℕ) (giving : IsGiving m roots s.top i result) (g h : Given) (code : h.code ≡ g.code) where
    abbrev Goes : State → Result State Cause → Type 0
    Goes s' r = (t' : State) × (r ≡ Ok t') × IsBeside m flags roots s' t'

    abbrev tell : Given → State → Result Sleeper Cause → Result State Cause
    tell g s r = and_then r (λ y. let f = function_at g.code y.instance.coroutine in ok_if (has_final f) Cause.State
        (gives s result (truth_value (is_final f y.suspend))))

    tells : (f : Function) (u : Point) (s' : State)
        → ok_if (has_final f) Cause.State (gives s result (truth_value (is_final f u))) ≡ Ok s'
        → Goes s' (ok_if (has_final f) Cause.State (gives t result (truth_value (is_final f u))))
    tells f u s' e = on (has_final f) e
      where
        same_ok : {a b : State} → ◌≡◌ {A = Result State Cause} (Ok a) (Ok b) → a ≡ b
        same_ok q = cc

        on : (b : Bool) → ok_if b Cause.State (gives s result (truth_value (is_final f u))) ≡ Ok s'
            → Goes s' (ok_if b Cause.State (gives t result (truth_value (is_final f u))))
        on true q = (
          gives t result (truth_value (is_final f u)),
          refl,
          subst (λ z. IsBeside m flags roots z (gives t result (truth_value (is_final f u)))) (same_ok q) (gives_beside
              m flags roots keeps s t beside i result giving (truth_value (is_final f u)) (truth_value (is_final f
              u)) refl),
        )
        on false q = absurd (cc)

    pub done_beside : (p q : Value) → IsValue beside.ledger.homes p q → (s' : State) → done_at g s result p ≡ Ok s'
        → Goes s' (done_at h t result q)
    done_beside p q stands s' e = on (sleeper_at s p) refl e
      where
        on : (r : Result Sleeper Cause) → sleeper_at s p ≡ r → tell g s r ≡ Ok s' → Goes s' (tell h t (sleeper_at t q))
        on (Err cause) at k = absurd (cc)
        on (Ok y) at k =
            let z = sleeper_beside p q stands y at in
            let func : function_at h.code z.0.instance.coroutine ≡ function_at g.code y.instance.coroutine = (λ j.
            function_at (code j) ((ap (λ (w : Instance). w.coroutine) z.2.instance.is) j)) in
            subst (λ r. Goes s' (tell h t r)) (sym z.1) (subst (λ f. Goes s' (ok_if (has_final f) Cause.State (gives t
            result (truth_value (is_final f z.0.suspend))))) (sym func) (subst (λ u. Goes s' (ok_if (has_final
            (function_at g.code y.instance.coroutine)) Cause.State (gives t result (truth_value (is_final (function_at
            g.code y.instance.coroutine) u))))) (sym z.2.suspend) (tells (function_at g.code y.instance.coroutine)
            y.suspend s' k)))
