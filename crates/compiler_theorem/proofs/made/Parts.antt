-- What parts of a step do keeps it that each alloca that was passed before begin has a slot.
use Rattle.std.proofs.Common.{◌≡◌, ℕ, ◌+◌, Bool, true, false, List, [], ◌∷◌, length, Option, Some, None, Result, Ok}
use Rattle.std.proofs.Common.{Err, refl, sym, subst, if◌then◌else◌}
use Rattle.std.specs.Prelude.{negsuc, not}
use Rattle.compiler.specs.ir_base.declared.cause.Cause.{Cause}
use Rattle.compiler.specs.ir_model.declared.module.Module.{Module}
use Rattle.compiler.specs.ir_model.declared.operand.Operand.{Operand}
use Rattle.compiler.specs.ir_paths.declared.point.Point.{Point}
use Rattle.compiler.specs.run_memory.declared.pointer.Value.{Value}
use Rattle.compiler.specs.run_source.Source.{Sleeper, after_end, deallocate, if_let_go, let_go, may_be_freed, pop}
use Rattle.compiler.specs.run_source.Source.{return, returned, save_for, sleeper_at, sleeper_of, suspend}
use Rattle.compiler.specs.run_source.State.{gives, instance_at, next, own_instance, point_of, with_instance}
use Rattle.compiler.specs.run_source.State.{with_left, with_memory}
use Rattle.compiler.specs.run_source.declared.state.Activation.{Activation}
use Rattle.compiler.specs.run_source.declared.state.Instance.{Instance}
use Rattle.compiler.specs.run_source.declared.state.Mode.{Mode}
use Rattle.compiler.specs.run_source.declared.state.State.{State}
use Rattle.compiler.specs.run_source.declared.state.Status.{Status}
use Rattle.compiler.specs.run_step.Results.{and_then, found, ok_if}
use Rattle.compiler.specs.run_step.Step.{deallocated, outcome_of}
use Rattle.compiler.specs.run_step.Values.{integer, truth_value}
use Rattle.pass_frames_meaning.proofs.executed.Executed.{over}
use Rattle.compiler_theorem.specs.made.Made.{AreMadeOn, IsMadeIn, IsMadeState, StaysMade}

-- ---- parts of states

module _ (m : Module) where
  abbrev Fine : Result State Cause → Type 0
  Fine r = StaysMade m r

  -- the activation goes on behind its instruction
  abbrev pub NextIn : Activation → Type 0
  NextIn a = IsMadeIn m (record a { at = a.at + 1 })

  abbrev pub Next : State → Type 0
  Next t = NextIn t.top × AreMadeOn m t.below

  pub then_fine : {A : Type 0} (r : Result A Cause) (go : A → Result State Cause) → ((a : A) → r ≡ Ok a → Fine (go a))
      → Fine (and_then r go)
  then_fine (Err cause) go k = tt
  then_fine (Ok a) go k = k a refl

  pub ok_fine : (b : Bool) (cause : Cause) (t : State) → IsMadeState m t → Fine (ok_if b cause t)
  ok_fine true cause t k = k
  ok_fine false cause t k = tt

  pub gave : (t : State) (result : Option ℕ) (v : Value) → Next t → IsMadeState m (gives t result v)
  gave t result v n = λ running. (n.0, n.1)

  pub same_top : (s t : State) → t.top ≡ s.top → t.below ≡ s.below → Next s → Next t
  same_top s t top below n = (subst NextIn (sym top) n.0, subst (AreMadeOn m) (sym below) n.1)

  pub sleeper_fine : (t : State) (p : Value) (go : Sleeper → Result State Cause) → ((y : Sleeper) → Fine (go y))
      → Fine (and_then (sleeper_at t p) go)
  sleeper_fine t p go k = on (instance_at t.instances p)
    where
      by : (i : ℕ) (x : Instance) (st : Status) → Fine (and_then (sleeper_of i x st) go)
      by i x Status.Running = tt
      by i x (Status.Suspended at vs) = k (record { number = i; instance = x; suspend = at; values = vs })
      by i x Status.Finished = tt

      on : (o : Option (ℕ × Instance))
          → Fine (and_then (and_then (found Cause.Frame o) (λ (i, x). sleeper_of i x x.status)) go)
      on None = tt
      on (Some z) = by z.0 z.1 z.1.status

  pub save_fine : (t : State) (p u : Point) (go : State → Result State Cause) → Next t
      → ((v : State) → Next v → Fine (go v)) → Fine (and_then (save_for t p u) go)
  save_fine t p u go n then' = on (own_instance t)
    where
      by : (q : ℕ × Instance) (b : Bool)
          → Fine (and_then (ok_if b Cause.State (with_left (with_instance t q.0 (record q.1 {
            status = Status.Suspended u t.top.values;
            last_save = Some (record { depth = length t.below; save = p });
          })) true)) go)
      by q false = tt
      by q true = then' (with_left (with_instance t q.0 (record q.1 {
        status = Status.Suspended u t.top.values;
        last_save = Some (record { depth = length t.below; save = p });
      })) true) (n.0, n.1)

      on : (o : Option (ℕ × Instance))
          → Fine (and_then (and_then (found Cause.State o) (λ (i, x).
          ok_if (not x.freed) Cause.State
          (with_left
          (with_instance t i (record x {
            status = Status.Suspended u t.top.values;
            last_save = Some (record { depth = length t.below; save = p });
          })) true))) go)
      on None = tt
      on (Some q) = by q (not q.1.freed)

  pub suspend_fine : (t : State) (result : Option ℕ) (of_save : Operand) → Next t → Fine (suspend t result of_save)
  suspend_fine t result Operand.None n = save_fine t (point_of t) (point_of t) _ n (λ v c.
      gave v result (integer 8 (negsuc 0)) c)
  suspend_fine t result _ n = gave t result (integer 8 (negsuc 0)) n

  pub freed_fine : (t : State) (p : Value) → Next t → Fine (deallocate t p)
  freed_fine t p n = on (if_let_go t (instance_at t.instances p)) (goes (instance_at t.instances p))
    where
      goes : (o : Option (ℕ × Instance)) → Next (if_let_go t o)
      goes None = n
      goes (Some q) = by (may_be_freed q.1)
        where
          by : (b : Bool) → Next (if b then let_go t q.0 q.1 else t)
          by true = (n.0, n.1)
          by false = n

      on : (v : State) → Next v
          → Fine (and_then (deallocated v.world.memory p) (λ memory. Ok (next (with_memory v memory))))
      on v c = then_fine (deallocated v.world.memory p) (λ memory. Ok (next (with_memory v memory))) (λ memory e.
          gave (with_memory v memory) None Value.Poison c)

  -- ---- returns

  pub return_fine : (t : State) (v : Option Value) → AreMadeOn m t.below → Fine (return t v)
  return_fine t v k = by t.below k
    where
      by : (below : List Activation) → AreMadeOn m below → Fine (pop (returned t) v below)
      by [] q = then_fine (outcome_of v) (λ outcome. Ok (record (returned t) { outcome = outcome }))
          (λ outcome e running. absurd (over v outcome e running))
      by (a ∷ below) q = λ running. (q.0, q.1)

  pub after_fine : (t : State) (result : Option ℕ) (mode : Mode) → Next t → Fine (after_end t result mode)
  after_fine t result Mode.Resumed n = return_fine t None n.1
  after_fine t result _ n = gave t result (truth_value false) n
