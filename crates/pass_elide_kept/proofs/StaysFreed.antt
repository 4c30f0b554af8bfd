-- What was freed in a framed run stays freed.
use Rattle.std.proofs.Common.{◌≡◌, ◌++◌, ◌∙◌, ◌∷◌, ◌&&◌, ◌==◌, [], ap, arith, Bool, Err, false, List, length, Ok, Option, refl, Result, subst, sym, true, ℕ, ⊎_elim, if◌then◌else◌}
use Rattle.std.specs.Prelude.{None, Some, slice_get, slice_set}
use Rattle.pass_elide_proof.proofs.Entered.{goes_on}
use Rattle.pass_elide_proof.proofs.LastFound.{found_there}
use Rattle.pass_elide_proof.proofs.LeftWindows.{own_there}
use Rattle.pass_elide_proof.proofs.StepCases.{leads_to}
use Rattle.pass_elide_proof.specs.StepCases.{Answers, Begins, Deallocates, EndsRamp, EndsResumed, Enters, EntersGiven, GoesTo, LeadsTo, Leaves, MakesSlot, Passes, Releases, Returns, Saves, Suspends, Wakes, Works, ended}
use Rattle.pass_elide_proof.proofs.pass_proofs.ir_laws.facts.Lists.{get_before, get_within, set_at, set_other}
use Rattle.pass_elide_proof.specs.pass_proofs.ir_base.declared.cause.Cause.{Cause}
use Rattle.pass_elide_proof.specs.pass_proofs.ir_base.declared.outcome.Outcome.{Outcome}
use Rattle.pass_elide_proof.specs.pass_proofs.ir_paths.declared.point.Point.{Point}
use Rattle.pass_elide_proof.specs.pass_proofs.run_agreement.Machines.{IsFine}
use Rattle.pass_elide_proof.specs.pass_proofs.run_framed.Framed.{FramedGiven, alloca_from, disown_given, enter_after, framed_finish, framed_slot, framed_step, is_stack_block}
use Rattle.pass_elide_proof.specs.pass_proofs.run_memory.Memory.{disown}
use Rattle.pass_elide_proof.specs.pass_proofs.run_memory.declared.pointer.Pointer.{Pointer}
use Rattle.pass_elide_proof.specs.pass_proofs.run_memory.declared.pointer.Value.{Value}
use Rattle.pass_elide_proof.specs.pass_proofs.run_source.Source.{Sleeper, change_own, if_let_go, let_go, may_be_freed, pop, return, returned, sleeper_at, sleeper_of, slots_of}
use Rattle.pass_elide_proof.specs.pass_proofs.run_source.State.{began_at, function_of, instance_at, own_instance, settled, with_memory, with_slots}
use Rattle.pass_elide_proof.specs.pass_proofs.run_source.declared.state.Activation.{Activation}
use Rattle.pass_elide_proof.specs.pass_proofs.run_source.declared.state.Instance.{Instance}
use Rattle.pass_elide_proof.specs.pass_proofs.run_source.declared.state.Mode.{Mode}
use Rattle.pass_elide_proof.specs.pass_proofs.run_source.declared.state.State.{State}
use Rattle.pass_elide_proof.specs.pass_proofs.run_source.declared.state.Status.{Status}
use Rattle.pass_elide_proof.specs.pass_proofs.run_step.Results.{and_then, found}
use Rattle.pass_elide_proof.specs.pass_proofs.run_step.Step.{outcome_of, without_slots}
use Rattle.pass_elide_proof.specs.pass_proofs.run_step.declared.world.Slot.{Slot}

-- an instance that was freed is so still
pub record StaysFreed (xs ys : List Instance) : Type 0 where
  pub each : (number : ℕ) (x y : Instance) → slice_get xs number ≡ Some x → slice_get ys number ≡ Some y
      → x.freed ≡ true → y.freed ≡ true

one : (x y : Instance) → Some x ≡ Some y → x ≡ y
one x y e = cc

pub freed_same : (xs : List Instance) → StaysFreed xs xs
freed_same xs = record {
  each = λ number x y first second freed.
      ap (λ (z : Instance). z.freed) (sym (one x y (sym first ∙ second))) ∙ freed;
}

pub freed_set : (xs : List Instance) (i : ℕ) (old new : Instance) → slice_get xs i ≡ Some old
    → (old.freed ≡ true → new.freed ≡ true) → StaysFreed xs (slice_set xs i new)
freed_set xs i old new there on = record {
  each = λ number x y first second freed.
      ⊎_elim
      (λ here.
      let same : x ≡ old = one x old (sym first ∙ (ap (slice_get xs) here.0 ∙ there)) in
      ap (λ (z : Instance). z.freed) here.1 ∙ on (ap (λ (z : Instance). z.freed) (sym same) ∙ freed))
      (λ other. ap (λ (z : Instance). z.freed) (sym (one x y (sym first ∙ other))) ∙ freed)
      (set_at xs i new number y second);
}

-- another one behind them
pub freed_more : (xs : List Instance) (new last : Instance)
    → StaysFreed xs (slice_set (xs ++ new ∷ []) (length xs) last)
freed_more xs new last = record {
  each = λ number x y first second freed.
      let lt = get_within xs number x first in
      let old : slice_get (slice_set (xs ++ new ∷ []) (length xs) last) number ≡ Some x
      = set_other (xs ++ new ∷ []) (length xs) number last (λ is. absurd (omega (arith, is, lt)))
      ∙ get_before xs (new ∷ []) number x first in
      ap (λ (z : Instance). z.freed) (sym (one x y (sym old ∙ second))) ∙ freed;
}

module _ (g : FramedGiven) (s : State) where
  own_set : (change : Instance → Instance) → ((x : Instance) → x.freed ≡ true → (change x).freed ≡ true)
      → (o : Option (ℕ × Instance)) → own_instance s ≡ o → StaysFreed s.instances (change_own s change o).instances
  own_set change on None own = freed_same s.instances
  own_set change on (Some x) own =
      freed_set s.instances x.0 x.1 (change x.1) (own_there s x.0 x.1 own).1 (on x.1)

  abbrev over : Option (ℕ × Instance) → State
  over o =
      with_memory (change_own s (λ x. record x { status = Status.Finished }) o)
      (without_slots s.world.memory (slots_of o))

  finished : StaysFreed s.instances (framed_finish s).instances
  finished = by (own_instance s) refl
    where
      by_block : (o : Option (ℕ × Instance)) → own_instance s ≡ o → (x : ℕ × Instance) → (b : Bool)
          → StaysFreed s.instances (if b then with_memory (over o) (disown (over o).world.memory x.1.block)
          else over o).instances
      by_block o own x true = own_set (λ x. record x { status = Status.Finished }) (λ x is. is) o own
      by_block o own x false = own_set (λ x. record x { status = Status.Finished }) (λ x is. is) o own

      by : (o : Option (ℕ × Instance)) → own_instance s ≡ o
          → StaysFreed s.instances (disown_given (over o) o).instances
      by None own = own_set (λ x. record x { status = Status.Finished }) (λ x is. is) None own
      by (Some x) own =
          by_block (Some x) own x (is_stack_block (over (Some x)).world.memory x.1.block && (x.1.start == 0))

  at_end : StaysFreed s.instances (ended s).instances
  at_end = by s.top.has_left
    where
      by : (b : Bool) → StaysFreed s.instances (if b then s else framed_finish s).instances
      by true = freed_same s.instances
      by false = finished

  -- where it returns instances stay as they are
  returned_same : (z u : State) (v : Option Value) → return z v ≡ Ok u → z.instances ≡ u.instances
  returned_same z u v is = by z.below is
    where
      same_ok : (a b : State) → ◌≡◌ {A = Result State Cause} (Ok a) (Ok b) → a.instances ≡ b.instances
      same_ok a b e = let same : a ≡ b = cc in ap (λ (q : State). q.instances) same

      last : (r : Result Outcome Cause) → and_then r (λ (o : Outcome). Ok (record (returned z) { outcome = o })) ≡ Ok u
          → z.instances ≡ u.instances
      last (Err cause) e = absurd (cc)
      last (Ok o) e = same_ok _ u e

      by : (rows : List Activation) → pop (returned z) v rows ≡ Ok u → z.instances ≡ u.instances
      by [] e = last (outcome_of v) e
      by (b ∷ rest) e = same_ok _ u e

  let_go_stays : (p : Value) → StaysFreed s.instances (if_let_go s (instance_at s.instances p)).instances
  let_go_stays p = by (instance_at s.instances p) refl
    where
      there : (p : Value) (x : ℕ × Instance) → instance_at s.instances p ≡ Some x
          → slice_get s.instances x.0 ≡ Some x.1
      there (Value.Ptr (Pointer.At b o)) x is = (found_there (began_at b o.bits) s.instances x is).0
      there (Value.Ptr Pointer.Null) x is = absurd (cc)
      there (Value.Ptr (Pointer.Func h)) x is = absurd (cc)
      there Value.Poison x is = absurd (cc)
      there (Value.Int w) x is = absurd (cc)

      on : (x : ℕ × Instance) → instance_at s.instances p ≡ Some x → (b : Bool)
          → StaysFreed s.instances (if b then let_go s x.0 x.1 else s).instances
      on x is true = freed_set s.instances x.0 x.1 (record x.1 { freed = true }) (there p x is) (λ freed. refl)
      on x is false = freed_same s.instances

      by : (o : Option (ℕ × Instance)) → instance_at s.instances p ≡ o
          → StaysFreed s.instances (if_let_go s o).instances
      by None is = freed_same s.instances
      by (Some x) is = on x is (may_be_freed x.1)

  slot_same : (z : State) (slot : Slot) (mode : Mode) → z.instances ≡ (framed_slot g z slot mode).instances
  slot_same z slot Mode.Plain = refl
  slot_same z slot Mode.Ramp = refl
  slot_same z slot Mode.Resumed = refl
  slot_same z slot (Mode.GivenRamp frame) = refl
  slot_same z slot (Mode.Entering from label) = by (alloca_from (function_of g.given z) z.top.at)
    where
      by : (o : Option Point)
          → z.instances ≡ (enter_after g (with_slots z (slot ∷ z.top.slots)) from label o).instances
      by None = refl
      by (Some p) = refl

  sleeps_there : (p : Value) (y : Sleeper) → sleeper_at s p ≡ Ok y → slice_get s.instances y.number ≡ Some y.instance
  sleeps_there p y is = by (instance_at s.instances p) refl is
    where
      there : (p : Value) (x : ℕ × Instance) → instance_at s.instances p ≡ Some x
          → slice_get s.instances x.0 ≡ Some x.1
      there (Value.Ptr (Pointer.At b o)) x is = (found_there (began_at b o.bits) s.instances x is).0
      there (Value.Ptr Pointer.Null) x is = absurd (cc)
      there (Value.Ptr (Pointer.Func h)) x is = absurd (cc)
      there Value.Poison x is = absurd (cc)
      there (Value.Int w) x is = absurd (cc)

      same : (a b : Sleeper) → ◌≡◌ {A = Result Sleeper Cause} (Ok a) (Ok b) → a ≡ b
      same a b e = cc

      on : (i : ℕ) (x : Instance) → instance_at s.instances p ≡ Some (i, x) → (z : Status)
          → sleeper_of i x z ≡ Ok y → slice_get s.instances y.number ≡ Some y.instance
      on i x finds Status.Running e = absurd (cc)
      on i x finds (Status.Suspended q env) e =
          let k = same (record { number = i; instance = x; suspend = q; values = env }) y e in
          (λ j. slice_get s.instances (sym k j).number)
          ∙ (there p (i, x) finds ∙ (λ j. Some (k j).instance))
      on i x finds Status.Finished e = absurd (cc)

      by : (o : Option (ℕ × Instance)) → instance_at s.instances p ≡ o
          → and_then (found Cause.Frame o) (λ (z : ℕ × Instance). sleeper_of z.0 z.1 z.1.status) ≡ Ok y
          → slice_get s.instances y.number ≡ Some y.instance
      by None finds e = absurd (cc)
      by (Some x) finds e = on x.0 x.1 finds x.1.status e

  freed_by : (u : State) → LeadsTo g s u → StaysFreed s.instances u.instances
  freed_by _ (Works w by) = freed_same s.instances
  freed_by _ (MakesSlot w slot by) =
      subst (StaysFreed s.instances) (slot_same (settled s w) slot s.top.mode) (freed_same s.instances)
  freed_by _ (Enters func args result must_tail by) = freed_same s.instances
  freed_by _ (EntersGiven func result args by) = freed_same s.instances
  freed_by _ (Answers i args result v by) = freed_same s.instances
  freed_by _ (Passes i args result by) = freed_same s.instances
  freed_by _ (Begins args result mem memory block start by none taken) = freed_more s.instances _ _
  freed_by _ (Releases args result v by) =
      own_set (λ x. record x { released = true }) (λ x is. is) (own_instance s) refl
  freed_by _ (Saves args result i x save suspend by own alive) =
      freed_set s.instances i x _ (own_there s i x own).1 (λ is. is)
  freed_by _ (Suspends args result i x save suspend by own alive) =
      freed_set s.instances i x _ (own_there s i x own).1 (λ is. is)
  freed_by _ (Wakes i args result y label by sleeps) =
      subst (λ (u : State). StaysFreed s.instances u.instances)
      (sym (goes_on g s y.number y.instance y.suspend y.values label))
      (freed_set s.instances y.number y.instance (record y.instance { status = Status.Running })
      (sleeps_there _ y sleeps) (λ is. is))
  freed_by _ (EndsRamp args result by ramp) = at_end
  freed_by _ (EndsResumed args result u by resumed is) =
      subst (StaysFreed s.instances) (returned_same (ended s) u None is) at_end
  freed_by _ (Deallocates p memory by is) = let_go_stays p
  freed_by _ (GoesTo label by stays) = freed_same s.instances
  freed_by _ (Leaves label w ws i x by leaves own may) =
      freed_set s.instances i x (record x { status = Status.Running }) (own_there s i x own).1 (λ is. is)
  freed_by _ (Returns v u by is) = subst (StaysFreed s.instances) (returned_same s u v is) (freed_same s.instances)

  pub freed_stays : s.outcome ≡ Outcome.Running → IsFine (framed_step g s).outcome
      → StaysFreed s.instances (framed_step g s).instances
  freed_stays runs fine = freed_by (framed_step g s) (leads_to g s runs fine)
