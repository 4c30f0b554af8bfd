-- Steps by hooks keep it that an activation that hasn't left is the last one of its instance, which isn't Suspended.
use Rattle.std.proofs.Common.{◌≡◌, ◌<◌, ℕ, zero, suc, Bool, true, false, List, [], ◌∷◌}
use Rattle.std.proofs.Common.{◌++◌, length, Option, Some, None, Result, Ok, Err, refl, sym, ap, ◌∙◌, subst, arith}
use Rattle.std.specs.Prelude.{if◌then◌else◌, not, option_and_then, option_map, slice_get, slice_set}
use Rattle.std.specs.Prelude.{unwrap_or}
use Rattle.pass_renewed_proof.specs.ir_base.declared.cause.Cause.{Cause}
use Rattle.pass_renewed_proof.specs.ir_base.declared.outcome.Outcome.{Outcome}
use Rattle.pass_renewed_proof.specs.ir_base.declared.outcome.Word.{Word}
use Rattle.pass_renewed_proof.specs.ir_model.declared.operand.Arg.{Arg}
use Rattle.pass_renewed_proof.specs.ir_model.declared.operand.Intrinsic.{Intrinsic}
use Rattle.pass_renewed_proof.specs.ir_model.declared.operand.Operand.{Operand}
use Rattle.pass_renewed_proof.specs.ir_paths.Windows.{operand_at, suspend_of}
use Rattle.pass_renewed_proof.specs.ir_paths.declared.point.Point.{Point}
use Rattle.pass_renewed_proof.specs.ir_paths.declared.point.Window.{Window}
use Rattle.run_hooks.proofs.Reached.{at_is, own_is}
use Rattle.run_hooks.specs.Hooks.{Hooks, hooked_act, hooked_advance, hooked_context, hooked_coro, hooked_next}
use Rattle.run_hooks.specs.Hooks.{hooked_state_at, step_of}
use Rattle.run_hooks.specs.Left.{AreLast, HasBegun, HasCalled, HasResumed, HaveLeft, IsAlike, IsAwake, IsLastState}
use Rattle.run_hooks.specs.Left.{IsNoMoreSuspended, KeepsLast, StaysLast, sleeps, waiting}
use Rattle.pass_renewed_proof.specs.run_memory.declared.pointer.Value.{Value}
use Rattle.pass_renewed_proof.specs.run_source.Source.{Sleeper, after_end, branch_leaving, change_own, end_of, enter, enter_block}
use Rattle.pass_renewed_proof.specs.run_source.Source.{first_state}
use Rattle.pass_renewed_proof.specs.run_source.Source.{if_let_go, left_windows, let_go, may_be_freed, pop}
use Rattle.pass_renewed_proof.specs.run_source.Source.{release, return, returned, save_for, sleeper_at, sleeper_of, suspend}
use Rattle.pass_renewed_proof.specs.run_source.State.{function_of, gives, instance_at, is_suspended, next, numbered, or_undefined}
use Rattle.pass_renewed_proof.specs.run_source.State.{own_instance, point_of, settled, with_instance, with_left, work_of}
use Rattle.pass_renewed_proof.specs.run_source.declared.state.Activation.{Activation}
use Rattle.pass_renewed_proof.specs.run_source.declared.state.Instance.{Instance}
use Rattle.pass_renewed_proof.specs.run_source.declared.state.Mode.{Mode}
use Rattle.pass_renewed_proof.specs.run_source.declared.state.State.{State}
use Rattle.pass_renewed_proof.specs.run_source.declared.state.Status.{Status}
use Rattle.pass_renewed_proof.specs.run_source_tables.Given.{Given}
use Rattle.pass_renewed_proof.specs.run_step.Results.{and_then, found, ok_if}
use Rattle.pass_renewed_proof.specs.run_step.Runs.{iterate}
use Rattle.pass_renewed_proof.specs.run_step.Step.{Action, Coro, Deallocate, Done, Enter, Fetched, GoTo, NewSlot, Return, Stuck}
use Rattle.pass_renewed_proof.specs.run_step.Step.{action_of, deallocated, fetch, outcome_of}
use Rattle.pass_renewed_proof.specs.run_step.Values.{arg_values, nth}

-- ---- instances

pub set_length : (xs : List Instance) (i : ℕ) (y : Instance) → length (slice_set xs i y) ≡ length xs
set_length [] i y = refl
set_length (x ∷ xs) zero y = refl
set_length (x ∷ xs) (suc i) y = ap suc (set_length xs i y)

pub set_awake : (xs : List Instance) (i : ℕ) (y : Instance) → is_suspended y.status ≡ false
    → sleeps (slice_set xs i y) i ≡ false
set_awake [] i y k = refl
set_awake (x ∷ xs) zero y k = k
set_awake (x ∷ xs) (suc i) y k = set_awake xs i y k

set_sleeps : (xs : List Instance) (i j : ℕ) (y : Instance) → (sleeps xs i ≡ false → is_suspended y.status ≡ false)
    → sleeps xs j ≡ false → sleeps (slice_set xs i y) j ≡ false
set_sleeps [] i j y k e = e
set_sleeps (x ∷ xs) zero zero y k e = k e
set_sleeps (x ∷ xs) zero (suc j) y k e = e
set_sleeps (x ∷ xs) (suc i) zero y k e = e
set_sleeps (x ∷ xs) (suc i) (suc j) y k e = set_sleeps xs i j y k e

-- another instance sleeps no more than before
other_sleeps : (xs : List Instance) (i j : ℕ) (y : Instance) → (i ≡ j → ⊥) → sleeps xs j ≡ false
    → sleeps (slice_set xs i y) j ≡ false
other_sleeps [] i j y n e = e
other_sleeps (x ∷ xs) zero zero y n e = absurd (n refl)
other_sleeps (x ∷ xs) zero (suc j) y n e = e
other_sleeps (x ∷ xs) (suc i) zero y n e = e
other_sleeps (x ∷ xs) (suc i) (suc j) y n e = other_sleeps xs i j y (λ k. n (ap suc k)) e

pub sleeps_at : (xs : List Instance) (i : ℕ) (x : Instance) → slice_get xs i ≡ Some x
    → sleeps xs i ≡ is_suspended x.status
sleeps_at [] i x e = absurd (cc)
sleeps_at (y ∷ xs) zero x e = let k : y ≡ x = cc in ap (λ (z : Instance). is_suspended z.status) k
sleeps_at (y ∷ xs) (suc i) x e = sleeps_at xs i x e

pub there_below : (xs : List Instance) (i : ℕ) (x : Instance) → slice_get xs i ≡ Some x → i < length xs
there_below [] i x e = absurd (cc)
there_below (y ∷ xs) zero x e = omega arith
there_below (y ∷ xs) (suc i) x e = let k = there_below xs i x e in omega arith

pushed_sleeps : (xs : List Instance) (y : Instance) (i : ℕ) → is_suspended y.status ≡ false → sleeps xs i ≡ false
    → sleeps (xs ++ y ∷ []) i ≡ false
pushed_sleeps [] y zero k e = k
pushed_sleeps [] y (suc i) k e = refl
pushed_sleeps (x ∷ xs) y zero k e = e
pushed_sleeps (x ∷ xs) y (suc i) k e = pushed_sleeps xs y i k e

pub pushed_length : (xs : List Instance) (y : Instance) → length (xs ++ y ∷ []) ≡ suc (length xs)
pushed_length [] y = refl
pushed_length (x ∷ xs) y = ap suc (pushed_length xs y)

pub same_more : (xs : List Instance) → IsNoMoreSuspended xs xs
same_more xs = record { longer = omega arith; awake = λ i e. e }

pub then_more : {xs ys zs : List Instance} → IsNoMoreSuspended xs ys → IsNoMoreSuspended ys zs
    → IsNoMoreSuspended xs zs
then_more a b = record {
  longer = let l = a.longer in let m = b.longer in omega arith;
  awake = λ i e. b.awake i (a.awake i e);
}

pub set_more : (xs : List Instance) (i : ℕ) (y : Instance) → (sleeps xs i ≡ false → is_suspended y.status ≡ false)
    → IsNoMoreSuspended xs (slice_set xs i y)
set_more xs i y k = record {
  longer = let l = set_length xs i y in omega arith;
  awake = λ j e. set_sleeps xs i j y k e;
}

pub pushed_more : (xs : List Instance) (y : Instance) → is_suspended y.status ≡ false
    → IsNoMoreSuspended xs (xs ++ y ∷ [])
pushed_more xs y k = record {
  longer = let l = pushed_length xs y in omega arith;
  awake = λ j e. pushed_sleeps xs y j k e;
}

-- ---- activations

is_left : (b : Bool) → (b ≡ false → ⊥) → b ≡ true
is_left true n = refl
is_left false n = absurd (n refl)

awake_more : (xs ys : List Instance) (a : Activation) → IsNoMoreSuspended xs ys → IsAwake xs a → IsAwake ys a
awake_more xs ys a m h = record {
  own = λ i e. let l = h.own i e in let k = m.longer in omega arith;
  awake = λ i e l. m.awake i (h.awake i e l);
}

last_more : (xs ys : List Instance) (as' : List Activation) → IsNoMoreSuspended xs ys → AreLast xs as'
    → AreLast ys as'
last_more xs ys [] m h = tt
last_more xs ys (a ∷ as') m h = (awake_more xs ys a m h.0, h.1, last_more xs ys as' m h.2)

-- of a Suspended instance all activations have left
pub sleepers_left : (xs : List Instance) (i : ℕ) → sleeps xs i ≡ true → (as' : List Activation) → AreLast xs as'
    → HaveLeft i as'
sleepers_left xs i e [] h = tt
sleepers_left xs i e (a ∷ as') h =
    (λ k. is_left a.has_left (λ n. let z = h.0.awake i k n in cc), sleepers_left xs i e as' h.2)

-- no activation is of an instance that isn't there yet
new_left : (xs : List Instance) (as' : List Activation) → AreLast xs as' → HaveLeft (length xs) as'
new_left xs [] h = tt
new_left xs (a ∷ as') h = (λ k. let z = h.0.own (length xs) k in absurd (omega arith), new_left xs as' h.2)

-- an instance all of whose activations have left may become Suspended
left_sleep : (xs : List Instance) (i : ℕ) (y : Instance) (as' : List Activation) → HaveLeft i as' → AreLast xs as'
    → AreLast (slice_set xs i y) as'
left_sleep xs i y [] l h = tt
left_sleep xs i y (a ∷ as') l h = (
  record {
    own = λ j e. let k = h.0.own j e in let n = set_length xs i y in omega arith;
    awake = λ j e f. other_sleeps xs i j y
        (λ k. let o : a.has_left ≡ true = l.0 (e ∙ ap Some (sym k)) in cc) (h.0.awake j e f);
  },
  h.1,
  left_sleep xs i y as' l.1 h.2,
)

-- ---- states

pub same_state : (s : State) → IsAlike s s
same_state s = record { instance = refl; left = refl; below = refl; instances = same_more s.instances }

pub then_alike : {s t u : State} → IsAlike s t → IsAlike t u → IsAlike s u
then_alike a b = record {
  instance = b.instance ∙ a.instance;
  left = b.left ∙ a.left;
  below = b.below ∙ a.below;
  instances = then_more a.instances b.instances;
}

pub alike_last : (s t : State) → IsAlike s t → IsLastState s → IsLastState t
alike_last s t a h = (
  record {
    own = λ i e. let l = h.0.own i (sym a.instance ∙ e) in let k = a.instances.longer in omega arith;
    awake = λ i e f. a.instances.awake i (h.0.awake i (sym a.instance ∙ e) (sym a.left ∙ f));
  },
  λ i e. subst (HaveLeft i) (sym a.below) (h.1 i (sym a.instance ∙ e)),
  subst (AreLast t.instances) (sym a.below) (last_more s.instances t.instances s.below a.instances h.2),
)

begun_last : (s t : State) → HasBegun s t → IsLastState s → IsLastState t
begun_last s t a h = (
  record {
    own = λ i e. let n : length s.instances ≡ i = cc_of i e in let k = a.more in omega arith;
    awake = λ i e f. a.instances.awake i
        (subst (λ (j : ℕ). sleeps s.instances j ≡ false) (cc_of i e) (beyond s.instances));
  },
  λ i e. subst (HaveLeft i) (sym a.below)
      (subst (λ (j : ℕ). HaveLeft j s.below) (cc_of i e) (new_left s.instances s.below h.2)),
  subst (AreLast t.instances) (sym a.below) (last_more s.instances t.instances s.below a.instances h.2),
)
  where
    cc_of : (i : ℕ) → t.top.instance ≡ Some i → length s.instances ≡ i
    cc_of i e = let k : Some (length s.instances) ≡ Some i = sym a.instance ∙ e in cc

    beyond : (xs : List Instance) → sleeps xs (length xs) ≡ false
    beyond [] = refl
    beyond (x ∷ xs) = beyond xs

waits : (s t : State) → IsNoMoreSuspended s.instances t.instances → IsLastState s
    → AreLast t.instances (waiting s ∷ s.below)
waits s t m h = (
  record {
    own = λ i e. let l = h.0.own i e in let k = m.longer in omega arith;
    awake = λ i e l. m.awake i (h.0.awake i e l);
  },
  h.1,
  last_more s.instances t.instances s.below m h.2,
)

called_last : (s t : State) → HasCalled s t → IsLastState s → IsLastState t
called_last s t a h = (
  record { own = λ i e. absurd (no i e); awake = λ i e f. absurd (no i e) },
  λ i e. absurd (no i e),
  subst (AreLast t.instances) (sym a.below) (waits s t a.instances h),
)
  where
    no : (i : ℕ) → t.top.instance ≡ Some i → ⊥
    no i e = let k : None ≡ Some i = sym a.instance ∙ e in cc

resumed_last : (s t : State) (i : ℕ) → HasResumed s i t → i < length s.instances → sleeps s.instances i ≡ true
    → IsLastState s → IsLastState t
resumed_last s t i a there e h = (
  record {
    own = λ j ej. let n : i ≡ j = cc_of j ej in let k = a.instances.longer in omega arith;
    awake = λ j ej f. subst (λ (n : ℕ). sleeps t.instances n ≡ false) (cc_of j ej) a.awake;
  },
  λ j ej. subst (HaveLeft j) (sym a.below) (subst (λ (n : ℕ). HaveLeft n (waiting s ∷ s.below)) (cc_of j ej)
      (left.0, left.1)),
  subst (AreLast t.instances) (sym a.below) (waits s t a.instances h),
)
  where
    left : HaveLeft i (s.top ∷ s.below)
    left = sleepers_left s.instances i e (s.top ∷ s.below) h

    cc_of : (j : ℕ) → t.top.instance ≡ Some j → i ≡ j
    cc_of j ej = let k : Some i ≡ Some j = sym a.instance ∙ ej in cc

-- ---- parts of a step

then_last : {A : Type 0} (r : Result A Cause) (f : A → Result State Cause)
    → ((a : A) → r ≡ Ok a → StaysLast (f a)) → StaysLast (and_then r f)
then_last (Err cause) f h = tt
then_last (Ok a) f h = h a refl

ok_last : (b : Bool) (cause : Cause) (s : State) → IsLastState s → StaysLast (ok_if b cause s)
ok_last true cause s h = h
ok_last false cause s h = tt

own_number : (s : State) (j : ℕ) (x : Instance) → own_instance s ≡ Some (j, x) → s.top.instance ≡ Some j
own_number s j x e = on s.top.instance e
  where
    by : (i : ℕ) (o : Option Instance) → option_map {U = ℕ × Instance} (λ y. (i, y)) o ≡ Some (j, x) → i ≡ j
    by i None k = absurd (cc)
    by i (Some y) k =
        let pair : ◌≡◌ {A = ℕ × Instance} (i, y) (j, x) = cc in ap (λ (p : ℕ × Instance). p.0) pair

    on : (o : Option ℕ) → option_and_then (numbered s.instances) o ≡ Some (j, x) → o ≡ Some j
    on None k = absurd (cc)
    on (Some i) k = ap Some (by i (slice_get s.instances i) k)

pub own_changed : (s : State) (f : Instance → Instance)
    → ((x : Instance) → is_suspended x.status ≡ false → is_suspended (f x).status ≡ false)
    → (o : Option (ℕ × Instance)) → ((i : ℕ) (x : Instance) → o ≡ Some (i, x) → slice_get s.instances i ≡ Some x)
    → IsAlike s (change_own s f o)
own_changed s f k None is = same_state s
own_changed s f k (Some p) is = record {
  instance = refl;
  left = refl;
  below = refl;
  instances = set_more s.instances p.0 (f p.1)
      (λ e. k p.1 (sym (sleeps_at s.instances p.0 p.1 (is p.0 p.1 refl)) ∙ e));
}

let_go_alike : (s : State) (o : Option (ℕ × Instance))
    → ((i : ℕ) (x : Instance) → o ≡ Some (i, x) → slice_get s.instances i ≡ Some x) → IsAlike s (if_let_go s o)
let_go_alike s None is = same_state s
let_go_alike s (Some p) is = on (may_be_freed p.1)
  where
    on : (b : Bool) → IsAlike s (if b then let_go s p.0 p.1 else s)
    on true = record {
      instance = refl;
      left = refl;
      below = refl;
      instances = set_more s.instances p.0 (record p.1 { freed = true })
          (λ e. sym (sleeps_at s.instances p.0 p.1 (is p.0 p.1 refl)) ∙ e);
    }
    on false = same_state s

pop_last : (s : State) (v : Option Value) → IsLastState s → (below : List Activation) → AreLast s.instances below
    → StaysLast (pop s v below)
pop_last s v h [] k = then_last (outcome_of v) _ (λ outcome e. h)
pop_last s v h (a ∷ below) k = (record { own = k.0.own; awake = k.0.awake }, k.1, k.2)

return_last : (s : State) (v : Option Value) → IsLastState s → StaysLast (return s v)
return_last s v h =
    pop_last (returned s) v (record { own = h.0.own; awake = h.0.awake }, h.1, h.2) s.below h.2

-- the same activations at other places
gives_last : (s : State) (result : Option ℕ) (v : Value) → IsLastState s → IsLastState (gives s result v)
gives_last s result v h = (record { own = h.0.own; awake = h.0.awake }, h.1, h.2)

enter_last : (g : Given) (s : State) (label : ℕ) → IsLastState s → IsLastState (enter_block g s label)
enter_last g s label h = (record { own = h.0.own; awake = h.0.awake }, h.1, h.2)

after_last : (s : State) (result : Option ℕ) (mode : Mode) → IsLastState s → StaysLast (after_end s result mode)
after_last s result Mode.Resumed h = return_last s None h
after_last s result _ h = gives_last s result _ h

sleeper_last : (s : State) (p : Value) (go : Sleeper → Result State Cause)
    → ((y : Sleeper) → y.number < length s.instances → sleeps s.instances y.number ≡ true → StaysLast (go y))
    → StaysLast (and_then (sleeper_at s p) go)
sleeper_last s p go k = on (instance_at s.instances p) (λ j x e. at_is s.instances p j x e)
  where
    by : (i : ℕ) (x : Instance) → i < length s.instances → (st : Status) → sleeps s.instances i ≡ is_suspended st
        → StaysLast (and_then (sleeper_of i x st) go)
    by i x e Status.Running n = tt
    by i x e (Status.Suspended at vs) n = k (record { number = i; instance = x; suspend = at; values = vs }) e n
    by i x e Status.Finished n = tt

    on : (o : Option (ℕ × Instance)) → ((j : ℕ) (x : Instance) → o ≡ Some (j, x) → slice_get s.instances j ≡ Some x)
        → StaysLast (and_then (and_then (found Cause.Frame o) (λ (i, x). sleeper_of i x x.status)) go)
    on None is = tt
    on (Some z) is = let there : slice_get s.instances z.0 ≡ Some z.1 = is z.0 z.1 refl in
        by z.0 z.1 (there_below s.instances z.0 z.1 there) z.1.status (sleeps_at s.instances z.0 z.1 there)

module _ (s : State) (h : IsLastState s) where
  own_there : (p : ℕ × Instance) → found Cause.State (own_instance s) ≡ Ok p → own_instance s ≡ Some p
  own_there p e = on (own_instance s) e
    where
      on : (o : Option (ℕ × Instance)) → found Cause.State o ≡ Ok p → o ≡ Some p
      on None k = absurd (cc)
      on (Some q) k = cc

  leaves_last : (g : Given) (label : ℕ) (windows : List Window) → StaysLast (branch_leaving g s label windows)
  leaves_last g label [] = enter_last g s label h
  leaves_last g label (w ∷ windows) = then_last (found Cause.State (own_instance s)) _ (λ p e.
      let own = own_there p e in
      let i : s.top.instance ≡ Some p.0 = own_number s p.0 p.1 own in
      let running : Instance = record p.1 { status = Status.Running } in
      let more = set_more s.instances p.0 running (λ k. refl) in
      ok_last _ Cause.State _ (
        record {
          own = λ j ej. let l = h.0.own j ej in let k = more.longer in omega arith;
          awake = λ j ej f. subst (λ (n : ℕ). sleeps (slice_set s.instances p.0 running) n ≡ false)
              (same_number p.0 j i ej) (set_awake s.instances p.0 running refl);
        },
        h.1,
        last_more s.instances _ s.below more h.2,
      ))
    where
      same_number : (i j : ℕ) → s.top.instance ≡ Some i → s.top.instance ≡ Some j → i ≡ j
      same_number i j a b = let k : Some i ≡ Some j = sym a ∙ b in cc

  save_last : (k u : Point) (f : State → Result State Cause) → ((t : State) → IsLastState t → StaysLast (f t))
      → StaysLast (and_then (save_for s k u) f)
  save_last k u f then' = on (own_instance s) refl
    where
      by : (p : ℕ × Instance) → own_instance s ≡ Some p → (b : Bool)
          → StaysLast (and_then (ok_if b Cause.State (with_left (with_instance s p.0 (record p.1 {
            status = Status.Suspended u s.top.values;
            last_save = Some (record { depth = length s.below; save = k });
          })) true)) f)
      by p own false = tt
      by p own true =
          let i : s.top.instance ≡ Some p.0 = own_number s p.0 p.1 own in
          then' _ (
            record {
              own = λ j ej. let l = h.0.own j ej in let n = set_length s.instances p.0 (record p.1 {
                status = Status.Suspended u s.top.values;
                last_save = Some (record { depth = length s.below; save = k });
              }) in omega arith;
              awake = λ j ej f. absurd (cc);
            },
            h.1,
            left_sleep s.instances p.0 _ s.below (h.1 p.0 i) h.2,
          )

      on : (o : Option (ℕ × Instance)) → own_instance s ≡ o
          → StaysLast (and_then (and_then (found Cause.State o) (λ (i, x).
          ok_if (not x.freed) Cause.State
          (with_left
          (with_instance s i (record x {
            status = Status.Suspended u s.top.values;
            last_save = Some (record { depth = length s.below; save = k });
          })) true))) f)
      on None e = tt
      on (Some p) e = by p e (not p.1.freed)

  suspend_last : (result : Option ℕ) (of_save : Operand) → StaysLast (suspend s result of_save)
  suspend_last result Operand.None = save_last (point_of s) (point_of s) _ (λ t k. gives_last t result _ k)
  suspend_last result _ = gives_last s result _ h

  end_last : (result : Option ℕ) (close : State → State) → IsAlike s (close s) → StaysLast (end_of s close result)
  end_last result close a = on s.top.has_left
    where
      on : (b : Bool) → StaysLast (after_end (if b then s else close s) result s.top.mode)
      on true = after_last s result s.top.mode h
      on false = after_last (close s) result s.top.mode (alike_last s (close s) a h)

-- ---- steps

module _ (hooks : Hooks) (keeps : KeepsLast hooks) (s : State) (h : IsLastState s) where
  coro_last : (i : Intrinsic) (args : List Arg) (vs : List Value) (result : Option ℕ)
      → StaysLast (hooked_coro hooks s i args vs result)
  coro_last Intrinsic.CoroId args vs result = gives_last s None Value.Poison h
  coro_last Intrinsic.CoroSizeI32 args vs result = gives_last s result _ h
  coro_last Intrinsic.CoroSizeI64 args vs result = gives_last s result _ h
  coro_last Intrinsic.CoroAlignI32 args vs result = gives_last s result _ h
  coro_last Intrinsic.CoroAlignI64 args vs result = gives_last s result _ h
  coro_last Intrinsic.CoroAlloc args vs result = gives_last s result _ h
  coro_last Intrinsic.CoroFrame args vs result = gives_last s result _ h
  coro_last Intrinsic.LifetimeStart args vs result = gives_last s None Value.Poison h
  coro_last Intrinsic.LifetimeEnd args vs result = gives_last s None Value.Poison h
  coro_last Intrinsic.MemcpyI64 args vs result = gives_last s None Value.Poison h
  coro_last Intrinsic.MemcpyI32 args vs result = gives_last s None Value.Poison h
  coro_last Intrinsic.CoroBegin args vs result = on (hooks.start s result (nth vs 1)) refl
    where
      on : (r : Result State Cause) → hooks.start s result (nth vs 1) ≡ r → StaysLast r
      on (Err cause) e = tt
      on (Ok t) e = begun_last s t (keeps.start s result (nth vs 1) t e) h
  coro_last Intrinsic.CoroFree args vs result = gives_last (release s) result (hooks.freed s)
      (alike_last s (release s) (own_changed s (λ x. record x { released = true }) (λ x k. k) (own_instance s)
      (λ i x e. own_is s i x e)) h)
  coro_last Intrinsic.CoroSave args vs result =
      then_last (found Cause.State (suspend_of (function_of hooks.given s) (point_of s))) _ (λ u eu.
      save_last s h (point_of s) u _ (λ t k. gives_last t None Value.Poison k))
  coro_last Intrinsic.CoroSuspend args vs result = suspend_last s h result (operand_at args 0)
  coro_last Intrinsic.CoroEnd args vs result = end_last s h result hooks.close (keeps.close s)
  coro_last Intrinsic.CoroResume args vs result = sleeper_last s (nth vs 0) _ (λ y there e.
      ok_last _ Cause.State _ (resumed_last s _ y.number
      (keeps.go_on s y.number y.instance y.suspend y.values _) there e h))
  coro_last Intrinsic.CoroDestroy args vs result = sleeper_last s (nth vs 0) _ (λ y there e.
      resumed_last s _ y.number (keeps.go_on s y.number y.instance y.suspend y.values _) there e h)
  coro_last Intrinsic.CoroDone args vs result = sleeper_last s (nth vs 0) _ (λ y there e.
      ok_last _ Cause.State _ (gives_last s result _ h))
  coro_last Intrinsic.CoroPromise args vs result =
      then_last (hooks.promised s (nth vs 0) (operand_at args 2)) _ (λ v ev. gives_last s result v h)

  act_last : (a : Action) → StaysLast (hooked_act hooks s a)
  act_last (Stuck cause) = tt
  act_last (Done w) = (record { own = h.0.own; awake = h.0.awake }, h.1, h.2)
  act_last (NewSlot w slot) = alike_last (settled s w) (hooks.place (settled s w) slot)
      (keeps.place (settled s w) slot) (record { own = h.0.own; awake = h.0.awake }, h.1, h.2)
  act_last (Enter func args result must_tail) = called_last s (enter hooks.given s func args result)
      (record { instance = refl; below = refl; instances = same_more s.instances }) h
  act_last (Coro i args result) = coro_last i args (arg_values hooks.given.code s.top.values args) result
  act_last (Deallocate p) =
      let t : State = if_let_go s (instance_at s.instances p) in
      let k : IsLastState t = alike_last s t
      (let_go_alike s (instance_at s.instances p) (λ i x e. at_is s.instances p i x e)) h in
      then_last (deallocated t.world.memory p) _
      (λ memory e. (record { own = k.0.own; awake = k.0.awake }, k.1, k.2))
  act_last (GoTo label) = leaves_last s h hooks.given label (left_windows hooks.given s label)
  act_last (Return v) = return_last s v h

  next_last : (x : Fetched) → StaysLast (hooked_next hooks s x)
  next_last x = on (hooks.is_idle s x) (hooks.given_call s x) refl
    where
      on : (b : Bool) (o : Option (Result State Cause)) → hooks.given_call s x ≡ o
          → StaysLast (if b then Ok (next s) else unwrap_or o
          (hooked_act hooks s (action_of (hooked_context hooks s) (work_of s) x)))
      on true o e = gives_last s None Value.Poison h
      on false None e = act_last (action_of (hooked_context hooks s) (work_of s) x)
      on false (Some (Err cause)) e = tt
      on false (Some (Ok t)) e = called_last s t (keeps.call s x t e) h

  or_last : (r : Result State Cause) → StaysLast r → IsLastState (or_undefined hooks.given s r)
  or_last (Err cause) k = h
  or_last (Ok t) k = k

  advance_last : (o : Outcome) → IsLastState (hooked_advance hooks s o)
  advance_last Outcome.Running =
      let x = fetch (function_of hooks.given s) s.top.block s.top.at in or_last (hooked_next hooks s x) (next_last x)
  advance_last (Outcome.Returned v) = h
  advance_last (Outcome.Undefined cause place) = h

  pub step_last : IsLastState (step_of hooks s)
  step_last = advance_last s.outcome

steps_last : (hooks : Hooks) → KeepsLast hooks → (n : ℕ) (s : State) → IsLastState s
    → IsLastState (iterate (step_of hooks) n s)
steps_last hooks keeps zero s h = h
steps_last hooks keeps (suc n) s h = steps_last hooks keeps n (step_of hooks s) (step_last hooks keeps s h)

pub states_last : (hooks : Hooks) → KeepsLast hooks → (entry : ℕ) (args : List Word) (n : ℕ)
    → IsLastState (hooked_state_at hooks entry args n)
states_last hooks keeps entry args n = steps_last hooks keeps n (first_state hooks.given.code entry args)
    (record { own = λ i e. absurd (cc); awake = λ i e f. absurd (cc) }, λ i e. absurd (cc), tt)
