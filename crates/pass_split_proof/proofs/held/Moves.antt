-- States in which frames are kept, by what a part of a step changes.
use Rattle.std.proofs.Common.{◌≡◌, ℕ, Bool, true, false, not, List, [], ◌∷◌, length, Option, Some, None, Result, Ok, Err, refl, sym, ◌∙◌, subst}
use Rattle.std.specs.Prelude.{slice_get}
use Rattle.std.proofs.lemmas.Bool.{false≢true}
use Rattle.pass_proofs.specs.ir_base.declared.cause.Cause.{Cause}
use Rattle.pass_proofs.specs.ir_model.Names.{function_at}
use Rattle.pass_proofs.specs.ir_paths.declared.point.Point.{Point}
use Rattle.pass_split_proof.proofs.held.Instances.{changed_kept, have_slots_on, kept_on}
use Rattle.pass_split_proof.proofs.held.Memory.{Keeps, keeps_dead, slots_on}
use Rattle.pass_split_proof.proofs.steps.Branches.{left_by, own_there}
use Rattle.pass_split_proof.specs.held.Kept.{AreKept, HaveSlots, IsKeptState, IsNoHeap}
use Rattle.pass_split_proof.specs.steps.Branches.{Entered, Left, Stayed, WasLeft}
use Rattle.pass_proofs.specs.run_framed.Framed.{FramedGiven, alloca_from, continue_framed, enter_after, reentry_values}
use Rattle.pass_proofs.specs.run_laws.changed.Changed.{Each}
use Rattle.pass_proofs.specs.run_memory.declared.pointer.Value.{Value}
use Rattle.pass_proofs.specs.run_source.Source.{change_own, go_to, left_windows, pop, push, resumed, return, returned, save_for}
use Rattle.pass_proofs.specs.run_source.State.{frame_address_of, is_suspended, own_instance, with_instance, with_left, with_status}
use Rattle.pass_proofs.specs.run_source.declared.state.Activation.{Activation}
use Rattle.pass_proofs.specs.run_source.declared.state.Instance.{Instance}
use Rattle.pass_proofs.specs.run_source.declared.state.State.{State}
use Rattle.pass_proofs.specs.run_source.declared.state.Status.{Status}
use Rattle.pass_proofs.specs.run_source_tables.Given.{Given}
use Rattle.pass_proofs.specs.run_step.Results.{and_then, found, ok_if}
use Rattle.pass_proofs.specs.run_step.Step.{outcome_of, without_slots}
use Rattle.pass_proofs.specs.run_step.Values.{Env}
use Rattle.pass_proofs.specs.run_step.declared.world.Slot.{Slot}

-- what a part of a step gives, if it gives a state
abbrev pub StaysKept : Result State Cause → Type 0
StaysKept (Err cause) = Unit {0}
StaysKept (Ok s) = IsKeptState s

pub then_kept : {A : Type 0} (r : Result A Cause) (f : A → Result State Cause)
    → ((a : A) → r ≡ Ok a → StaysKept (f a)) → StaysKept (and_then r f)
then_kept (Err cause) f h = tt
then_kept (Ok a) f h = h a refl

pub if_kept : (b : Bool) (cause : Cause) (s : State) → (b ≡ true → IsKeptState s) → StaysKept (ok_if b cause s)
if_kept true cause s h = h refl
if_kept false cause s h = tt

pub found_is : {A : Type 0} (cause : Cause) (o : Option A) (a : A) → found cause o ≡ Ok a → o ≡ Some a
found_is cause None a e = absurd (cc)
found_is cause (Some b) a e = cc

pub ok_is : {A : Type 0} (b : Bool) (cause : Cause) (a c : A) → ok_if b cause a ≡ Ok c → (b ≡ true) × (a ≡ c)
ok_is true cause a c e = (refl, cc)
ok_is false cause a c e = absurd (cc)

pub ok_same : {A : Type 0} (r : Result A Cause) (a c : A) → r ≡ Ok a → r ≡ Ok c → a ≡ c
ok_same r a c e h = cc

-- ---- memory

pub on_memory : (s u : State) → IsKeptState s → Keeps s.world.memory u.world.memory → u.instances ≡ s.instances
    → u.top.slots ≡ s.top.slots → u.below ≡ s.below → IsKeptState u
on_memory s u k keeps xs slots below = record {
  instances = subst (λ (ys : List Instance). AreKept ys u.world.memory) (sym xs)
      (kept_on s.instances s.world.memory u.world.memory keeps k.instances);
  top = subst (Each (λ (slot : Slot). IsNoHeap u.world.memory slot.block)) (sym slots)
      (slots_on s.world.memory u.world.memory keeps s.top.slots k.top);
  below = subst (HaveSlots u.world.memory) (sym below)
      (have_slots_on s.world.memory u.world.memory keeps s.below k.below);
}

-- ---- one instance

pub one_changed : (s : State) (i : ℕ) (x now : Instance) → IsKeptState s → slice_get s.instances i ≡ Some x
    → now.block ≡ x.block → now.start ≡ x.start → now.freed ≡ x.freed → now.slots ≡ x.slots
    → (is_suspended now.status ≡ true → now.freed ≡ false) → IsKeptState (with_instance s i now)
one_changed s i x now k e block start freed slots awake = record {
  instances = changed_kept s.instances s.world.memory i x now e block start freed awake
      (subst (Each (λ (slot : Slot). IsNoHeap s.world.memory slot.block)) (sym slots) (k.instances.slots i x e))
      k.instances;
  top = k.top;
  below = k.below;
}

-- one that isn't Suspended behind it
pub status_changed : (s : State) (i : ℕ) (x : Instance) (status : Status) → IsKeptState s
    → slice_get s.instances i ≡ Some x → is_suspended status ≡ false → IsKeptState (with_status s i x status)
status_changed s i x status k e runs = one_changed s i x (record x { status = status }) k e refl refl refl refl
    (λ h. absurd (false≢true (sym runs ∙ h)))

-- ---- activations

pub pushed : (s : State) (a : Activation) → IsKeptState s → a.slots ≡ [] → IsKeptState (push s a)
pushed s a k none = record {
  instances = k.instances;
  top = subst (Each (λ (slot : Slot). IsNoHeap s.world.memory slot.block)) (sym none) tt;
  below = (k.top, k.below);
}

pub entered : (g : FramedGiven) (s : State) (from label : ℕ) (o : Option Point) → IsKeptState s
    → IsKeptState (enter_after g s from label o)
entered g s from label None k = record { instances = k.instances; top = k.top; below = k.below }
entered g s from label (Some p) k = record { instances = k.instances; top = k.top; below = k.below }

-- a resumed activation goes on
pub goes_on_kept : (g : FramedGiven) (s : State) (i : ℕ) (x : Instance) (suspend : Point) (values : Env) (label : ℕ)
    → IsKeptState s → slice_get s.instances i ≡ Some x → IsKeptState (continue_framed g s i x suspend values label)
goes_on_kept g s i x suspend values label k e =
    entered g (push (with_status s i x Status.Running) (resumed i x suspend
    (reentry_values (function_at g.given.code x.coroutine) (frame_address_of x)))) suspend.block label
    (alloca_from (function_at g.given.code x.coroutine) 0)
    (pushed (with_status s i x Status.Running) (resumed i x suspend
    (reentry_values (function_at g.given.code x.coroutine) (frame_address_of x)))
    (status_changed s i x Status.Running k e refl) refl)

-- an edge
pub edge_kept : (g : Given) (s u : State) (label : ℕ) → IsKeptState s → go_to g s label ≡ Ok u → IsKeptState u
edge_kept g s u label k e = on (left_by g s u label (left_windows g s label) e)
  where
    by : (ys : List Instance) → WasLeft s.instances ys → AreKept ys s.world.memory
    by _ Stayed = k.instances
    by _ (Left i x e h) = (status_changed s i x Status.Running k e refl).instances

    on : Entered g s label u → IsKeptState u
    on y = subst IsKeptState (sym y.is) (record { instances = by y.instances y.was; top = k.top; below = k.below })

-- a return
pub returned_kept : (s : State) → IsKeptState s → IsKeptState (returned s)
returned_kept s k = let keeps = keeps_dead s.world.memory s.top.slots k.top in record {
  instances = kept_on s.instances s.world.memory (without_slots s.world.memory s.top.slots) keeps k.instances;
  top = tt;
  below = have_slots_on s.world.memory (without_slots s.world.memory s.top.slots) keeps s.below k.below;
}

pub popped : (s : State) (v : Option Value) (below : List Activation) → s.below ≡ below → IsKeptState s
    → StaysKept (pop s v below)
popped s v [] e k = then_kept (outcome_of v) (λ outcome. Ok (record s { outcome = outcome }))
    (λ outcome h. record { instances = k.instances; top = k.top; below = k.below })
popped s v (a ∷ below) e k = let all = subst (HaveSlots s.world.memory) e k.below in
    record { instances = k.instances; top = all.0; below = all.1 }

pub return_kept : (s : State) (v : Option Value) → IsKeptState s → StaysKept (return s v)
return_kept s v k = popped (returned s) v s.below refl (returned_kept s k)

-- ---- the own instance

pub own_changed : (s : State) (f : Instance → Instance)
    → ((x : Instance) → ((f x).block ≡ x.block) × ((f x).start ≡ x.start) × ((f x).freed ≡ x.freed)
    × ((f x).slots ≡ x.slots))
    → ((i : ℕ) (x : Instance) → slice_get s.instances i ≡ Some x → is_suspended (f x).status ≡ true
    → (f x).freed ≡ false)
    → IsKeptState s → IsKeptState (change_own s f (own_instance s))
own_changed s f same awake k = on (own_instance s) refl
  where
    on : (o : Option (ℕ × Instance)) → own_instance s ≡ o → IsKeptState (change_own s f o)
    on None e = k
    on (Some (i, x)) e = let there = own_there s i x e in
        one_changed s i x (f x) k there (same x).0 (same x).1 (same x).2 (same x).3 (awake i x there)

-- a save, of an instance that isn't freed
abbrev sleeping : State → Point → Point → Instance → Instance
sleeping s save suspend x = record x {
  status = Status.Suspended suspend s.top.values;
  last_save = Some (record { depth = length s.below; save = save });
}

pub save_kept : (s : State) (save suspend : Point) → IsKeptState s → StaysKept (save_for s save suspend)
save_kept s save suspend k = then_kept (found Cause.State (own_instance s))
    (λ (q : ℕ × Instance). ok_if (not q.1.freed) Cause.State
    (with_left (with_instance s q.0 (sleeping s save suspend q.1)) true))
    (λ q e. let there = own_there s q.0 q.1 (found_is Cause.State (own_instance s) q e) in
    if_kept (not q.1.freed) Cause.State (with_left (with_instance s q.0 (sleeping s save suspend q.1)) true)
    (λ h. saved q.0 q.1 there (no_true q.1.freed h)))
  where
    no_true : (c : Bool) → not c ≡ true → c ≡ false
    no_true true e = absurd (false≢true e)
    no_true false e = refl

    saved : (i : ℕ) (x : Instance) → slice_get s.instances i ≡ Some x → x.freed ≡ false
        → IsKeptState (with_left (with_instance s i (sleeping s save suspend x)) true)
    saved i x there unfreed =
        let y = one_changed s i x (sleeping s save suspend x) k there refl refl refl refl (λ h. unfreed) in
        record { instances = y.instances; top = y.top; below = y.below }
