-- Steps by hooks come from reached states to reached states.
use Rattle.pass_renewed_proof.specs.run_memory.declared.pointer.Pointer.{Pointer}
use Rattle.std.proofs.Common.{◌≡◌, ℕ, zero, suc, ◌+◌, Bool, true, false, List, [], ◌∷◌, ◌++◌, length, Option, Some}
use Rattle.std.proofs.Common.{None, Result, Ok, Err, refl, sym, ap, ◌∙◌, subst}
use Rattle.std.specs.Prelude.{if◌then◌else◌, is_none, not, option_and_then, option_map, slice_get, slice_set, ◌&&◌}
use Rattle.pass_renewed_proof.specs.pass_kept_proof.SuspendRules.{IsCallAt}
use Rattle.pass_renewed_proof.specs.pass_kept_proof.Related.{AreSoundInstances, IsSoundStatus, IsSuspendedAt, coroutines}
use Rattle.pass_renewed_proof.specs.pass_kept_proof.Needed.{BranchesTo, IsReached, first, after, along}
use Rattle.run_hooks.specs.Reached.{AreReachedActivations, IsReachedActivation, IsReachedState, Stays}
use Rattle.pass_renewed_proof.specs.run_source.declared.state.Mode.{Mode}
use Rattle.pass_renewed_proof.specs.run_memory.Memory.{killed, own}
use Rattle.pass_renewed_proof.specs.run_memory.declared.block.Kind.{Kind}
use Rattle.pass_renewed_proof.specs.run_memory.declared.block.MemoryBlock.{MemoryBlock}
use Rattle.pass_renewed_proof.specs.run_memory.declared.pointer.Value.{Value}
use Rattle.pass_renewed_proof.specs.ir_base.declared.cause.Cause.{Cause}
use Rattle.pass_renewed_proof.specs.run_source.Indexes.{last_from}
use Rattle.pass_renewed_proof.specs.run_source.Source.{Sleeper, after_end, begin, begin_at, begun, branch_leaving, change_own, continue}
use Rattle.pass_renewed_proof.specs.run_source.Source.{end_of, enter, enter_block, finish, go_to, if_let_go, is_among, is_over}
use Rattle.pass_renewed_proof.specs.run_source.Source.{kill_late, left_windows, let_go, may_be_freed, new_instance, new_slot, pop}
use Rattle.pass_renewed_proof.specs.run_source.Source.{release, return, returned, save_for, sleeper_at, sleeper_of, suspend}
use Rattle.pass_renewed_proof.specs.run_source.Source.{with_new_slots}
use Rattle.pass_renewed_proof.specs.run_source.State.{began_at, function_of, gives, instance_at, numbered, own_facts, own_frame}
use Rattle.pass_renewed_proof.specs.run_source.State.{own_instance, point_of, with_instance, with_left, with_memory, with_slots}
use Rattle.pass_renewed_proof.specs.run_source.State.{with_status, work_of}
use Rattle.pass_renewed_proof.specs.run_source.declared.state.Activation.{Activation}
use Rattle.pass_renewed_proof.specs.run_source.declared.state.Instance.{Instance}
use Rattle.pass_renewed_proof.specs.run_source.declared.state.State.{State}
use Rattle.pass_renewed_proof.specs.run_source.declared.state.Status.{Status}
use Rattle.pass_renewed_proof.specs.ir_model.Names.{function_at, position_of}
use Rattle.pass_renewed_proof.specs.ir_model.declared.module.Module.{Module}
use Rattle.pass_renewed_proof.specs.ir_model.declared.instr.Case.{Case}
use Rattle.pass_renewed_proof.specs.ir_model.declared.instr.Instr.{Instr}
use Rattle.pass_renewed_proof.specs.ir_model.declared.instr.Terminator.{Terminator}
use Rattle.pass_renewed_proof.specs.ir_model.declared.operand.Intrinsic.{Intrinsic}
use Rattle.pass_renewed_proof.specs.ir_model.declared.operand.Operand.{Operand}
use Rattle.pass_renewed_proof.specs.ir_paths.declared.point.Point.{Point}
use Rattle.pass_renewed_proof.specs.ir_paths.declared.point.Window.{Window}
use Rattle.pass_renewed_proof.specs.run_step.Results.{and_then, found, ok_if}
use Rattle.pass_renewed_proof.specs.run_step.Step.{Action, Context, AtInstr, Fetched, GoTo, Return, Stuck, Work, block_of, branch}
use Rattle.pass_renewed_proof.specs.run_step.Step.{fetch, outcome_of, switch, term_action, without_slots}
use Rattle.pass_renewed_proof.specs.run_step.Values.{Env}
use Rattle.pass_renewed_proof.specs.run_step.declared.world.Slot.{Slot}
use Rattle.pass_renewed_proof.specs.run_source_tables.Given.{Given}

-- ---- lists

pub get_coroutine : (xs : List Instance) (i : ℕ) (x : Instance) → slice_get xs i ≡ Some x
    → slice_get (coroutines xs) i ≡ Some x.coroutine
get_coroutine [] i x e = absurd (cc)
get_coroutine (y ∷ xs) zero x e = let k : y ≡ x = cc in ap (λ (z : Instance). Some z.coroutine) k
get_coroutine (y ∷ xs) (suc i) x e = get_coroutine xs i x e

pub set_coroutine : (xs : List Instance) (i : ℕ) (x y : Instance) → slice_get xs i ≡ Some x
    → y.coroutine ≡ x.coroutine → coroutines (slice_set xs i y) ≡ coroutines xs
set_coroutine [] i x y e k = refl
set_coroutine (z ∷ xs) zero x y e k = let h : z ≡ x = cc in
    let c : y.coroutine ≡ z.coroutine = k ∙ ap (λ (u : Instance). u.coroutine) (sym h) in λ j. c j ∷ coroutines xs
set_coroutine (z ∷ xs) (suc i) x y e k = let h = set_coroutine xs i x y e k in λ j. z.coroutine ∷ h j

pub push_coroutine : (xs : List Instance) (y : Instance)
    → coroutines (xs ++ y ∷ []) ≡ coroutines xs ++ y.coroutine ∷ []
push_coroutine [] y = refl
push_coroutine (x ∷ xs) y = let h = push_coroutine xs y in λ j. x.coroutine ∷ h j

pub get_pushed : (cs : List ℕ) (c i f : ℕ) → slice_get cs i ≡ Some f → slice_get (cs ++ c ∷ []) i ≡ Some f
get_pushed [] c i f e = absurd (cc)
get_pushed (d ∷ cs) c zero f e = e
get_pushed (d ∷ cs) c (suc i) f e = get_pushed cs c i f e

pub get_last : (xs : List Instance) (y : Instance) → slice_get (xs ++ y ∷ []) (length xs) ≡ Some y
get_last [] y = refl
get_last (x ∷ xs) y = get_last xs y

pub sound_set : (g : Given) (xs : List Instance) (i : ℕ) (y : Instance) → AreSoundInstances g xs
    → IsSoundStatus g y.coroutine y.status → AreSoundInstances g (slice_set xs i y)
sound_set g [] i y h k = tt
sound_set g (x ∷ xs) zero y h k = (k, h.1)
sound_set g (x ∷ xs) (suc i) y h k = (h.0, sound_set g xs i y h.1 k)

pub sound_push : (g : Given) (xs : List Instance) (y : Instance) → AreSoundInstances g xs
    → IsSoundStatus g y.coroutine y.status → AreSoundInstances g (xs ++ y ∷ [])
sound_push g [] y h k = (k, tt)
sound_push g (x ∷ xs) y h k = (h.0, sound_push g xs y h.1 k)

pub sound_get : (g : Given) (xs : List Instance) (i : ℕ) (x : Instance) → AreSoundInstances g xs
    → slice_get xs i ≡ Some x → IsSoundStatus g x.coroutine x.status
sound_get g [] i x h e = absurd (cc)
sound_get g (y ∷ xs) zero x h e = let k : y ≡ x = cc in
    subst (λ (z : Instance). IsSoundStatus g z.coroutine z.status) k h.0
sound_get g (y ∷ xs) (suc i) x h e = sound_get g xs i x h.1 e

pub activation_pushed : (g : Given) (cs : List ℕ) (c : ℕ) (a : Activation) → IsReachedActivation g cs a
    → IsReachedActivation g (cs ++ c ∷ []) a
activation_pushed g cs c a h =
    record { own = λ i e. get_pushed cs c i a.func (h.own i e); reached = h.reached; entered = h.entered }

pub activations_pushed : (g : Given) (cs : List ℕ) (c : ℕ) (as' : List Activation) → AreReachedActivations g cs as'
    → AreReachedActivations g (cs ++ c ∷ []) as'
activations_pushed g cs c [] h = tt
activations_pushed g cs c (a ∷ as') h = (activation_pushed g cs c a h.0, activations_pushed g cs c as' h.1)

pub numbered_is : (xs : List Instance) (i j : ℕ) (x : Instance) → numbered xs i ≡ Some (j, x) → slice_get xs j ≡ Some x
numbered_is xs i j x e = on (slice_get xs i) refl e
  where
    on : (o : Option Instance) → slice_get xs i ≡ o → option_map {U = ℕ × Instance} (λ y. (i, y)) o ≡ Some (j, x)
        → slice_get xs j ≡ Some x
    on None eo k = absurd (cc)
    on (Some y) eo k =
        let pair : ◌≡◌ {A = ℕ × Instance} (i, y) (j, x) = cc in
        let ei : i ≡ j = ap (λ (p : ℕ × Instance). p.0) pair in
        let ey : y ≡ x = ap (λ (p : ℕ × Instance). p.1) pair in
        subst (λ (n : ℕ). slice_get xs n ≡ Some x) ei (eo ∙ ap Some ey)

pub option_is : (xs : List Instance) (o : Option ℕ) (j : ℕ) (x : Instance)
    → option_and_then (numbered xs) o ≡ Some (j, x) → slice_get xs j ≡ Some x
option_is xs None j x e = absurd (cc)
option_is xs (Some i) j x e = numbered_is xs i j x e

pub own_is : (s : State) (j : ℕ) (x : Instance) → own_instance s ≡ Some (j, x) → slice_get s.instances j ≡ Some x
own_is s j x e = option_is s.instances s.top.instance j x e

pub at_is : (xs : List Instance) (p : Value) (j : ℕ) (x : Instance) → instance_at xs p ≡ Some (j, x)
    → slice_get xs j ≡ Some x
at_is xs (Value.Ptr (Pointer.At block offset)) j x e = option_is xs (last_from (began_at block offset.bits) 0 xs) j x e
at_is xs _ j x e = absurd (cc)

-- the owner of an own instance is the topmost activation's function
pub own_function : (g : Given) (s : State) → IsReachedState g s → (j : ℕ) (x : Instance)
    → own_instance s ≡ Some (j, x) → x.coroutine ≡ s.top.func
own_function g s h j x e = on s.top.instance refl e
  where
    on : (o : Option ℕ) → s.top.instance ≡ o → option_and_then (numbered s.instances) o ≡ Some (j, x)
        → x.coroutine ≡ s.top.func
    on None eo k = absurd (cc)
    on (Some i) eo k = by (slice_get s.instances i) refl k
      where
        by : (o : Option Instance) → slice_get s.instances i ≡ o
            → option_map {U = ℕ × Instance} (λ y. (i, y)) o ≡ Some (j, x) → x.coroutine ≡ s.top.func
        by None em k = absurd (cc)
        by (Some y) em k =
            let pair : ◌≡◌ {A = ℕ × Instance} (i, y) (j, x) = cc in
            let ey : y ≡ x = ap (λ (p : ℕ × Instance). p.1) pair in
            let c : slice_get (coroutines s.instances) i ≡ Some y.coroutine = get_coroutine s.instances i y em in
            let d : slice_get (coroutines s.instances) i ≡ Some s.top.func = h.top.own i eo in
            let f : Some y.coroutine ≡ Some s.top.func = sym c ∙ d in
            let f' : y.coroutine ≡ s.top.func = cc in
            subst (λ (z : Instance). z.coroutine ≡ s.top.func) ey f'

-- ---- changes of a state

pub then_stays : (g : Given) {A : Type 0} (r : Result A Cause) (f : A → Result State Cause)
    → ((a : A) → r ≡ Ok a → Stays g (f a)) → Stays g (and_then r f)
then_stays g (Err cause) f h = tt
then_stays g (Ok a) f h = h a refl

pub both_stay : (g : Given) (r : Result State Cause) (f : State → Result State Cause) → Stays g r
    → ((s : State) → IsReachedState g s → Stays g (f s)) → Stays g (and_then r f)
both_stay g (Err cause) f k h = tt
both_stay g (Ok s) f k h = h s k

pub ok_stays : (g : Given) (b : Bool) (cause : Cause) (s : State) → IsReachedState g s → Stays g (ok_if b cause s)
ok_stays g true cause s h = h
ok_stays g false cause s h = tt

pub found_is : {A : Type 0} (cause : Cause) (o : Option A) (a : A) → found cause o ≡ Ok a → o ≡ Some a
found_is cause None a e = absurd (cc)
found_is cause (Some b) a e = cc

-- an instance that there is is changed, but not its coroutine
pub instance_stays : (g : Given) (s : State) (i : ℕ) (x y : Instance) → IsReachedState g s
    → slice_get s.instances i ≡ Some x → y.coroutine ≡ x.coroutine → IsSoundStatus g y.coroutine y.status
    → IsReachedState g (with_instance s i y)
instance_stays g s i x y h e k st =
    let c : coroutines (slice_set s.instances i y) ≡ coroutines s.instances = set_coroutine s.instances i x y e k in
    record {
      top = subst (λ (cs : List ℕ). IsReachedActivation g cs s.top) (sym c) h.top;
      below = subst (λ (cs : List ℕ). AreReachedActivations g cs s.below) (sym c) h.below;
      instances = sound_set g s.instances i y h.instances st;
    }

-- the topmost activation goes on elsewhere
pub moved : (g : Given) (s : State) (w : Work) (block at : ℕ) → IsReachedState g s
    → IsReached (function_of g s) block at
    → IsReachedState g (record s {
      world = w.world;
      top =
          record s.top { block = block; at = at; values = w.values };
    })
moved g s w block at h r = record {
  top = record { own = h.top.own; reached = r; entered = h.top.entered };
  below = h.below;
  instances =
      h.instances;
}

-- a sound activation with other values, slots and the like
pub activation_like : (g : Given) (cs : List ℕ) (a : Activation) (values : Env) (slots : List Slot) (left : Bool)
    → IsReachedActivation g cs a → IsReachedActivation g cs
    (record a { values = values; slots = slots; has_left = left })
activation_like g cs a values slots left h = record { own = h.own; reached = h.reached; entered = h.entered }

-- a sound state whose topmost activation is like that, and whose world or outcome is another
pub state_like : (g : Given) (s t : State) → IsReachedState g s → t.instances ≡ s.instances → t.below ≡ s.below
    → IsReachedActivation g (coroutines s.instances) t.top → IsReachedState g t
state_like g s t h ei eb a = record {
  top = subst (λ (xs : List Instance). IsReachedActivation g (coroutines xs) t.top) (sym ei) a;
  below = subst (λ (xs : List Instance). AreReachedActivations g (coroutines xs) t.below) (sym ei)
      (subst (λ (as' : List Activation). AreReachedActivations g (coroutines s.instances) as') (sym eb) h.below);
  instances = subst (AreSoundInstances g) (sym ei) h.instances;
}

pub slots_stay : (g : Given) (s : State) (slots : List Slot) → IsReachedState g s
    → IsReachedState g (with_slots s slots)
slots_stay g s slots h = state_like g s (with_slots s slots) h refl refl
    (activation_like g (coroutines s.instances) s.top s.top.values slots s.top.has_left h.top)

pub new_slots_stay : (g : Given) (s : State) (ramp : List ℕ) (o : Option (ℕ × Instance)) (slots : List Slot)
    → IsReachedState g s → ((i : ℕ) (x : Instance) → o ≡ Some (i, x) → slice_get s.instances i ≡ Some x)
    → IsReachedState g (with_new_slots ramp o s slots)
new_slots_stay g s ramp None slots h is = slots_stay g s _ h
new_slots_stay g s ramp (Some p) slots h is =
    let e : slice_get s.instances p.0 ≡ Some p.1 = is p.0 p.1 refl in
    slots_stay g (with_instance s p.0 (record p.1 { slots = _ })) _
    (instance_stays g s p.0 p.1 (record p.1 { slots = _ }) h e refl
    (sound_get g s.instances p.0 p.1 h.instances e))

pub gives_stay : (g : Given) (s : State) (result : Option ℕ) (v : Value) → IsReachedState g s
    → IsReached (function_of g s) s.top.block (s.top.at + 1) → IsReachedState g (gives s result v)
gives_stay g s result v h r = moved g s (record { world = s.world; values = _ }) s.top.block (s.top.at + 1) h r

pub change_stays : (g : Given) (s : State) (f : Instance → Instance) (o : Option (ℕ × Instance))
    → IsReachedState g s → ((i : ℕ) (x : Instance) → o ≡ Some (i, x) → slice_get s.instances i ≡ Some x)
    → ((x : Instance) → (f x).coroutine ≡ x.coroutine)
    → ((x : Instance) → IsSoundStatus g x.coroutine x.status → IsSoundStatus g (f x).coroutine (f x).status)
    → IsReachedState g (change_own s f o)
change_stays g s f None h is c st = h
change_stays g s f (Some p) h is c st =
    let e : slice_get s.instances p.0 ≡ Some p.1 = is p.0 p.1 refl in
    instance_stays g s p.0 p.1 (f p.1) h e (c p.1) (st p.1 (sound_get g s.instances p.0 p.1 h.instances e))

pub change_top : (s : State) (f : Instance → Instance) (o : Option (ℕ × Instance)) → (change_own s f o).top ≡ s.top
change_top s f None = refl
change_top s f (Some p) = refl

pub memory_stays : (g : Given) (s : State) (memory : List MemoryBlock) → IsReachedState g s
    → IsReachedState g (with_memory s memory)
memory_stays g s memory h = record { top = h.top; below = h.below; instances = h.instances }

pub pop_stays : (g : Given) (s : State) (v : Option Value) → IsReachedState g s → (below : List Activation)
    → AreReachedActivations g (coroutines s.instances) below → Stays g (pop s v below)
pop_stays g s v h [] k = then_stays g (outcome_of v) _
    (λ outcome e. record { top = h.top; below = h.below; instances = h.instances })
pop_stays g s v h (a ∷ below) k =
    record {
      top = activation_like g (coroutines s.instances) a _ a.slots a.has_left k.0;
      below = k.1;
      instances =
          h.instances;
    }

pub return_stays : (g : Given) (s : State) (v : Option Value) → IsReachedState g s → Stays g (return s v)
return_stays g s v h = pop_stays g (returned s) v
    (slots_stay g (with_memory s (without_slots s.world.memory s.top.slots)) [] (memory_stays g s _ h)) s.below h.below

pub suspended_stays : (g : Given) (s : State) (p : Value) (go : Sleeper → Result State Cause) → IsReachedState g s
    → ((i : ℕ) (x : Instance) (at : Point) (vs : Env) → slice_get s.instances i ≡ Some x
    → IsSuspendedAt g x.coroutine at
    → Stays g (go (record { number = i; instance = x; suspend = at; values = vs })))
    → Stays g (and_then (sleeper_at s p) go)
suspended_stays g s p go h k = on (instance_at s.instances p) (λ j x e. at_is s.instances p j x e)
  where
    by : (i : ℕ) (x : Instance) → slice_get s.instances i ≡ Some x → (st : Status) → IsSoundStatus g x.coroutine st
        → Stays g (and_then (sleeper_of i x st) go)
    by i x e Status.Running sound = tt
    by i x e (Status.Suspended at vs) sound = k i x at vs e sound
    by i x e Status.Finished sound = tt

    on : (o : Option (ℕ × Instance)) → ((j : ℕ) (x : Instance) → o ≡ Some (j, x) → slice_get s.instances j ≡ Some x)
        → Stays g (and_then (and_then (found Cause.Frame o) (λ (i, x). sleeper_of i x x.status)) go)
    on None is = tt
    on (Some z) is = let there : slice_get s.instances z.0 ≡ Some z.1 = is z.0 z.1 refl in
        by z.0 z.1 there z.1.status (sound_get g s.instances z.0 z.1 h.instances there)

pub late_instances : (s : State) (ramp : List ℕ) (o : Option (ℕ × Instance)) (slot : Slot)
    → (kill_late ramp o s slot).instances ≡ s.instances
late_instances s ramp None slot = refl
late_instances s ramp (Some p) slot = on (is_over p.1 && not (is_among ramp slot))
  where
    on : (b : Bool) → (if b then with_memory s (killed s.world.memory slot.block) else s).instances ≡ s.instances
    on true = refl
    on false = refl

pub late_stays : (g : Given) (s : State) (ramp : List ℕ) (o : Option (ℕ × Instance)) (slot : Slot)
    → IsReachedState g s → IsReachedState g (kill_late ramp o s slot)
late_stays g s ramp None slot h = h
late_stays g s ramp (Some p) slot h = on (is_over p.1 && not (is_among ramp slot))
  where
    on : (b : Bool) → IsReachedState g (if b then with_memory s (killed s.world.memory slot.block) else s)
    on true = memory_stays g s _ h
    on false = h

pub new_slot_stays : (g : Given) (s : State) (slot : Slot) → IsReachedState g s → IsReachedState g (new_slot g s slot)
new_slot_stays g s slot h =
    let ramp = (own_facts g s).ramp_slots in
    new_slots_stay g (kill_late ramp (own_instance s) s slot) ramp (own_instance s) (slot ∷ [])
    (late_stays g s ramp (own_instance s) slot h)
    (λ i x e. ap (λ (xs : List Instance). slice_get xs i) (late_instances s ramp (own_instance s) slot)
    ∙ own_is s i x e)

pub after_stays : (g : Given) (s : State) (result : Option ℕ) (mode : Mode) → IsReachedState g s
    → IsReached (function_of g s) s.top.block (s.top.at + 1) → Stays g (after_end s result mode)
after_stays g s result Mode.Resumed h r = return_stays g s None h
after_stays g s result _ h r = gives_stay g s result _ h r

pub let_go_stays : (g : Given) (s : State) (o : Option (ℕ × Instance)) → IsReachedState g s
    → ((i : ℕ) (x : Instance) → o ≡ Some (i, x) → slice_get s.instances i ≡ Some x)
    → IsReachedState g (if_let_go s o) × ((if_let_go s o).top ≡ s.top)
let_go_stays g s None h is = (h, refl)
let_go_stays g s (Some p) h is = on (may_be_freed p.1)
  where
    on : (b : Bool) → IsReachedState g (if b then let_go s p.0 p.1 else s) ×
        ((if b then let_go s p.0 p.1 else s).top ≡ s.top)
    on true =
        let e : slice_get s.instances p.0 ≡ Some p.1 = is p.0 p.1 refl in (
          memory_stays g (with_instance s p.0 (record p.1 { freed = true })) _
              (instance_stays g s p.0 p.1 (record p.1 { freed = true }) h e refl
              (sound_get g s.instances p.0 p.1 h.instances e)),
          refl,
        )
    on false = (h, refl)

-- terminators neither finish an instruction nor call
abbrev pub IsOfInstr : Action → Bool
IsOfInstr (GoTo label) = false
IsOfInstr (Return v) = false
IsOfInstr (Stuck cause) = false
IsOfInstr _ = true

pub of_branch : (v : Value) (a b : ℕ) → IsOfInstr (branch v a b) ≡ false
of_branch (Value.Int n) a b = refl
of_branch Value.Poison a b = refl
of_branch (Value.Ptr p) a b = refl

pub of_switch : (m : Module) (v : Value) (a : ℕ) (cases : List Case) → IsOfInstr (switch m v a cases) ≡ false
of_switch m (Value.Int n) a cases = refl
of_switch m Value.Poison a cases = refl
of_switch m (Value.Ptr p) a cases = refl

pub of_term : (c : Context) (s : State) (t : Terminator) → IsOfInstr (term_action c (work_of s) t) ≡ false
of_term c s (Terminator.Jump label) = refl
of_term c s (Terminator.Branch x a b) = of_branch _ a b
of_term c s (Terminator.Switch arg a cases) = of_switch c.code _ a cases
of_term c s (Terminator.Ret None) = refl
of_term c s (Terminator.Ret (Some arg)) = refl
of_term c s Terminator.Unreachable = refl

pub not_entering : (b : Bool) (from label : ℕ) → (if b then Mode.Ramp else Mode.Plain) ≡ Mode.Entering from label → ⊥
not_entering true from label e = cc
not_entering false from label e = cc

module _ (g : Given) (s : State) (h : IsReachedState g s) where
  abbrev pub here : Fetched
  here = fetch (function_of g s) s.top.block s.top.at

  abbrev pub IsBehind : Type 0
  IsBehind = IsReached (function_of g s) s.top.block (s.top.at + 1)

  pub own_there : (i : ℕ) (x : Instance) → own_instance s ≡ Some (i, x) → slice_get s.instances i ≡ Some x
  own_there i x e = own_is s i x e

  pub continue_stays : IsBehind → (i : ℕ) (x : Instance) (at : Point) (vs : Env) (label : ℕ)
      → slice_get s.instances i ≡ Some x
      → IsReached (function_at g.code x.coroutine) (position_of (function_at g.code x.coroutine) label) 0
      → IsReachedState g (continue g s i x at vs label)
  continue_stays r i x at vs label e to =
      let c : coroutines (slice_set s.instances i (record x { status = Status.Running })) ≡ coroutines s.instances =
      set_coroutine s.instances i x (record x { status = Status.Running }) e refl in
      let back : (cs : List ℕ) → cs ≡ coroutines s.instances
      → IsReachedActivation g cs (record s.top { at = s.top.at + 1 }) × AreReachedActivations g cs s.below =
      λ cs ec. subst (λ (ds : List ℕ). IsReachedActivation g ds
      (record s.top { at = s.top.at + 1 }) × AreReachedActivations g ds s.below) (sym ec)
      (record { own = h.top.own; reached = r; entered = h.top.entered }, h.below) in
      record {
        top = record {
          own = λ j ej. let k : i ≡ j = cc in
              subst (λ (n : ℕ). slice_get (coroutines
              (slice_set s.instances i (record x { status = Status.Running }))) n ≡ Some x.coroutine) k
              (subst (λ (cs : List ℕ). slice_get cs i ≡ Some x.coroutine) (sym c)
              (get_coroutine s.instances i x e));
          reached = to;
          entered = λ from to e. absurd (cc);
        };
        below = ((back _ c).0, (back _ c).1);
        instances = sound_set g s.instances i (record x { status = Status.Running }) h.instances tt;
      }

  pub enter_stays : IsBehind → (func : ℕ) (args : List Value) (result : Option ℕ)
      → IsReachedState g (enter g s func args result)
  enter_stays r func args result = record {
    top = record {
      own = λ i e. absurd (cc);
      reached = first;
      entered =
          λ from label e. absurd (not_entering (function_at g.code func).coroutine from label e);
    };
    below = (record { own = h.top.own; reached = r; entered = h.top.entered }, h.below);
    instances = h.instances;
  }

  pub go_to_stays : (label : ℕ) → BranchesTo label here → Stays g (go_to g s label)
  go_to_stays label b = on (left_windows g s label)
    where
      to : IsReached (function_of g s) (position_of (function_of g s) label) 0
      to = along label b h.top.reached

      on : (windows : List Window) → Stays g (branch_leaving g s label windows)
      on [] = moved g s (record { world = s.world; values = _ }) _ 0 h to
      on (w ∷ windows) = then_stays g (found Cause.State (own_instance s)) _ (λ ix e. ok_stays g _ Cause.State _
          (let there : slice_get s.instances ix.0 ≡ Some ix.1 =
          own_there ix.0 ix.1 (found_is Cause.State (own_instance s) ix e) in
          let k : IsReachedState g (with_status s ix.0 ix.1 Status.Running) =
          instance_stays g s ix.0 ix.1 (record ix.1 { status = Status.Running }) h there refl tt in
          state_like g (with_status s ix.0 ix.1 Status.Running)
          (enter_block g (with_left (with_status s ix.0 ix.1 Status.Running) false) label) k refl refl
          (record { own = k.top.own; reached = to; entered = k.top.entered })))

  pub begun_stays : IsBehind → (memory : List MemoryBlock) (b from : ℕ) (result : Option ℕ) (mem : Value)
      → IsReachedState g (gives (begun g (with_memory s memory) b from) result mem)
  begun_stays r memory b from result mem =
      gives_stay g (with_new_slots (own_facts g s).ramp_slots (Some (length s.instances, x)) s1 s.top.slots) result
      mem (new_slots_stay g s1 (own_facts g s).ramp_slots (Some (length s.instances, x)) s.top.slots sound there) r
    where
      x : Instance
      x = new_instance s.top.func b from

      s1 : State
      s1 = record s {
        world = record s.world { memory = memory };
        instances = s.instances ++ x ∷ [];
        top =
            record s.top { instance = Some (length s.instances); slots = [] };
      }

      there : (i : ℕ) (y : Instance) → ◌≡◌ {A = Option (ℕ × Instance)} (Some (length s.instances, x)) (Some (i, y))
          → slice_get s1.instances i ≡ Some y
      there i y e =
          let pair : ◌≡◌ {A = ℕ × Instance} (length s.instances, x) (i, y) = cc in
          subst (λ (p : ℕ × Instance). slice_get (s.instances ++ x ∷ []) p.0 ≡ Some p.1) pair (get_last s.instances x)

      more : coroutines s.instances ++ s.top.func ∷ [] ≡ coroutines (s.instances ++ x ∷ [])
      more = sym (push_coroutine s.instances x)

      sound : IsReachedState g s1
      sound = record {
        top = record {
          own = λ i e. let n : length s.instances ≡ i = cc in
              subst (λ (j : ℕ). slice_get (coroutines (s.instances ++ x ∷ [])) j ≡ Some s.top.func) n
              (get_coroutine (s.instances ++ x ∷ []) (length s.instances) x (get_last s.instances x));
          reached = h.top.reached;
          entered = h.top.entered;
        };
        below = subst (λ (cs : List ℕ). AreReachedActivations g cs s.below) more
            (activations_pushed g (coroutines s.instances) s.top.func s.below h.below);
        instances = sound_push g s.instances x h.instances tt;
      }

  pub save_stays : IsBehind → (k u : Point) (result : Option ℕ) (v : Value) → IsSuspendedAt g s.top.func u
      → Stays g (and_then (save_for s k u) (λ z. Ok (gives z result v)))
  save_stays r k u result v at = on (own_instance s) (λ i x e. (own_there i x e, own_function g s h i x e))
    where
      on : (o : Option (ℕ × Instance))
          → ((i : ℕ) (x : Instance) → o ≡ Some (i, x)
          → (slice_get s.instances i ≡ Some x) × (x.coroutine ≡ s.top.func))
          → Stays g (and_then (and_then (found Cause.State o)
          (λ p. ok_if (not p.1.freed) Cause.State
          (with_left (with_instance s p.0
          (record p.1 {
            status = Status.Suspended u s.top.values;
            last_save =
                Some (record { depth = length s.below; save = k });
          })) true)))
          (λ z. Ok (gives z result v)))
      on None is = tt
      on (Some p) is = by (not p.1.freed)
        where
          fact : (slice_get s.instances p.0 ≡ Some p.1) × (p.1.coroutine ≡ s.top.func)
          fact = is p.0 p.1 refl

          by : (b : Bool) → Stays g (and_then
              (ok_if b Cause.State (with_left
              (with_instance s p.0 (record p.1 {
                status = Status.Suspended u s.top.values;
                last_save =
                    Some (record { depth = length s.below; save = k });
              })) true)) (λ z. Ok (gives z result v)))
          by true =
              let z : IsReachedState g (with_instance s p.0
              (record p.1 {
                status = Status.Suspended u s.top.values;
                last_save =
                    Some (record { depth = length s.below; save = k });
              })) =
              instance_stays g s p.0 p.1 _ h fact.0 refl
              (subst (λ (f : ℕ). IsSuspendedAt g f u) (sym fact.1) at) in
              state_like g (with_instance s p.0
              (record p.1 {
                status = Status.Suspended u s.top.values;
                last_save =
                    Some (record { depth = length s.below; save = k });
              })) _ z refl refl
              (record { own = z.top.own; reached = r; entered = z.top.entered })
          by false = tt

  pub behind : {i : Instr} → here ≡ AtInstr i → IsBehind
  behind {i} e = after i e h.top.reached

  pub begin_at_stays : IsBehind → (result : Option ℕ) (mem : Value) (kind : Kind)
      → Stays g (and_then (begin_at g s mem kind) (λ z. Ok (gives z result mem)))
  begin_at_stays r result mem kind = by (own s.world.memory mem (own_frame g s).size kind)
    where
      last : (memory : List MemoryBlock) (o : Option ℕ)
          → Stays g (and_then (and_then (found Cause.Begin o) (λ b. Ok (begun g (with_memory s memory) b 0)))
          (λ z. Ok (gives z result mem)))
      last memory None = tt
      last memory (Some b) = begun_stays r memory b 0 result mem

      by : (o : Result (List MemoryBlock) Cause)
          → Stays g (and_then (and_then o
          (λ memory. and_then (found Cause.Begin (block_of mem))
          (λ b. Ok (begun g (with_memory s memory) b 0)))) (λ z. Ok (gives z result mem)))
      by (Err cause) = tt
      by (Ok memory) = last memory (block_of mem)

  pub begin_stays : IsBehind → (result : Option ℕ) (mem : Value) → Stays g (begin g s result mem)
  begin_stays r result mem = on (is_none s.top.instance)
    where
      on : (b : Bool) → Stays g (and_then (ok_if b Cause.Begin s)
          (λ z. and_then (begin_at g z mem Kind.Allocator) (λ z. Ok (gives z result mem))))
      on true = begin_at_stays r result mem Kind.Allocator
      on false = tt

  pub free_stays : (result : Option ℕ) (v : Value) → IsBehind → IsReachedState g (gives (release s) result v)
  free_stays result v r =
      let z : IsReachedState g (release s) =
      change_stays g s (λ x. record x { released = true }) (own_instance s) h own_there (λ x. refl) (λ x k. k) in
      let e : (release s).top ≡ s.top = change_top s (λ x. record x { released = true }) (own_instance s) in
      gives_stay g (release s) result v z
      (subst (λ (a : Activation). IsReached (function_at g.code a.func) a.block (a.at + 1)) (sym e) r)

  pub finish_stays : IsReachedState g (finish s)
  finish_stays = memory_stays g (change_own s (λ x. record x { status = Status.Finished }) (own_instance s)) _
      (change_stays g s (λ x. record x { status = Status.Finished }) (own_instance s) h own_there (λ x. refl)
      (λ x k. tt))

  pub end_stays : (result : Option ℕ) (close : State → State) → IsReachedState g (close s) → (close s).top ≡ s.top
      → IsBehind → Stays g (end_of s close result)
  end_stays result close z e r = on s.top.has_left
    where
      on : (b : Bool) → Stays g (after_end (if b then s else close s) result s.top.mode)
      on true = after_stays g s result s.top.mode h r
      on false = after_stays g (close s) result s.top.mode z
          (subst (λ (a : Activation). IsReached (function_at g.code a.func) a.block (a.at + 1)) (sym e) r)

  pub suspend_stays : (result : Option ℕ) → IsCallAt Intrinsic.CoroSuspend (function_of g s) (point_of s) → IsBehind
      → (of_save : Operand) → Stays g (suspend s result of_save)
  suspend_stays result c r Operand.None = save_stays r (point_of s) (point_of s) result _ (h.top.reached, c)
  suspend_stays result c r _ = gives_stay g s result _ h r
