-- What holds of each state of a source run.
use Rattle.run_memory.specs.declared.pointer.Pointer.{Pointer}
use Rattle.std.proofs.Common.{◌≡◌, ℕ, zero, suc, ◌+◌, Bool, true, false, List, [], ◌∷◌, ◌++◌, length, Option, Some, None, Result, Ok, Err, refl, sym, ap, ◌∙◌, subst}
use Rattle.std.specs.Prelude.{if◌then◌else◌, is_none, not, option_and_then, option_map, slice_get, slice_set, ◌&&◌}
use Rattle.pass_kept_proof.specs.SuspendRules.{AllKeepSuspendRules, IsCallAt}
use Rattle.pass_kept_proof.specs.Needed.{BranchesTo, IsReached, first, after, along}
pub use Rattle.pass_kept_proof.specs.Related.{AreSound, AreSoundInstances, IsSound, IsSoundActivation, IsSoundStatus}
pub use Rattle.pass_kept_proof.specs.Related.{IsSuspendedAt, coroutines}
use Rattle.pass_kept_proof.proofs.Actions.{SameAction, action_same}
use Rattle.pass_kept_proof.proofs.Same.{same_all}
use Rattle.pass_kept_proof.proofs.Rules.{suspend_is_suspend}
use Rattle.pass_kept_proof.proofs.Simulation.{Holds}
use Rattle.pass_kept_proof.proofs.Walks.{destroy_reached, path_reached, resume_reached}
use Rattle.run_memory.specs.Memory.{killed, own}
use Rattle.run_memory.specs.declared.block.Kind.{Kind}
use Rattle.run_memory.specs.declared.block.MemoryBlock.{MemoryBlock}
use Rattle.run_memory.specs.declared.pointer.Value.{Value}
use Rattle.ir_base.specs.declared.cause.Cause.{Cause}
use Rattle.run_source.specs.Indexes.{last_from}
use Rattle.run_source.specs.Source.{Continues, Sleeper, act, after_end, begin, begin_at, begun, branch_leaving, change_own, context_of, continue, coro, end_of, enter, enter_block, finish, frame_address, go_to, if_let_go, is_among, is_over, kill_late, left_windows, let_go, may_be_freed, new_instance, new_slot, pop, promise, release, return, returned, save_for, sleeper_at, sleeper_of, suspend, with_new_slots}
use Rattle.run_source.specs.State.{began_at, function_of, gives, instance_at, numbered, own_facts, own_frame, own_instance, point_of, settled, with_instance, with_left, with_memory, with_slots, with_status, work_of}
use Rattle.run_source.specs.declared.state.Activation.{Activation}
use Rattle.run_source.specs.declared.state.Instance.{Instance}
use Rattle.run_source.specs.declared.state.Mode.{Mode}
use Rattle.run_source.specs.declared.state.State.{State}
use Rattle.run_source.specs.declared.state.Status.{Status}
use Rattle.ir_model.specs.Names.{function_at, position_of}
use Rattle.ir_model.specs.Ty.{Ty}
use Rattle.ir_model.specs.declared.instr.Case.{Case}
use Rattle.ir_model.specs.declared.instr.Instr.{Instr}
use Rattle.ir_model.specs.declared.instr.Terminator.{Terminator}
use Rattle.ir_model.specs.declared.operand.Arg.{Arg}
use Rattle.ir_model.specs.declared.operand.Callee.{Callee}
use Rattle.ir_model.specs.declared.operand.Intrinsic.{Intrinsic}
use Rattle.ir_model.specs.declared.operand.Operand.{Operand}
use Rattle.ir_paths.specs.Windows.{operand_at, suspend_of}
use Rattle.ir_paths.specs.declared.point.Point.{Point}
use Rattle.ir_paths.specs.declared.point.Window.{Window}
use Rattle.run_step.specs.Results.{and_then, found, ok_if}
use Rattle.run_step.specs.Step.{Action, AtInstr, AtTerm, Coro, Deallocate, Done, Enter, Fetched, GoTo, NewSlot, Nowhere, Return, Stuck, Work, action_of, block_of, branch, deallocated, fetch, outcome_of, switch, term_action, without_slots}
use Rattle.run_step.specs.Values.{Env, nth}
use Rattle.run_step.specs.declared.world.Slot.{Slot}
use Rattle.run_source.specs.run_source_tables.Given.{Given}

abbrev pub Stays : Given → Result State Cause → Type 0
Stays g (Err cause) = Unit {0}
Stays g (Ok s) = IsSound g s

-- ---- lists

get_coroutine : (xs : List Instance) (i : ℕ) (x : Instance) → slice_get xs i ≡ Some x → slice_get (coroutines xs) i ≡ Some x.coroutine
get_coroutine [] i x e = absurd (cc)
get_coroutine (y ∷ xs) zero x e = let k : y ≡ x = cc in ap (λ (z : Instance). Some z.coroutine) k
get_coroutine (y ∷ xs) (suc i) x e = get_coroutine xs i x e

set_coroutine : (xs : List Instance) (i : ℕ) (x y : Instance) → slice_get xs i ≡ Some x → y.coroutine ≡ x.coroutine → coroutines (slice_set xs i y) ≡ coroutines xs
set_coroutine [] i x y e k = refl
set_coroutine (z ∷ xs) zero x y e k = let h : z ≡ x = cc in let c : y.coroutine ≡ z.coroutine = k ∙ ap (λ (u : Instance). u.coroutine) (sym h) in λ j. c j ∷ coroutines xs
set_coroutine (z ∷ xs) (suc i) x y e k = let h = set_coroutine xs i x y e k in λ j. z.coroutine ∷ h j

push_coroutine : (xs : List Instance) (y : Instance) → coroutines (xs ++ y ∷ []) ≡ coroutines xs ++ y.coroutine ∷ []
push_coroutine [] y = refl
push_coroutine (x ∷ xs) y = let h = push_coroutine xs y in λ j. x.coroutine ∷ h j

get_pushed : (cs : List ℕ) (c i f : ℕ) → slice_get cs i ≡ Some f → slice_get (cs ++ c ∷ []) i ≡ Some f
get_pushed [] c i f e = absurd (cc)
get_pushed (d ∷ cs) c zero f e = e
get_pushed (d ∷ cs) c (suc i) f e = get_pushed cs c i f e

get_last : (xs : List Instance) (y : Instance) → slice_get (xs ++ y ∷ []) (length xs) ≡ Some y
get_last [] y = refl
get_last (x ∷ xs) y = get_last xs y

sound_set : (g : Given) (xs : List Instance) (i : ℕ) (y : Instance) → AreSoundInstances g xs → IsSoundStatus g y.coroutine y.status → AreSoundInstances g (slice_set xs i y)
sound_set g [] i y h k = tt
sound_set g (x ∷ xs) zero y h k = (k, h.1)
sound_set g (x ∷ xs) (suc i) y h k = (h.0, sound_set g xs i y h.1 k)

sound_push : (g : Given) (xs : List Instance) (y : Instance) → AreSoundInstances g xs → IsSoundStatus g y.coroutine y.status → AreSoundInstances g (xs ++ y ∷ [])
sound_push g [] y h k = (k, tt)
sound_push g (x ∷ xs) y h k = (h.0, sound_push g xs y h.1 k)

sound_get : (g : Given) (xs : List Instance) (i : ℕ) (x : Instance) → AreSoundInstances g xs → slice_get xs i ≡ Some x → IsSoundStatus g x.coroutine x.status
sound_get g [] i x h e = absurd (cc)
sound_get g (y ∷ xs) zero x h e = let k : y ≡ x = cc in subst (λ (z : Instance). IsSoundStatus g z.coroutine z.status) k h.0
sound_get g (y ∷ xs) (suc i) x h e = sound_get g xs i x h.1 e

activation_pushed : (g : Given) (cs : List ℕ) (c : ℕ) (a : Activation) → IsSoundActivation g cs a → IsSoundActivation g (cs ++ c ∷ []) a
activation_pushed g cs c a h = record { own = λ i e. get_pushed cs c i a.func (h.own i e); reached = h.reached }

activations_pushed : (g : Given) (cs : List ℕ) (c : ℕ) (as' : List Activation) → AreSound g cs as' → AreSound g (cs ++ c ∷ []) as'
activations_pushed g cs c [] h = tt
activations_pushed g cs c (a ∷ as') h = (activation_pushed g cs c a h.0, activations_pushed g cs c as' h.1)

numbered_is : (xs : List Instance) (i j : ℕ) (x : Instance) → numbered xs i ≡ Some (j, x) → slice_get xs j ≡ Some x
numbered_is xs i j x e = on (slice_get xs i) refl e
  where
    on : (o : Option Instance) → slice_get xs i ≡ o → option_map {U = ℕ × Instance} (λ y. (i, y)) o ≡ Some (j, x) → slice_get xs j ≡ Some x
    on None eo k = absurd (cc)
    on (Some y) eo k =
        let pair : ◌≡◌ {A = ℕ × Instance} (i, y) (j, x) = cc in
        let ei : i ≡ j = ap (λ (p : ℕ × Instance). p.0) pair in
        let ey : y ≡ x = ap (λ (p : ℕ × Instance). p.1) pair in
        subst (λ (n : ℕ). slice_get xs n ≡ Some x) ei (eo ∙ ap Some ey)

option_is : (xs : List Instance) (o : Option ℕ) (j : ℕ) (x : Instance) → option_and_then (numbered xs) o ≡ Some (j, x) → slice_get xs j ≡ Some x
option_is xs None j x e = absurd (cc)
option_is xs (Some i) j x e = numbered_is xs i j x e

own_is : (s : State) (j : ℕ) (x : Instance) → own_instance s ≡ Some (j, x) → slice_get s.instances j ≡ Some x
own_is s j x e = option_is s.instances s.top.instance j x e

at_is : (xs : List Instance) (p : Value) (j : ℕ) (x : Instance) → instance_at xs p ≡ Some (j, x) → slice_get xs j ≡ Some x
at_is xs (Value.Ptr (Pointer.At block offset)) j x e = option_is xs (last_from (began_at block offset.bits) 0 xs) j x e
at_is xs _ j x e = absurd (cc)

-- the owner of an own instance is the topmost activation's function
own_function : (g : Given) (s : State) → IsSound g s → (j : ℕ) (x : Instance) → own_instance s ≡ Some (j, x) → x.coroutine ≡ s.top.func
own_function g s h j x e = on s.top.instance refl e
  where
    on : (o : Option ℕ) → s.top.instance ≡ o → option_and_then (numbered s.instances) o ≡ Some (j, x) → x.coroutine ≡ s.top.func
    on None eo k = absurd (cc)
    on (Some i) eo k = by (slice_get s.instances i) refl k
      where
        by : (o : Option Instance) → slice_get s.instances i ≡ o → option_map {U = ℕ × Instance} (λ y. (i, y)) o ≡ Some (j, x) → x.coroutine ≡ s.top.func
        by None em k = absurd (cc)
        by (Some y) em k =
            let pair : ◌≡◌ {A = ℕ × Instance} (i, y) (j, x) = cc in
            let ey : y ≡ x = ap (λ (p : ℕ × Instance). p.1) pair in
            let c : slice_get (coroutines s.instances) i ≡ Some y.coroutine = get_coroutine s.instances i y em in
            let d : slice_get (coroutines s.instances) i ≡ Some s.top.func = h.top.own i eo in
            let f : Some y.coroutine ≡ Some s.top.func = sym c ∙ d in
            let f' : y.coroutine ≡ s.top.func = cc in
            subst (λ (z : Instance). z.coroutine ≡ s.top.func) ey f'

pub holds_of : (g : Given) (s : State) → IsSound g s → Holds g s
holds_of g s h = record {
  own = own_function g s h;
  reached = λ i x at vs e k. subst (λ (u : Status). IsSoundStatus g x.coroutine u) k (sound_get g s.instances i x h.instances e);
}

-- ---- changes of a state

then_stays : (g : Given) {A : Type 0} (r : Result A Cause) (f : A → Result State Cause) → ((a : A) → r ≡ Ok a → Stays g (f a)) → Stays g (and_then r f)
then_stays g (Err cause) f h = tt
then_stays g (Ok a) f h = h a refl

both_stay : (g : Given) (r : Result State Cause) (f : State → Result State Cause) → Stays g r → ((s : State) → IsSound g s → Stays g (f s)) → Stays g (and_then r f)
both_stay g (Err cause) f k h = tt
both_stay g (Ok s) f k h = h s k

ok_stays : (g : Given) (b : Bool) (cause : Cause) (s : State) → IsSound g s → Stays g (ok_if b cause s)
ok_stays g true cause s h = h
ok_stays g false cause s h = tt

found_is : {A : Type 0} (cause : Cause) (o : Option A) (a : A) → found cause o ≡ Ok a → o ≡ Some a
found_is cause None a e = absurd (cc)
found_is cause (Some b) a e = cc

-- an instance that there is is changed, but not its coroutine
instance_stays : (g : Given) (s : State) (i : ℕ) (x y : Instance) → IsSound g s → slice_get s.instances i ≡ Some x → y.coroutine ≡ x.coroutine → IsSoundStatus g y.coroutine y.status → IsSound g (with_instance s i y)
instance_stays g s i x y h e k st =
    let c : coroutines (slice_set s.instances i y) ≡ coroutines s.instances = set_coroutine s.instances i x y e k in
    record {
      top = subst (λ (cs : List ℕ). IsSoundActivation g cs s.top) (sym c) h.top;
      below = subst (λ (cs : List ℕ). AreSound g cs s.below) (sym c) h.below;
      instances = sound_set g s.instances i y h.instances st;
    }

-- the topmost activation goes on elsewhere
moved : (g : Given) (s : State) (w : Work) (block at : ℕ) → IsSound g s → IsReached (function_of g s) block at → IsSound g (record s { world = w.world; top = record s.top { block = block; at = at; values = w.values } })
moved g s w block at h r = record { top = record { own = h.top.own; reached = r }; below = h.below; instances = h.instances }

-- a sound activation with other values, slots and the like
pub activation_like : (g : Given) (cs : List ℕ) (a : Activation) (values : Env) (slots : List Slot) (left : Bool) → IsSoundActivation g cs a → IsSoundActivation g cs (record a { values = values; slots = slots; has_left = left })
activation_like g cs a values slots left h = record { own = h.own; reached = h.reached }

-- a sound state whose topmost activation is like that, and whose world or outcome is another
state_like : (g : Given) (s t : State) → IsSound g s → t.instances ≡ s.instances → t.below ≡ s.below → IsSoundActivation g (coroutines s.instances) t.top → IsSound g t
state_like g s t h ei eb a = record {
  top = subst (λ (xs : List Instance). IsSoundActivation g (coroutines xs) t.top) (sym ei) a;
  below = subst (λ (xs : List Instance). AreSound g (coroutines xs) t.below) (sym ei) (subst (λ (as' : List Activation). AreSound g (coroutines s.instances) as') (sym eb) h.below);
  instances = subst (AreSoundInstances g) (sym ei) h.instances;
}

slots_stay : (g : Given) (s : State) (slots : List Slot) → IsSound g s → IsSound g (with_slots s slots)
slots_stay g s slots h = state_like g s (with_slots s slots) h refl refl (activation_like g (coroutines s.instances) s.top s.top.values slots s.top.has_left h.top)

new_slots_stay : (g : Given) (s : State) (ramp : List ℕ) (o : Option (ℕ × Instance)) (slots : List Slot) → IsSound g s → ((i : ℕ) (x : Instance) → o ≡ Some (i, x) → slice_get s.instances i ≡ Some x) → IsSound g (with_new_slots ramp o s slots)
new_slots_stay g s ramp None slots h is = slots_stay g s _ h
new_slots_stay g s ramp (Some p) slots h is =
    let e : slice_get s.instances p.0 ≡ Some p.1 = is p.0 p.1 refl in
    slots_stay g (with_instance s p.0 (record p.1 { slots = _ })) _ (instance_stays g s p.0 p.1 (record p.1 { slots = _ }) h e refl (sound_get g s.instances p.0 p.1 h.instances e))

gives_stay : (g : Given) (s : State) (result : Option ℕ) (v : Value) → IsSound g s → IsReached (function_of g s) s.top.block (s.top.at + 1) → IsSound g (gives s result v)
gives_stay g s result v h r = moved g s (record { world = s.world; values = _ }) s.top.block (s.top.at + 1) h r

change_stays : (g : Given) (s : State) (f : Instance → Instance) (o : Option (ℕ × Instance)) → IsSound g s → ((i : ℕ) (x : Instance) → o ≡ Some (i, x) → slice_get s.instances i ≡ Some x) → ((x : Instance) → (f x).coroutine ≡ x.coroutine) → ((x : Instance) → IsSoundStatus g x.coroutine x.status → IsSoundStatus g (f x).coroutine (f x).status) → IsSound g (change_own s f o)
change_stays g s f None h is c st = h
change_stays g s f (Some p) h is c st =
    let e : slice_get s.instances p.0 ≡ Some p.1 = is p.0 p.1 refl in
    instance_stays g s p.0 p.1 (f p.1) h e (c p.1) (st p.1 (sound_get g s.instances p.0 p.1 h.instances e))

change_top : (s : State) (f : Instance → Instance) (o : Option (ℕ × Instance)) → (change_own s f o).top ≡ s.top
change_top s f None = refl
change_top s f (Some p) = refl

memory_stays : (g : Given) (s : State) (memory : List MemoryBlock) → IsSound g s → IsSound g (with_memory s memory)
memory_stays g s memory h = record { top = h.top; below = h.below; instances = h.instances }

pop_stays : (g : Given) (s : State) (v : Option Value) → IsSound g s → (below : List Activation) → AreSound g (coroutines s.instances) below → Stays g (pop s v below)
pop_stays g s v h [] k = then_stays g (outcome_of v) _ (λ outcome e. record { top = h.top; below = h.below; instances = h.instances })
pop_stays g s v h (a ∷ below) k = record { top = activation_like g (coroutines s.instances) a _ a.slots a.has_left k.0; below = k.1; instances = h.instances }

return_stays : (g : Given) (s : State) (v : Option Value) → IsSound g s → Stays g (return s v)
return_stays g s v h = pop_stays g (returned s) v (slots_stay g (with_memory s (without_slots s.world.memory s.top.slots)) [] (memory_stays g s _ h)) s.below h.below

suspended_stays : (g : Given) (s : State) (p : Value) (go : Sleeper → Result State Cause) → IsSound g s → ((i : ℕ) (x : Instance) (at : Point) (vs : Env) → slice_get s.instances i ≡ Some x → IsSuspendedAt g x.coroutine at → Stays g (go (record { number = i; instance = x; suspend = at; values = vs }))) → Stays g (and_then (sleeper_at s p) go)
suspended_stays g s p go h k = on (instance_at s.instances p) (λ j x e. at_is s.instances p j x e)
  where
    by : (i : ℕ) (x : Instance) → slice_get s.instances i ≡ Some x → (st : Status) → IsSoundStatus g x.coroutine st → Stays g (and_then (sleeper_of i x st) go)
    by i x e Status.Running sound = tt
    by i x e (Status.Suspended at vs) sound = k i x at vs e sound
    by i x e Status.Finished sound = tt

    on : (o : Option (ℕ × Instance)) → ((j : ℕ) (x : Instance) → o ≡ Some (j, x) → slice_get s.instances j ≡ Some x) → Stays g (and_then (and_then (found Cause.Frame o) (λ (i, x). sleeper_of i x x.status)) go)
    on None is = tt
    on (Some z) is = let there : slice_get s.instances z.0 ≡ Some z.1 = is z.0 z.1 refl in by z.0 z.1 there z.1.status (sound_get g s.instances z.0 z.1 h.instances there)

late_instances : (s : State) (ramp : List ℕ) (o : Option (ℕ × Instance)) (slot : Slot) → (kill_late ramp o s slot).instances ≡ s.instances
late_instances s ramp None slot = refl
late_instances s ramp (Some p) slot = on (is_over p.1 && not (is_among ramp slot))
  where
    on : (b : Bool) → (if b then with_memory s (killed s.world.memory slot.block) else s).instances ≡ s.instances
    on true = refl
    on false = refl

late_stays : (g : Given) (s : State) (ramp : List ℕ) (o : Option (ℕ × Instance)) (slot : Slot) → IsSound g s → IsSound g (kill_late ramp o s slot)
late_stays g s ramp None slot h = h
late_stays g s ramp (Some p) slot h = on (is_over p.1 && not (is_among ramp slot))
  where
    on : (b : Bool) → IsSound g (if b then with_memory s (killed s.world.memory slot.block) else s)
    on true = memory_stays g s _ h
    on false = h

new_slot_stays : (g : Given) (s : State) (slot : Slot) → IsSound g s → IsSound g (new_slot g s slot)
new_slot_stays g s slot h =
    let ramp = (own_facts g s).ramp_slots in
    new_slots_stay g (kill_late ramp (own_instance s) s slot) ramp (own_instance s) (slot ∷ []) (late_stays g s ramp (own_instance s) slot h)
    (λ i x e. ap (λ (xs : List Instance). slice_get xs i) (late_instances s ramp (own_instance s) slot) ∙ own_is s i x e)

after_stays : (g : Given) (s : State) (result : Option ℕ) (mode : Mode) → IsSound g s → IsReached (function_of g s) s.top.block (s.top.at + 1) → Stays g (after_end s result mode)
after_stays g s result Mode.Resumed h r = return_stays g s None h
after_stays g s result _ h r = gives_stay g s result _ h r

let_go_stays : (g : Given) (s : State) (o : Option (ℕ × Instance)) → IsSound g s → ((i : ℕ) (x : Instance) → o ≡ Some (i, x) → slice_get s.instances i ≡ Some x) → IsSound g (if_let_go s o) × ((if_let_go s o).top ≡ s.top)
let_go_stays g s None h is = (h, refl)
let_go_stays g s (Some p) h is = on (may_be_freed p.1)
  where
    on : (b : Bool) → IsSound g (if b then let_go s p.0 p.1 else s) × ((if b then let_go s p.0 p.1 else s).top ≡ s.top)
    on true =
        let e : slice_get s.instances p.0 ≡ Some p.1 = is p.0 p.1 refl in
        (memory_stays g (with_instance s p.0 (record p.1 { freed = true })) _ (instance_stays g s p.0 p.1 (record p.1 { freed = true }) h e refl (sound_get g s.instances p.0 p.1 h.instances e)), refl)
    on false = (h, refl)

-- terminators neither finish an instruction nor call
abbrev IsOfInstr : Action → Bool
IsOfInstr (GoTo label) = false
IsOfInstr (Return v) = false
IsOfInstr (Stuck cause) = false
IsOfInstr _ = true

of_branch : (v : Value) (a b : ℕ) → IsOfInstr (branch v a b) ≡ false
of_branch (Value.Int n) a b = refl
of_branch Value.Poison a b = refl
of_branch (Value.Ptr p) a b = refl

of_switch : (g : Given) (v : Value) (a : ℕ) (cases : List Case) → IsOfInstr (switch g.code v a cases) ≡ false
of_switch g (Value.Int n) a cases = refl
of_switch g Value.Poison a cases = refl
of_switch g (Value.Ptr p) a cases = refl

of_term : (g : Given) (s : State) (t : Terminator) → IsOfInstr (term_action (context_of g s) (work_of s) t) ≡ false
of_term g s (Terminator.Jump label) = refl
of_term g s (Terminator.Branch x a b) = of_branch _ a b
of_term g s (Terminator.Switch arg a cases) = of_switch g _ a cases
of_term g s (Terminator.Ret None) = refl
of_term g s (Terminator.Ret (Some arg)) = refl
of_term g s Terminator.Unreachable = refl

module _ (g : Given) (ok : AllKeepSuspendRules g.code) (s : State) (h : IsSound g s) where
  abbrev here : Fetched
  here = fetch (function_of g s) s.top.block s.top.at

  abbrev IsBehind : Type 0
  IsBehind = IsReached (function_of g s) s.top.block (s.top.at + 1)

  own_there : (i : ℕ) (x : Instance) → own_instance s ≡ Some (i, x) → slice_get s.instances i ≡ Some x
  own_there i x e = own_is s i x e

  pub continue_stays : IsBehind → (i : ℕ) (x : Instance) (at : Point) (vs : Env) (label : ℕ) → slice_get s.instances i ≡ Some x → IsReached (function_at g.code x.coroutine) (position_of (function_at g.code x.coroutine) label) 0 → IsSound g (continue g s i x at vs label)
  continue_stays r i x at vs label e to =
      let c : coroutines (slice_set s.instances i (record x { status = Status.Running })) ≡ coroutines s.instances = set_coroutine s.instances i x (record x { status = Status.Running }) e refl in
      let back : (cs : List ℕ) → cs ≡ coroutines s.instances → IsSoundActivation g cs (record s.top { at = s.top.at + 1 }) × AreSound g cs s.below = λ cs ec. subst (λ (ds : List ℕ). IsSoundActivation g ds (record s.top { at = s.top.at + 1 }) × AreSound g ds s.below) (sym ec) (record { own = h.top.own; reached = r }, h.below) in
      record {
        top = record {
          own = λ j ej. let k : i ≡ j = cc in subst (λ (n : ℕ). slice_get (coroutines (slice_set s.instances i (record x { status = Status.Running }))) n ≡ Some x.coroutine) k (subst (λ (cs : List ℕ). slice_get cs i ≡ Some x.coroutine) (sym c) (get_coroutine s.instances i x e));
          reached = to;
        };
        below = ((back _ c).0, (back _ c).1);
        instances = sound_set g s.instances i (record x { status = Status.Running }) h.instances tt;
      }

  enter_stays : IsBehind → (func : ℕ) (args : List Value) (result : Option ℕ) → IsSound g (enter g s func args result)
  enter_stays r func args result = record {
    top = record { own = λ i e. absurd (cc); reached = first };
    below = (record { own = h.top.own; reached = r }, h.below);
    instances = h.instances;
  }

  go_to_stays : (label : ℕ) → BranchesTo label here → Stays g (go_to g s label)
  go_to_stays label b = on (left_windows g s label)
    where
      to : IsReached (function_of g s) (position_of (function_of g s) label) 0
      to = along label b h.top.reached

      on : (windows : List Window) → Stays g (branch_leaving g s label windows)
      on [] = moved g s (record { world = s.world; values = _ }) _ 0 h to
      on (w ∷ windows) = then_stays g (found Cause.State (own_instance s)) _ (λ ix e. ok_stays g _ Cause.State _
          (let there : slice_get s.instances ix.0 ≡ Some ix.1 = own_there ix.0 ix.1 (found_is Cause.State (own_instance s) ix e) in
          let k : IsSound g (with_status s ix.0 ix.1 Status.Running) = instance_stays g s ix.0 ix.1 (record ix.1 { status = Status.Running }) h there refl tt in
          state_like g (with_status s ix.0 ix.1 Status.Running) (enter_block g (with_left (with_status s ix.0 ix.1 Status.Running) false) label) k refl refl (record { own = k.top.own; reached = to })))

  begun_stays : IsBehind → (memory : List MemoryBlock) (b : ℕ) (result : Option ℕ) (mem : Value) → IsSound g (gives (begun g (with_memory s memory) b 0) result mem)
  begun_stays r memory b result mem = gives_stay g (with_new_slots (own_facts g s).ramp_slots (Some (length s.instances, x)) s1 s.top.slots) result mem (new_slots_stay g s1 (own_facts g s).ramp_slots (Some (length s.instances, x)) s.top.slots sound there) r
    where
      x : Instance
      x = new_instance s.top.func b 0

      s1 : State
      s1 = record s { world = record s.world { memory = memory }; instances = s.instances ++ x ∷ []; top = record s.top { instance = Some (length s.instances); slots = [] } }

      there : (i : ℕ) (y : Instance) → ◌≡◌ {A = Option (ℕ × Instance)} (Some (length s.instances, x)) (Some (i, y)) → slice_get s1.instances i ≡ Some y
      there i y e =
          let pair : ◌≡◌ {A = ℕ × Instance} (length s.instances, x) (i, y) = cc in
          subst (λ (p : ℕ × Instance). slice_get (s.instances ++ x ∷ []) p.0 ≡ Some p.1) pair (get_last s.instances x)

      more : coroutines s.instances ++ s.top.func ∷ [] ≡ coroutines (s.instances ++ x ∷ [])
      more = sym (push_coroutine s.instances x)

      sound : IsSound g s1
      sound = record {
        top = record {
          own = λ i e. let n : length s.instances ≡ i = cc in subst (λ (j : ℕ). slice_get (coroutines (s.instances ++ x ∷ [])) j ≡ Some s.top.func) n (get_coroutine (s.instances ++ x ∷ []) (length s.instances) x (get_last s.instances x));
          reached = h.top.reached;
        };
        below = subst (λ (cs : List ℕ). AreSound g cs s.below) more (activations_pushed g (coroutines s.instances) s.top.func s.below h.below);
        instances = sound_push g s.instances x h.instances tt;
      }

  save_stays : IsBehind → (k u : Point) (result : Option ℕ) (v : Value) → IsSuspendedAt g s.top.func u → Stays g (and_then (save_for s k u) (λ z. Ok (gives z result v)))
  save_stays r k u result v at = on (own_instance s) (λ i x e. (own_there i x e, own_function g s h i x e))
    where
      on : (o : Option (ℕ × Instance)) → ((i : ℕ) (x : Instance) → o ≡ Some (i, x) → (slice_get s.instances i ≡ Some x) × (x.coroutine ≡ s.top.func)) → Stays g (and_then (and_then (found Cause.State o) (λ p. ok_if (not p.1.freed) Cause.State (with_left (with_instance s p.0 (record p.1 { status = Status.Suspended u s.top.values; last_save = Some (record { depth = length s.below; save = k }) })) true))) (λ z. Ok (gives z result v)))
      on None is = tt
      on (Some p) is = by (not p.1.freed)
        where
          fact : (slice_get s.instances p.0 ≡ Some p.1) × (p.1.coroutine ≡ s.top.func)
          fact = is p.0 p.1 refl

          by : (b : Bool) → Stays g (and_then (ok_if b Cause.State (with_left (with_instance s p.0 (record p.1 { status = Status.Suspended u s.top.values; last_save = Some (record { depth = length s.below; save = k }) })) true)) (λ z. Ok (gives z result v)))
          by true =
              let z : IsSound g (with_instance s p.0 (record p.1 { status = Status.Suspended u s.top.values; last_save = Some (record { depth = length s.below; save = k }) })) = instance_stays g s p.0 p.1 _ h fact.0 refl (subst (λ (f : ℕ). IsSuspendedAt g f u) (sym fact.1) at) in
              state_like g (with_instance s p.0 (record p.1 { status = Status.Suspended u s.top.values; last_save = Some (record { depth = length s.below; save = k }) })) _ z refl refl (record { own = z.top.own; reached = r })
          by false = tt

  behind : {i : Instr} → here ≡ AtInstr i → IsBehind
  behind {i} e = after i e h.top.reached

  begin_stays : IsBehind → (result : Option ℕ) (mem : Value) → Stays g (begin g s result mem)
  begin_stays r result mem = on (is_none s.top.instance)
    where
      inner : Stays g (and_then (begin_at g s mem Kind.Allocator) (λ z. Ok (gives z result mem)))
      inner = by (own s.world.memory mem (own_frame g s).size Kind.Allocator)
        where
          last : (memory : List MemoryBlock) (o : Option ℕ) → Stays g (and_then (and_then (found Cause.Begin o) (λ b. Ok (begun g (with_memory s memory) b 0))) (λ z. Ok (gives z result mem)))
          last memory None = tt
          last memory (Some b) = begun_stays r memory b result mem

          by : (o : Result (List MemoryBlock) Cause) → Stays g (and_then (and_then o (λ memory. and_then (found Cause.Begin (block_of mem)) (λ b. Ok (begun g (with_memory s memory) b 0)))) (λ z. Ok (gives z result mem)))
          by (Err cause) = tt
          by (Ok memory) = last memory (block_of mem)

      on : (b : Bool) → Stays g (and_then (ok_if b Cause.Begin s) (λ z. and_then (begin_at g z mem Kind.Allocator) (λ z. Ok (gives z result mem))))
      on true = inner
      on false = tt

  free_stays : (result : Option ℕ) → IsBehind → IsSound g (gives (release s) result (frame_address (own_instance s)))
  free_stays result r =
      let z : IsSound g (release s) = change_stays g s (λ x. record x { released = true }) (own_instance s) h own_there (λ x. refl) (λ x k. k) in
      let e : (release s).top ≡ s.top = change_top s (λ x. record x { released = true }) (own_instance s) in
      gives_stay g (release s) result _ z (subst (λ (a : Activation). IsReached (function_at g.code a.func) a.block (a.at + 1)) (sym e) r)

  end_stays : (result : Option ℕ) → IsBehind → Stays g (end_of s finish result)
  end_stays result r = on s.top.has_left
    where
      z : IsSound g (finish s)
      z = memory_stays g (change_own s (λ x. record x { status = Status.Finished }) (own_instance s)) _ (change_stays g s (λ x. record x { status = Status.Finished }) (own_instance s) h own_there (λ x. refl) (λ x k. tt))

      e : (finish s).top ≡ s.top
      e = change_top s (λ x. record x { status = Status.Finished }) (own_instance s)

      on : (b : Bool) → Stays g (after_end (if b then s else finish s) result s.top.mode)
      on true = after_stays g s result s.top.mode h r
      on false = after_stays g (finish s) result s.top.mode z (subst (λ (a : Activation). IsReached (function_at g.code a.func) a.block (a.at + 1)) (sym e) r)

  suspend_stays : (result : Option ℕ) → IsCallAt Intrinsic.CoroSuspend (function_of g s) (point_of s) → IsBehind → (of_save : Operand) → Stays g (suspend s result of_save)
  suspend_stays result c r Operand.None = save_stays r (point_of s) (point_of s) result _ (h.top.reached, c)
  suspend_stays result c r _ = gives_stay g s result _ h r

  -- however a resume goes on, so long as it does so in a sound state
  module _ (go : Continues) (go_stays : IsBehind → (i : ℕ) (x : Instance) (at : Point) (vs : Env) (label : ℕ) → slice_get s.instances i ≡ Some x → IsReached (function_at g.code x.coroutine) (position_of (function_at g.code x.coroutine) label) 0 → IsSound g (go s i x at vs label)) where
    coro_stays : (i : Intrinsic) (result : Option ℕ) (must_tail : Bool) (ty : Option Ty) (args : List Arg) (vs : List Value) → here ≡ AtInstr (Instr.Call result must_tail ty (Callee.Intrinsic i) args) → Stays g (coro g go s i args vs result)
    coro_stays Intrinsic.CoroId result must_tail ty args vs e = gives_stay g s None Value.Poison h (behind e)
    coro_stays Intrinsic.CoroSizeI32 result must_tail ty args vs e = gives_stay g s result _ h (behind e)
    coro_stays Intrinsic.CoroSizeI64 result must_tail ty args vs e = gives_stay g s result _ h (behind e)
    coro_stays Intrinsic.CoroAlignI32 result must_tail ty args vs e = gives_stay g s result _ h (behind e)
    coro_stays Intrinsic.CoroAlignI64 result must_tail ty args vs e = gives_stay g s result _ h (behind e)
    coro_stays Intrinsic.CoroAlloc result must_tail ty args vs e = gives_stay g s result _ h (behind e)
    coro_stays Intrinsic.CoroFrame result must_tail ty args vs e = gives_stay g s result _ h (behind e)
    coro_stays Intrinsic.LifetimeStart result must_tail ty args vs e = gives_stay g s None Value.Poison h (behind e)
    coro_stays Intrinsic.LifetimeEnd result must_tail ty args vs e = gives_stay g s None Value.Poison h (behind e)
    coro_stays Intrinsic.MemcpyI64 result must_tail ty args vs e = gives_stay g s None Value.Poison h (behind e)
    coro_stays Intrinsic.MemcpyI32 result must_tail ty args vs e = gives_stay g s None Value.Poison h (behind e)
    coro_stays Intrinsic.CoroBegin result must_tail ty args vs e = begin_stays (behind e) result (nth vs 1)
    coro_stays Intrinsic.CoroFree result must_tail ty args vs e = free_stays result (behind e)
    coro_stays Intrinsic.CoroSave result must_tail ty args vs e =
        let c : IsCallAt Intrinsic.CoroSave (function_of g s) (point_of s) = record { instr = _; stands = e; is = refl } in
        then_stays g (found Cause.State (suspend_of (function_of g s) (point_of s))) _ (λ u eu.
        let is : suspend_of (function_of g s) (point_of s) ≡ Some u = found_is Cause.State (suspend_of (function_of g s) (point_of s)) u eu in
        let l = (ok s.top.func).leads (point_of s) u c is in
        save_stays (behind e) (point_of s) u None Value.Poison (path_reached (function_of g s) [] (point_of s) l.between u l.is_path h.top.reached, suspend_is_suspend (function_of g s) (point_of s) u is))
    coro_stays Intrinsic.CoroSuspend result must_tail ty args vs e = suspend_stays result (record { instr = _; stands = e; is = refl }) (behind e) (operand_at args 0)
    coro_stays Intrinsic.CoroEnd result must_tail ty args vs e = end_stays result (behind e)
    coro_stays Intrinsic.CoroResume result must_tail ty args vs e =
        suspended_stays g s (nth vs 0) _ h (λ i x at us there at_suspend. ok_stays g _ Cause.State _
        (go_stays (behind e) i x at us _ there (resume_reached (function_at g.code x.coroutine) at at_suspend.1 ((ok x.coroutine).switched at at_suspend.1) at_suspend.0)))
    coro_stays Intrinsic.CoroDestroy result must_tail ty args vs e =
        suspended_stays g s (nth vs 0) _ h (λ i x at us there at_suspend.
        go_stays (behind e) i x at us _ there (destroy_reached (function_at g.code x.coroutine) at at_suspend.1 ((ok x.coroutine).switched at at_suspend.1) at_suspend.0))
    coro_stays Intrinsic.CoroDone result must_tail ty args vs e = suspended_stays g s (nth vs 0) _ h (λ i x at us there at_suspend. ok_stays g _ Cause.State _ (gives_stay g s result _ h (behind e)))
    coro_stays Intrinsic.CoroPromise result must_tail ty args vs e = then_stays g (promise g s (nth vs 0) (operand_at args 2)) _ (λ v ev. gives_stay g s result v h (behind e))

    act_stays : (a : Action) → SameAction g.code (λ v. Unit {0}) here s.top.values s.top.values a a → (IsOfInstr a ≡ true → (i : Instr) × (here ≡ AtInstr i)) → Stays g (act g go s a)
    act_stays (Stuck cause) k is = tt
    act_stays (Done w) k is = moved g s w s.top.block (s.top.at + 1) h (after (is refl).0 (is refl).1 h.top.reached)
    act_stays (NewSlot w slot) k is = new_slot_stays g (settled s w) slot (moved g s w s.top.block (s.top.at + 1) h (after (is refl).0 (is refl).1 h.top.reached))
    act_stays (Enter func args result must_tail) k is = enter_stays (after (is refl).0 (is refl).1 h.top.reached) func args result
    act_stays (Coro i args result) k is = coro_stays i result k.1.0 k.1.1 args _ k.1.2
    act_stays (Deallocate p) k is =
        let r : IsBehind = after (is refl).0 (is refl).1 h.top.reached in
        let z = let_go_stays g s (instance_at s.instances p) h (λ i x e. at_is s.instances p i x e) in
        then_stays g (deallocated (if_let_go s (instance_at s.instances p)).world.memory p) _ (λ memory e. moved g (if_let_go s (instance_at s.instances p)) (record { world = _; values = _ }) _ _ z.0 (subst (λ (a : Activation). IsReached (function_at g.code a.func) a.block (a.at + 1)) (sym z.1) r))
    act_stays (GoTo label) k is = go_to_stays label k.1
    act_stays (Return v) k is = return_stays g s v h

    pub step_stays : Stays g (act g go s (action_of (context_of g s) (work_of s) here))
    step_stays = act_stays _ (action_same (context_of g s) s.world s.top.values s.top.values (λ v. Unit {0}) (λ v. Unit {0}) (same_all _ s.top.values) here (λ v t. tt) (λ v n p. tt)) (on here refl)
      where
        on : (x : Fetched) → here ≡ x → IsOfInstr (action_of (context_of g s) (work_of s) x) ≡ true → (i : Instr) × (here ≡ AtInstr i)
        on Nowhere e k = absurd (cc)
        on (AtInstr i) e k = (i, e)
        on (AtTerm t) e k = let no_instr : IsOfInstr (term_action (context_of g s) (work_of s) t) ≡ false = of_term g s t in absurd (cc)

pub source_stays : (g : Given) → AllKeepSuspendRules g.code → (s : State) → IsSound g s → Stays g (act g (continue g) s (action_of (context_of g s) (work_of s) (fetch (function_of g s) s.top.block s.top.at)))
source_stays g ok s h = step_stays g ok s h (continue g) (continue_stays g ok s h)
