-- What a step does with the stack of activations.
use Rattle.std.proofs.Common.{◌≡◌, ◌∙◌, ℕ, Bool, true, false, List, [], ◌∷◌, None, Ok, Option, Result, Some, if◌then◌else◌, refl, subst, sym, ◌&&◌, ◌==◌}
use Rattle.pass_elide_proof.proofs.StepCases.{then_ok}
use Rattle.pass_elide_proof.specs.StepCases.{ended}
use Rattle.pass_elide_proof.specs.pass_proofs.ir_base.declared.cause.Cause.{Cause}
use Rattle.pass_elide_proof.specs.pass_proofs.ir_base.declared.outcome.Outcome.{Outcome}
use Rattle.pass_elide_proof.specs.pass_proofs.ir_model.Names.{function_at}
use Rattle.pass_elide_proof.specs.pass_proofs.ir_paths.declared.point.Point.{Point}
use Rattle.pass_elide_proof.specs.pass_proofs.run_agreement.Machines.{IsReturned}
use Rattle.pass_elide_proof.specs.pass_proofs.run_framed.Framed.{FramedGiven, alloca_from, continue_framed, disown_given, enter_after, framed_finish, framed_slot, is_stack_block, reentry_values}
use Rattle.pass_elide_proof.specs.pass_proofs.run_memory.Memory.{disown}
use Rattle.pass_elide_proof.specs.pass_proofs.run_memory.declared.pointer.Value.{Value}
use Rattle.pass_elide_proof.specs.pass_proofs.run_source.Source.{change_own, finish, given_back, if_let_go, let_go, may_be_freed, pop, push, resumed, return, returned}
use Rattle.pass_elide_proof.specs.pass_proofs.run_source.State.{frame_address_of, own_instance, with_memory, with_slots, with_status}
use Rattle.pass_elide_proof.specs.pass_proofs.run_source.declared.state.Activation.{Activation}
use Rattle.pass_elide_proof.specs.pass_proofs.run_source.declared.state.Instance.{Instance}
use Rattle.pass_elide_proof.specs.pass_proofs.run_source.declared.state.Mode.{Mode}
use Rattle.pass_elide_proof.specs.pass_proofs.run_source.declared.state.State.{State}
use Rattle.pass_elide_proof.specs.pass_proofs.run_source.declared.state.Status.{Status}
use Rattle.pass_elide_proof.specs.pass_proofs.run_step.Step.{outcome_of}
use Rattle.pass_elide_proof.specs.pass_proofs.run_step.Values.{Env}
use Rattle.pass_elide_proof.specs.pass_proofs.run_step.declared.world.Slot.{Slot}

-- ---- returns

-- back in the activation below
pub record IsBack (s : State) (v : Option Value) (u : State) : Type 0 where
  pub caller : Activation
  pub rest : List Activation
  pub below : s.below ≡ caller ∷ rest
  pub is : u ≡ record (returned s) { top = given_back caller s.top.result v; below = rest }

-- the run is over
pub record IsOver (s : State) (u : State) : Type 0 where
  pub none : s.below ≡ []
  pub outcome : Outcome
  pub ends : IsReturned outcome
  pub is : u ≡ record (returned s) { outcome = outcome }

pub data Comes (s : State) (v : Option Value) (u : State) : Type 0 where
  Back : IsBack s v u → Comes s v u
  Ends : IsOver s u → Comes s v u

same_outcome : (x y : Outcome) → ◌≡◌ {A = Result Outcome Cause} (Ok x) (Ok y) → x ≡ y
same_outcome x y h = cc

ok_same : (x y : State) → ◌≡◌ {A = Result State Cause} (Ok x) (Ok y) → x ≡ y
ok_same x y h = cc

outcome_returned : (v : Option Value) (o : Outcome) → outcome_of v ≡ Ok o → IsReturned o
outcome_returned None o h = subst IsReturned (same_outcome (Outcome.Returned None) o h) tt
outcome_returned (Some (Value.Int x)) o h = subst IsReturned (same_outcome (Outcome.Returned (Some x)) o h) tt
outcome_returned (Some Value.Poison) o h = absurd (cc)
outcome_returned (Some (Value.Ptr p)) o h = absurd (cc)

pub comes : (s : State) (v : Option Value) (u : State) → return s v ≡ Ok u → Comes s v u
comes s v u h = on s.below refl h
  where
    on : (bs : List Activation) → s.below ≡ bs → pop (returned s) v bs ≡ Ok u → Comes s v u
    on [] is h =
        let k = then_ok (outcome_of v) _ u h in
        Comes.Ends (record { none = is; outcome = k.0; ends = outcome_returned v k.0 k.1; is = sym (ok_same _ u k.2) })
    on (a ∷ bs) is h = Comes.Back (record { caller = a; rest = bs; below = is; is = sym (ok_same _ u h) })

-- ---- parts of a step that leave the stack

pub record SameStack (s t : State) : Type 0 where
  pub top : t.top ≡ s.top
  pub below : t.below ≡ s.below

same_stack : (s : State) → SameStack s s
same_stack s = record { top = refl; below = refl }

pub changed_stack : (s : State) (f : Instance → Instance) (o : Option (ℕ × Instance)) → SameStack s (change_own s f o)
changed_stack s f None = same_stack s
changed_stack s f (Some (i, x)) = record { top = refl; below = refl }

disowned_stack : (s : State) (o : Option (ℕ × Instance)) → SameStack s (disown_given s o)
disowned_stack s None = same_stack s
disowned_stack s (Some (i, x)) = on (is_stack_block s.world.memory x.block && (x.start == 0))
  where
    on : (t : Bool) → SameStack s (if t then with_memory s (disown s.world.memory x.block) else s)
    on true = record { top = refl; below = refl }
    on false = same_stack s

pub gone_stack : (s : State) (o : Option (ℕ × Instance)) → SameStack s (if_let_go s o)
gone_stack s None = same_stack s
gone_stack s (Some (i, x)) = on (may_be_freed x)
  where
    on : (t : Bool) → SameStack s (if t then let_go s i x else s)
    on true = record { top = refl; below = refl }
    on false = same_stack s

finished_stack : (s : State) → SameStack s (framed_finish s)
finished_stack s =
    let one = changed_stack s (λ x. record x { status = Status.Finished }) (own_instance s) in
    let two = disowned_stack (finish s) (own_instance s) in
    record { top = two.top ∙ one.top; below = two.below ∙ one.below }

pub ended_stack : (s : State) → SameStack s (ended s)
ended_stack s = on s.top.has_left
  where
    on : (t : Bool) → SameStack s (if t then s else framed_finish s)
    on true = same_stack s
    on false = finished_stack s

-- ---- activations that go on behind a suspend

-- the same function, result and instance, above the same
pub record StaysOn (s t : State) : Type 0 where
  pub func : t.top.func ≡ s.top.func
  pub result : t.top.result ≡ s.top.result
  pub instance : t.top.instance ≡ s.top.instance
  pub left : t.top.has_left ≡ s.top.has_left
  pub slots : t.top.slots ≡ s.top.slots
  pub below : t.below ≡ s.below
  pub instances : t.instances ≡ s.instances

pub entered_on : (g : FramedGiven) (s : State) (from label : ℕ) (o : Option Point)
    → StaysOn s (enter_after g s from label o)
entered_on g s from label None =
    record { func = refl; result = refl; instance = refl; left = refl; slots = refl; below = refl; instances = refl }
entered_on g s from label (Some p) =
    record { func = refl; result = refl; instance = refl; left = refl; slots = refl; below = refl; instances = refl }

-- the state in which an instance is woken, before its activation goes on
abbrev pub woken_at : FramedGiven → State → ℕ → Instance → Point → State
woken_at g s i x p =
    push (with_status s i x Status.Running)
    (resumed i x p (reentry_values (function_at g.given.code x.coroutine) (frame_address_of x)))

pub woken_on : (g : FramedGiven) (s : State) (i : ℕ) (x : Instance) (p : Point) (values : Env) (label : ℕ)
    → StaysOn (woken_at g s i x p) (continue_framed g s i x p values label)
woken_on g s i x p values label =
    entered_on g (woken_at g s i x p) p.block label (alloca_from (function_at g.given.code x.coroutine) 0)

pub slotted_on : (g : FramedGiven) (s : State) (slot : Slot) (mode : Mode)
    → StaysOn (with_slots s (slot ∷ s.top.slots)) (framed_slot g s slot mode)
slotted_on g s slot Mode.Plain =
    record { func = refl; result = refl; instance = refl; left = refl; slots = refl; below = refl; instances = refl }
slotted_on g s slot Mode.Ramp =
    record { func = refl; result = refl; instance = refl; left = refl; slots = refl; below = refl; instances = refl }
slotted_on g s slot Mode.Resumed =
    record { func = refl; result = refl; instance = refl; left = refl; slots = refl; below = refl; instances = refl }
slotted_on g s slot (Mode.GivenRamp frame) =
    record { func = refl; result = refl; instance = refl; left = refl; slots = refl; below = refl; instances = refl }
slotted_on g s slot (Mode.Entering from label) =
    entered_on g (with_slots s (slot ∷ s.top.slots)) from label _
