-- How a step of a run moves activations: the topmost one stays in its block or takes an edge, another one is put on
-- top of it, or it returns.
use Rattle.std.proofs.Common.{◌≡◌, ◌∙◌, ℕ, Bool, true, false, List, [], ◌∷◌, length, Err, None, Ok, Option, Result, Some, ap, if◌then◌else◌, refl, sym, ◌&&◌, ◌==◌, ◌+◌}
use Rattle.pass_elide_edges.proofs.Bare.{over}
use Rattle.pass_elide_proof.proofs.ReleasingActs.{goto_there}
use Rattle.pass_elide_proof.proofs.StepCases.{leads_to, then_ok}
use Rattle.pass_elide_proof.specs.Match.{is_given_mode}
use Rattle.pass_elide_proof.specs.StepCases.{ActsBy, LeadsTo, ended}
use Rattle.pass_elide_proof.specs.pass_proofs.ir_base.declared.cause.Cause.{Cause}
use Rattle.pass_elide_proof.specs.pass_proofs.ir_base.declared.outcome.Outcome.{Outcome}
use Rattle.pass_elide_proof.specs.pass_proofs.ir_model.Names.{function_at, position_of}
use Rattle.pass_elide_proof.specs.pass_proofs.ir_model.declared.instr.Terminator.{Terminator}
use Rattle.pass_elide_proof.specs.pass_proofs.ir_paths.declared.point.Point.{Point}
use Rattle.pass_elide_proof.specs.pass_proofs.run_agreement.Machines.{IsFine}
use Rattle.pass_elide_proof.specs.pass_proofs.run_framed.Framed.{FramedGiven, alloca_from, disown_given, enter_after, framed_context, framed_finish, framed_slot, framed_step, is_stack_block, reentry_values}
use Rattle.pass_elide_proof.specs.pass_proofs.run_memory.Memory.{disown}
use Rattle.pass_elide_proof.specs.pass_proofs.run_memory.declared.pointer.Value.{Value}
use Rattle.pass_elide_proof.specs.pass_proofs.run_source.Source.{change_own, finish, if_let_go, let_go, may_be_freed, pop, push, release, resumed, return, returned}
use Rattle.pass_elide_proof.specs.pass_proofs.run_source.State.{frame_address_of, function_of, instance_at, own_instance, settled, with_memory, with_slots, with_status, work_of}
use Rattle.pass_elide_proof.specs.pass_proofs.run_source.declared.state.Activation.{Activation}
use Rattle.pass_elide_proof.specs.pass_proofs.run_source.declared.state.Instance.{Instance}
use Rattle.pass_elide_proof.specs.pass_proofs.run_source.declared.state.Mode.{Mode}
use Rattle.pass_elide_proof.specs.pass_proofs.run_source.declared.state.State.{State}
use Rattle.pass_elide_proof.specs.pass_proofs.run_source.declared.state.Status.{Status}
use Rattle.pass_elide_proof.specs.pass_proofs.run_step.Step.{AtTerm, Fetched, GoTo, action_of, fetch, outcome_of, term_action}
use Rattle.pass_elide_proof.specs.pass_proofs.run_step.declared.world.Slot.{Slot}

-- ---- where an activation is behind a step

-- it is the same activation, in the same block
pub record IsThere (a b : Activation) : Type 0 where
  pub func : b.func ≡ a.func
  pub block : b.block ≡ a.block
  pub mode : b.mode ≡ a.mode
  pub instance : b.instance ≡ a.instance

-- over an edge to a label
pub record TookEdge (g : FramedGiven) (s u : State) : Type 0 where
  pub label : ℕ
  pub term : Terminator
  pub there : fetch (function_of g.given s) s.top.block s.top.at ≡ AtTerm term
  pub goes : term_action (framed_context g s) (work_of s) term ≡ GoTo label
  pub func : u.top.func ≡ s.top.func
  pub block : u.top.block ≡ position_of (function_of g.given s) label
  pub mode : u.top.mode ≡ s.top.mode
  pub instance : u.top.instance ≡ s.top.instance

-- its instance has begun
pub record HasBegun (s u : State) : Type 0 where
  pub func : u.top.func ≡ s.top.func
  pub block : u.top.block ≡ s.top.block
  pub mode : u.top.mode ≡ s.top.mode
  pub instance : u.top.instance ≡ Some (length s.instances)

-- it executes its allocas again, and goes on to a next one or to its label
pub record MadeAgain (g : FramedGiven) (s u : State) : Type 0 where
  pub from : ℕ
  pub label : ℕ
  pub mode : s.top.mode ≡ Mode.Entering from label
  pub func : u.top.func ≡ s.top.func
  pub plain : is_given_mode u.top.mode ≡ false
  pub instance : u.top.instance ≡ s.top.instance

-- what is below stays
pub data HasGone (g : FramedGiven) (s u : State) : Type 0 where
  Stays : IsThere s.top u.top → HasGone g s u
  Begins : HasBegun s u → HasGone g s u
  Edge : TookEdge g s u → HasGone g s u
  Again : MadeAgain g s u → HasGone g s u

-- another one is on top
pub record IsOnTop (s u : State) : Type 0 where
  pub at : ℕ
  pub below : u.below ≡ record s.top { at = at } ∷ s.below

pub record HasReturned (s u : State) : Type 0 where
  pub caller : Activation
  pub rest : List Activation
  pub was : s.below ≡ caller ∷ rest
  pub below : u.below ≡ rest
  pub top : IsThere caller u.top

pub data HasMoved (g : FramedGiven) (s u : State) : Type 0 where
  Goes : u.below ≡ s.below → HasGone g s u → HasMoved g s u
  Calls : IsOnTop s u → u.top.block ≡ 0 → u.top.instance ≡ None → HasMoved g s u
  Wakes : (number : ℕ) → IsOnTop s u → u.top.instance ≡ Some number → HasMoved g s u
  Back : HasReturned s u → HasMoved g s u

-- ---- what stays on top

pub there_itself : (a : Activation) → IsThere a a
there_itself a = record { func = refl; block = refl; mode = refl; instance = refl }

there_by : (a b : Activation) → b ≡ a → IsThere a b
there_by a b is = record {
  func = ap (λ (c : Activation). c.func) is;
  block = ap (λ (c : Activation). c.block) is;
  mode = ap (λ (c : Activation). c.mode) is;
  instance = ap (λ (c : Activation). c.instance) is;
}

changed_top : (s : State) (f : Instance → Instance) (o : Option (ℕ × Instance)) → (change_own s f o).top ≡ s.top
changed_top s f None = refl
changed_top s f (Some (i, x)) = refl

changed_below : (s : State) (f : Instance → Instance) (o : Option (ℕ × Instance)) → (change_own s f o).below ≡ s.below
changed_below s f None = refl
changed_below s f (Some (i, x)) = refl

disowned_top : (s : State) (o : Option (ℕ × Instance)) → (disown_given s o).top ≡ s.top
disowned_top s None = refl
disowned_top s (Some (i, x)) = on (is_stack_block s.world.memory x.block && (x.start == 0))
  where
    on : (t : Bool) → (if t then with_memory s (disown s.world.memory x.block) else s).top ≡ s.top
    on true = refl
    on false = refl

over_top : (s : State) → (ended s).top ≡ s.top
over_top s = on s.top.has_left
  where
    on : (t : Bool) → (if t then s else framed_finish s).top ≡ s.top
    on true = refl
    on false =
        disowned_top (finish s) (own_instance s)
        ∙ changed_top s (λ x. record x { status = Status.Finished }) (own_instance s)

let_go_top : (s : State) (o : Option (ℕ × Instance))
    → ((if_let_go s o).top ≡ s.top) × ((if_let_go s o).below ≡ s.below)
let_go_top s None = (refl, refl)
let_go_top s (Some (i, x)) = on (may_be_freed x)
  where
    on : (t : Bool)
        → ((if t then let_go s i x else s).top ≡ s.top) × ((if t then let_go s i x else s).below ≡ s.below)
    on true = (refl, refl)
    on false = (refl, refl)

-- ---- by cases

abbrev state_in : State → Result State Cause → State
state_in d (Ok w) = w
state_in d (Err cause) = d

module _ (g : FramedGiven) where
  popped : (s w : State) (v : Option Value) (bs : List Activation) (u : State) → w.top.func ≡ s.top.func
      → w.top.block ≡ s.top.block → w.top.mode ≡ s.top.mode → w.top.instance ≡ s.top.instance → s.below ≡ bs
      → w.below ≡ s.below → pop w v bs ≡ Ok u → HasMoved g s u
  popped s w v [] u func block mode instance was same e =
      let k = then_ok (outcome_of v) _ u e in
      let is : record w { outcome = k.0 } ≡ u = ap (state_in s) k.2 in
      HasMoved.Goes (ap (λ (z : State). z.below) (sym is) ∙ same)
      (HasGone.Stays (record {
        func = ap (λ (z : State). z.top.func) (sym is) ∙ func;
        block = ap (λ (z : State). z.top.block) (sym is) ∙ block;
        mode = ap (λ (z : State). z.top.mode) (sym is) ∙ mode;
        instance = ap (λ (z : State). z.top.instance) (sym is) ∙ instance;
      }))
  popped s w v (a ∷ bs) u func block mode instance was same e =
      let is = sym (ap (state_in s) e) in
      HasMoved.Back (record {
        caller = a;
        rest = bs;
        was = was;
        below = ap (λ (z : State). z.below) is;
        top = record {
          func = ap (λ (z : State). z.top.func) is;
          block = ap (λ (z : State). z.top.block) is;
          mode = ap (λ (z : State). z.top.mode) is;
          instance = ap (λ (z : State). z.top.instance) is;
        };
      })

  returns : (s : State) (v : Option Value) (u : State) → return s v ≡ Ok u → HasMoved g s u
  returns s v u e = popped s (returned s) v s.below u refl refl refl refl refl refl e

  ends : (s : State) (u : State) → return (ended s) None ≡ Ok u → HasMoved g s u
  ends s u e =
      popped s (returned (ended s)) None (ended s).below u (ap (λ (a : Activation). a.func) (over_top s))
      (ap (λ (a : Activation). a.block) (over_top s)) (ap (λ (a : Activation). a.mode) (over_top s))
      (ap (λ (a : Activation). a.instance) (over_top s)) (sym (over s)) (over s) e

  entered : (s : State) (label : ℕ) → ActsBy g s (GoTo label) → (u : State) → u.below ≡ s.below
      → u.top.func ≡ s.top.func → u.top.block ≡ position_of (function_of g.given s) label
      → u.top.mode ≡ s.top.mode → u.top.instance ≡ s.top.instance → HasMoved g s u
  entered s label acts u below func block mode instance =
      let last = goto_there (framed_context g s) (work_of s) acts.here label acts.acts in
      HasMoved.Goes below
      (HasGone.Edge (record {
        label = label;
        term = last.0;
        there = acts.there ∙ last.1;
        goes = ap (λ (x : Fetched). action_of (framed_context g s) (work_of s) x) (sym last.1) ∙ acts.acts;
        func = func;
        block = block;
        mode = mode;
        instance = instance;
      }))

  again : (s w : State) (from label : ℕ) → s.top.mode ≡ Mode.Entering from label → w.below ≡ s.below
      → w.top.func ≡ s.top.func → w.top.instance ≡ s.top.instance → (o : Option Point)
      → HasMoved g s (enter_after g w from label o)
  again s w from label mode below func instance None =
      HasMoved.Goes below
      (HasGone.Again (record {
        from = from;
        label = label;
        mode = mode;
        func = func;
        plain = refl;
        instance = instance;
      }))
  again s w from label mode below func instance (Some p) =
      HasMoved.Goes below
      (HasGone.Again (record {
        from = from;
        label = label;
        mode = mode;
        func = func;
        plain = refl;
        instance = instance;
      }))

  slotted : (s w : State) (slot : Slot) (mode : Mode) → s.top.mode ≡ mode → w.below ≡ s.below → IsThere s.top w.top
      → HasMoved g s (framed_slot g w slot mode)
  slotted s w slot Mode.Plain is below top = HasMoved.Goes below (HasGone.Stays (same top))
    where
      same : IsThere s.top w.top → IsThere s.top (framed_slot g w slot Mode.Plain).top
      same k = record { func = k.func; block = k.block; mode = k.mode; instance = k.instance }
  slotted s w slot Mode.Ramp is below top = HasMoved.Goes below (HasGone.Stays (same top))
    where
      same : IsThere s.top w.top → IsThere s.top (framed_slot g w slot Mode.Ramp).top
      same k = record { func = k.func; block = k.block; mode = k.mode; instance = k.instance }
  slotted s w slot Mode.Resumed is below top = HasMoved.Goes below (HasGone.Stays (same top))
    where
      same : IsThere s.top w.top → IsThere s.top (framed_slot g w slot Mode.Resumed).top
      same k = record { func = k.func; block = k.block; mode = k.mode; instance = k.instance }
  slotted s w slot (Mode.GivenRamp frame) is below top = HasMoved.Goes below (HasGone.Stays (same top))
    where
      same : IsThere s.top w.top → IsThere s.top (framed_slot g w slot (Mode.GivenRamp frame)).top
      same k = record { func = k.func; block = k.block; mode = k.mode; instance = k.instance }
  slotted s w slot (Mode.Entering from label) is below top =
      again s (with_slots w (slot ∷ w.top.slots)) from label is below top.func top.instance
      (alloca_from (function_of g.given w) w.top.at)

  woken : (s w : State) (from label : ℕ) (o : Option Point) (at number : ℕ)
      → w.below ≡ record s.top { at = at } ∷ s.below → w.top.instance ≡ Some number
      → HasMoved g s (enter_after g w from label o)
  woken s w from label None at number below instance =
      HasMoved.Wakes number (record { at = at; below = below }) instance
  woken s w from label (Some p) at number below instance =
      HasMoved.Wakes number (record { at = at; below = below }) instance

  stays : (s u : State) → u.below ≡ s.below → IsThere s.top u.top → HasMoved g s u
  stays s u below top = HasMoved.Goes below (HasGone.Stays top)

  in_place : (s u w : State) → w.top ≡ s.top → w.below ≡ s.below → u.below ≡ w.below → IsThere w.top u.top
      → HasMoved g s u
  in_place s _ w top below ours here =
      HasMoved.Goes (ours ∙ below)
      (HasGone.Stays (record {
        func = here.func ∙ ap (λ (a : Activation). a.func) top;
        block = here.block ∙ ap (λ (a : Activation). a.block) top;
        mode = here.mode ∙ ap (λ (a : Activation). a.mode) top;
        instance = here.instance ∙ ap (λ (a : Activation). a.instance) top;
      }))

  plain : (a b : Activation) → b.func ≡ a.func → b.block ≡ a.block → b.mode ≡ a.mode → b.instance ≡ a.instance
      → IsThere a b
  plain a b func block mode instance = record {
    func = func;
    block = block;
    mode = mode;
    instance = instance;
  }

  module _ (s : State) where
    cases : (u : State) → LeadsTo g s u → HasMoved g s u
    cases _ (LeadsTo.Works w acts) = stays s _ refl (plain s.top _ refl refl refl refl)
    cases _ (LeadsTo.MakesSlot w slot acts) =
        slotted s (settled s w) slot s.top.mode refl refl (plain s.top (settled s w).top refl refl refl refl)
    cases _ (LeadsTo.Enters func args result must_tail acts) =
        HasMoved.Calls (record { at = s.top.at + 1; below = refl }) refl refl
    cases _ (LeadsTo.EntersGiven func result args calls) =
        HasMoved.Calls (record { at = s.top.at + 1; below = refl }) refl refl
    cases _ (LeadsTo.Answers i args result v acts) = stays s _ refl (plain s.top _ refl refl refl refl)
    cases _ (LeadsTo.Passes i args result acts) = stays s _ refl (plain s.top _ refl refl refl refl)
    cases _ (LeadsTo.Begins args result mem memory block start acts alone taken) =
        HasMoved.Goes refl
        (HasGone.Begins (record { func = refl; block = refl; mode = refl; instance = refl }))
    cases _ (LeadsTo.Releases args result v acts) =
        in_place s _ (release s) (changed_top s (λ (x : Instance). record x { released = true }) (own_instance s))
        (changed_below s (λ (x : Instance). record x { released = true }) (own_instance s)) refl
        (plain _ _ refl refl refl refl)
    cases _ (LeadsTo.Saves args result i x save suspend acts own unfreed) =
        stays s _ refl (plain s.top _ refl refl refl refl)
    cases _ (LeadsTo.Suspends args result i x save suspend acts own unfreed) =
        stays s _ refl (plain s.top _ refl refl refl refl)
    cases _ (LeadsTo.Wakes i args result y label acts sleeps) =
        woken s (push (with_status s y.number y.instance Status.Running) (resumed y.number y.instance y.suspend
        (reentry_values (function_at g.given.code y.instance.coroutine) (frame_address_of y.instance))))
        y.suspend.block label (alloca_from (function_at g.given.code y.instance.coroutine) 0) (s.top.at + 1)
        y.number refl refl
    cases _ (LeadsTo.EndsRamp args result acts ramp) =
        in_place s _ (ended s) (over_top s) (over s) refl (plain _ _ refl refl refl refl)
    cases _ (LeadsTo.EndsResumed args result u acts mode back) = ends s u back
    cases _ (LeadsTo.Deallocates p memory acts dead) =
        let same = let_go_top s (instance_at s.instances p) in
        in_place s _ (if_let_go s (instance_at s.instances p)) same.0 same.1 refl (plain _ _ refl refl refl refl)
    cases _ (LeadsTo.GoesTo label acts stays) = entered s label acts _ refl refl refl refl refl
    cases _ (LeadsTo.Leaves label w ws i x acts leaves own may) = entered s label acts _ refl refl refl refl refl
    cases _ (LeadsTo.Returns v u acts back) = returns s v u back

    pub step_moves : s.outcome ≡ Outcome.Running → IsFine (framed_step g s).outcome
        → HasMoved g s (framed_step g s)
    step_moves runs fine = cases (framed_step g s) (leads_to g s runs fine)
