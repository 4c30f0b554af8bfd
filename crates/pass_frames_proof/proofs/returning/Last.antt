-- The entry function returns, and so have both runs.
use Rattle.std.proofs.Common.{◌≡◌, ℕ, ◌+◌, ◌≤◌, Bool, true, false, List, [], ◌∷◌, refl, sym, ap, ◌∙◌, subst, arith}
use Rattle.std.specs.Prelude.{None, Ok, Option, Some, Result, if◌then◌else◌}
use Rattle.pass_frames_steps.specs.ir_base.declared.cause.Cause.{Cause}
use Rattle.pass_frames_steps.specs.ir_base.declared.outcome.Outcome.{Outcome}
use Rattle.pass_frames_steps.specs.ir_model.declared.instr.Terminator.{Terminator}
use Rattle.pass_frames_steps.specs.ir_model.declared.operand.Arg.{Arg}
use Rattle.pass_frames_steps.proofs.lined.Lines.{framed_does}
use Rattle.pass_frames_proof.proofs.returning.Dying.{died, over, u, w}
use Rattle.pass_frames_proof.proofs.returning.Returns.{returns_value}
use Rattle.pass_frames_steps.proofs.stepping.Other.{fetched_there, one_followed, operand_stands, stands, values_other}
use Rattle.pass_frames_steps.proofs.stepping.Rest.{LeavesRest, instance_kept}
use Rattle.pass_frames_steps.proofs.stepping.Stands.{cost_is, renewed_does}
use Rattle.pass_frames_steps.specs.Followed.{IsFollowed}
use Rattle.pass_frames_steps.specs.Meaning.{action_at, behind_cost, coroutine_cost, other_cost, step_cost}
use Rattle.pass_frames_steps.specs.Related.{AreActivations, AreAllAhead, AreBelow, AreBuiltOf, AreFreeCells, AreInstances, Building, IsStatus, is_coroutine, place_by, point_of, slots_below, top_place}
use Rattle.pass_frames_steps.specs.Returning.{IsAtLast, OwnsSlots, value_of}
use Rattle.pass_frames_steps.specs.Stepping.{AreGiven}
use Rattle.pass_frames_steps.specs.ir_laws.paths.woven_rules.Pairs.{AreDifferent}
use Rattle.std.specs.Prelude.{map}
use Rattle.pass_frames_steps.specs.pass_renewed_proof.Renewed.{RenewedGiven, renewed_step}
use Rattle.pass_frames_steps.specs.run_framed.Framed.{frame_rights, framed_context, framed_step}
use Rattle.pass_frames_steps.specs.run_laws.memory.Pointers.{Home, IsValue}
use Rattle.pass_frames_steps.specs.run_memory.Memory.{Rights}
use Rattle.pass_frames_steps.specs.run_memory.declared.pointer.Value.{Value}
use Rattle.pass_frames_steps.specs.run_source.Source.{context_of, pop, returned}
use Rattle.pass_frames_steps.specs.run_source.State.{or_undefined, work_of}
use Rattle.pass_frames_steps.specs.run_source.declared.state.Activation.{Activation}
use Rattle.pass_frames_steps.specs.run_source.declared.state.Instance.{Instance}
use Rattle.pass_frames_steps.specs.run_source.declared.state.State.{State}
use Rattle.pass_frames_steps.specs.run_source.declared.state.Status.{Status}
use Rattle.pass_frames_steps.specs.run_step.Results.{and_then}
use Rattle.pass_frames_steps.specs.run_step.Step.{AtTerm, Context, Return, action_of, outcome_of}
use Rattle.pass_frames_steps.specs.run_step.Values.{arg_value}
use Rattle.pass_frames_steps.specs.run_step.declared.world.Slot.{Slot}
use Rattle.pass_frames_steps.specs.run_step.declared.world.World.{World}

-- ---- a state that has another outcome

module _ (b : Building) (homes : List Home) (t : State) (o : Outcome) where
  abbrev to : State
  to = record t { outcome = o }

  status_on : (x y : Instance) (q p : Status) → IsStatus b homes t x y q p → IsStatus b homes to x y q p
  status_on x y Status.Running p h = h
  status_on x y Status.Finished p h = h
  status_on x y (Status.Suspended at env) p h = h

  pub instance_on : (x y : Instance) → AreInstances b homes t x y → AreInstances b homes to x y
  instance_on x y h = record {
    coroutine = h.coroutine;
    is_coroutine = h.is_coroutine;
    block = h.block;
    start = h.start;
    status = status_on x y x.status y.status h.status;
    last_save = h.last_save;
    released = h.released;
    freed = h.freed;
    slots = h.slots;
    no_slots = h.no_slots;
  }

-- a value that a run may return stands for itself alone
same_outcome : (homes : List Home) (v x : Value) (o : Outcome) → IsValue homes v x → outcome_of (Some v) ≡ Ok o
    → outcome_of (Some x) ≡ Ok o
same_outcome homes Value.Poison x o h e = absurd (cc)
same_outcome homes (Value.Int n) x o h e = ap (λ (q : Value). outcome_of (Some q)) h ∙ e
same_outcome homes (Value.Ptr p) x o h e = absurd (cc)

none_below : (b : Building) (homes : List Home) (hides : ℕ → Bool) (t : State) (ts : List Activation)
    → AreBelow b homes hides t [] ts → ts ≡ []
none_below b homes hides t [] h = refl
none_below b homes hides t (c ∷ cs) h = absurd h

module _ (b : Building) (g : RenewedGiven) (given : AreGiven b g) (s t : State) (r : AreBuiltOf b s t)
    (arg : Option Arg) (o : Outcome) (h : IsAtLast b g s arg o) (owns : OwnsSlots b s t r) where
  abbrev c : Context
  c = context_of g.given s

  abbrev d : Context
  d = framed_context b.given t

  abbrev v : Option Value
  v = value_of c.code s.top.values arg

  abbrev x : Option Value
  x = value_of d.code t.top.values arg

  running : t.outcome ≡ Outcome.Running
  running = r.outcome ∙ h.runs

  ends : (q : Option Arg) → outcome_of (value_of c.code s.top.values q) ≡ Ok o
      → outcome_of (value_of d.code t.top.values q) ≡ Ok o
  ends None e = e
  ends (Some q) e =
      same_outcome r.homes (arg_value c.code s.top.values q) (arg_value d.code t.top.values q) o
      (operand_stands b g given s t r h.plain h.runs h.mode q.value q.ty) e

  abbrev w1 : World
  w1 = w b s t r given.framings owns

  abbrev u1 : World
  u1 = u b s t r given.framings owns

  abbrev a' : Activation
  a' = record s.top { slots = [] }

  abbrev c' : Activation
  c' = record t.top { slots = [] }

  abbrev s2 : State
  s2 = record s { world = w1; top = a'; outcome = o }

  abbrev t2 : State
  t2 = record t { world = u1; top = c'; outcome = o }

  source : renewed_step g s ≡ s2
  source =
      renewed_does g s (AtTerm (Terminator.Ret arg)) (Return v) h.runs h.there refl (returns_value c (work_of s) arg)
      ∙ ap (λ (q : List Activation). or_undefined g.given s (pop (returned s) v q)) h.below
      ∙ ap (λ (q : Result Outcome Cause). or_undefined g.given s
      (and_then q (λ (k : Outcome). Ok (record (returned s) { outcome = k })))) h.returns

  below_t : t.below ≡ []
  below_t =
      none_below b r.homes r.hides t t.below
      (subst (λ (q : List Activation). AreBelow b r.homes r.hides t q t.below) h.below r.below)

  target : framed_step b.given t ≡ t2
  target =
      framed_does b.given t (AtTerm (Terminator.Ret arg)) (Return x) running
      (fetched_there b g given s t r h.plain h.runs h.mode (AtTerm (Terminator.Ret arg)) h.there) refl
      (returns_value d (work_of t) arg)
      ∙ ap (λ (q : List Activation). or_undefined b.given.given t (pop (returned t) x q)) below_t
      ∙ ap (λ (q : Result Outcome Cause). or_undefined b.given.given t
      (and_then q (λ (k : Outcome). Ok (record (returned t) { outcome = k })))) (ends arg h.returns)

  left : LeavesRest b s t r w1 u1
  left = died b s t r given.framings owns

  abbrev R : Rights
  R = frame_rights b.given t.instances

  top_there : AreActivations b r.homes r.hides t2 (top_place b) a' c'
  top_there = record {
    func = r.top.func;
    place = r.top.place ∙ same s.top h.plain ∙ sym (same a' h.plain);
    result = r.top.result;
    mode = r.top.mode;
    instance = r.top.instance;
    has_left = r.top.has_left;
    values = values_other b r.homes R t2 a' c' (is_coroutine b s.top.func) h.plain
        (let k = stands b g given s t r h.plain h.runs h.mode in record { each = k.each; room = k.room });
    slots = λ slot e. absurd (omega (arith, e.1));
  }
    where
      same : (a : Activation) → is_coroutine b a.func ≡ false → top_place b a ≡ point_of a
      same a e = ap (λ (k : Bool). if k then place_by (b.framing a.func) a a.mode else point_of a) e

  no_coroutine : (func : ℕ) → is_coroutine b func ≡ false → is_coroutine b func ≡ true → ⊥
  no_coroutine func e f = let no : true ≡ false = sym f ∙ e in absurd (cc)

  related : AreBuiltOf b s2 t2
  related = record {
    homes = r.homes;
    hides = r.hides;
    world = over b s t r given.framings owns;
    known = r.known ∙ sym left.known;
    globals = r.globals;
    mates = left.mates;
    hidden = r.hidden;
    count = r.count;
    instances = λ i p q e f.
        instance_on b r.homes (record t { world = u1; top = c' }) o p q
        (instance_kept b s t r w1 u1 left c' t.below i p q e (r.instances i p q e f));
    top = top_there;
    below = subst (λ (q : List Activation × List Activation). AreBelow b r.homes r.hides t2 q.0 q.1)
        (λ i. (sym h.below i, sym below_t i)) tt;
    once = subst (λ (q : List Activation). AreDifferent (map (λ (slot : Slot). slot.block) (slots_below q)))
        (sym below_t) tt;
    cells = (
      (λ is slot e name. absurd (omega (arith, e.1))),
      subst (AreFreeCells b r.homes r.hides w1.memory) (sym below_t) tt,
    );
    ahead = (
      (λ is first zero. absurd (no_coroutine s.top.func h.plain is)),
      subst (λ (q : List Activation). AreAllAhead b r.homes r.hides w1.memory u1.memory q t.below) (sym h.below) tt,
    );
    outcome = refl;
  }

  pub last_followed : IsFollowed b g s t
  last_followed =
      one_followed b g s t cost_is_enough
      (subst (λ (p : State × State). AreBuiltOf b p.0 p.1) (λ i. (sym source i, sym target i)) related)
    where
      cost_is_enough : 1 ≤ step_cost b g s s.top.mode
      cost_is_enough =
          let e : step_cost b g s s.top.mode ≡ 1 + behind_cost b s.below =
          cost_is b g s s.top.mode h.mode
          ∙ ap (λ (k : Bool). if k then coroutine_cost b g s (action_at g s) else other_cost b g s (action_at g s))
          h.plain
          ∙ ap (other_cost b g s) (ap (action_of c (work_of s)) h.there ∙ returns_value c (work_of s) arg) in
          omega (arith, e)
