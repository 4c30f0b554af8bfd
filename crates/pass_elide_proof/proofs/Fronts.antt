-- Both runs execute a call in front of which the other one has made its allocas.
use Rattle.std.proofs.Common.{◌≡◌, ◌+◌, inl, inr, ℕ, Bool, List, [], ◌∷◌, Ok, refl, sym, ap, ◌∙◌, subst}
use Rattle.std.specs.Prelude.{None, Option, Some, slice_get}
use Rattle.pass_elide.specs.declared.given.GivenFrame.{GivenFrame}
use Rattle.pass_elide_proof.proofs.AtCalls.{fine_ok, in_block, own_place}
use Rattle.pass_elide_proof.proofs.Modules.{finds_alike}
use Rattle.pass_elide_proof.proofs.Setting.{AreActing, IsHere, SetsAlike, held_too, other_than, still_apart, still_held, went, went_on, went_place}
use Rattle.pass_elide_proof.proofs.Sized.{stepped}
use Rattle.pass_elide_proof.proofs.Standing.{has_code}
use Rattle.pass_elide_proof.specs.Both.{AreAtCall, AreAtOwn, standing_at}
use Rattle.pass_elide_proof.specs.Counts.{capped, given_frames}
use Rattle.pass_elide_proof.specs.Elision.{Elision, elided, framed, function_in, function_in_elided, rooms}
use Rattle.pass_elide_proof.specs.Match.{AreActivations, AreElided, AreReleased, HasAlloca, HasAllocas, Sides, held_blocks, held_name, holds_one, is_given_mode, sides}
use Rattle.pass_elide_proof.specs.Places.{allocas_ahead, elided_instr, name_at, own_at, room_at}
use Rattle.pass_proofs.specs.ir_model.Ty.{Ty}
use Rattle.pass_proofs.specs.ir_model.declared.instr.Instr.{Instr}
use Rattle.pass_proofs.specs.ir_model.declared.module.Function.{Function}
use Rattle.pass_proofs.specs.ir_model.declared.operand.Arg.{Arg}
use Rattle.pass_proofs.specs.ir_model.declared.operand.Callee.{Callee}
use Rattle.pass_proofs.specs.ir_model.declared.operand.Intrinsic.{Intrinsic}
use Rattle.pass_proofs.specs.run_agreement.Machines.{IsFine}
use Rattle.pass_proofs.specs.run_framed.Framed.{framed_advance, framed_next, framed_step}
use Rattle.pass_proofs.specs.run_laws.changed.Changed.{Each}
use Rattle.pass_proofs.specs.run_laws.memory.Pointers.{Home}
use Rattle.pass_proofs.specs.run_memory.declared.pointer.Value.{Value}
use Rattle.pass_proofs.specs.run_source.State.{function_of, gives, or_undefined}
use Rattle.pass_proofs.specs.run_source.declared.state.Activation.{Activation}
use Rattle.pass_proofs.specs.run_source.declared.state.State.{State}
use Rattle.pass_proofs.specs.run_step.Step.{AtInstr, fetch}
use Rattle.pass_proofs.specs.run_step.declared.world.Slot.{Slot}

-- ---- an activation at another position

module _ (e : Elision) (homes : List Home) (hides : ℕ → Bool) (d : Sides) (a c : Activation) (n : ℕ) where
  abbrev b : Activation
  b = record c { at = n }

  allocas_here : (own : List Slot) (is : List Instr) → Each (HasAlloca homes hides d b own) is
      → Each (HasAlloca homes hides d c own) is
  allocas_here own [] h = tt
  allocas_here own (i ∷ is) h = (
    record {
      name = h.0.name;
      size = h.0.size;
      align = h.0.align;
      is = h.0.is;
      block = h.0.block;
      address = h.0.address;
      slot = h.0.slot;
      there = h.0.there;
      is_there = h.0.is_there;
      kind = h.0.kind;
      live = h.0.live;
      sized = h.0.sized;
      full = h.0.full;
      free = h.0.free;
    },
    allocas_here own is h.1,
  )

  all_here : (own : List Slot) → HasAllocas e homes hides d a b own → HasAllocas e homes hides d a c own
  all_here own (inl start) = inl start
  all_here own (inr made) =
      inr (allocas_here own (allocas_ahead (rooms e a.func) (function_in e a.func)) made.0, made.1)

  released_here : AreReleased (e.shape a.func) d a b → AreReleased (e.shape a.func) d a c
  released_here h = record { freed = h.freed; tested = h.tested }

  module _ (h : AreActivations e homes hides d a b) where
    acting_here : AreActing e homes hides d a c
    unfolding released_here
    acting_here = record {
      func = h.func;
      result = h.result;
      instance = h.instance;
      has_left = h.has_left;
      mode = h.mode;
      values = record { each = h.values.each; room = h.values.room };
      asked = h.asked;
      released = λ given. released_here (h.released given);
      own = h.own;
      slots = h.slots;
      allocas = all_here h.own h.allocas;
    }

-- ---- the states

module _ (e : Elision) (s t : State) (n : ℕ) (r : AreElided e s (standing_at t n)) (i : Intrinsic)
    (result : Option ℕ) (must_tail : Bool) (ty : Option Ty) (args : List Arg)
    (at : AreAtOwn e s t n r i result must_tail ty args) where
  abbrev call : Instr
  call = Instr.Call result must_tail ty (Callee.Intrinsic i) args

  abbrev f : Function
  f = function_in e s.top.func

  stays : (k : ℕ) (o : Option GivenFrame) → elided_instr k o call ≡ call
  stays k None = refl
  stays k (Some room) = refl

  other_there : fetch (function_of (elided e).given t) t.top.block t.top.at ≡ AtInstr call
  other_there =
      (λ j. fetch (function_in_elided e (r.top.func j)) (at.block j) (at.own j))
      ∙ (ap (λ (h : Function). fetch h s.top.block (own_at (rooms e s.top.func) f s.top.block s.top.at))
      ((finds_alike e).functions s.top.func)
      ∙ ((has_code (rooms e s.top.func) f).instr s.top.block s.top.at call
      (in_block (slice_get f.blocks s.top.block) s.top.at call at.there)
      ∙ ap AtInstr (stays (name_at (rooms e s.top.func) f s.top.block s.top.at)
      (room_at (rooms e s.top.func) f s.top.block s.top.at call))))

  pub steps_both : (u w : State) → framed_next (framed e) s (AtInstr call) ≡ Ok u
      → framed_next (elided e) t (AtInstr call) ≡ Ok w → AreElided e u w
      → AreElided e (framed_step (framed e) s) (framed_step (elided e) t)
  steps_both u w first second h =
      subst (λ (p : State × State). AreElided e p.0 p.1)
      (λ j. (
        sym (stepped (framed e) s u (AtInstr call) at.runs at.there first) j,
        sym (stepped (elided e) t w (AtInstr call) (r.outcome ∙ at.runs) other_there second) j,
      )) h

  pub steps_on : IsFine (framed_step (framed e) s).outcome
      → (u : State) × (framed_next (framed e) s (AtInstr call) ≡ Ok u)
  steps_on fine =
      fine_ok (framed e).given s (framed_next (framed e) s (AtInstr call))
      (subst (λ (z : State). IsFine z.outcome)
      (ap (framed_advance (framed e) s) at.runs
      ∙ ap (λ z. or_undefined (framed e).given s (framed_next (framed e) s z)) at.there) fine)

  module _ (v w : Value) (k : SetsAlike e r.homes (sides s t) s.top t.top result v w)
      (holds : held_name e (is_given_mode t.top.mode) (went s.top result v s.top.has_left)
      ≡ held_name e (is_given_mode t.top.mode) s.top)
      (kept : (name : ℕ) → held_name e (is_given_mode t.top.mode) s.top ≡ Some name → result ≡ Some name → ⊥) where
    abbrev d : Sides
    d = sides s t

    abbrev a : Activation
    a = went s.top result v s.top.has_left

    abbrev c : Activation
    c = went t.top result w t.top.has_left

    here : IsHere e s.top t.top
    here = record { block = at.block; own = at.own }

    top : AreActivations e r.homes r.hides d a c
    unfolding acting_here
    top =
        held_too e r.homes r.hides d a c
        (went_place e r.homes r.hides d s.top t.top result v w s.top.has_left t.top.has_left
        (acting_here e r.homes r.hides d s.top t.top n r.top) here (λ z. at.made z.0 z.1 z.2) k r.top.has_left)
        (went_on e r.homes r.hides d s.top t.top result v w s.top.has_left t.top.has_left
        (acting_here e r.homes r.hides d s.top t.top n r.top) here (λ z. at.made z.0 z.1 z.2) k r.top.has_left)
        (still_held e r.hides s.world.memory s.top (is_given_mode t.top.mode) result v s.top.has_left holds kept
        r.top.held)

    pub gives_beside : AreElided e (gives s result v) (gives t result w)
    gives_beside = record {
      homes = r.homes;
      hides = r.hides;
      world = r.world;
      known = r.known;
      globals = r.globals;
      hidden = r.hidden;
      mates = r.mates;
      count = r.count;
      instances = r.instances;
      top = top;
      below = r.below;
      once = still_apart e s.top a (standing_at t n).top c s.below t.below holds
          (λ name is. other_than s.top.values result name v (kept name is)) r.once;
      allocs = r.allocs
          ∙ ap (λ (o : Option ℕ). capped (t.world.allocs + (given_frames t +
          (holds_one o + held_blocks e s.below t.below)))) (sym holds);
      outcome = r.outcome;
    }

-- ---- where nothing stands in front of the call

pub at_own : (e : Elision) (s t : State) (r : AreElided e s t) (i : Intrinsic) (result : Option ℕ) (must_tail : Bool)
    (ty : Option Ty) (args : List Arg) → AreAtCall e s t i result must_tail ty args
    → AreAtOwn e s t t.top.at r i result must_tail ty args
at_own e s t r i result must_tail ty args at = record {
  runs = at.runs;
  there = at.there;
  block = at.block;
  own = at.own;
  names = at.names;
  made = λ first here none. (own_place e s t i result must_tail ty args r at).starts first here;
}
