-- Callers of instances stay on the stack where the topmost activation goes on by one instruction.
use Rattle.std.proofs.Common.{◌≡◌, ◌+◌, ◌∙◌, ◌&&◌, ◌==◌, [], ap, arith, Bool, Err, false, List, Ok, Option, refl, Result, subst, sym, true, ℕ}
use Rattle.std.specs.List.{Contains}
use Rattle.std.specs.Prelude.{IsFalse, None, Some, slice_get}
use Rattle.elide_sites.specs.Sites.{is_destroy_of}
use Rattle.pass_elide.specs.declared.given.GivenFrame.{GivenFrame}
use Rattle.pass_elide_proof.proofs.Callees.{same_place}
use Rattle.pass_elide_proof.proofs.CallersBlocks.{frames_kept, refilled_keeps}
use Rattle.pass_elide_proof.proofs.CallersOnward.{goes_onward, instr_found}
use Rattle.pass_elide_proof.proofs.CallersValues.{SetsOnly, sets_only}
use Rattle.pass_elide_proof.proofs.GivingMarkers.{plain_put}
use Rattle.pass_elide_proof.proofs.GoesOn.{front_next}
use Rattle.pass_elide_proof.proofs.Modules.{finds_alike}
use Rattle.pass_elide_proof.proofs.OwnPlaces.{acts}
use Rattle.pass_elide_proof.proofs.Stacks.{KeepsHead, destroys_on, next_point}
use Rattle.pass_elide_proof.proofs.Standing.{has_code}
use Rattle.pass_elide_proof.specs.Callers.{GoesOnAs, KeepsFrames, KeepsHandles, MovesOn, StandsAtDone, StandsAtInstr, WasBefore}
use Rattle.pass_elide_proof.specs.Elision.{Elision, elided, function_in, function_in_elided, rooms}
use Rattle.pass_elide_proof.specs.Invariant.{HaveCallers, StandsAt}
use Rattle.pass_elide_proof.specs.Places.{elided_instr, front_at, instrs_of, name_at, own_at}
use Rattle.pass_proofs.proofs.ir_laws.facts.Truth.{itself}
use Rattle.pass_proofs.proofs.ir_laws.paths.renamed.Outside.{where_none}
use Rattle.pass_proofs.proofs.run_laws.embedded.Refills.{step_only}
use Rattle.pass_proofs.specs.ir_base.declared.cause.Cause.{Cause}
use Rattle.pass_proofs.specs.ir_laws.facts.renamed.Regular.{passes}
use Rattle.pass_proofs.specs.ir_model.Ty.{Ty}
use Rattle.pass_proofs.specs.ir_model.declared.instr.Instr.{Instr}
use Rattle.pass_proofs.specs.ir_model.declared.module.Function.{Function}
use Rattle.pass_proofs.specs.ir_model.declared.operand.Arg.{Arg}
use Rattle.pass_proofs.specs.ir_model.declared.operand.Callee.{Callee}
use Rattle.pass_proofs.specs.ir_model.declared.operand.Intrinsic.{Intrinsic}
use Rattle.pass_proofs.specs.ir_parts.Contents.{result_of}
use Rattle.pass_proofs.specs.ir_paths.Paths.{same_point}
use Rattle.pass_proofs.specs.ir_paths.Windows.{instr_at}
use Rattle.pass_proofs.specs.ir_paths.declared.point.Point.{Point}
use Rattle.pass_proofs.specs.run_framed.Framed.{framed_advance, framed_context, framed_next, framed_step}
use Rattle.pass_proofs.specs.run_laws.embedded.Refilled.{AreRefilled, OnlyRefills}
use Rattle.pass_proofs.specs.run_source.State.{function_of, gives, or_undefined, settled, work_of}
use Rattle.pass_proofs.specs.run_source.declared.state.Activation.{Activation}
use Rattle.pass_proofs.specs.run_source.declared.state.Instance.{Instance}
use Rattle.pass_proofs.specs.run_source.declared.state.State.{State}
use Rattle.pass_proofs.specs.run_step.Step.{Action, AtInstr, Context, Done, Fetched, Work, action_of, fetch}
use Rattle.pass_proofs.specs.run_step.Values.{value_in}
use Rattle.pass_proofs.specs.run_step.declared.world.Slot.{Slot}

-- ---- the same activation, further on

pub goes_as : (e : Elision) (c d : Activation) → KeepsHead c d → GoesOnAs e c d
goes_as e c d k = record {
  func = k.func;
  result = k.result;
  instance = λ number is. k.instance ∙ is;
  mode = λ frame is. k.mode ∙ is;
  given = λ frame is. sym k.mode ∙ is;
  begun = λ none. sym k.instance ∙ none;
  destroys = λ y number h. destroys_on e [] y number c d k h;
}

yes_no : (p : Bool) → p ≡ true → p ≡ false → ⊥
yes_no true y n = absurd (cc)
yes_no false y n = absurd (cc)

module _ (e : Elision) (c d : Activation) (at : ℕ) (i : Instr)
    (there : slice_get (instrs_of (function_in e c.func) c.block) at ≡ Some i)
    (stands : c.at ≡ own_at (rooms e c.func) (function_in e c.func) c.block at)
    (plain : (function_in e c.func).coroutine ≡ false) (keeps : KeepsHandles e c.func) (same : KeepsHead c d)
    (next : d.at ≡ c.at + 1)
    (values : (v : ℕ) → (result_of i ≡ Some v → ⊥) → value_in d.values v ≡ value_in c.values v)
    (slots : (z : Slot) → Contains c.slots z → Contains d.slots z) where
  abbrev f : Function
  f = function_in e c.func

  abbrev pub here : Point
  here = record { block = c.block; at = at }

  abbrev pub behind : Point
  behind = record { block = c.block; at = at + 1 }

  found : instr_at (function_in e c.func) (record { block = c.block; at = at }) ≡ Some i
  found = instr_found f here i there

  stands_here : (r : Point) → StandsAt e c r → (r.block ≡ c.block) × (r.at ≡ at)
  stands_here r at_r = (
    sym at_r.block,
    same_place e c.func (plain_put e c.func plain) c.block r.at at
        ((λ j. front_at (rooms e c.func) f (at_r.block j) r.at) ∙ (sym at_r.at ∙ stands)),
  )

  goes_behind : StandsAt e d (record { block = c.block; at = at + 1 })
  goes_behind = record {
    block = same.block;
    at = next
        ∙ (ap (λ (n : ℕ). n + 1) stands
        ∙ (sym (front_next (rooms e c.func) f c.block at (at + 1) refl)
        ∙ (λ j. front_at (rooms e (sym same.func j)) (function_in e (sym same.func j)) c.block (at + 1))));
  }

  pub instr_moves : MovesOn e c d (record { block = c.block; at = at }) (record { block = c.block; at = at + 1 })
  instr_moves = record {
    stands = stands_here;
    behind = goes_behind;
    next = next_point f here i found;
    handles = λ call j v is gives apart.
        values v (λ gives_too. other call j v is gives apart gives_too);
    added = λ v le. values v (λ gives.
        let lt = keeps.once.names here i v found gives in absurd (omega (arith, lt, le)));
    slots = slots;
  }
    where
      other : (call : Point) (j : Instr) (v : ℕ) → instr_at (function_in e c.func) call ≡ Some j
          → result_of j ≡ Some v → IsFalse (same_point here call) → result_of i ≡ Some v → ⊥
      other call j v is gives apart gives_too =
          let one = keeps.once.alone here call i j v found is gives_too gives in
          yes_no (same_point here call)
          ((λ k. (one.0 k == call.block) && (one.1 k == call.at))
          ∙ (λ k. itself call.block k && itself call.at k)) apart

-- ---- the step

pub fetched_at : (e : Elision) (t : State) (at : ℕ) (i : Instr) → StandsAtInstr e t at i
    → fetch (function_of (elided e).given t) t.top.block t.top.at ≡ AtInstr i
fetched_at e t at i k =
    (λ j. fetch (function_in_elided e t.top.func) t.top.block (k.stands j))
    ∙ (ap (λ (h : Function). fetch h t.top.block (own_at (rooms e t.top.func) (function_in e t.top.func) t.top.block
    at))
    ((finds_alike e).functions t.top.func)
    ∙ ((has_code (rooms e t.top.func) (function_in e t.top.func)).instr t.top.block at i k.there
    ∙ ap (λ (o : Option GivenFrame). AtInstr (elided_instr (name_at (rooms e t.top.func) (function_in e t.top.func)
    t.top.block at) o i)) k.none))

-- what a part of a step gives, if it gives a state
abbrev pub Keep : Elision → Result State Cause → Type 0
Keep e (Err cause) = Unit {0}
Keep e (Ok u) = HaveCallers e u

pub or_keeps : (e : Elision) (t : State) (r : Result State Cause) → HaveCallers e t → Keep e r
    → HaveCallers e (or_undefined (elided e).given t r)
or_keeps e t (Err cause) h k = record { each = h.each; last = h.last; ramps = h.ramps }
or_keeps e t (Ok u) h k = k

pub next_keeps : (e : Elision) (t : State) (at : ℕ) (i : Instr) → StandsAtInstr e t at i → HaveCallers e t
    → Keep e (framed_next (elided e) t (AtInstr i)) → HaveCallers e (framed_step (elided e) t)
next_keeps e t at i k h kept =
    subst (HaveCallers e)
    (sym (ap (framed_advance (elided e) t) k.runs
    ∙ ap (λ (x : Fetched). or_undefined (elided e).given t (framed_next (elided e) t x)) (fetched_at e t at i k)))
    (or_keeps e t (framed_next (elided e) t (AtInstr i)) h kept)

module _ (e : Elision) (t u : State) (at : ℕ) (i : Instr) (k : StandsAtInstr e t at i)
    (destroys : (v : Option ℕ) → is_destroy_of v i ≡ false) (below : u.below ≡ t.below)
    (instances : (number : ℕ) (y : Instance) → slice_get u.instances number ≡ Some y → WasBefore t.instances number y)
    (frames : KeepsFrames t u) (same : KeepsHead t.top u.top) (next : u.top.at ≡ t.top.at + 1)
    (values : (v : ℕ) → (result_of i ≡ Some v → ⊥) → value_in u.top.values v ≡ value_in t.top.values v)
    (slots : (z : Slot) → Contains t.top.slots z → Contains u.top.slots z) where
  pub instr_keeps : HaveCallers e t → HaveCallers e u
  instr_keeps h =
      goes_onward e t u (record {
        below = below;
        instances = instances;
        frames = frames;
        goes = goes_as e t.top u.top same;
        from = record { block = t.top.block; at = at };
        to = record { block = t.top.block; at = at + 1 };
        moves = λ plain.
            instr_moves e t.top u.top at i k.there k.stands plain (k.handles plain) same next values slots;
        still = λ plain v. where_none (is_destroy_of v) (function_in e t.top.func)
            (record { block = t.top.block; at = at })
            (ap (passes (is_destroy_of v)) (instr_found (function_in e t.top.func)
            (record { block = t.top.block; at = at }) i k.there) ∙ destroys v);
        destroyed = λ plain. (k.handles plain).destroyed;
      }) h

pub was_itself : (xs : List Instance) (number : ℕ) (y : Instance) → slice_get xs number ≡ Some y
    → WasBefore xs number y
was_itself xs number y there = record {
  before = y;
  there = there;
  coroutine = refl;
  block = refl;
  start = refl;
  going = λ going. going;
}

pub same_head : (c : Activation) → KeepsHead c c
same_head c = record {
  func = refl;
  block = refl;
  result = refl;
  mode = refl;
  instance = refl;
  has_left = refl;
}

-- ---- what is done

-- a destroy isn't done by itself
done_destroys : (c : Context) (w x : Work) (i : Instr) → action_of c w (AtInstr i) ≡ Done x → (v : Option ℕ)
    → is_destroy_of v i ≡ false
done_destroys c w x i does None = refl
done_destroys c w x i does (Some v) = by i does
  where
    by_intrinsic : (j : Intrinsic) (result : Option ℕ) (must_tail : Bool) (ty : Option Ty) (args : List Arg)
        → action_of c w (AtInstr (Instr.Call result must_tail ty (Callee.Intrinsic j) args)) ≡ Done x
        → is_destroy_of (Some v) (Instr.Call result must_tail ty (Callee.Intrinsic j) args) ≡ false
    by_intrinsic Intrinsic.CoroDestroy result must_tail ty args does = absurd (cc)
    by_intrinsic _ result must_tail ty args does = refl

    by : (i : Instr) → action_of c w (AtInstr i) ≡ Done x → is_destroy_of (Some v) i ≡ false
    by (Instr.Call result must_tail ty (Callee.Intrinsic j) args) does = by_intrinsic j result must_tail ty args does
    by (Instr.Call result must_tail ty (Callee.Named n) args) does = refl
    by (Instr.Call result must_tail ty (Callee.Allocator a) args) does = refl
    by (Instr.Call result must_tail ty (Callee.Local n) args) does = refl
    by (Instr.Binary name op flags ty a b) does = refl
    by (Instr.Icmp name pred ty a b) does = refl
    by (Instr.Select name x a b) does = refl
    by (Instr.Cast name op nneg arg to) does = refl
    by (Instr.Alloca name ty align) does = refl
    by (Instr.Load name ty p align) does = refl
    by (Instr.Store arg p align) does = refl
    by (Instr.Gep name inbounds ty base indices) does = refl

module _ (e : Elision) (t : State) (at : ℕ) (i : Instr) (w : Work) (k : StandsAtDone e t at i w) where
  abbrev ctx : Context
  ctx = framed_context (elided e) t

  refills : AreRefilled t.world.memory w.world.memory
  refills = subst (OnlyRefills t.world.memory) k.does (step_only ctx (work_of t) (AtInstr i) k.no_slot)

  values : (v : ℕ) → (result_of i ≡ Some v → ⊥) → value_in w.values v ≡ value_in t.top.values v
  values = by (action_of ctx (work_of t) (AtInstr i)) k.does (sets_only ctx (work_of t) i)
    where
      by : (a : Action) → a ≡ Done w → SetsOnly ctx (work_of t) (result_of i) a → (v : ℕ)
          → (result_of i ≡ Some v → ⊥) → value_in w.values v ≡ value_in t.top.values v
      by a is h = subst (SetsOnly ctx (work_of t) (result_of i)) is h

  pub done_keeps : HaveCallers e t → HaveCallers e (framed_step (elided e) t)
  done_keeps h =
      subst (HaveCallers e)
      (sym (acts (elided e) t (settled t w) i (Done w) k.place.runs (fetched_at e t at i k.place)
      (λ n is. (finds_alike e).ramps n ∙ k.no_ramp n is) k.does refl))
      (instr_keeps e t (settled t w) at i k.place (done_destroys ctx (work_of t) w i k.does) refl
      (was_itself t.instances) (frames_kept t (settled t w) (refilled_keeps t.world.memory w.world.memory refills))
      (record { func = refl; block = refl; result = refl; mode = refl; instance = refl; has_left = refl }) refl values
      (λ z has. has) h)
