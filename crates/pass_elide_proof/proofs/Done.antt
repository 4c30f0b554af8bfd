-- coro.done gives the same in both runs.
use Rattle.std.proofs.Common.{◌≡◌, ℕ, Bool, true, false, List, Ok, refl, sym, ap, ◌∙◌, subst, ◌==◌}
use Rattle.std.proofs.lemmas.Bool.{and_from, and_parts, eq-eqb, eqb-true}
use Rattle.std.specs.Prelude.{None, Option, Result, Some, slice_get}
use Rattle.pass_elide_proof.proofs.Addresses.{address_stands, twin_of}
use Rattle.pass_elide_proof.proofs.AtCalls.{arg_stands, name_held, name_kept}
use Rattle.pass_elide_proof.proofs.Fronts.{gives_beside, steps_both, steps_on}
use Rattle.pass_elide_proof.proofs.Bare.{same_function, same_place}
use Rattle.pass_elide_proof.proofs.Begins.{no_both}
use Rattle.pass_elide_proof.proofs.Found.{IsLastOf, last_is_where, last_too, where_last}
use Rattle.pass_elide_proof.proofs.Setting.{SetsAlike}
use Rattle.pass_elide_proof.specs.Both.{standing_at}
use Rattle.pass_elide_proof.specs.Elision.{Elision, elided, elided_code, framed, function_in, function_in_elided}
use Rattle.pass_elide_proof.specs.Invariant.{HaveCallers}
use Rattle.pass_elide_proof.specs.Looking.{GivesNone, IsAtDone}
use Rattle.pass_elide_proof.specs.Match.{AreElided, AreInstances, AreStatuses, Ends, Runs, Sleeps, own_point, sides, was_given}
use Rattle.pass_proofs.specs.ir_base.declared.cause.Cause.{Cause}
use Rattle.pass_proofs.specs.ir_model.Names.{function_at}
use Rattle.pass_proofs.specs.ir_model.Ty.{Ty}
use Rattle.pass_proofs.specs.ir_model.declared.instr.Instr.{Instr}
use Rattle.pass_proofs.specs.ir_model.declared.operand.Arg.{Arg}
use Rattle.pass_proofs.specs.ir_model.declared.operand.Callee.{Callee}
use Rattle.pass_proofs.specs.ir_model.declared.operand.Intrinsic.{Intrinsic}
use Rattle.pass_proofs.specs.ir_paths.declared.point.Point.{Point}
use Rattle.pass_proofs.specs.run_agreement.Machines.{IsFine}
use Rattle.pass_proofs.specs.run_framed.Framed.{framed_step}
use Rattle.pass_proofs.specs.run_laws.memory.Pointers.{IsValue}
use Rattle.pass_proofs.specs.run_memory.Pointers.{offset_of}
use Rattle.pass_proofs.specs.run_memory.declared.pointer.Offset.{Offset}
use Rattle.pass_proofs.specs.run_memory.declared.pointer.Pointer.{Pointer}
use Rattle.pass_proofs.specs.run_memory.declared.pointer.Value.{Value}
use Rattle.pass_proofs.specs.run_source.Source.{Sleeper, done_at, sleeper_of}
use Rattle.pass_proofs.specs.run_source.State.{began_at, frame_address_of, gives, instance_at, is_finished}
use Rattle.pass_proofs.specs.run_source.declared.state.Instance.{Instance}
use Rattle.pass_proofs.specs.run_source.declared.state.State.{State}
use Rattle.pass_proofs.specs.run_source.declared.state.Status.{Status}
use Rattle.pass_proofs.specs.run_source_tables.Given.{Given, has_final, is_final}
use Rattle.pass_proofs.specs.run_step.Results.{and_then, found, ok_if}
use Rattle.pass_proofs.specs.run_step.Values.{Env, arg_values, nth, truth_value}

-- ---- the instance of a frame address

module _ (e : Elision) (s t : State) (r : AreElided e s t) (callers : HaveCallers e t) (p q : Value)
    (stands : IsValue r.homes p q) (i : ℕ) (x y : Instance) (second : slice_get t.instances i ≡ Some y)
    (goes : is_finished x.status ≡ false) where
  abbrev FindsIt : Type 0
  FindsIt = (slice_get s.instances i ≡ Some x) × (instance_at t.instances q ≡ Some (i, y))

  at_address : (b : ℕ) (o : Offset) → p ≡ Value.Ptr (Pointer.At b o) → IsLastOf (began_at b o.bits) s.instances i x
      → FindsIt
  at_address b o is last =
      let began = and_parts (x.block == b) (x.start == o.bits) last.passes in
      let block : x.block ≡ b = eqb-true x.block b began.0 in
      let start : x.start ≡ o.bits = eqb-true x.start o.bits began.1 in
      let h = r.instances i x y last.there second in
      let leads : frame_address_of x ≡ p
      = (λ j. Value.Ptr (Pointer.At (block j) (offset_of (start j)))) ∙ sym is in
      let there : q ≡ frame_address_of y
      = (subst (λ (v : Value). IsValue r.homes v q) (sym leads) stands).1 ∙ sym (address_stands e s t r x y h).1 in (
        last.there,
        ap (instance_at t.instances) there
            ∙ last_is_where (began_at y.block y.start) t.instances i y
            (last_too e s t r callers (began_at b o.bits) (began_at y.block y.start) i x y second goes last
            (and_from (y.block == y.block) (y.start == y.start) (eq-eqb y.block y.block refl)
            (eq-eqb y.start y.start refl)) places (says block (start_zero start h.whole))),
      )
    where
      start_zero : x.start ≡ o.bits → x.start ≡ 0 → 0 ≡ o.bits
      start_zero start whole = sym whole ∙ start

      places : (j : ℕ) (a c : Instance) → slice_get s.instances j ≡ Some a → slice_get t.instances j ≡ Some c
          → began_at y.block y.start c ≡ true → (c.block ≡ y.block) × (c.start ≡ y.start)
      places j a c at to h =
          let parts = and_parts (c.block == y.block) (c.start == y.start) h in
          (eqb-true c.block y.block parts.0, eqb-true c.start y.start parts.1)

      says : x.block ≡ b → 0 ≡ o.bits → (j : ℕ) (a c : Instance) → slice_get s.instances j ≡ Some a
          → slice_get t.instances j ≡ Some c → a.block ≡ x.block → began_at y.block y.start c ≡ true
          → began_at b o.bits a ≡ true
      says block zero_is j a c at to same h =
          and_from (a.block == b) (a.start == o.bits) (eq-eqb a.block b (same ∙ block))
          (eq-eqb a.start o.bits ((r.instances j a c at to).whole ∙ zero_is))

  by_value : (v : Value) → p ≡ v → instance_at s.instances v ≡ Some (i, x) → FindsIt
  by_value (Value.Ptr (Pointer.At b o)) is e = at_address b o is (where_last (began_at b o.bits) s.instances i x e)
  by_value (Value.Ptr Pointer.Null) is e = absurd (cc)
  by_value (Value.Ptr (Pointer.Func f)) is e = absurd (cc)
  by_value Value.Poison is e = absurd (cc)
  by_value (Value.Int n) is e = absurd (cc)

  pub finds_it : instance_at s.instances p ≡ Some (i, x) → instance_at t.instances q ≡ Some (i, y)
  finds_it e = (by_value p refl e).1

-- ---- what coro.done finds

pub record HasSleeper (g : Given) (s u : State) (result : Option ℕ) (p : Value) : Type 0 where
  pub number : ℕ
  pub instance : Instance
  pub is : instance_at s.instances p ≡ Some (number, instance)
  pub suspend : Point
  pub values : Env
  pub status : instance.status ≡ Status.Suspended suspend values
  pub final : has_final (function_at g.code instance.coroutine) ≡ true

module _ (g : Given) (s u : State) (result : Option ℕ) (p : Value) where
  abbrev told : Sleeper → Result State Cause
  told y =
      ok_if (has_final (function_at g.code y.instance.coroutine)) Cause.State
      (gives s result (truth_value (is_final (function_at g.code y.instance.coroutine) y.suspend)))

  by_final : (b : Bool) (w : State) → ok_if b Cause.State w ≡ Ok u → b ≡ true
  by_final true w h = refl
  by_final false w h = absurd (cc)

  by_status : (i : ℕ) (x : Instance) → instance_at s.instances p ≡ Some (i, x) → (status : Status)
      → x.status ≡ status → and_then (sleeper_of i x status) told ≡ Ok u → HasSleeper g s u result p
  by_status i x is Status.Running e h = absurd (cc)
  by_status i x is Status.Finished e h = absurd (cc)
  by_status i x is (Status.Suspended point values) e h = record {
    number = i;
    instance = x;
    is = is;
    suspend = point;
    values = values;
    status = e;
    final = by_final (has_final (function_at g.code x.coroutine)) _ h;
  }

  pub has_sleeper : done_at g s result p ≡ Ok u → HasSleeper g s u result p
  has_sleeper h = by (instance_at s.instances p) refl h
    where
      by : (o : Option (ℕ × Instance)) → instance_at s.instances p ≡ o
          → and_then (and_then (found Cause.Frame o) (λ (i, x). sleeper_of i x x.status)) told ≡ Ok u
          → HasSleeper g s u result p
      by None eo h = absurd (cc)
      by (Some (i, x)) eo h = by_status i x eo x.status refl h

-- so it says
pub is_told : (g : Given) (s : State) (result : Option ℕ) (p : Value) (i : ℕ) (x : Instance) (point : Point)
    (values : Env) → instance_at s.instances p ≡ Some (i, x) → x.status ≡ Status.Suspended point values
    → has_final (function_at g.code x.coroutine) ≡ true
    → done_at g s result p
    ≡ Ok (gives s result (truth_value (is_final (function_at g.code x.coroutine) point)))
is_told g s result p i x point values is status final =
    ap (λ (o : Option (ℕ × Instance)). and_then (and_then (found Cause.Frame o)
    (λ (i, x). sleeper_of i x x.status)) (told g s s result p)) is
    ∙ (ap (λ (z : Status). and_then (sleeper_of i x z) (told g s s result p)) status
    ∙ ap (λ (b : Bool). ok_if b Cause.State (gives s result
    (truth_value (is_final (function_at g.code x.coroutine) point)))) final)

sleeps_too : (e : Elision) (func : ℕ) (a c : Status) (point : Point) (values : Env) → AreStatuses e func a c
    → a ≡ Status.Suspended point values
    → (others : Env) × (c ≡ Status.Suspended (own_point e func point) others)
sleeps_too e func _ _ point values Runs is = absurd (cc)
sleeps_too e func _ _ point values Ends is = absurd (cc)
sleeps_too e func _ _ point values (Sleeps p vs others) is =
    let same : p ≡ point = cc in (others, ap (λ (q : Point). Status.Suspended (own_point e func q) others) same)

-- ---- the step

module _ (e : Elision) (s t : State) (n : ℕ) (r : AreElided e s (standing_at t n)) (result : Option ℕ)
    (must_tail : Bool) (ty : Option Ty) (args : List Arg) (callers : HaveCallers e (standing_at t n))
    (fine : IsFine (framed_step (framed e) s).outcome)
    (at : IsAtDone e s t n r result must_tail ty args) where
  abbrev call : Instr
  call = Instr.Call result must_tail ty (Callee.Intrinsic Intrinsic.CoroDone) args

  abbrev p : Value
  p = nth (arg_values e.code s.top.values args) 0

  abbrev q : Value
  q = nth (arg_values (elided_code e) t.top.values args) 0

  stands : IsValue r.homes p q
  stands =
      arg_stands e r.homes r.globals s.top (standing_at t n).top (was_given (sides s t) t.top) r.top.values args 0
      at.look.handle

  sleeper : (u : State) × HasSleeper (framed e).given s u result p
  sleeper =
      let goes = steps_on e s t n r Intrinsic.CoroDone result must_tail ty args at.look.call fine in
      (goes.0, has_sleeper (framed e).given s goes.0 result p goes.1)

  module _ (u : State) (k : HasSleeper (framed e).given s u result p) where
    abbrev x : Instance
    x = k.instance

    abbrev func : ℕ
    func = x.coroutine

    goes : is_finished x.status ≡ false
    goes = ap is_finished k.status

    first : slice_get s.instances k.number ≡ Some x
    first = there k.number x p k.is
      where
        there : (i : ℕ) (z : Instance) (v : Value) → instance_at s.instances v ≡ Some (i, z)
            → slice_get s.instances i ≡ Some z
        there i z (Value.Ptr (Pointer.At b o)) is = (where_last (began_at b o.bits) s.instances i z is).there
        there i z (Value.Ptr Pointer.Null) is = absurd (cc)
        there i z (Value.Ptr (Pointer.Func f)) is = absurd (cc)
        there i z Value.Poison is = absurd (cc)
        there i z (Value.Int n) is = absurd (cc)

    module _ (y : Instance) (second : slice_get t.instances k.number ≡ Some y) where
      h : AreInstances e r.homes t.world.memory x y
      h = r.instances k.number x y first second

      found_too : instance_at t.instances q ≡ Some (k.number, y)
      found_too = finds_it e s (standing_at t n) r callers p q stands k.number x y second goes k.is

      none : GivesNone e func
      none = at.bare k.number x first

      same_code : function_at (elided_code e) y.coroutine ≡ function_in e func
      same_code = ap (function_in_elided e) h.coroutine ∙ same_function e func none

      other_status : (others : Env) × (y.status ≡ Status.Suspended (own_point e func k.suspend) others)
      other_status = sleeps_too e func x.status y.status k.suspend k.values h.status k.status

      final_too : has_final (function_at (elided_code e) y.coroutine) ≡ true
      final_too = ap has_final same_code ∙ k.final

      abbrev v : Value
      v = truth_value (is_final (function_in e func) k.suspend)

      abbrev w : Value
      w = truth_value (is_final (function_at (elided_code e) y.coroutine) (own_point e func k.suspend))

      same_value : w ≡ v
      same_value = λ i. truth_value (is_final (same_code i) (same_place e func none k.suspend i))

      sets : SetsAlike e r.homes (sides s t) s.top t.top result v w
      sets = record {
        names = at.look.call.names;
        alike = λ n set calm. same_value;
        asked = λ n set ramp is. absurd (no_both _ (at.look.plain n set).need is);
        freed = λ n set given is. absurd (no_both _ (at.look.plain n set).other.freed is);
        tested = λ n is_eq set given is. absurd (no_some _ is_eq (at.look.plain n set).other.tested is);
      }
        where
          no_some : (o : Option Bool) (f : Bool) → o ≡ None → o ≡ Some f → ⊥
          no_some None f a b = absurd (cc)
          no_some (Some c) f a b = absurd (cc)

      both_done : AreElided e (framed_step (framed e) s) (framed_step (elided e) t)
      both_done =
          steps_both e s t n r Intrinsic.CoroDone result must_tail ty args at.look.call (gives s result v)
          (gives t result w)
          (is_told (framed e).given s result p k.number x k.suspend k.values k.is k.status k.final)
          (is_told (elided e).given t result q k.number y (own_point e func k.suspend) other_status.0 found_too
          other_status.1 final_too)
          (gives_beside e s t n r Intrinsic.CoroDone result must_tail ty args at.look.call v w sets
          (name_held e s t result at.look.holds v s.top.has_left) (name_kept e s t result at.look.holds))

  pub done_beside : AreElided e (framed_step (framed e) s) (framed_step (elided e) t)
  done_beside =
      let k = sleeper in
      let y = twin_of e s (standing_at t n) r k.1.number k.1.instance (first k.0 k.1) in
      both_done k.0 k.1 y.0 y.1
