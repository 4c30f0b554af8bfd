-- coro.promise gives addresses that stand for each other.
use Rattle.std.proofs.Common.{◌≡◌, ◌<◌, ◌+◌, ◌^◌, ℕ, Bool, true, false, not, List, Ok, Err, refl, sym, ap, ◌∙◌, subst, arith, if◌then◌else◌, ◌==◌}
use Rattle.std.proofs.lemmas.Bool.{and_from, and_parts, eq-eqb, eqb-true, or_parts, or_from}
use Rattle.std.specs.Option.{option_map_or}
use Rattle.std.specs.Prelude.{None, Option, Result, Some, find, option_map, slice_get}
use Rattle.pass_elide_proof.proofs.Addresses.{address_stands, home_seen, moved_from_start, twin_of}
use Rattle.pass_elide_proof.proofs.AtCalls.{arg_stands, name_held, name_kept}
use Rattle.pass_elide_proof.proofs.Fronts.{gives_beside, steps_both, steps_on}
use Rattle.pass_elide_proof.proofs.Begins.{no_both}
use Rattle.pass_elide_proof.proofs.Done.{finds_it}
use Rattle.pass_elide_proof.proofs.Found.{IsLastOf, last_is_where, last_too, same_end, where_last}
use Rattle.pass_elide_proof.proofs.Setting.{SetsAlike}
use Rattle.pass_elide_proof.specs.Both.{standing_at}
use Rattle.pass_elide_proof.specs.Elision.{Elision, elided, elided_code, framed}
use Rattle.pass_elide_proof.specs.Invariant.{HaveCallers}
use Rattle.pass_elide_proof.specs.Looking.{IsAtPromise}
use Rattle.pass_elide_proof.specs.Match.{AreElided, AreInstances, IsFreedAs, sides, was_given}
use Rattle.pass_proofs.proofs.run_laws.memory.Loads.{moved_bits}
use Rattle.pass_proofs.specs.ir_base.declared.cause.Cause.{Cause}
use Rattle.pass_proofs.specs.ir_model.Ty.{Ty}
use Rattle.pass_proofs.specs.ir_model.declared.instr.Instr.{Instr}
use Rattle.pass_proofs.specs.ir_model.declared.operand.Arg.{Arg}
use Rattle.pass_proofs.specs.ir_model.declared.operand.Callee.{Callee}
use Rattle.pass_proofs.specs.ir_model.declared.operand.Intrinsic.{Intrinsic}
use Rattle.pass_proofs.specs.ir_model.declared.operand.Operand.{Operand}
use Rattle.pass_proofs.specs.ir_paths.Windows.{operand_at}
use Rattle.pass_proofs.specs.run_agreement.Machines.{IsFine}
use Rattle.pass_proofs.specs.run_framed.Framed.{FramedGiven, address_behind, framed_frame_of_promise, framed_promise, framed_promise_of_frame, framed_step, is_given, is_over, is_promise_at, is_promise_kind, layout_of, promise_offset}
use Rattle.pass_proofs.specs.run_laws.memory.Pointers.{IsValue, home_of}
use Rattle.pass_proofs.specs.run_memory.Pointers.{moved, offset_of}
use Rattle.pass_proofs.specs.run_memory.declared.pointer.Offset.{Offset}
use Rattle.pass_proofs.specs.run_memory.declared.pointer.Pointer.{Pointer}
use Rattle.pass_proofs.specs.run_memory.declared.pointer.Value.{Value}
use Rattle.pass_proofs.specs.run_source.State.{began_at, frame_address_of, gives, instance_at, is_finished, last_where}
use Rattle.pass_proofs.specs.run_source.declared.state.Instance.{Instance}
use Rattle.pass_proofs.specs.run_source.declared.state.State.{State}
use Rattle.pass_proofs.specs.run_source_tables.Given.{is_true}
use Rattle.pass_proofs.specs.run_step.Results.{and_then, found, ok_if}
use Rattle.pass_proofs.specs.run_step.Values.{arg_values, nth}

no_some : {A : Type 0} (o : Option A) (f : A) → o ≡ None → o ≡ Some f → ⊥
no_some None f a b = absurd (cc)
no_some (Some c) f a b = absurd (cc)

one_number : {a b : ℕ} → Some a ≡ Some b → a ≡ b
one_number e = cc

-- ---- what a promise says of the framed run

pub record HasPromise (g : FramedGiven) (s : State) (p v : Value) : Type 0 where
  pub number : ℕ
  pub instance : Instance
  pub is : instance_at s.instances p ≡ Some (number, instance)
  pub distance : ℕ
  pub has : promise_offset g instance ≡ Some distance
  pub alive : is_over instance ≡ false
  pub value : v ≡ address_behind instance distance

pub record IsPromiseOf (g : FramedGiven) (s : State) (b : ℕ) (o : Offset) (v : Value) : Type 0 where
  pub number : ℕ
  pub instance : Instance
  pub is : last_where (is_promise_at g b o.bits) s.instances ≡ Some (number, instance)
  pub alive : is_over instance ≡ false
  pub value : v ≡ frame_address_of instance

alive_so : (over : Bool) (cause : Cause) (a v : Value) → ok_if (not over) cause a ≡ Ok v → (over ≡ false) × (v ≡ a)
alive_so false cause a v h = (refl, let same : a ≡ v = cc in sym same)
alive_so true cause a v h = absurd (cc)

module _ (g : FramedGiven) (s : State) (p v : Value) where
  behind_frame : (i : ℕ) (x : Instance) → instance_at s.instances p ≡ Some (i, x) → (o : Option ℕ)
      → promise_offset g x ≡ o
      → and_then (found Cause.Promise o) (λ distance. ok_if (not (is_over x)) Cause.Dead (address_behind x distance))
      ≡ Ok v → HasPromise g s p v
  behind_frame i x is None eo h = absurd (cc)
  behind_frame i x is (Some distance) eo h =
      let so = alive_so (is_over x) Cause.Dead (address_behind x distance) v h in
      record { number = i; instance = x; is = is; distance = distance; has = eo; alive = so.0; value = so.1 }

  has_promise : framed_promise_of_frame g s p ≡ Ok v → HasPromise g s p v
  has_promise h = by (instance_at s.instances p) refl h
    where
      by : (o : Option (ℕ × Instance)) → instance_at s.instances p ≡ o
          → and_then (found Cause.Frame o) (λ (i, x). and_then (found Cause.Promise (promise_offset g x))
          (λ distance. ok_if (not (is_over x)) Cause.Dead (address_behind x distance))) ≡ Ok v → HasPromise g s p v
      by None eo h = absurd (cc)
      by (Some (i, x)) eo h = behind_frame i x eo (promise_offset g x) refl h

module _ (g : FramedGiven) (s : State) (b : ℕ) (o : Offset) (v : Value) where
  is_promise_of : framed_frame_of_promise g s (Value.Ptr (Pointer.At b o)) ≡ Ok v → IsPromiseOf g s b o v
  is_promise_of h = by (last_where (is_promise_at g b o.bits) s.instances) refl h
    where
      by : (q : Option (ℕ × Instance)) → last_where (is_promise_at g b o.bits) s.instances ≡ q
          → and_then (found Cause.Promise q) (λ (i, x). ok_if (not (is_over x)) Cause.Promise (frame_address_of x))
          ≡ Ok v → IsPromiseOf g s b o v
      by None eo h = absurd (cc)
      by (Some (i, x)) eo h =
          let so = alive_so (is_over x) Cause.Promise (frame_address_of x) v h in
          record { number = i; instance = x; is = eo; alive = so.0; value = so.1 }

-- ---- so it is in the other run

promised : (g : FramedGiven) (s : State) (p : Value) (i : ℕ) (x : Instance) (distance : ℕ)
    → instance_at s.instances p ≡ Some (i, x) → promise_offset g x ≡ Some distance → is_over x ≡ false
    → framed_promise_of_frame g s p ≡ Ok (address_behind x distance)
promised g s p i x distance is has alive =
    ap (λ (o : Option (ℕ × Instance)). and_then (found Cause.Frame o) (λ (i, x).
    and_then (found Cause.Promise (promise_offset g x))
    (λ distance. ok_if (not (is_over x)) Cause.Dead (address_behind x distance)))) is
    ∙ (ap (λ (o : Option ℕ). and_then (found Cause.Promise o)
    (λ distance. ok_if (not (is_over x)) Cause.Dead (address_behind x distance))) has
    ∙ ap (λ (b : Bool). ok_if (not b) Cause.Dead (address_behind x distance)) alive)

framed_of : (g : FramedGiven) (s : State) (b : ℕ) (o : Offset) (i : ℕ) (x : Instance)
    → last_where (is_promise_at g b o.bits) s.instances ≡ Some (i, x) → is_over x ≡ false
    → framed_frame_of_promise g s (Value.Ptr (Pointer.At b o)) ≡ Ok (frame_address_of x)
framed_of g s b o i x is alive =
    ap (λ (q : Option (ℕ × Instance)). and_then (found Cause.Promise q)
    (λ (i, x). ok_if (not (is_over x)) Cause.Promise (frame_address_of x))) is
    ∙ ap (λ (c : Bool). ok_if (not c) Cause.Promise (frame_address_of x)) alive

module _ (e : Elision) (s t : State) (r : AreElided e s t) (callers : HaveCallers e t)
    (starts : (i : ℕ) (y : Instance) → slice_get t.instances i ≡ Some y → y.start ≡ 0)
    (small : (i distance : ℕ) (x : Instance) → slice_get s.instances i ≡ Some x
    → promise_offset (framed e) x ≡ Some distance → distance < 2 ^ 64) where
  module _ (i : ℕ) (x y : Instance) (first : slice_get s.instances i ≡ Some x)
      (second : slice_get t.instances i ≡ Some y) where
    h : AreInstances e r.homes t.world.memory x y
    h = r.instances i x y first second

    offset_too : promise_offset (elided e) y ≡ promise_offset (framed e) x
    offset_too =
        ap (λ (n : ℕ). option_map (λ z. z.offset)
        (find (λ z. is_promise_kind z.kind) (layout_of e.layouts.coroutines n).fields)) h.coroutine

    alive_too : is_over x ≡ false → is_over y ≡ false
    alive_too alive =
        let parts = or_parts (is_finished x.status) x.freed alive in
        or_from (is_finished y.status) y.freed (same_end e x.coroutine x.status y.status h.status ∙ parts.0)
        (freed_too (is_given t.world.memory y) h.freed parts.1)
      where
        freed_too : (b : Bool) → IsFreedAs t.world.memory x y b → x.freed ≡ false → y.freed ≡ false
        freed_too true f none = f.0
        freed_too false f none = f ∙ none

    -- so far behind the starts
    behind_stands : (distance : ℕ) → distance < 2 ^ 64
        → IsValue r.homes (address_behind x distance) (address_behind y distance)
    behind_stands distance lt = (
      home_seen e s t r x y h,
      sym ((λ j. Value.Ptr (Pointer.At (h.home j).block (moved (moved (offset_of (h.whole j)) distance)
          (h.home j).offset)))
          ∙ ((λ j. Value.Ptr (Pointer.At y.block (moved (moved_from_start distance lt j) (starts i y second j))))
          ∙ ((λ j. Value.Ptr (Pointer.At y.block
          (record { bits = (moved_bits distance 0 (from distance lt) ∙ plain distance) j })))
          ∙ sym (λ j. Value.Ptr (Pointer.At y.block ((ap (λ (n : ℕ). moved (offset_of n) distance)
          (starts i y second) ∙ moved_from_start distance lt) j)))))),
    )
      where
        from : (n : ℕ) → n < 2 ^ 64 → 0 + n < 2 ^ 64
        from n lt = omega (arith, lt)

        plain : (n : ℕ) → 0 + n ≡ n
        plain n = omega arith

  -- ---- from a frame to its promise

  module _ (p q v : Value) (stands : IsValue r.homes p q) where
    record GivesToo (b : Bool) : Type 0 where
      value : Value
      goes : (if b then framed_frame_of_promise (elided e) t q else framed_promise_of_frame (elided e) t q) ≡ Ok value
      is : IsValue r.homes v value

    of_frame : HasPromise (framed e) s p v → GivesToo false
    of_frame k =
        let first = there k.number k.instance p k.is in
        let y = twin_of e s t r k.number k.instance first in
        let parts = or_parts (is_finished k.instance.status) k.instance.freed k.alive in
        record {
          value = address_behind y.0 k.distance;
          goes = promised (elided e) t q k.number y.0 k.distance
              (finds_it e s t r callers p q stands k.number k.instance y.0 y.1 parts.0 k.is)
              (offset_too k.number k.instance y.0 first y.1 ∙ k.has)
              (alive_too k.number k.instance y.0 first y.1 k.alive);
          is = subst (λ (z : Value). IsValue r.homes z (address_behind y.0 k.distance)) (sym k.value)
              (behind_stands k.number k.instance y.0 first y.1 k.distance
              (small k.number k.distance k.instance first k.has));
        }
      where
        there : (i : ℕ) (z : Instance) (u : Value) → instance_at s.instances u ≡ Some (i, z)
            → slice_get s.instances i ≡ Some z
        there i z (Value.Ptr (Pointer.At b o)) is = (where_last (began_at b o.bits) s.instances i z is).there
        there i z (Value.Ptr Pointer.Null) is = absurd (cc)
        there i z (Value.Ptr (Pointer.Func f)) is = absurd (cc)
        there i z Value.Poison is = absurd (cc)
        there i z (Value.Int n) is = absurd (cc)

    -- ---- from a promise to its frame

    -- a promise lies so far behind the start of its frame
    record LiesAt (g : FramedGiven) (b o : ℕ) (x : Instance) : Type 0 where
      block : x.block ≡ b
      distance : ℕ
      has : promise_offset g x ≡ Some distance
      at : o ≡ x.start + distance

    lies_at : (g : FramedGiven) (b o : ℕ) (x : Instance) → is_promise_at g b o x ≡ true → LiesAt g b o x
    lies_at g b o x is =
        let parts = and_parts (x.block == b) (option_map_or (λ d. o == x.start + d) (promise_offset g x) false) is in
        by (eqb-true x.block b parts.0) (promise_offset g x) refl parts.1
      where
        by : x.block ≡ b → (d : Option ℕ) → promise_offset g x ≡ d
            → option_map_or (λ d. o == x.start + d) d false ≡ true → LiesAt g b o x
        by block None ed so = absurd (cc)
        by block (Some d) ed so = record { block = block; distance = d; has = ed; at = eqb-true o (x.start + d) so }

    lies_there : (g : FramedGiven) (b o : ℕ) (x : Instance) (d : ℕ) → x.block ≡ b → promise_offset g x ≡ Some d
        → o ≡ x.start + d → is_promise_at g b o x ≡ true
    lies_there g b o x d block has at =
        and_from (x.block == b) (option_map_or (λ n. o == x.start + n) (promise_offset g x) false)
        (eq-eqb x.block b block)
        (ap (λ (n : Option ℕ). option_map_or (λ k. o == x.start + k) n false) has ∙ eq-eqb o (x.start + d) at)

    module _ (b : ℕ) (o : Offset) (is_p : p ≡ Value.Ptr (Pointer.At b o)) (k : IsPromiseOf (framed e) s b o v) where
      abbrev x : Instance
      x = k.instance

      last : IsLastOf (is_promise_at (framed e) b o.bits) s.instances k.number x
      last = where_last (is_promise_at (framed e) b o.bits) s.instances k.number x k.is

      its_place : LiesAt (framed e) b o.bits x
      its_place = lies_at (framed e) b o.bits x last.passes

      module _ (lies : LiesAt (framed e) b o.bits x) (y : Instance) (second : slice_get t.instances k.number ≡ Some y)
        where
          g : AreInstances e r.homes t.world.memory x y
          g = r.instances k.number x y last.there second

          abbrev far : ℕ
          far = lies.distance

          near : far < 2 ^ 64
          near = small k.number far x last.there lies.has

          at_offset : o.bits ≡ far
          at_offset = lies.at ∙ (ap (λ (n : ℕ). n + far) g.whole ∙ plain)
            where
              plain : 0 + far ≡ far
              plain = omega arith

          home_is : home_of r.homes b ≡ record { block = y.block; offset = 0; is_seen = true }
          home_is =
              ap (home_of r.homes) (sym lies.block)
              ∙ (g.home ∙ (λ j. record { block = y.block; offset = starts k.number y second j; is_seen = true }))

          other_is : q ≡ Value.Ptr (Pointer.At y.block (offset_of far))
          other_is =
              (subst (λ (z : Value). IsValue r.homes z q) is_p stands).1
              ∙ ((λ j. Value.Ptr (Pointer.At (home_is j).block (moved (offset_of (at_offset j)) (home_is j).offset)))
              ∙ (λ j. Value.Ptr (Pointer.At y.block
              (record { bits = (moved_bits far 0 (from far near) ∙ plain far) j }))))
            where
              from : (n : ℕ) → n < 2 ^ 64 → 0 + n < 2 ^ 64
              from n lt = omega (arith, lt)

              plain : (n : ℕ) → 0 + n ≡ n
              plain n = omega arith

          passes : is_promise_at (elided e) y.block far y ≡ true
          passes =
              lies_there (elided e) y.block far y far refl
              (offset_too k.number x y last.there second ∙ lies.has) (sym (ap (λ (n : ℕ). n + far)
              (starts k.number y second) ∙ plain))
            where
              plain : 0 + far ≡ far
              plain = omega arith

          places : (j : ℕ) (a c : Instance) → slice_get s.instances j ≡ Some a → slice_get t.instances j ≡ Some c
              → is_promise_at (elided e) y.block far c ≡ true → (c.block ≡ y.block) × (c.start ≡ y.start)
          places j a c at to so =
              ((lies_at (elided e) y.block far c so).block, starts j c to ∙ sym (starts k.number y second))

          says : (j : ℕ) (a c : Instance) → slice_get s.instances j ≡ Some a → slice_get t.instances j ≡ Some c
              → a.block ≡ x.block → is_promise_at (elided e) y.block far c ≡ true
              → is_promise_at (framed e) b o.bits a ≡ true
          says j a c at to same so =
              let l = lies_at (elided e) y.block far c so in
              lies_there (framed e) b o.bits a l.distance (same ∙ lies.block)
              (sym (offset_too j a c at to) ∙ l.has)
              (at_offset ∙ (l.at ∙ (ap (λ (n : ℕ). n + l.distance) (starts j c to)
              ∙ sym (ap (λ (n : ℕ). n + l.distance) (r.instances j a c at to).whole))))

          found_too : last_where (is_promise_at (elided e) y.block far) t.instances ≡ Some (k.number, y)
          found_too =
              last_is_where (is_promise_at (elided e) y.block far) t.instances k.number y
              (last_too e s t r callers (is_promise_at (framed e) b o.bits) (is_promise_at (elided e) y.block far)
              k.number x y second (or_parts (is_finished x.status) x.freed k.alive).0 last passes places says)

          of_promise : GivesToo true
          of_promise = record {
            value = frame_address_of y;
            goes = ap (framed_frame_of_promise (elided e) t) other_is
                ∙ framed_of (elided e) t y.block (offset_of far) k.number y found_too
                (alive_too k.number x y last.there second k.alive);
            is = subst (λ (z : Value). IsValue r.homes z (frame_address_of y)) (sym k.value)
                (address_stands e s t r x y g);
          }

      from_promise : GivesToo true
      from_promise = let y = twin_of e s t r k.number x last.there in of_promise its_place y.0 y.1

    by_value : (z : Value) → p ≡ z → framed_frame_of_promise (framed e) s z ≡ Ok v → GivesToo true
    by_value (Value.Ptr (Pointer.At b o)) is h = from_promise b o is (is_promise_of (framed e) s b o v h)
    by_value (Value.Ptr Pointer.Null) is h = absurd (cc)
    by_value (Value.Ptr (Pointer.Func f)) is h = absurd (cc)
    by_value Value.Poison is h = absurd (cc)
    by_value (Value.Int n) is h = absurd (cc)

    gives_too : (b : Bool)
        → (if b then framed_frame_of_promise (framed e) s p else framed_promise_of_frame (framed e) s p) ≡ Ok v
        → GivesToo b
    gives_too true h = by_value p refl h
    gives_too false h = of_frame (has_promise (framed e) s p v h)

-- ---- the step

module _ (e : Elision) (s t : State) (n : ℕ) (r : AreElided e s (standing_at t n)) (result : Option ℕ)
    (must_tail : Bool) (ty : Option Ty) (args : List Arg) (callers : HaveCallers e (standing_at t n))
    (fine : IsFine (framed_step (framed e) s).outcome)
    (at : IsAtPromise e s t n r result must_tail ty args) where
  abbrev call : Instr
  call = Instr.Call result must_tail ty (Callee.Intrinsic Intrinsic.CoroPromise) args

  abbrev p : Value
  p = nth (arg_values e.code s.top.values args) 0

  abbrev q : Value
  q = nth (arg_values (elided_code e) t.top.values args) 0

  abbrev from : Operand
  from = operand_at args 2

  stands : IsValue r.homes p q
  stands =
      arg_stands e r.homes r.globals s.top (standing_at t n).top (was_given (sides s t) t.top) r.top.values args 0
      at.look.handle

  value_of : (o : Result Value Cause) → (u : State) → and_then o (λ v. Ok (gives s result v)) ≡ Ok u
      → (v : Value) × (o ≡ Ok v)
  value_of (Ok v) u h = (v, refl)
  value_of (Err c) u h = absurd (cc)

  promise : (v : Value) × (framed_promise (framed e) s p from ≡ Ok v)
  promise =
      let goes = steps_on e s t n r Intrinsic.CoroPromise result must_tail ty args at.look.call fine in
      value_of (framed_promise (framed e) s p from) goes.0 goes.1

  module _ (v : Value) (h : framed_promise (framed e) s p from ≡ Ok v) where
    other : GivesToo e s (standing_at t n) r callers at.starts at.small p q v stands (is_true from)
    other = gives_too e s (standing_at t n) r callers at.starts at.small p q v stands (is_true from) h

    sets : (w : Value) → IsValue r.homes v w → SetsAlike e r.homes (sides s t) s.top t.top result v w
    sets w is = record {
      names = at.look.call.names;
      alike = λ n set calm. is;
      asked = λ n set ramp so. absurd (no_both _ (at.look.plain n set).need so);
      freed = λ n set given so. absurd (no_both _ (at.look.plain n set).other.freed so);
      tested = λ n is_eq set given so. absurd (no_some _ is_eq (at.look.plain n set).other.tested so);
    }

    both_promise : AreElided e (framed_step (framed e) s) (framed_step (elided e) t)
    both_promise =
        let w = other in
        steps_both e s t n r Intrinsic.CoroPromise result must_tail ty args at.look.call (gives s result v)
        (gives t result w.value)
        (ap (λ (o : Result Value Cause). and_then o (λ v. Ok (gives s result v))) h)
        (ap (λ (o : Result Value Cause). and_then o (λ v. Ok (gives t result v))) w.goes)
        (gives_beside e s t n r Intrinsic.CoroPromise result must_tail ty args at.look.call v w.value
        (sets w.value w.is)
        (name_held e s t result at.look.holds v s.top.has_left) (name_kept e s t result at.look.holds))

  pub promise_beside : AreElided e (framed_step (framed e) s) (framed_step (elided e) t)
  promise_beside = let k = promise in both_promise k.0 k.1
