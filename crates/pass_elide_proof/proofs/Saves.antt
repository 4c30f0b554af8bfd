-- Both runs save a coroutine, or come to a suspend.
use Rattle.std.proofs.Common.{◌≡◌, ℕ, suc, Bool, true, false, not, List, [], ◌∷◌, length, Ok, Err, refl, sym, ap, ◌∙◌, subst}
use Rattle.std.specs.Prelude.{None, Option, Result, Some, negsuc, option_and_then, option_map, slice_get}
use Rattle.pass_elide_proof.proofs.Addresses.{twin_of}
use Rattle.pass_elide_proof.proofs.AtCalls.{both_step, goes_on, name_held, name_kept, own_place}
use Rattle.pass_elide_proof.proofs.Bare.{same_function, same_place}
use Rattle.pass_elide_proof.proofs.Begins.{no_both}
use Rattle.pass_elide_proof.proofs.Changing.{changed_beside}
use Rattle.pass_elide_proof.proofs.Found.{same_end}
use Rattle.pass_elide_proof.proofs.Setting.{IsOwnPlace, SetsAlike, given_beside, left_beside}
use Rattle.pass_elide_proof.specs.Both.{AreAtCall, HoldsOn, IsPlainName}
use Rattle.pass_elide_proof.specs.Elision.{Elision, elided, framed, function_in, function_in_elided}
use Rattle.pass_elide_proof.specs.Match.{AreBelow, AreElided, AreInstances, AreStatuses, IsFreedAs, Sides, Sleeps, instance_in, own_point, sides}
use Rattle.pass_elide_proof.specs.Saves.{IsAtSave, IsAtSuspend, MaySave}
use Rattle.pass_proofs.specs.ir_base.declared.cause.Cause.{Cause}
use Rattle.pass_proofs.specs.ir_model.Ty.{Ty}
use Rattle.pass_proofs.specs.ir_model.declared.instr.Instr.{Instr}
use Rattle.pass_proofs.specs.ir_model.declared.module.Function.{Function}
use Rattle.pass_proofs.specs.ir_model.declared.operand.Arg.{Arg}
use Rattle.pass_proofs.specs.ir_model.declared.operand.Callee.{Callee}
use Rattle.pass_proofs.specs.ir_model.declared.operand.Intrinsic.{Intrinsic}
use Rattle.pass_proofs.specs.ir_model.declared.operand.Operand.{Operand}
use Rattle.pass_proofs.specs.ir_paths.Windows.{operand_at, suspend_of}
use Rattle.pass_proofs.specs.ir_paths.declared.point.Point.{Point}
use Rattle.pass_proofs.specs.run_agreement.Machines.{IsFine}
use Rattle.pass_proofs.specs.run_framed.Framed.{framed_next, framed_step, is_given}
use Rattle.pass_proofs.specs.run_laws.memory.Pointers.{Home, IsValue}
use Rattle.pass_proofs.specs.run_memory.declared.block.MemoryBlock.{MemoryBlock}
use Rattle.pass_proofs.specs.run_memory.declared.pointer.Value.{Value}
use Rattle.pass_proofs.specs.run_source.Source.{save, save_before, save_for, suspend}
use Rattle.pass_proofs.specs.run_source.State.{function_of, gives, next, numbered, own_instance, point_of, with_instance, with_left}
use Rattle.pass_proofs.specs.run_source.declared.state.Activation.{Activation}
use Rattle.pass_proofs.specs.run_source.declared.state.Instance.{Instance}
use Rattle.pass_proofs.specs.run_source.declared.state.State.{State}
use Rattle.pass_proofs.specs.run_source.declared.state.Status.{Status}
use Rattle.pass_proofs.specs.run_step.Results.{and_then, found, ok_if}
use Rattle.pass_proofs.specs.run_step.Step.{AtInstr}
use Rattle.pass_proofs.specs.run_step.Values.{integer}

no_some : {A : Type 0} (o : Option A) (f : A) → o ≡ None → o ≡ Some f → ⊥
no_some None f a b = absurd (cc)
no_some (Some c) f a b = absurd (cc)

-- ---- a save by an instance

abbrev saved_as : State → Point → Point → Instance → Instance
saved_as s save suspend x =
    record x {
      status = Status.Suspended suspend s.top.values;
      last_save = Some (record { depth = length s.below; save = save });
    }

pub record HasOwn (s : State) : Type 0 where
  pub number : ℕ
  pub instance : Instance
  pub is : own_instance s ≡ Some (number, instance)
  pub unfreed : instance.freed ≡ false

module _ (s u : State) (save suspend : Point) where
  by_freed : (b : Bool) (w : State) → ok_if (not b) Cause.State w ≡ Ok u → b ≡ false
  by_freed false w h = refl
  by_freed true w h = absurd (cc)

  has_own : save_for s save suspend ≡ Ok u → HasOwn s
  has_own h = by (own_instance s) refl h
    where
      by : (o : Option (ℕ × Instance)) → own_instance s ≡ o
          → and_then (found Cause.State o) (λ (i, x). ok_if (not x.freed) Cause.State
          (with_left (with_instance s i (saved_as s save suspend x)) true)) ≡ Ok u → HasOwn s
      by None eo h = absurd (cc)
      by (Some (i, x)) eo h = record {
        number = i;
        instance = x;
        is = eo;
        unfreed = by_freed x.freed (with_left (with_instance s i (saved_as s save suspend x)) true) h;
      }

saves : (s : State) (save suspend : Point) (i : ℕ) (x : Instance) → own_instance s ≡ Some (i, x) → x.freed ≡ false
    → save_for s save suspend ≡ Ok (with_left (with_instance s i (saved_as s save suspend x)) true)
saves s save suspend i x is unfreed =
    ap (λ (o : Option (ℕ × Instance)). and_then (found Cause.State o) (λ (i, x). ok_if (not x.freed) Cause.State
    (with_left (with_instance s i (saved_as s save suspend x)) true))) is
    ∙ ap (λ (b : Bool). ok_if (not b) Cause.State
    (with_left (with_instance s i (saved_as s save suspend x)) true)) unfreed

abbrev numbering : ℕ → Instance → ℕ × Instance
numbering i x = (i, x)

-- the number of the activation's instance
pub own_number : (s : State) (i : ℕ) (x : Instance) → own_instance s ≡ Some (i, x)
    → (s.top.instance ≡ Some i) × (slice_get s.instances i ≡ Some x)
own_number s i x is = by s.top.instance refl is
  where
    at : (j : ℕ) (o : Option Instance) → slice_get s.instances j ≡ o → option_map (numbering j) o ≡ Some (numbering i x)
        → (j ≡ i) × (slice_get s.instances j ≡ Some x)
    at j None eo h = absurd (cc)
    at j (Some y) eo h =
        let pair : numbering j y ≡ numbering i x = one (numbering j y) (numbering i x) h in (
          ap (λ (q : ℕ × Instance). q.0) pair,
          eo ∙ ap (λ (q : ℕ × Instance). Some q.1) pair,
        )
      where
        one : (p q : ℕ × Instance) → Some p ≡ Some q → p ≡ q
        one p q e = cc

    by : (o : Option ℕ) → s.top.instance ≡ o → option_and_then (numbered s.instances) o ≡ Some (numbering i x)
        → (s.top.instance ≡ Some i) × (slice_get s.instances i ≡ Some x)
    by None eo h = absurd (cc)
    by (Some j) eo h =
        let k = at j (slice_get s.instances j) refl h in
        (eo ∙ ap Some k.0, ap (slice_get s.instances) (sym k.0) ∙ k.1)

own_by : (s : State) (i : ℕ) (x : Instance) → s.top.instance ≡ Some i → slice_get s.instances i ≡ Some x
    → own_instance s ≡ Some (i, x)
own_by s i x is there =
    ap (option_and_then (numbered s.instances)) is ∙ ap (option_map (numbering i)) there

below_long : (e : Elision) (homes : List Home) (hides : ℕ → Bool) (d : Sides) (bs cs : List Activation)
    → AreBelow e homes hides d bs cs → length cs ≡ length bs
below_long e homes hides d [] [] h = refl
below_long e homes hides d [] (c ∷ cs) h = absurd h
below_long e homes hides d (a ∷ bs) [] h = absurd h
below_long e homes hides d (a ∷ bs) (c ∷ cs) h = ap suc (below_long e homes hides d bs cs h.1)

-- ---- both save

module _ (e : Elision) (s t : State) (r : AreElided e s t) (may : MaySave e s) (place : IsOwnPlace e s.top t.top)
    (suspend : Point) (own : HasOwn s) where
  abbrev func : ℕ
  func = s.top.func

  abbrev i : ℕ
  i = own.number

  abbrev x : Instance
  x = own.instance

  same_point : point_of t ≡ point_of s
  same_point =
      (λ j. record { block = place.block j; at = place.own j }) ∙ same_place e func may.bare (point_of s)

  is_own : (s.top.instance ≡ Some i) × (slice_get s.instances i ≡ Some x)
  is_own = own_number s i x own.is

  twin : (y : Instance) × (slice_get t.instances i ≡ Some y)
  twin = twin_of e s t r i x is_own.1

  module _ (y : Instance) (second : slice_get t.instances i ≡ Some y) where
    abbrev m : List MemoryBlock
    m = t.world.memory

    abbrev x' : Instance
    x' = saved_as s (point_of s) suspend x

    abbrev y' : Instance
    y' = saved_as t (point_of t) suspend y

    old : AreInstances e r.homes m x y
    old = r.instances i x y is_own.1 second

    there : instance_in s.instances s.top.instance ≡ Some x
    there = ap (instance_in s.instances) is_own.0 ∙ is_own.1

    its_own : x.coroutine ≡ func
    its_own = may.own x there

    same_for : (p : Point) → own_point e x.coroutine p ≡ p
    same_for p = ap (λ (n : ℕ). own_point e n p) its_own ∙ same_place e func may.bare p

    unfreed_too : (b : Bool) → IsFreedAs m x y b → y.freed ≡ false
    unfreed_too true h = h.0
    unfreed_too false h = h ∙ own.unfreed

    freed_too : (b : Bool) → IsFreedAs m x y b → IsFreedAs m x' y' b
    freed_too true h = (
      h.0,
      λ goes. h.1 (same_end e x.coroutine x.status y.status old.status ∙ may.goes x there),
    )
    freed_too false h = h

    new : AreInstances e r.homes m x' y'
    new = record {
      coroutine = old.coroutine;
      whole = old.whole;
      home = old.home;
      status = subst (λ (p : Point). AreStatuses e x.coroutine (Status.Suspended suspend s.top.values)
          (Status.Suspended p t.top.values)) (same_for suspend) (Sleeps suspend s.top.values t.top.values);
      last_save = λ j. Some (record {
        depth = below_long e r.homes r.hides (sides s t) s.below t.below r.below j;
        save = (same_point ∙ sym (same_for (point_of s))) j;
      });
      released = old.released;
      freed = freed_too (is_given m y) old.freed;
      slots = old.slots;
      no_slots = old.no_slots;
    }

    abbrev u : State
    u = with_instance s i x'

    abbrev w : State
    w = with_instance t i y'

    pub beside : AreElided e u w
    beside =
        changed_beside e s t r i x x' y y' is_own.1 second (record { coroutine = refl; block = refl; start = refl })
        (record { coroutine = refl; block = refl; start = refl }) new

    pub saves_first : save_for s (point_of s) suspend ≡ Ok (with_left u true)
    saves_first = saves s (point_of s) suspend i x own.is own.unfreed

    pub saves_second : save_for t (point_of t) suspend ≡ Ok (with_left w true)
    saves_second =
        saves t (point_of t) suspend i y (own_by t i y (r.top.instance ∙ is_own.0) second)
        (unfreed_too (is_given m y) old.freed)

-- a value that is the same
module _ (e : Elision) (s t : State) (homes : List Home) (i : Intrinsic) (result name : Option ℕ) (must_tail : Bool)
    (ty : Option Ty) (args : List Arg) (call : AreAtCall e s t i result must_tail ty args) (v : Value)
    (same : IsValue homes v v) (is : (n : ℕ) → name ≡ Some n → result ≡ Some n)
    (plain : (n : ℕ) → name ≡ Some n → IsPlainName (e.shape s.top.func) n) (d : Sides) where
  pub sets_same : SetsAlike e homes d s.top t.top name v v
  sets_same = record {
    names = λ n set. call.names n (is n set);
    alike = λ n set calm. same;
    asked = λ n set ramp need. absurd (no_both _ (plain n set).need need);
    freed = λ n set given so. absurd (no_both _ (plain n set).other.freed so);
    tested = λ n is_eq set given so. absurd (no_some _ is_eq (plain n set).other.tested so);
  }

-- ---- coro.save

module _ (e : Elision) (s t : State) (result : Option ℕ) (must_tail : Bool) (ty : Option Ty) (args : List Arg)
    (r : AreElided e s t) (fine : IsFine (framed_step (framed e) s).outcome)
    (at : IsAtSave e s t result must_tail ty args) where
  abbrev call : Instr
  call = Instr.Call result must_tail ty (Callee.Intrinsic Intrinsic.CoroSave) args

  abbrev f : Function
  f = function_in e s.top.func

  place : IsOwnPlace e s.top t.top
  place = own_place e s t Intrinsic.CoroSave result must_tail ty args r at.call

  record SavesAt : Type 0 where
    suspend : Point
    is : suspend_of f (point_of s) ≡ Some suspend
    own : HasOwn s

  saves_at : SavesAt
  saves_at =
      let goes = goes_on e s t Intrinsic.CoroSave result must_tail ty args r at.call fine in
      by (suspend_of f (point_of s)) refl goes.0 goes.1
    where
      after : (o : Result State Cause) (u : State) → and_then o (λ (z : State). Ok (next z)) ≡ Ok u
          → (z : State) × (o ≡ Ok z)
      after (Ok z) u h = (z, refl)
      after (Err c) u h = absurd (cc)

      by : (o : Option Point) → suspend_of f (point_of s) ≡ o → (u : State)
          → and_then (found Cause.State o) (λ (p : Point).
          and_then (save_for s (point_of s) p) (λ (z : State). Ok (next z))) ≡ Ok u → SavesAt
      by None eo u h = absurd (cc)
      by (Some p) eo u h =
          let z = after (save_for s (point_of s) p) u h in
          record { suspend = p; is = eo; own = has_own s z.0 (point_of s) p z.1 }

  module _ (k : SavesAt) where
    suspend_too : suspend_of (function_of (elided e).given t) (point_of t) ≡ Some k.suspend
    suspend_too =
        (λ j. suspend_of ((ap (function_in_elided e) r.top.func ∙ same_function e s.top.func at.may.bare) j)
        (same_point e s t r at.may place k.suspend k.own j)) ∙ k.is

    module _ (y : Instance) (second : slice_get t.instances k.own.number ≡ Some y) where
      abbrev saved_s : State
      saved_s = with_instance s k.own.number (saved_as s (point_of s) k.suspend k.own.instance)

      abbrev saved_t : State
      saved_t = with_instance t k.own.number (saved_as t (point_of t) k.suspend y)

      saved : AreElided e saved_s saved_t
      saved = beside e s t r at.may place k.suspend k.own y second

      goes_first : framed_next (framed e) s (AtInstr call) ≡ Ok (next (with_left saved_s true))
      goes_first =
          ap (λ (o : Option Point). and_then (found Cause.State o) (λ (p : Point).
          and_then (save_for s (point_of s) p) (λ (z : State). Ok (next z)))) k.is
          ∙ ap (λ (o : Result State Cause). and_then o (λ (z : State). Ok (next z)))
          (saves_first e s t r at.may place k.suspend k.own y second)

      goes_second : framed_next (elided e) t (AtInstr call) ≡ Ok (next (with_left saved_t true))
      goes_second =
          ap (λ (o : Option Point). and_then (found Cause.State o) (λ (p : Point).
          and_then (save_for t (point_of t) p) (λ (z : State). Ok (next z)))) suspend_too
          ∙ ap (λ (o : Result State Cause). and_then o (λ (z : State). Ok (next z)))
          (saves_second e s t r at.may place k.suspend k.own y second)

      holds : HoldsOn e saved_s saved_t None
      holds = record { holds = at.holds.holds; kept = λ ramp v name set. absurd (cc) }

      no_name : (n : ℕ) → None ≡ Some n → result ≡ Some n
      no_name n h = absurd (cc)

      no_plain : (n : ℕ) → None ≡ Some n → IsPlainName (e.shape s.top.func) n
      no_plain n h = absurd (cc)

      both_save : (h : AreElided e saved_s saved_t) → AreElided e (framed_step (framed e) s) (framed_step (elided e) t)
      both_save h =
          both_step e s t Intrinsic.CoroSave result must_tail ty args r at.call (next (with_left saved_s true))
          (next (with_left saved_t true)) goes_first goes_second
          (left_beside e saved_s saved_t h None Value.Poison Value.Poison true true refl
          (record { block = place.block; own = place.own; starts = place.starts })
          (sets_same e s t h.homes Intrinsic.CoroSave result None must_tail ty args at.call Value.Poison tt no_name
          no_plain (sides saved_s saved_t))
          (name_held e saved_s saved_t None holds Value.Poison true) (name_kept e saved_s saved_t None holds))

  pub save_beside : AreElided e (framed_step (framed e) s) (framed_step (elided e) t)
  save_beside =
      let k = saves_at in
      let y = twin e s t r at.may place k.suspend k.own in
      both_save k y.0 y.1 (saved k y.0 y.1)

-- ---- coro.suspend

module _ (e : Elision) (s t : State) (result : Option ℕ) (must_tail : Bool) (ty : Option Ty) (args : List Arg)
    (r : AreElided e s t) (fine : IsFine (framed_step (framed e) s).outcome)
    (at : IsAtSuspend e s t result must_tail ty args) where
  abbrev suspending : Instr
  suspending = Instr.Call result must_tail ty (Callee.Intrinsic Intrinsic.CoroSuspend) args

  abbrev v : Value
  v = integer 8 (negsuc 0)

  its_place : IsOwnPlace e s.top t.top
  its_place = own_place e s t Intrinsic.CoroSuspend result must_tail ty args r at.call

  -- the operand is the token of a save, or none
  abbrev Goes : Operand → Type 0
  Goes o =
      (u : State) → suspend s result o ≡ Ok u
      → (z : State) × (w : State) × (suspend s result o ≡ Ok z) × (suspend t result o ≡ Ok w) × AreElided e z w

  by_token : (o : Operand) → save_before s o ≡ Ok s → save_before t o ≡ Ok t → Goes o
  by_token o first second u h = (
    gives s result v,
    gives t result v,
    ap (λ (x : Result State Cause). and_then x (λ (z : State). Ok (gives z result v))) first,
    ap (λ (x : Result State Cause). and_then x (λ (z : State). Ok (gives z result v))) second,
    given_beside e s t r result v v its_place
        (sets_same e s t r.homes Intrinsic.CoroSuspend result result must_tail ty args at.call v refl (λ n set. set)
        at.plain (sides s t)) (name_held e s t result at.holds v s.top.has_left) (name_kept e s t result at.holds),
  )

  module _ (may : MaySave e s) (own : HasOwn s) (y : Instance)
      (second : slice_get t.instances own.number ≡ Some y) where
    abbrev left_s : State
    left_s = with_instance s own.number (saved_as s (point_of s) (point_of s) own.instance)

    abbrev left_t : State
    left_t = with_instance t own.number (saved_as t (point_of t) (point_of s) y)

    holds_too : HoldsOn e left_s left_t result
    holds_too = record { holds = at.holds.holds; kept = at.holds.kept }

    same : point_of t ≡ point_of s
    same = same_point e s t r may its_place (point_of s) own

    both_saved : AreElided e left_s left_t
        → (z : State) × (q : State) × (suspend s result Operand.None ≡ Ok z)
        × (suspend t result Operand.None ≡ Ok q) × AreElided e z q
    both_saved h = (
      gives (with_left left_s true) result v,
      gives (with_left left_t true) result v,
      ap (λ (x : Result State Cause). and_then x (λ (z : State). Ok (gives z result v)))
          (saves_first e s t r may its_place (point_of s) own y second),
      ap (λ (x : Result State Cause). and_then x (λ (z : State). Ok (gives z result v)))
          (ap (save_for t (point_of t)) same ∙ saves_second e s t r may its_place (point_of s) own y second),
      left_beside e left_s left_t h result v v true true refl
          (record { block = its_place.block; own = its_place.own; starts = its_place.starts })
          (sets_same e s t h.homes Intrinsic.CoroSuspend result result must_tail ty args at.call v refl (λ n set. set)
          at.plain (sides left_s left_t)) (name_held e left_s left_t result holds_too v true)
          (name_kept e left_s left_t result holds_too),
    )

  saves_itself : MaySave e s → Goes Operand.None
  saves_itself may q h = by (after (save_for s (point_of s) (point_of s)) h)
    where
      after : (o : Result State Cause) → and_then o (λ (z : State). Ok (gives z result v)) ≡ Ok q
          → (z : State) × (o ≡ Ok z)
      after (Ok z) h = (z, refl)
      after (Err c) h = absurd (cc)

      by : (z : State) × (save_for s (point_of s) (point_of s) ≡ Ok z)
          → (z : State) × (w : State) × (suspend s result Operand.None ≡ Ok z)
          × (suspend t result Operand.None ≡ Ok w) × AreElided e z w
      by z =
          let own = has_own s z.0 (point_of s) (point_of s) z.1 in
          let y = twin e s t r may its_place (point_of s) own in
          both_saved may own y.0 y.1 (beside e s t r may its_place (point_of s) own y.0 y.1)

  goes_so : (o : Operand) → operand_at args 0 ≡ o → Goes o
  goes_so Operand.None is = saves_itself (at.may is)
  goes_so (Operand.Local n) is = by_token (Operand.Local n) refl refl
  goes_so (Operand.Global n) is = by_token (Operand.Global n) refl refl
  goes_so (Operand.Number z) is = by_token (Operand.Number z) refl refl
  goes_so Operand.True is = by_token Operand.True refl refl
  goes_so Operand.False is = by_token Operand.False refl refl
  goes_so Operand.Null is = by_token Operand.Null refl refl
  goes_so Operand.Poison is = by_token Operand.Poison refl refl

  pub suspend_beside : AreElided e (framed_step (framed e) s) (framed_step (elided e) t)
  suspend_beside =
      let goes = goes_on e s t Intrinsic.CoroSuspend result must_tail ty args r at.call fine in
      let k = goes_so (operand_at args 0) refl goes.0 goes.1 in
      both_step e s t Intrinsic.CoroSuspend result must_tail ty args r at.call k.0 k.1 k.2 k.3 k.4
