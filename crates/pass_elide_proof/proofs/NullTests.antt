-- Where the frame was given a comparison with null of what coro.free gave has an answer of its own in each run.
use Rattle.std.proofs.Common.{◌≡◌, ◌≢◌, ◌+◌, ◌<◌, ◌≤◌, ◌∙◌, ◌⊎◌, ⊎_elim, inl, inr, ℕ, zero, suc, Bool, true, false, ap, arith, is_some, length, not, Err, Ok, Some, None, Option, refl, slice_get, subst, sym, ◌&&◌, ◌||◌}
use Rattle.std.proofs.lemmas.Bool.{cases_lt}
use Rattle.std.proofs.lemmas.List.{length-set}
use Rattle.pass_elide_proof.proofs.EdgeBare.{bare_made}
use Rattle.pass_elide_proof.proofs.EndsRamp.{place_same, there_same}
use Rattle.pass_elide_proof.proofs.FrontsMade.{past}
use Rattle.pass_elide_proof.proofs.GivingNone.{front_same}
use Rattle.pass_elide_proof.proofs.Making.{set_there}
use Rattle.pass_elide_proof.proofs.PassedAlone.{held_in}
use Rattle.pass_elide_proof.proofs.Sized.{other_value, stepped}
use Rattle.pass_elide_proof.proofs.TopMoved.{SameHeld, gone_on, moved}
use Rattle.pass_elide_proof.specs.Elision.{Elision, Shape, differs_in, elided, framed, function_in, rooms}
use Rattle.pass_elide_proof.specs.Match.{AreAsked, AreElided, AreNamed, AreReleased, Beside, IsAt, held_name, instance_in, is_given_mode, sides, was_given}
use Rattle.pass_elide_proof.specs.NullTests.{AreWithNull, IsAtNullTest}
use Rattle.pass_proofs.specs.ir_base.declared.cause.Cause.{Cause}
use Rattle.pass_proofs.specs.ir_base.declared.ops.Pred.{Pred}
use Rattle.pass_proofs.specs.ir_model.Ty.{ptr}
use Rattle.pass_proofs.specs.ir_model.declared.instr.Instr.{Instr}
use Rattle.pass_proofs.specs.ir_model.declared.operand.Operand.{Operand}
use Rattle.pass_proofs.specs.run_agreement.Machines.{IsFine}
use Rattle.pass_proofs.specs.run_framed.Framed.{FramedGiven, framed_act, framed_advance, framed_context, framed_next, framed_step}
use Rattle.pass_proofs.specs.run_laws.memory.Pointers.{IsValue}
use Rattle.pass_proofs.specs.run_memory.Memory.{check, is_live, may_compare_at}
use Rattle.pass_proofs.specs.run_memory.declared.block.MemoryBlock.{MemoryBlock}
use Rattle.pass_proofs.specs.run_memory.declared.pointer.Pointer.{Pointer}
use Rattle.pass_proofs.specs.run_memory.declared.pointer.Value.{Value}
use Rattle.pass_proofs.specs.run_source.State.{frame_address_of, gives, or_undefined, work_of}
use Rattle.pass_proofs.specs.run_source.declared.state.Activation.{Activation}
use Rattle.pass_proofs.specs.run_source.declared.state.Instance.{Instance}
use Rattle.pass_proofs.specs.run_source.declared.state.State.{State}
use Rattle.pass_proofs.specs.run_step.Step.{AtInstr, Fetched, by_pred, compared, done, set_value}
use Rattle.pass_proofs.specs.run_step.Values.{Env, truth_value, value_in, with_value}

-- ---- answers

turned : (pred : Pred) → by_pred pred false ≡ not (by_pred pred true)
turned Pred.Eq = refl
turned Pred.Ne = refl
turned Pred.Ugt = refl
turned Pred.Uge = refl
turned Pred.Ult = refl
turned Pred.Ule = refl
turned Pred.Sgt = refl
turned Pred.Sge = refl
turned Pred.Slt = refl
turned Pred.Sle = refl

or_true : (b : Bool) → (not b || true) ≡ true
or_true true = refl
or_true false = refl

-- in a framed run each address may be compared with null
free : (g : FramedGiven) (s : State) (b : ℕ) (x : Option MemoryBlock) (y : Instance)
    → may_compare_at (framed_context g s).rights b x (record { bits = y.start }) ≡ true
free g s b None y = refl
free g s b (Some x) y = or_true (is_live x.life)

framed_first : (g : FramedGiven) (s : State) (name : ℕ) (pred : Pred) (y : Instance)
    → framed_act g s (compared (framed_context g s) (work_of s) name pred ptr (frame_address_of y)
    (Value.Ptr Pointer.Null)) ≡ Ok (gives s (Some name) (truth_value (by_pred pred false)))
framed_first g s name pred y =
    ap (λ (b : Bool). framed_act g s (done
    (λ same. set_value (work_of s) name (truth_value (by_pred pred same)))
    (check b Cause.Compare (Ok false))))
    (free g s y.block (slice_get s.world.memory y.block) y)

framed_second : (g : FramedGiven) (s : State) (name : ℕ) (pred : Pred) (y : Instance)
    → framed_act g s (compared (framed_context g s) (work_of s) name pred ptr (Value.Ptr Pointer.Null)
    (frame_address_of y)) ≡ Ok (gives s (Some name) (truth_value (by_pred pred false)))
framed_second g s name pred y =
    ap (λ (b : Bool). framed_act g s (done
    (λ same. set_value (work_of s) name (truth_value (by_pred pred same)))
    (check b Cause.Compare (Ok false))))
    (free g s y.block (slice_get s.world.memory y.block) y)

-- ---- the step

module _ (e : Elision) (s t : State) (name : ℕ) (pred : Pred) (a b : Operand) (r : AreElided e s t)
    (at : IsAtNullTest e s t name pred a b) where
  abbrev f : ℕ
  f = s.top.func

  abbrev x : Shape
  x = e.shape s.top.func

  abbrev call : Fetched
  call = AtInstr (Instr.Icmp name pred ptr a b)

  -- what is compared is the frame's address: with poison the framed run would be undefined
  abbrev Has : Type 0
  Has = (value_in t.top.values at.freed ≡ Value.Ptr Pointer.Null)
      × ((y : Instance) × (instance_in s.instances s.top.instance ≡ Some y)
      × (value_in s.top.values at.freed ≡ frame_address_of y))

  stuck : (p q : Operand) → AreWithNull at.freed p q → value_in s.top.values at.freed ≡ Value.Poison
      → framed_next (framed e) s (AtInstr (Instr.Icmp name pred ptr p q))
      ≡ Err Cause.Compare
  stuck p q (inl is) bad =
      (λ j. framed_next (framed e) s (AtInstr (Instr.Icmp name pred ptr (is.0 j) (is.1 j))))
      ∙ ap (λ (v : Value). framed_act (framed e) s (compared (framed_context (framed e) s) (work_of s) name pred ptr v
      (Value.Ptr Pointer.Null))) bad
  stuck p q (inr is) bad =
      (λ j. framed_next (framed e) s (AtInstr (Instr.Icmp name pred ptr (is.0 j) (is.1 j))))
      ∙ ap (λ (v : Value). framed_act (framed e) s (compared (framed_context (framed e) s) (work_of s) name pred ptr
      (Value.Ptr Pointer.Null) v)) bad

  undefined : framed_next (framed e) s call ≡ Err Cause.Compare → ⊥
  undefined bad =
      subst (λ (v : State). IsFine v.outcome)
      (ap (framed_advance (framed e) s) at.runs
      ∙ ap (or_undefined (framed e).given s) (ap (framed_next (framed e) s) at.there ∙ bad)) at.fine

  has : Has
  has =
      ⊎_elim (λ bad. absurd (undefined (stuck a b at.operands bad))) (λ both. both)
      ((r.top.released at.given).freed at.freed at.is_freed)

  first_next : (p q : Operand) → AreWithNull at.freed p q
      → framed_next (framed e) s (AtInstr (Instr.Icmp name pred ptr p q))
      ≡ Ok (gives s (Some name) (truth_value (by_pred pred false)))
  first_next p q (inl is) =
      (λ j. framed_next (framed e) s (AtInstr (Instr.Icmp name pred ptr (is.0 j) (is.1 j))))
      ∙ (ap (λ (v : Value). framed_act (framed e) s (compared (framed_context (framed e) s) (work_of s) name pred ptr v
      (Value.Ptr Pointer.Null))) has.1.2 ∙ framed_first (framed e) s name pred has.1.0)
  first_next p q (inr is) =
      (λ j. framed_next (framed e) s (AtInstr (Instr.Icmp name pred ptr (is.0 j) (is.1 j))))
      ∙ (ap (λ (v : Value). framed_act (framed e) s (compared (framed_context (framed e) s) (work_of s) name pred ptr
      (Value.Ptr Pointer.Null) v)) has.1.2 ∙ framed_second (framed e) s name pred has.1.0)

  second_next : (p q : Operand) → AreWithNull at.freed p q
      → framed_next (elided e) t (AtInstr (Instr.Icmp name pred ptr p q))
      ≡ Ok (gives t (Some name) (truth_value (by_pred pred true)))
  second_next p q (inl is) =
      (λ j. framed_next (elided e) t (AtInstr (Instr.Icmp name pred ptr (is.0 j) (is.1 j))))
      ∙ ap (λ (v : Value). framed_act (elided e) t (compared (framed_context (elided e) t) (work_of t) name pred ptr v
      (Value.Ptr Pointer.Null))) has.0
  second_next p q (inr is) =
      (λ j. framed_next (elided e) t (AtInstr (Instr.Icmp name pred ptr (is.0 j) (is.1 j))))
      ∙ ap (λ (v : Value). framed_act (elided e) t (compared (framed_context (elided e) t) (work_of t) name pred ptr
      (Value.Ptr Pointer.Null) v)) has.0

  abbrev no : Value
  no = truth_value (by_pred pred false)

  abbrev yes : Value
  yes = truth_value (by_pred pred true)

  first : framed_step (framed e) s ≡ gives s (Some name) no
  first = stepped (framed e) s (gives s (Some name) no) call at.runs at.there (first_next a b at.operands)

  second : framed_step (elided e) t ≡ gives t (Some name) yes
  second =
      stepped (elided e) t (gives t (Some name) yes) call (r.outcome ∙ at.runs)
      (there_same e s t r at.none at.beside at.stands call at.there) (second_next a b at.operands)

  -- ---- the states behind it

  abbrev vs : Env
  vs = with_value s.top.values name no

  abbrev ws : Env
  ws = with_value t.top.values name yes

  abbrev mine : Activation
  mine = gone_on s.top s.top.block (s.top.at + 1) vs s.top.has_left

  abbrev yours : Activation
  yours = gone_on t.top t.top.block (t.top.at + 1) ws t.top.has_left

  same_place : t.top.at ≡ s.top.at
  same_place = place_same e s t r at.none at.beside at.stands

  yes_no : (p : Bool) → p ≡ true → p ≡ false → ⊥
  yes_no true y n = absurd (cc)
  yes_no false y n = absurd (cc)

  -- the name differs
  differ : (ramp given need made freed passed : Bool) (o : Option Bool) (p : Bool) → given ≡ true → o ≡ Some p
      → ((ramp && (need || made)) || (given && (freed || (is_some o || passed)))) ≡ true
  differ true true true made freed passed o p g is = refl
  differ true true false true freed passed o p g is = refl
  differ true true false false true passed o p g is = refl
  differ true true false false false passed None p g is = absurd (cc)
  differ true true false false false passed (Some q) p g is = refl
  differ false true need made true passed o p g is = refl
  differ false true need made false passed None p g is = absurd (cc)
  differ false true need made false passed (Some q) p g is = refl
  differ ramp false need made freed passed o p g is = absurd (cc)

  other_name : (v : ℕ) → differs_in x (is_given_mode t.top.mode) (was_given (sides s t) t.top) v ≡ false → v ≢ name
  other_name v h same =
      yes_no (differs_in x (is_given_mode t.top.mode) (was_given (sides s t) t.top) name)
      (differ (is_given_mode t.top.mode) (was_given (sides s t) t.top) (x.need name) (x.made name) (x.freed name)
      (x.passed name) (x.tested name) (by_pred pred true) at.given at.tested)
      (ap (differs_in x (is_given_mode t.top.mode) (was_given (sides s t) t.top)) (sym same) ∙ h)

  named : AreNamed e r.homes (was_given (sides s t) t.top) mine yours
  named = record {
    each = λ v h.
        let old = r.top.values.each v h in
        subst (λ (p : Value × Value). IsValue r.homes p.0 p.1)
        (λ j. (
          sym (other_value s.top.values name v no (other_name v h)) j,
          sym (other_value t.top.values name v yes (other_name v h)) j,
        )) old;
    room =
        let long = length-set s.top.values name (Some no) in
        let more = length-set t.top.values name (Some yes) in
        let old = r.top.values.room in
        omega (arith, long, more, old);
  }

  apart : (test : ℕ → Bool) (v : ℕ) → test v ≡ true → test name ≡ false → v ≢ name
  apart test v is no same = yes_no (test v) is (ap test same ∙ no)

  asked : is_given_mode t.top.mode ≡ true → AreAsked x mine yours
  asked ramp v is =
      let ne = apart x.need v is at.not_need in
      ⊎_elim (λ bare. inl (other_value s.top.values name v no ne ∙ bare))
      (λ both. inr (other_value s.top.values name v no ne ∙ both.0, other_value t.top.values name v yes ne ∙ both.1))
      (r.top.asked ramp v is)

  some_same : (p q : Bool) → Some p ≡ Some q → p ≡ q
  some_same p q h = cc

  -- the name itself
  tested_now : (p : Bool) → x.tested name ≡ Some p
      → (value_in vs name ≡ Value.Poison)
      ⊎ ((value_in vs name ≡ truth_value (not p)) × (value_in ws name ≡ truth_value p))
  tested_now p is =
      let same : by_pred pred true ≡ p = some_same (by_pred pred true) p (sym at.tested ∙ is) in
      ⊎_elim (λ lt.
      let room = r.top.values.room in
      inr (
        set_there s.top.values name no lt ∙ ap truth_value (turned pred ∙ ap not same),
        set_there t.top.values name yes (omega (arith, lt, room)) ∙ ap truth_value same,
      ))
      (λ le. let long = length-set s.top.values name (Some no) in inl (past vs name (omega (arith, le, long))))
      (cases_lt name (length s.top.values))

  tested_by : (v : ℕ) (p : Bool) → x.tested v ≡ Some p → (v ≡ name) ⊎ (v ≢ name)
      → (value_in vs v ≡ Value.Poison)
      ⊎ ((value_in vs v ≡ truth_value (not p)) × (value_in ws v ≡ truth_value p))
  tested_by v p is (inl same) =
      subst (λ (u : ℕ). (value_in vs u ≡ Value.Poison)
      ⊎ ((value_in vs u ≡ truth_value (not p)) × (value_in ws u ≡ truth_value p))) (sym same)
      (tested_now p (ap x.tested (sym same) ∙ is))
  tested_by v p is (inr ne) =
      ⊎_elim (λ bare. inl (other_value s.top.values name v no ne ∙ bare))
      (λ both. inr (other_value s.top.values name v no ne ∙ both.0, other_value t.top.values name v yes ne ∙ both.1))
      ((r.top.released at.given).tested v p is)

  released : was_given (sides s t) t.top ≡ true → AreReleased x (sides s t) mine yours
  released given = record {
    freed = λ v is.
        let ne = apart x.freed v is at.not_freed in
        ⊎_elim (λ bare. inl (other_value s.top.values name v no ne ∙ bare))
        (λ both. inr (
          other_value t.top.values name v yes ne ∙ both.0,
          (both.1.0, both.1.1, other_value s.top.values name v no ne ∙ both.1.2),
        )) ((r.top.released given).freed v is);
    tested = λ v p is. tested_by v p is (same_or v name);
  }
    where
      same_or : (m n : ℕ) → (m ≡ n) ⊎ (m ≢ n)
      same_or m n =
          ⊎_elim (λ lt. inr (λ e. omega (arith, lt, e)))
          (λ le. ⊎_elim (λ more. inr (λ e. omega (arith, more, e))) (λ less. inl (omega (arith, le, less)))
          (cases_lt n m)) (cases_lt m n)

  held : (mode : Bool) → SameHeld s.top.values vs (held_name e mode s.top) (held_name e mode mine)
  held true =
      held_in s.top.values vs (x.holds s.top.block s.top.at) (x.holds s.top.block (s.top.at + 1)) at.holds
      (λ n is. other_value s.top.values name n no (at.kept n is))
  held false = tt

  place : IsAt e r.homes (was_given (sides s t) t.top) mine yours
  place =
      Beside at.beside
      (ap (λ (n : ℕ). n + 1) same_place
      ∙ sym (front_same (rooms e f) (function_in e f) at.none s.top.block (s.top.at + 1)))

  pub test_beside : AreElided e (framed_step (framed e) s) (framed_step (elided e) t)
  test_beside =
      subst (λ (v : State × State). AreElided e v.0 v.1) (λ i. (sym first i, sym second i))
      (moved e s t r s.top.block (s.top.at + 1) vs s.top.has_left t.top.block (t.top.at + 1) ws t.top.has_left
      r.top.has_left place named asked released
      (bare_made e s t r at.none s.top.block (s.top.at + 1) t.top.block (t.top.at + 1) vs ws)
      (held (is_given_mode t.top.mode)))
