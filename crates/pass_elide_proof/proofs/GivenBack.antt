-- A call's result is set in both activations.
use Rattle.std.proofs.Common.{◌≡◌, ◌≤◌, ◌+◌, ◌⊎◌, ◌∙◌, ◌∷◌, [], ap, arith, Bool, false, inl, inr, ⊎_elim, List, Option, refl, subst, sym, true, ℕ, length}
use Rattle.std.specs.Prelude.{None, Some, slice_get}
use Rattle.pass_elide.specs.Elided.{frame_allocas, function_frames}
use Rattle.pass_elide.specs.declared.given.GivenFrame.{GivenFrame}
use Rattle.pass_elide_proof.specs.Elision.{Elision, function_in, rooms}
use Rattle.pass_elide_proof.specs.Match.{AreActivations, AreAsked, AreMadeAlike, AreReleased, Aside, Beside, Freeing, HasAlloca, HasAllocas, HoldsBlock, IsAt, IsAtEnd, Sides, Skips, Waiting, held_name, is_given_mode, was_given}
use Rattle.pass_elide_proof.specs.Places.{instrs_of}
use Rattle.pass_elide_proof.specs.Returning.{SetsAlike}
use Rattle.pass_proofs.proofs.ir_laws.facts.Truth.{is_number}
use Rattle.pass_proofs.proofs.run_laws.transfer.Sets.{sets_result}
use Rattle.pass_proofs.specs.ir_model.declared.instr.Instr.{Instr}
use Rattle.pass_proofs.specs.ir_parts.Contents.{result_of}
use Rattle.pass_proofs.specs.run_laws.changed.Changed.{Each}
use Rattle.pass_proofs.specs.run_laws.memory.Pointers.{Home, IsValue}
use Rattle.pass_proofs.specs.run_laws.transfer.Transfer.{AreSet}
use Rattle.pass_proofs.specs.run_memory.declared.pointer.Value.{Value}
use Rattle.pass_proofs.specs.run_source.declared.state.Activation.{Activation}
use Rattle.pass_proofs.specs.run_step.Values.{value_in, with_result}
use Rattle.pass_proofs.specs.run_step.declared.world.Slot.{Slot}

yes_no : (p : Bool) → p ≡ true → p ≡ false → ⊥
yes_no true y n = absurd (cc)
yes_no false y n = absurd (cc)

some_none : {A : Type 0} (o : Option A) (q : A) → o ≡ Some q → o ≡ None → ⊥
some_none None q y n = absurd (cc)
some_none (Some p) q y n = absurd (cc)

-- a name is the one that is set, or another
pub is_set : (result : Option ℕ) (v : ℕ) → (result ≡ Some v) ⊎ (result ≡ Some v → ⊥)
is_set None v = inr (λ e. absurd (cc))
is_set (Some n) v = ⊎_elim (λ same. inl (ap Some same)) (λ ne. inr (λ e. let same : n ≡ v = cc in ne same))
    (is_number n v)

module _ (e : Elision) (homes : List Home) (hides : ℕ → Bool) (d : Sides) (a c : Activation)
    (h : AreActivations e homes hides d a c) (beside : c.block ≡ a.block) (result : Option ℕ)
    (sets : SetsAlike e a result) (v u : Value) (stands : IsValue homes v u) where
  abbrev pub ours : Activation
  ours = record a { values = with_result a.values result v }

  abbrev pub theirs : Activation
  theirs = record c { values = with_result c.values result u }

  both : AreSet homes result a.values c.values (with_result a.values result v) (with_result c.values result u)
  both = sets_result homes a.values c.values h.values.room result v u stands

  -- a name that isn't set
  need_stays : (w : ℕ) → (e.shape a.func).need w ≡ true → result ≡ Some w → ⊥
  need_stays w is set = yes_no ((e.shape a.func).need w) is (sets.need w set)

  freed_stays : (w : ℕ) → (e.shape a.func).freed w ≡ true → result ≡ Some w → ⊥
  freed_stays w is set = yes_no ((e.shape a.func).freed w) is (sets.freed w set)

  tested_stays : (w : ℕ) (p : Bool) → (e.shape a.func).tested w ≡ Some p → result ≡ Some w → ⊥
  tested_stays w p is set = some_none ((e.shape a.func).tested w) p is (sets.tested w set)

  value_stands : (w : ℕ) → IsValue homes (value_in a.values w) (value_in c.values w)
      → IsValue homes (value_in ours.values w) (value_in theirs.values w)
  value_stands w old =
      ⊎_elim
      (λ set. both.stands w set)
      (λ ne. subst (λ (z : Value). IsValue homes z (value_in theirs.values w)) (sym (both.source w ne))
      (subst (λ (z : Value). IsValue homes (value_in a.values w) z) (sym (both.target w ne)) old))
      (is_set result w)

  -- ---- the place

  same_shape : e.shape c.func ≡ e.shape a.func
  same_shape = ap e.shape h.func

  skips_on : (w : ℕ) → Skips e c w → Skips e theirs w
  skips_on w k = record {
    need = λ is. both.target w (need_stays w ((λ j. (sym same_shape j).need w) ∙ is)) ∙ k.need is;
    tested = λ p is. both.target w (tested_stays w p ((λ j. (sym same_shape j).tested w) ∙ is)) ∙ k.tested p is;
  }

  end_on : IsAtEnd e c → IsAtEnd e theirs
  end_on k = record { at = k.at; skips = λ w one other there. skips_on w (k.skips w one other there) }

  made_on : AreMadeAlike e homes a c → AreMadeAlike e homes ours theirs
  made_on k n p o i j lt is js pi oj =
      let same : i ≡ j = same_instr i j (sym is ∙ (ap (λ (b : ℕ). slice_get (instrs_of (function_in e a.func) b) n)
      (sym beside) ∙ js)) in
      let name : p ≡ o = same_name p o (sym pi ∙ (ap result_of same ∙ oj)) in
      ⊎_elim
      (λ set. subst (λ (w : ℕ). IsValue homes (value_in ours.values p) (value_in theirs.values w)) name
      (both.stands p set))
      (λ ne. subst (λ (z : Value). IsValue homes z (value_in theirs.values o)) (sym (both.source p ne))
      (subst (λ (z : Value). IsValue homes (value_in a.values p) z)
      (sym (both.target o (λ set. ne (set ∙ ap Some (sym name))))) (k n p o i j lt is js pi oj)))
      (is_set result p)
    where
      same_instr : (i j : Instr) → Some i ≡ Some j → i ≡ j
      same_instr i j e = cc

      same_name : (p o : ℕ) → Some p ≡ Some o → p ≡ o
      same_name p o e = cc

  place_on : (given : Bool) → IsAt e homes given a c → IsAt e homes given ours theirs
  place_on given (Beside same there) = Beside same there
  place_on given (Waiting ramp waits there) = Waiting ramp waits (end_on there)
  place_on given (Freeing holds waits there) = Freeing holds waits (end_on there)
  place_on given (Aside holds waits there alike) = Aside holds waits there (made_on alike)

  -- ---- what differs

  asked_on : AreAsked (e.shape a.func) a c → AreAsked (e.shape a.func) ours theirs
  asked_on k w is =
      let source = both.source w (need_stays w is) in
      let target = both.target w (need_stays w is) in
      ⊎_elim (λ none. inl (source ∙ none)) (λ old. inr (source ∙ old.0, target ∙ old.1)) (k w is)

  released_on : AreReleased (e.shape a.func) d a c → AreReleased (e.shape a.func) d ours theirs
  released_on k = record {
    freed = λ w is. ⊎_elim (λ none. inl (both.source w (freed_stays w is) ∙ none))
        (λ old. inr (
          both.target w (freed_stays w is) ∙ old.0,
          (old.1.0, old.1.1, both.source w (freed_stays w is) ∙ old.1.2),
        )) (k.freed w is);
    tested = λ w p is. ⊎_elim (λ none. inl (both.source w (tested_stays w p is) ∙ none))
        (λ old. inr (both.source w (tested_stays w p is) ∙ old.0, both.target w (tested_stays w p is) ∙ old.1))
        (k.tested w p is);
  }

  -- ---- allocas, which have names of their own

  abbrev named_by : Instr → ℕ
  named_by (Instr.Alloca n ty align) = n
  named_by _ = 0

  alloca_on : (own : List Slot) (i : Instr) → length (function_in e a.func).names ≤ named_by i
      → HasAlloca homes hides d c own i → HasAlloca homes hides d theirs own i
  alloca_on own i high k = record {
    name = k.name;
    size = k.size;
    align = k.align;
    is = k.is;
    block = k.block;
    address = both.target k.name unset ∙ k.address;
    slot = k.slot;
    there = k.there;
    is_there = k.is_there;
    kind = k.kind;
    live = k.live;
    sized = k.sized;
    full = k.full;
    free = k.free;
  }
    where
      unset : result ≡ Some k.name → ⊥
      unset set =
          let low = sets.low k.name set in
          let same : named_by i ≡ k.name = ap named_by k.is in
          omega (arith, low, same, high)

  allocas_on : (own : List Slot) (n : ℕ) (rs : List GivenFrame) → length (function_in e a.func).names ≤ n
      → Each (HasAlloca homes hides d c own) (frame_allocas n rs)
      → Each (HasAlloca homes hides d theirs own) (frame_allocas n rs)
  allocas_on own n [] le k = tt
  allocas_on own n (GivenFrame.Alloca size align ∷ rs) le k =
      (alloca_on own _ le k.0, allocas_on own (n + 1) rs (omega (arith, le)) k.1)
  allocas_on own n (GivenFrame.Field base distance ∷ rs) le k = allocas_on own (n + 1) rs (omega (arith, le)) k

  all_on : (own : List Slot) → HasAllocas e homes hides d a c own → HasAllocas e homes hides d ours theirs own
  all_on own (inl first) = inl first
  all_on own (inr made) =
      inr (
        allocas_on own (length (function_in e a.func).names) (function_frames (rooms e a.func)
            (function_in e a.func)) (omega arith) made.0,
        made.1,
      )

  -- ---- the block that is held

  pub held_stays : (w : ℕ) → held_name e (is_given_mode c.mode) a ≡ Some w
      → value_in (with_result a.values result v) w ≡ value_in a.values w
  held_stays w is = both.source w (λ set. by (is_given_mode c.mode) is set)
    where
      by : (b : Bool) → held_name e b a ≡ Some w → result ≡ Some w → ⊥
      by true is set = sets.kept w w set is refl
      by false is set = absurd (cc)

  held_on : (o : Option ℕ) → held_name e (is_given_mode c.mode) a ≡ o
      → HoldsBlock hides d.memory a o → HoldsBlock hides d.memory ours o
  held_on None is k = tt
  held_on (Some w) is k = record {
    block = k.block;
    size = k.size;
    address = held_stays w is ∙ k.address;
    hidden = k.hidden;
    there = k.there;
  }

  same_held : (b : Bool) → held_name e b ours ≡ held_name e b a
  same_held true = refl
  same_held false = refl

  pub given_back_beside : AreActivations e homes hides d (record a { values = with_result a.values result v })
      (record c { values = with_result c.values result u })
  given_back_beside = record {
    func = h.func;
    result = h.result;
    instance = h.instance;
    has_left = h.has_left;
    mode = h.mode;
    place = place_on (was_given d c) h.place;
    values = record {
      each = λ w calm. value_stands w (h.values.each w calm);
      room =
          let few = both.length_source in
          let many = both.length_target in
          let old = h.values.room in
          omega (arith, few, many, old);
    };
    asked = λ given. asked_on (h.asked given);
    released = λ given. released_on (h.released given);
    own = h.own;
    slots = h.slots;
    allocas = all_on h.own h.allocas;
    held = subst (λ (o : Option ℕ). HoldsBlock hides d.memory ours o)
        (sym (same_held (is_given_mode c.mode))) (held_on (held_name e (is_given_mode c.mode) a) refl h.held);
  }
