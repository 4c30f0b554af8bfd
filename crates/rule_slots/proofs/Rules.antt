-- The first faults, by sets of names and points.
use Rattle.std.proofs.Common.{◌≡◌, ℕ, Bool, true, false, not, ◌&&◌, ◌||◌, List, [], ◌∷◌, refl, sym, ◌∙◌, subst, inl, inr}
use Rattle.std.proofs.lemmas.Bool.{false≢true}
use Rattle.std.proofs.lemmas.List.Folds.{Any-from_list_any, list_any-from_Any}
use Rattle.std.specs.Prelude.{Option, None}
use Rattle.std.specs.List.{Any, list_all, list_any}
use Rattle.ir_base.specs.declared.outcome.Place.{Place}
use Rattle.ir_parts.specs.Contents.{ending_operands}
use Rattle.ir_parts.specs.Parts.{Part, Signature, Head, OfPhi, OfInstr, Ending, first_part, parts_of}
use Rattle.ir_model.specs.declared.instr.Instr.{Instr}
use Rattle.ir_model.specs.declared.module.Function.{Function}
use Rattle.ir_model.specs.declared.operand.Operand.{Operand}
use Rattle.ir_paths.proofs.Search.{both, either, or_left, or_right}
use Rattle.ir_paths.specs.Windows.{call_operand}
use Rattle.flow_points.specs.Rows.{is_marked}
use Rattle.rule_slots.specs.Closed.{IsClosed}
use Rattle.rule_slots.specs.Early.{AreEarlyEnds, BreaksEarly, IsBeforeBegin, IsFirstEarly, IsMisused, IsTakenEarly, StandsEarly, end_mark, is_clear, is_direct, is_misused, is_taken_early, memory_uses, other_uses, stands_early}
use Rattle.rule_slots.specs.Marked.{BreaksMarked, IsFirstMarked, StandsMarked, is_marker, stands_marked}
use Rattle.rule_slots.specs.Names.{is_named, names_one, names_other}
use Rattle.rule_slots.specs.Slots.{AreAddressesOf, AreSlotsOf, NamesAddress, NamesPart, NamesSlot}
use Rattle.rule_windows.proofs.Firsts.{first_is, none_first}
use Rattle.rule_windows.specs.Points.{point_of}
use Rattle.rule_windows.specs.Sets.{AreThose}

-- ---- tests

and_both : (a b : Bool) → a ≡ true → b ≡ true → (a && b) ≡ true
and_both true b e h = h
and_both false b e h = absurd (false≢true e)

not-true : (b : Bool) → not b ≡ true → b ≡ false
not-true true e = absurd (false≢true e)
not-true false e = refl

not-false : (b : Bool) → b ≡ false → not b ≡ true
not-false true e = absurd (false≢true (sym e))
not-false false e = refl

no-mark : (b : Bool) → (b ≡ true → ⊥) → b ≡ false
no-mark true h = absurd (h refl)
no-mark false h = refl

-- the test passes just where the fact holds
record Tells {A : Type 0} (test : A → Bool) (Holds : A → Type 0) : Type 0 where
  sound : (x : A) → test x ≡ true → Holds x
  complete : (x : A) → Holds x → test x ≡ true

any-from : {A : Type 0} (test : A → Bool) (Holds : A → Type 0) → Tells test Holds → (xs : List A) → list_any test xs ≡ true → Any Holds xs
any-from test Holds tells xs e = let h = Any-from_list_any test xs e in (h.0, h.1, h.2, h.3, tells.sound h.1 h.4)

any-to : {A : Type 0} (test : A → Bool) (Holds : A → Type 0) → Tells test Holds → (xs : List A) → Any Holds xs → list_any test xs ≡ true
any-to test Holds tells xs h = list_any-from_Any test xs (h.0, h.1, h.2, h.3, tells.complete h.1 h.4)

-- not all fail
not-none : {A : Type 0} (test : A → Bool) (xs : List A) → not (list_all (λ x. not (test x)) xs) ≡ list_any test xs
not-none test [] = refl
not-none test (x ∷ xs) = by (test x) (not-none test xs)
  where
    by : (b : Bool) → not (list_all (λ x. not (test x)) xs) ≡ list_any test xs → not (not b && list_all (λ x. not (test x)) xs) ≡ (b || list_any test xs)
    by true e = refl
    by false e = e

-- ---- operands

slot-told : (f : Function) (slots : List Bool) → AreSlotsOf f slots → Tells (names_one slots) (NamesSlot f)
slot-told f slots set = record { sound = sound; complete = complete }
  where
    sound : (x : Operand) → names_one slots x ≡ true → NamesSlot f x
    sound (Operand.Local v) e = (set.each v).0 e
    sound (Operand.Global n) e = false≢true e
    sound (Operand.Number n) e = false≢true e
    sound Operand.True e = false≢true e
    sound Operand.False e = false≢true e
    sound Operand.Null e = false≢true e
    sound Operand.None e = false≢true e
    sound Operand.Poison e = false≢true e

    complete : (x : Operand) → NamesSlot f x → names_one slots x ≡ true
    complete (Operand.Local v) h = (set.each v).1 h
    complete (Operand.Global n) h = absurd h
    complete (Operand.Number n) h = absurd h
    complete Operand.True h = absurd h
    complete Operand.False h = absurd h
    complete Operand.Null h = absurd h
    complete Operand.None h = absurd h
    complete Operand.Poison h = absurd h

address-told : (f : Function) (addresses : List Bool) → AreAddressesOf f addresses → Tells (names_one addresses) (NamesAddress f)
address-told f addresses set = record { sound = sound; complete = complete }
  where
    sound : (x : Operand) → names_one addresses x ≡ true → NamesAddress f x
    sound (Operand.Local v) e = (set.each v).0 e
    sound (Operand.Global n) e = false≢true e
    sound (Operand.Number n) e = false≢true e
    sound Operand.True e = false≢true e
    sound Operand.False e = false≢true e
    sound Operand.Null e = false≢true e
    sound Operand.None e = false≢true e
    sound Operand.Poison e = false≢true e

    complete : (x : Operand) → NamesAddress f x → names_one addresses x ≡ true
    complete (Operand.Local v) h = (set.each v).1 h
    complete (Operand.Global n) h = absurd h
    complete (Operand.Number n) h = absurd h
    complete Operand.True h = absurd h
    complete Operand.False h = absurd h
    complete Operand.Null h = absurd h
    complete Operand.None h = absurd h
    complete Operand.Poison h = absurd h

part-told : (f : Function) (addresses slots : List Bool) → AreAddressesOf f addresses → AreSlotsOf f slots → Tells (names_other addresses slots) (NamesPart f)
part-told f addresses slots set own = record { sound = sound; complete = complete }
  where
    sound : (x : Operand) → names_other addresses slots x ≡ true → NamesPart f x
    sound (Operand.Local v) e =
        let h = both (is_named addresses v) (not (is_named slots v)) e in
        ((set.each v).0 h.0, λ s. false≢true (sym (not-true (is_named slots v) h.1) ∙ (own.each v).1 s))
    sound (Operand.Global n) e = absurd (false≢true e)
    sound (Operand.Number n) e = absurd (false≢true e)
    sound Operand.True e = absurd (false≢true e)
    sound Operand.False e = absurd (false≢true e)
    sound Operand.Null e = absurd (false≢true e)
    sound Operand.None e = absurd (false≢true e)
    sound Operand.Poison e = absurd (false≢true e)

    complete : (x : Operand) → NamesPart f x → names_other addresses slots x ≡ true
    complete (Operand.Local v) h = and_both (is_named addresses v) (not (is_named slots v)) ((set.each v).1 h.0) (not-false (is_named slots v) (no-mark (is_named slots v) (λ e. h.1 ((own.each v).0 e))))
    complete (Operand.Global n) h = absurd h
    complete (Operand.Number n) h = absurd h
    complete Operand.True h = absurd h
    complete Operand.False h = absurd h
    complete Operand.Null h = absurd h
    complete Operand.None h = absurd h
    complete Operand.Poison h = absurd h

-- ---- rule K8

pub no_first_marked : (func : ℕ) (f : Function) → f.coroutine ≡ false → IsFirstMarked func f None
no_first_marked func f e = none_first (BreaksMarked f) (λ x. x.0) (parts_of func f) (λ x b. false≢true (sym e ∙ b.0))

module _ (f : Function) (slots : List Bool) (closed : List (List Bool)) (own : AreSlotsOf f slots) (set : AreThose (IsClosed f) closed) where
  marked-sound : (p : Place) (x : Part) → stands_marked f slots closed p x ≡ true → StandsMarked f p x
  marked-sound p (Signature g) e = false≢true e
  marked-sound p (Head b) e = false≢true e
  marked-sound p (OfPhi q) e = false≢true e
  marked-sound p (OfInstr i) e =
      let h = both (is_marker i) (names_one slots (call_operand i 1) && is_marked closed (point_of f p)) e in
      let g = both (names_one slots (call_operand i 1)) (is_marked closed (point_of f p)) h.1 in
      (h.0, (slot-told f slots own).sound (call_operand i 1) g.0, (set.each (point_of f p)).0 g.1)
  marked-sound p (Ending t) e = false≢true e

  marked-complete : (p : Place) (x : Part) → StandsMarked f p x → stands_marked f slots closed p x ≡ true
  marked-complete p (Signature g) s = absurd s
  marked-complete p (Head b) s = absurd s
  marked-complete p (OfPhi q) s = absurd s
  marked-complete p (OfInstr i) s =
      and_both (is_marker i) (names_one slots (call_operand i 1) && is_marked closed (point_of f p)) s.0
      (and_both (names_one slots (call_operand i 1)) (is_marked closed (point_of f p)) ((slot-told f slots own).complete (call_operand i 1) s.1) ((set.each (point_of f p)).1 s.2))
  marked-complete p (Ending t) s = absurd s

pub first_marked_is : (func : ℕ) (f : Function) (slots : List Bool) (closed : List (List Bool)) (o : Option Place) → f.coroutine ≡ true → AreSlotsOf f slots → AreThose (IsClosed f) closed → o ≡ first_part (stands_marked f slots closed) (parts_of func f) → IsFirstMarked func f o
first_marked_is func f slots closed o co own set is =
    subst (IsFirstMarked func f) (sym is)
    (first_is (stands_marked f slots closed) (BreaksMarked f)
    (record {
      sound = λ x e. (co, marked-sound f slots closed own set x.0 x.1 e);
      complete = λ x b. marked-complete f slots closed own set x.0 x.1 b.1;
    })
    (parts_of func f))

-- ---- rule K9

pub no_first_early : (func : ℕ) (f : Function) → f.coroutine ≡ false → IsFirstEarly func f None
no_first_early func f e = none_first (BreaksEarly f) (λ x. x.0) (parts_of func f) (λ x b. false≢true (sym e ∙ b.0))

module _ (f : Function) (addresses slots : List Bool) (before : List (List Bool)) (ends : List Bool) (other : Bool)
    (set : AreAddressesOf f addresses) (own : AreSlotsOf f slots) (early : AreThose (IsBeforeBegin f) before) (late : AreEarlyEnds f ends other) where
  use-from : (xs : List Operand) → not (list_all (is_clear addresses) xs) ≡ true → Any (NamesAddress f) xs
  use-from xs e = any-from (names_one addresses) (NamesAddress f) (address-told f addresses set) xs (sym (not-none (names_one addresses) xs) ∙ e)

  use-to : (xs : List Operand) → Any (NamesAddress f) xs → not (list_all (is_clear addresses) xs) ≡ true
  use-to xs h = not-none (names_one addresses) xs ∙ any-to (names_one addresses) (NamesAddress f) (address-told f addresses set) xs h

  part-from : (xs : List Operand) → not (list_all (is_direct addresses slots) xs) ≡ true → Any (NamesPart f) xs
  part-from xs e = any-from (names_other addresses slots) (NamesPart f) (part-told f addresses slots set own) xs (sym (not-none (names_other addresses slots) xs) ∙ e)

  part-to : (xs : List Operand) → Any (NamesPart f) xs → not (list_all (is_direct addresses slots) xs) ≡ true
  part-to xs h = not-none (names_other addresses slots) xs ∙ any-to (names_other addresses slots) (NamesPart f) (part-told f addresses slots set own) xs h

  misused-from : (i : Instr) → is_misused addresses slots i ≡ true → IsMisused f i
  misused-from i e =
      elim (either (not (list_all (is_clear addresses) (other_uses i))) (not (list_all (is_direct addresses slots) (memory_uses i))) e) [
        | inl a ↦ inl (use-from (other_uses i) a)
        | inr b ↦ inr (part-from (memory_uses i) b)
      ]

  misused-to : (i : Instr) → IsMisused f i → is_misused addresses slots i ≡ true
  misused-to i (inl a) = or_left (not (list_all (is_clear addresses) (other_uses i))) (not (list_all (is_direct addresses slots) (memory_uses i))) (use-to (other_uses i) a)
  misused-to i (inr b) = or_right (not (list_all (is_clear addresses) (other_uses i))) (not (list_all (is_direct addresses slots) (memory_uses i))) (part-to (memory_uses i) b)

  taken-told : Tells (is_taken_early addresses ends other) (IsTakenEarly f)
  taken-told =
      record {
        sound = λ i e.
            let h = both (names_one addresses i.value) (end_mark ends other i.from) e in
            ((address-told f addresses set).sound i.value h.0, (late.each i.from).0 h.1);
        complete = λ i h. and_both (names_one addresses i.value) (end_mark ends other i.from) ((address-told f addresses set).complete i.value h.0) ((late.each i.from).1 h.1);
      }

  early-sound : (p : Place) (x : Part) → stands_early f addresses slots before ends other p x ≡ true → StandsEarly f p x
  early-sound p (Signature g) e = false≢true e
  early-sound p (Head b) e = false≢true e
  early-sound p (OfPhi q) e = any-from (is_taken_early addresses ends other) (IsTakenEarly f) taken-told q.incoming e
  early-sound p (OfInstr i) e =
      let h = both (is_marked before (point_of f p)) (is_misused addresses slots i) e in
      ((early.each (point_of f p)).0 h.0, misused-from i h.1)
  early-sound p (Ending t) e =
      let h = both (is_marked before (point_of f p)) (not (list_all (is_clear addresses) (ending_operands t))) e in
      ((early.each (point_of f p)).0 h.0, use-from (ending_operands t) h.1)

  early-complete : (p : Place) (x : Part) → StandsEarly f p x → stands_early f addresses slots before ends other p x ≡ true
  early-complete p (Signature g) s = absurd s
  early-complete p (Head b) s = absurd s
  early-complete p (OfPhi q) s = any-to (is_taken_early addresses ends other) (IsTakenEarly f) taken-told q.incoming s
  early-complete p (OfInstr i) s = and_both (is_marked before (point_of f p)) (is_misused addresses slots i) ((early.each (point_of f p)).1 s.0) (misused-to i s.1)
  early-complete p (Ending t) s = and_both (is_marked before (point_of f p)) (not (list_all (is_clear addresses) (ending_operands t))) ((early.each (point_of f p)).1 s.0) (use-to (ending_operands t) s.1)

pub first_early_is : (func : ℕ) (f : Function) (addresses slots : List Bool) (before : List (List Bool)) (ends : List Bool) (other : Bool) (o : Option Place) → f.coroutine ≡ true → AreAddressesOf f addresses → AreSlotsOf f slots → AreThose (IsBeforeBegin f) before → AreEarlyEnds f ends other → o ≡ first_part (stands_early f addresses slots before ends other) (parts_of func f) → IsFirstEarly func f o
first_early_is func f addresses slots before ends other o co set own early late is =
    subst (IsFirstEarly func f) (sym is)
    (first_is (stands_early f addresses slots before ends other) (BreaksEarly f)
    (record {
      sound = λ x e. (co, early-sound f addresses slots before ends other set own early late x.0 x.1 e);
      complete = λ x b. early-complete f addresses slots before ends other set own early late x.0 x.1 b.1;
    })
    (parts_of func f))
