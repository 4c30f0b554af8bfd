-- The first place by a test that says whether a rule is broken.
use Rattle.std.proofs.Common.{◌≡◌, ℕ, Bool, true, false, ◌&&◌, ◌||◌, List, [], ◌∷◌, refl, sym, ap, ◌∙◌, subst, inl, inr}
use Rattle.std.proofs.lemmas.Bool.{false≢true}
use Rattle.std.specs.Prelude.{Option, Some, None, IsTrue, IsFalse, ◌⊎◌, ◌↔◌}
use Rattle.ir_base.specs.declared.outcome.Place.{Place}
use Rattle.ir_parts.specs.Parts.{Part, Signature, Head, OfPhi, OfInstr, Ending, first_part, or_place, parts_of, place_if}
use Rattle.ir_parts.specs.ir_model.declared.instr.Instr.{Instr}
use Rattle.ir_parts.specs.ir_model.declared.instr.Terminator.{Terminator}
use Rattle.ir_parts.specs.ir_model.declared.module.Function.{Function}
use Rattle.flow_points.proofs.ir_paths.Search.{same_point-same, same_point-itself}
use Rattle.flow_points.specs.ir_paths.Paths.{has_point, same_point}
use Rattle.flow_points.specs.ir_paths.declared.point.Point.{Point}
use Rattle.flow_points.specs.Reached.{IsReached}
use Rattle.flow_points.specs.Rows.{is_marked}
use Rattle.rule_windows.specs.First.{IsFirst}
use Rattle.rule_windows.specs.Outside.{BreaksOutside, IsFirstOutside, IsOutsideOf, StandsOutside, ends_with_it, is_return, needs_begin, stands_outside}
use Rattle.rule_windows.specs.Points.{begins, ends, entry, point_of}
use Rattle.rule_windows.specs.Sets.{AreIn, AreThose, IsAfterEnd, IsWithoutBegin, RunsOut}
use Rattle.rule_windows.specs.declared.outside.Outside.{Outside}

-- ---- a test and a rule

-- the test says of each part whether it breaks the rule
pub record Says (test : Place → Part → Bool) (Breaks : Place × Part → Type 0) : Type 0 where
  pub sound : (x : Place × Part) → test x.0 x.1 ≡ true → Breaks x
  pub complete : (x : Place × Part) → Breaks x → test x.0 x.1 ≡ true

first_by : (test : Place → Part → Bool) (Breaks : Place × Part → Type 0) → Says test Breaks → (x : Place × Part) (xs : List (Place × Part)) (b : Bool) → test x.0 x.1 ≡ b → IsFirst Breaks (λ y. y.0) xs (first_part test xs) → IsFirst Breaks (λ y. y.0) (x ∷ xs) (or_place (place_if b x.0) (first_part test xs))
first_by test Breaks says x xs true e h = inl (says.sound x e, refl)
first_by test Breaks says x xs false e h = inr ((λ b. false≢true (sym e ∙ says.complete x b)), h)

pub first_is : (test : Place → Part → Bool) (Breaks : Place × Part → Type 0) → Says test Breaks → (xs : List (Place × Part)) → IsFirst Breaks (λ y. y.0) xs (first_part test xs)
first_is test Breaks says [] = refl
first_is test Breaks says (x ∷ xs) = first_by test Breaks says x xs (test x.0 x.1) refl (first_is test Breaks says xs)

pub none_first : {A : Type 0} (Breaks : A → Type 0) (place : A → Place) (xs : List A) → ((x : A) → Breaks x → ⊥) → IsFirst Breaks place xs None
none_first Breaks place [] h = refl
none_first Breaks place (x ∷ xs) h = inr (h x, none_first Breaks place xs h)

-- ---- rule K5

pub no_first_outside : (func : ℕ) (f : Function) → f.coroutine ≡ false → IsFirstOutside func f None
no_first_outside func f e = none_first (BreaksOutside f) (λ x. x.0) (parts_of func f) (λ x b. false≢true (sym e ∙ b.0))

and_both : (a b : Bool) → a ≡ true → b ≡ true → (a && b) ≡ true
and_both true b e h = h
and_both false b e h = absurd (false≢true e)

and_first : (a b : Bool) → (a && b) ≡ true → a ≡ true
and_first true b e = refl
and_first false b e = absurd (false≢true e)

and_second : (a b : Bool) → (a && b) ≡ true → b ≡ true
and_second true b e = e
and_second false b e = absurd (false≢true e)

or_cases : (a b : Bool) → (a || b) ≡ true → (a ≡ true) ⊎ (b ≡ true)
or_cases true b e = inl refl
or_cases false b e = inr e

or_first : (a b : Bool) → a ≡ true → (a || b) ≡ true
or_first true b e = refl
or_first false b e = absurd (false≢true e)

or_second : (a b : Bool) → b ≡ true → (a || b) ≡ true
or_second true b e = refl
or_second false b e = e

outside_sound : (f : Function) (out after before : List (List Bool)) → AreThose (RunsOut f) out → AreThose (IsAfterEnd f) after → AreThose (IsWithoutBegin f) before → (p : Place) (x : Part) → stands_outside f out after before p x ≡ true → StandsOutside f p x
outside_sound f out after before ho ha hb p (Signature g) e = false≢true e
outside_sound f out after before ho ha hb p (Head b) e = false≢true e
outside_sound f out after before ho ha hb p (OfPhi b) e = false≢true e
outside_sound f out after before ho ha hb p (OfInstr i) e =
    elim (or_cases (ends_with_it i && is_marked after (point_of f p)) (needs_begin i && is_marked before (point_of f p)) e) [
      | inl a ↦ inl (and_first (ends_with_it i) (is_marked after (point_of f p)) a, (ha.each (point_of f p)).0 (and_second (ends_with_it i) (is_marked after (point_of f p)) a))
      | inr b ↦ inr (and_first (needs_begin i) (is_marked before (point_of f p)) b, (hb.each (point_of f p)).0 (and_second (needs_begin i) (is_marked before (point_of f p)) b))
    ]
outside_sound f out after before ho ha hb p (Ending t) e =
    (and_first (is_return t) (is_marked out (point_of f p)) e, (ho.each (point_of f p)).0 (and_second (is_return t) (is_marked out (point_of f p)) e))

outside_complete : (f : Function) (out after before : List (List Bool)) → AreThose (RunsOut f) out → AreThose (IsAfterEnd f) after → AreThose (IsWithoutBegin f) before → (p : Place) (x : Part) → StandsOutside f p x → stands_outside f out after before p x ≡ true
outside_complete f out after before ho ha hb p (Signature g) s = absurd s
outside_complete f out after before ho ha hb p (Head b) s = absurd s
outside_complete f out after before ho ha hb p (OfPhi b) s = absurd s
outside_complete f out after before ho ha hb p (OfInstr i) s =
    elim s [
      | inl a ↦ or_first (ends_with_it i && is_marked after (point_of f p)) (needs_begin i && is_marked before (point_of f p)) (and_both (ends_with_it i) (is_marked after (point_of f p)) a.0 ((ha.each (point_of f p)).1 a.1))
      | inr b ↦ or_second (ends_with_it i && is_marked after (point_of f p)) (needs_begin i && is_marked before (point_of f p)) (and_both (needs_begin i) (is_marked before (point_of f p)) b.0 ((hb.each (point_of f p)).1 b.1))
    ]
outside_complete f out after before ho ha hb p (Ending t) s = and_both (is_return t) (is_marked out (point_of f p)) s.0 ((ho.each (point_of f p)).1 s.1)

first_outside_by : (func : ℕ) (f : Function) (out after before : List (List Bool)) → f.coroutine ≡ true → AreThose (RunsOut f) out → AreThose (IsAfterEnd f) after → AreThose (IsWithoutBegin f) before → IsFirstOutside func f (first_part (stands_outside f out after before) (parts_of func f))
first_outside_by func f out after before co ho ha hb =
    first_is (stands_outside f out after before) (BreaksOutside f)
    (record {
      sound = λ x e. (co, outside_sound f out after before ho ha hb x.0 x.1 e);
      complete = λ x b. outside_complete f out after before ho ha hb x.0 x.1 b.1;
    })
    (parts_of func f)

pub first_outside_is : (func : ℕ) (f : Function) (r : Outside) (o : Option Place) → f.coroutine ≡ true → IsOutsideOf f r → o ≡ first_part (stands_outside r.function.now r.out r.after r.before) (parts_of func f) → IsFirstOutside func f o
first_outside_is func f r o co h is =
    subst (IsFirstOutside func f) (sym (is ∙ ap (λ (g : Function). first_part (stands_outside g r.out r.after r.before) (parts_of func f)) h.function)) (first_outside_by func f r.out r.after r.before co h.out h.after h.before)

-- ---- paths from the entry

pub without_begin_none : (f : Function) (set : List (List Bool)) (bs : List Point) → bs ≡ begins f → has_point bs entry ≡ true → AreIn [] set → AreThose (IsWithoutBegin f) set
without_begin_none f set bs e h empty =
    record { each = λ p. ((λ m. absurd (false≢true (sym (empty.each p) ∙ m))), (λ w. absurd (false≢true (sym w.begins_later ∙ sym (ap (λ (l : List Point). has_point l entry) e) ∙ h)))) }

pub without_begin_some : (f : Function) (old set : List (List Bool)) (bs starts : List Point) (first : Point) → bs ≡ begins f → starts ≡ first ∷ [] → first ≡ entry → has_point bs first ≡ false → AreThose (IsReached f starts bs) old → ((p : Point) → is_marked set p ≡ (is_marked old p || same_point p first)) → AreThose (IsWithoutBegin f) set
without_begin_some f old set bs starts first e es ef h reached more = record { each = λ p. (sound p, complete p) }
  where
    Reaches : List Point → Point → Type 0
    Reaches ss p = IsReached f ss (begins f) p

    one : starts ≡ entry ∷ []
    one = es ∙ ap (λ (q : Point). q ∷ []) ef

    into : (p : Point) → IsReached f starts bs p → IsReached f (entry ∷ []) (begins f) p
    into p r = subst (λ (ss : List Point). IsReached f ss (begins f) p) one (subst (λ (l : List Point). IsReached f starts l p) e r)

    back : (p : Point) → IsReached f (entry ∷ []) (begins f) p → IsReached f starts bs p
    back p r = subst (λ (l : List Point). IsReached f starts l p) (sym e) (subst (λ (ss : List Point). IsReached f ss (begins f) p) (sym one) r)

    later : has_point (begins f) entry ≡ false
    later = sym (ap (λ (l : List Point). has_point l entry) e) ∙ sym (ap (has_point bs) ef) ∙ h

    way : (p : Point) → is_marked set p ≡ true → (p ≡ entry) ⊎ IsReached f (entry ∷ []) (begins f) p
    way p m =
        elim (or_cases (is_marked old p) (same_point p first) (sym (more p) ∙ m)) [
          | inl a ↦ inr (into p ((reached.each p).0 a))
          | inr b ↦ inl (same_point-same p first b ∙ ef)
        ]

    sound : (p : Point) → IsTrue (is_marked set p) → IsWithoutBegin f p
    sound p m = record { begins_later = later; path = way p m }

    complete : (p : Point) → IsWithoutBegin f p → IsTrue (is_marked set p)
    complete p w =
        elim w.path [
          | inl a ↦ more p ∙ or_second (is_marked old p) (same_point p first) (ap (λ (q : Point). same_point q first) (a ∙ sym ef) ∙ same_point-itself first)
          | inr b ↦ more p ∙ or_first (is_marked old p) (same_point p first) ((reached.each p).1 (back p b))
        ]
