-- The layout by parts of frame slots is that by the pairs that conflict.
use Rattle.std.proofs.Common.{◌≡◌, ◌≢◌, ◌↔◌, ◌⊎◌, ℕ, zero, suc, ◌<◌, ◌≤◌, List, [], ◌∷◌, ◌++◌, Option, None, Some, Result, get_or, map, refl, sym, ap, ◌∙◌, subst, ⊎_elim, inl, inr, arith}
use Rattle.std.specs.Prelude.{option_to_list}
use Rattle.std.specs.List.{Contains}
use Rattle.std.proofs.lemmas.Bool.{cases_lt}
use Rattle.std.proofs.lemmas.List.Elements.{Contains-append_cases, Contains-append_left, Contains-append_right}
use Rattle.frame_contents.specs.Frames.{IfKnown, IsSharedBy}
use Rattle.frame_contents.specs.Held.{at_fields, both_at_fields, both_with, field_positions}
use Rattle.frame_contents.proofs.Placed.{known}
use Rattle.frame_placing.specs.Placed.{IsPair}
use Rattle.flow_solver.specs.Paths.{IsListed}
use Rattle.frame_layout.specs.Conflicts.{field_conflicts}
use Rattle.frame_layout.specs.Layouts.{IsLaidOut}
use Rattle.frame_layout.specs.Sides.{AreNamed, AreSlotsApart}
use Rattle.frame_layout.specs.declared.layout.Field.{Field}
use Rattle.frame_layout.specs.declared.layout.Layout.{Layout}
use Rattle.frame_layout.specs.declared.laying.LayoutError.{LayoutError}
use Rattle.ir_model.specs.declared.module.Function.{Function}
use Rattle.frame_conflicts.proofs.Named.{conflict_parted, conflicts_named, parted_conflict}
use Rattle.frame_conflicts.specs.Conflicts.{AreAliveAt, AreConflicts, ConflictAt}
use Rattle.frame_conflicts.specs.Parts.{AreParted, ArePartsOf, NarrowAt}
use Rattle.frame_conflicts.specs.declared.parts.SlotParts.{SlotParts}

-- ---- elements of lists

none_in : {X : Type 0} (y : X) → Contains {X = X} [] y → ⊥
none_in y c = let lt = c.1 in omega (arith, lt)

one_in : {X : Type 0} (x y : X) → Contains (x ∷ []) y → x ≡ y
one_in x y (zero, lt, e) = e
one_in x y (suc a, lt, e) = absurd (omega (arith, lt))

here_in : {X : Type 0} (x : X) → Contains (x ∷ []) x
here_in x = (0, omega arith, refl)

-- a position of a field of one of the numbers
abbrev IsOf : (ℕ → Option ℕ) → List ℕ → ℕ → Type 0
IsOf at numbers j = (i : ℕ) × IsListed i numbers × (at i ≡ Some j)

positions_told : (at : ℕ → Option ℕ) (numbers : List ℕ) (j : ℕ) → Contains (field_positions at numbers) j → IsOf at numbers j
positions_told at [] j c = absurd (none_in j c)
positions_told at (i ∷ is) j c = ⊎_elim
    (λ h. (i, inl refl, here (at i) h))
    (λ h. let r = positions_told at is j h in (r.0, inr r.1, r.2))
    (Contains-append_cases (option_to_list (at i)) (field_positions at is) j c)
  where
    here : (o : Option ℕ) → Contains (option_to_list o) j → o ≡ Some j
    here None h = absurd (none_in j h)
    here (Some x) h = ap (λ (y : ℕ). Some y) (one_in x j h)

positions_in : (at : ℕ → Option ℕ) (numbers : List ℕ) (i j : ℕ) → IsListed i numbers → at i ≡ Some j → Contains (field_positions at numbers) j
positions_in at [] i j l e = absurd l
positions_in at (x ∷ xs) i j l e = ⊎_elim
    (λ same. Contains-append_left (option_to_list (at x)) (field_positions at xs) j (subst (λ (o : Option ℕ). Contains (option_to_list o) j) (sym (ap at (sym same) ∙ e)) (here_in j)))
    (λ later. Contains-append_right (option_to_list (at x)) (field_positions at xs) j (positions_in at xs i j later e))
    l

-- the positions of the fields of one of the pairs
pub record IsOfPair (at : ℕ → Option ℕ) (pairs : List (ℕ × ℕ)) (j k : ℕ) : Type 0 where
  pub one : ℕ
  pub other : ℕ
  pub is_listed : IsListed (one, other) pairs
  pub one_at : at one ≡ Some j
  pub other_at : at other ≡ Some k

both_told : (at : ℕ → Option ℕ) (pairs : List (ℕ × ℕ)) (j k : ℕ) → Contains (both_at_fields at pairs) (j, k) → IsOfPair at pairs j k
both_told at [] j k c = absurd (none_in (j, k) c)
both_told at (p ∷ ps) j k c = ⊎_elim
    (λ h. let two = here (at p.0) (at p.1) h in record { one = p.0; other = p.1; is_listed = inl (is_pair p); one_at = two.0; other_at = two.1 })
    (λ h. let r = both_told at ps j k h in record { one = r.one; other = r.other; is_listed = inr r.is_listed; one_at = r.one_at; other_at = r.other_at })
    (Contains-append_cases (both_with (at p.0) (at p.1)) (both_at_fields at ps) (j, k) c)
  where
    is_pair : (q : ℕ × ℕ) → ◌≡◌ {A = ℕ × ℕ} (q.0, q.1) q
    is_pair (a, b) = refl

    here : (a b : Option ℕ) → Contains (both_with a b) (j, k) → (a ≡ Some j) × (b ≡ Some k)
    here None b h = absurd (none_in (j, k) h)
    here (Some x) None h = absurd (none_in (j, k) h)
    here (Some x) (Some y) h = let e = one_in (x, y) (j, k) h in (ap (λ (q : ℕ × ℕ). Some q.0) e, ap (λ (q : ℕ × ℕ). Some q.1) e)

both_in : (at : ℕ → Option ℕ) (pairs : List (ℕ × ℕ)) (i l j k : ℕ) → IsListed (i, l) pairs → at i ≡ Some j → at l ≡ Some k → Contains (both_at_fields at pairs) (j, k)
both_in at [] i l j k listed e f = absurd listed
both_in at (p ∷ ps) i l j k listed e f = ⊎_elim
    (λ same. Contains-append_left (both_with (at p.0) (at p.1)) (both_at_fields at ps) (j, k) (here (at p.0) (at p.1) (ap (λ (q : ℕ × ℕ). at q.0) (sym same) ∙ e) (ap (λ (q : ℕ × ℕ). at q.1) (sym same) ∙ f)))
    (λ later. Contains-append_right (both_with (at p.0) (at p.1)) (both_at_fields at ps) (j, k) (both_in at ps i l j k later e f))
    listed
  where
    here : (a b : Option ℕ) → a ≡ Some j → b ≡ Some k → Contains (both_with a b) (j, k)
    here a b d g = subst (λ (o : Option ℕ). Contains (both_with o b) (j, k)) (sym d) (subst (λ (o : Option ℕ). Contains (both_with (Some j) o) (j, k)) (sym g) (here_in (j, k)))

-- ---- what the fields of parts stand for

module _ (f : Function) (parts : SlotParts) (are : ArePartsOf f parts) (conflicts : List (ℕ × ℕ)) (conflicts_are : AreConflicts f conflicts) (at : ℕ → Option ℕ) where
  abbrev Apart : ℕ → ℕ → Type 0
  Apart j k = AreSlotsApart (field_positions at parts.frame) (field_positions at parts.wide) (both_at_fields at parts.narrow) j k

  abbrev Named : ℕ → ℕ → Type 0
  Named j k = IsPair (both_at_fields at conflicts) j k

  turned : (j k : ℕ) → Apart j k → Apart k j
  turned j k h = ⊎_elim (λ n. inl (⊎_elim (λ a. inr a) (λ b. inl b) n)) (λ w. inr (⊎_elim (λ a. inr a) (λ b. inl b) w)) h

  named_back : (j k : ℕ) → Named k j → Named j k
  named_back j k h = ⊎_elim (λ a. inr a) (λ b. inl b) h

  told_apart : (j k : ℕ) → IsOfPair at conflicts j k → Apart j k
  told_apart j k p = ⊎_elim
      (λ a. inr (inl (positions_in at parts.wide p.one j a.0 p.one_at, positions_in at parts.frame p.other k a.1 p.other_at)))
      (λ b. ⊎_elim
      (λ a. inr (inr (positions_in at parts.wide p.other k a.0 p.other_at, positions_in at parts.frame p.one j a.1 p.one_at)))
      (λ n. inl (inl (both_in at parts.narrow p.one p.other j k n p.one_at p.other_at)))
      b)
      (conflict_parted f parts are p.one p.other ((conflicts_are.each p.one p.other).0 p.is_listed))

  -- two frame slots of which one is wide
  wide_named : (i l j k : ℕ) → IsListed i parts.wide → IsListed l parts.frame → at i ≡ Some j → at l ≡ Some k → j ≢ k → Named j k
  wide_named i l j k w x e g ne = ⊎_elim
      (λ (lt : i < l). inl (both_in at conflicts i l j k ((conflicts_are.each i l).1 (parted_conflict f parts are i l lt (inl (w, x)))) e g))
      (λ (ge : l ≤ i). let lt : l < i = (let other = differ in omega (arith, ge, other)) in inr (both_in at conflicts l i k j ((conflicts_are.each l i).1 (parted_conflict f parts are l i lt (inr (inl (w, x))))) g e))
      (cases_lt i l)
    where
      differ : i ≢ l
      differ same = ne (let one : Some j ≡ Some k = sym e ∙ (ap at same ∙ g) in cc)

  narrow_named : (j k : ℕ) → IsOfPair at parts.narrow j k → Named j k
  narrow_named j k p =
      let n : NarrowAt f p.one p.other = (are.narrow_are.each p.one p.other).0 p.is_listed in
      inl (both_in at conflicts p.one p.other j k ((conflicts_are.each p.one p.other).1 (parted_conflict f parts are p.one p.other n.is_lower (inr (inr p.is_listed)))) p.one_at p.other_at)

  pub slots_named : AreNamed (field_positions at parts.frame) (field_positions at parts.wide) (both_at_fields at parts.narrow) (both_at_fields at conflicts)
  slots_named = record { each = λ j k ne. (to j k, from j k ne) }
    where
      to : (j k : ℕ) → Named j k → Apart j k
      to j k h = ⊎_elim (λ c. told_apart j k (both_told at conflicts j k c)) (λ c. turned k j (told_apart k j (both_told at conflicts k j c))) h

      from : (j k : ℕ) → j ≢ k → Apart j k → Named j k
      from j k ne h = ⊎_elim
          (λ n. ⊎_elim (λ c. narrow_named j k (both_told at parts.narrow j k c)) (λ c. named_back j k (narrow_named k j (both_told at parts.narrow k j c))) n)
          (λ w. ⊎_elim
          (λ a. let x = positions_told at parts.wide j a.0 in let y = positions_told at parts.frame k a.1 in wide_named x.0 y.0 j k x.1 y.1 x.2 y.2 ne)
          (λ a. let x = positions_told at parts.wide k a.0 in let y = positions_told at parts.frame j a.1 in named_back j k (wide_named x.0 y.0 k j x.1 y.1 x.2 y.2 (λ e. ne (sym e))))
          w)
          h

-- ---- the layout

pub shared_by : (f : Function) (func : ℕ) (allocas : List ℕ) (fields : List Field) (table slots : List (Option ℕ)) (crossing crossing2 alive alive2 narrow : List (ℕ × ℕ)) (frame wide : List ℕ) (parts : SlotParts) (result : Result Layout LayoutError) →
    AreAliveAt f alive → ArePartsOf f parts → slots ≡ map (λ v. get_or table v None) allocas → crossing2 ≡ at_fields (λ v. get_or table v None) crossing → alive2 ≡ at_fields (λ v. get_or slots v None) alive →
    frame ≡ field_positions (λ v. get_or slots v None) parts.frame → wide ≡ field_positions (λ v. get_or slots v None) parts.wide → narrow ≡ both_at_fields (λ v. get_or slots v None) parts.narrow →
    ((named : List (ℕ × ℕ)) → AreNamed frame wide narrow named → IsLaidOut func fields (field_conflicts fields crossing2 alive2 named) result) → IfKnown (IsSharedBy f func allocas fields table crossing) result
shared_by f func allocas fields table slots crossing crossing2 alive alive2 narrow frame wide parts result alive_are are is_slots is_crossing is_alive is_frame is_wide is_narrow laid =
    known (IsSharedBy f func allocas fields table crossing) result (record {
      alive = alive;
      alive_are = alive_are;
      conflicts = all.0;
      conflicts_are = all.1;
      laid = subst (λ (s : List (Option ℕ)). IsLaidOut func fields (field_conflicts fields (at_fields (λ v. get_or table v None) crossing) (at_fields (λ i. get_or s i None) alive) (both_at_fields (λ i. get_or s i None) all.0)) result) is_slots
          (subst (λ (c : List (ℕ × ℕ)). IsLaidOut func fields (field_conflicts fields c (at_fields (λ i. get_or slots i None) alive) (both_at_fields (λ i. get_or slots i None) all.0)) result) is_crossing
          (subst (λ (a : List (ℕ × ℕ)). IsLaidOut func fields (field_conflicts fields crossing2 a (both_at_fields (λ i. get_or slots i None) all.0)) result) is_alive (laid (both_at_fields (λ i. get_or slots i None) all.0) named)));
    })
  where
    all : (pairs : List (ℕ × ℕ)) × AreConflicts f pairs
    all = conflicts_named f parts are

    named : AreNamed frame wide narrow (both_at_fields (λ i. get_or slots i None) all.0)
    named =
        subst (λ (l : List ℕ). AreNamed l wide narrow (both_at_fields (λ i. get_or slots i None) all.0)) (sym is_frame)
        (subst (λ (l : List ℕ). AreNamed (field_positions (λ v. get_or slots v None) parts.frame) l narrow (both_at_fields (λ i. get_or slots i None) all.0)) (sym is_wide)
        (subst (λ (l : List (ℕ × ℕ)). AreNamed (field_positions (λ v. get_or slots v None) parts.frame) (field_positions (λ v. get_or slots v None) parts.wide) l (both_at_fields (λ i. get_or slots i None) all.0)) (sym is_narrow)
        (slots_named f parts are all.0 all.1 (λ i. get_or slots i None))))

-- ---- with the names that calls give things

pub same_at : (slots slots2 : List (Option ℕ)) (xs xs2 : List (ℕ × ℕ)) → slots2 ≡ slots → xs2 ≡ xs → at_fields (λ v. get_or slots2 v None) xs2 ≡ at_fields (λ v. get_or slots v None) xs
same_at slots slots2 xs xs2 e g = ap (λ (s : List (Option ℕ)). at_fields (λ v. get_or s v None) xs2) e ∙ ap (λ (l : List (ℕ × ℕ)). at_fields (λ v. get_or slots v None) l) g

pub same_both : (slots slots2 : List (Option ℕ)) (xs xs2 : List (ℕ × ℕ)) → slots2 ≡ slots → xs2 ≡ xs → both_at_fields (λ v. get_or slots2 v None) xs2 ≡ both_at_fields (λ v. get_or slots v None) xs
same_both slots slots2 xs xs2 e g = ap (λ (s : List (Option ℕ)). both_at_fields (λ v. get_or s v None) xs2) e ∙ ap (λ (l : List (ℕ × ℕ)). both_at_fields (λ v. get_or slots v None) l) g

pub same_positions : (slots slots2 : List (Option ℕ)) (xs xs2 : List ℕ) → slots2 ≡ slots → xs2 ≡ xs → field_positions (λ v. get_or slots2 v None) xs2 ≡ field_positions (λ v. get_or slots v None) xs
same_positions slots slots2 xs xs2 e g = ap (λ (s : List (Option ℕ)). field_positions (λ v. get_or s v None) xs2) e ∙ ap (λ (l : List ℕ). field_positions (λ v. get_or slots v None) l) g
