-- Fields have one layout by a list of conflicts, and one plain layout.
use Rattle.std.proofs.Common.{◌≡◌, ℕ, ◌<◌, ◌≤◌, ◌⊎◌, Bool, true, List, Option, Some, None, Result, Ok, Err, get_or, map, refl, sym, ap, ◌∙◌, subst, ⊎_elim, inl, inr, arith}
use Rattle.std.proofs.lemmas.Bool.{and_from, both_ways, cases_lt, eq-eqb, lt-ltb, or_left, or_right}
use Rattle.std.proofs.lemmas.Option.{none-some, same_Some}
use Rattle.std.specs.Int.{next_multiple_of}
use Rattle.std.specs.Prelude.{◌&&◌, ◌^◌, ◌||◌, IsTrue, MatchOption, nat_eq, nat_lt, slice_get}
use Rattle.compiler.proofs.frame_layout.Orders.{is_order}
use Rattle.compiler.proofs.rule_laws.frame_placing.Unique.{placed_once}
use Rattle.compiler.specs.frame_layout.Layouts.{IsLaidBy, IsLaidOut, IsLaidOutPlain, IsLayoutBy, IsOrder, IsPlaced, IsPlacedPlain, lies_before, placed, promise_of, rooms_of}
use Rattle.compiler.specs.frame_layout.declared.layout.Field.{Field}
use Rattle.compiler.specs.frame_layout.declared.layout.Layout.{Layout}
use Rattle.compiler.specs.frame_layout.declared.laying.LayoutError.{LayoutError}
use Rattle.compiler.specs.rule_laws.frame_placing.Ends.{end_of}
use Rattle.compiler.specs.rule_laws.frame_placing.Placed.{Always, IsPair}
use Rattle.compiler.specs.rule_laws.frame_placing.Placings.{IsFrame, IsPlacing, IsPlainPlacing, chosen_offsets}
use Rattle.compiler.specs.rule_laws.frame_placing.declared.placing.Placing.{Placing}
use Rattle.compiler.specs.rule_laws.frame_placing.declared.room.Room.{Room}
use Rattle.compiler_theorem.proofs.one_answer.Ordered.{Rises, one_order}

-- ---- placings

frame_one : (rooms : List Room) (offsets : List ℕ) (a b : Placing) → IsFrame rooms offsets a → IsFrame rooms offsets b
    → a ≡ b
frame_one rooms offsets a b p q =
    let offsets_are : a.offsets ≡ b.offsets = p.offsets_are ∙ sym q.offsets_are in
    let end_is : a.end ≡ b.end = p.end_is ∙ sym q.end_is in
    let align_is : a.align ≡ b.align = p.align_is ∙ sym q.align_is in
    let rounded : next_multiple_of a.end a.align ≡ next_multiple_of b.end b.align =
    λ i. next_multiple_of (end_is i) (align_is i) in
    let size_is : a.size ≡ b.size = p.size_is ∙ rounded ∙ sym q.size_is in
    λ i. record { offsets = offsets_are i; end = end_is i; align = align_is i; size = size_is i }

-- too large by the plain offsets, or placed at the offsets
abbrev IsTold : List Room → List ℕ → List ℕ → Option Placing → Type 0
IsTold rooms plain offsets found =
    MatchOption found (2 ^ 24 < end_of rooms plain)
    (λ placing. (end_of rooms plain ≤ 2 ^ 24) × IsFrame rooms offsets placing)

told_one : (rooms : List Room) (plain offsets : List ℕ) (a b : Option Placing) → IsTold rooms plain offsets a
    → IsTold rooms plain offsets b → a ≡ b
told_one rooms plain offsets None None p q = refl
told_one rooms plain offsets None (Some b) p q = let le = q.0 in absurd (omega (arith, p, le))
told_one rooms plain offsets (Some a) None p q = let le = p.0 in absurd (omega (arith, le, q))
told_one rooms plain offsets (Some a) (Some b) p q = ap (λ (x : Placing). Some x) (frame_one rooms offsets a b p.1 q.1)

placing_one : (rooms : List Room) (promise : Option ℕ) (conflicts : List (ℕ × ℕ)) (a b : Option Placing)
    → IsPlacing rooms promise conflicts a → IsPlacing rooms promise conflicts b → a ≡ b
placing_one rooms promise conflicts a b p q =
    let plain : p.plain ≡ q.plain = placed_once rooms promise Always p.plain q.plain p.plain_placed q.plain_placed in
    let shared : p.shared ≡ q.shared =
    placed_once rooms promise (IsPair conflicts) p.shared q.shared p.shared_placed q.shared_placed in
    told_one rooms p.plain (chosen_offsets rooms p.plain p.shared) a b p.told
    (subst (λ (x : List ℕ). IsTold rooms p.plain (chosen_offsets rooms p.plain x) b) (sym shared)
    (subst (λ (x : List ℕ). IsTold rooms x (chosen_offsets rooms x q.shared) b) (sym plain) q.told))

plain_placing_one : (rooms : List Room) (promise : Option ℕ) (a b : Option Placing) → IsPlainPlacing rooms promise a
    → IsPlainPlacing rooms promise b → a ≡ b
plain_placing_one rooms promise a b p q =
    let plain : p.plain ≡ q.plain = placed_once rooms promise Always p.plain q.plain p.plain_placed q.plain_placed in
    told_one rooms p.plain p.plain a b p.told (subst (λ (x : List ℕ). IsTold rooms x x b) (sym plain) q.told)

-- ---- fields in order of offset

abbrev before_by : ℕ → ℕ → ℕ → ℕ → Bool
before_by a x b y = nat_lt a b || (nat_eq a b && nat_lt x y)

one_way : (a x b y : ℕ) → (a ≡ b) → x < y → before_by a x b y ≡ true
one_way a x b y same lt = or_right (nat_lt a b) (nat_eq a b && nat_lt x y)
    (and_from (nat_eq a b) (nat_lt x y) (eq-eqb a b same) (lt-ltb x y lt))

total_by : (a x b y : ℕ) → (x ≡ y → ⊥) → (before_by a x b y ≡ true) ⊎ (before_by b y a x ≡ true)
total_by a x b y apart = ⊎_elim
    (λ (lt : a < b). inl (or_left (nat_lt a b) (nat_eq a b && nat_lt x y) (lt-ltb a b lt)))
    (λ (ge : b ≤ a). ⊎_elim
    (λ (lt : b < a). inr (or_left (nat_lt b a) (nat_eq b a && nat_lt y x) (lt-ltb b a lt)))
    (λ (le : a ≤ b).
    let same : a ≡ b = omega (arith, ge, le) in
    ⊎_elim
    (λ (lt : x < y). inl (one_way a x b y same lt))
    (λ (behind : y ≤ x). ⊎_elim
    (λ (lt : y < x). inr (one_way b y a x (sym same) lt))
    (λ (ahead : x ≤ y). absurd (apart (omega (arith, behind, ahead))))
    (cases_lt y x))
    (cases_lt x y))
    (cases_lt b a))
    (cases_lt a b)

abbrev IsLower : List ℕ → ℕ → ℕ → Type 0
IsLower offsets j k = IsTrue (lies_before offsets j k)

never_both : (offsets : List ℕ) (j k : ℕ) → IsLower offsets j k → IsLower offsets k j → ⊥
never_both offsets j k p q = both_ways (lies_before offsets k j) ((is_order offsets).one_way j k p) q

one_is_lower : (offsets : List ℕ) (j k : ℕ) → (j ≡ k → ⊥) → IsLower offsets j k ⊎ IsLower offsets k j
unfolding lies_before
one_is_lower offsets j k apart = total_by (get_or offsets j 0) j (get_or offsets k 0) k apart

order_rises : (offsets order : List ℕ) → IsOrder offsets order → Rises (IsLower offsets) order
order_rises offsets order h a b j k lt e d = ⊎_elim
    (λ lower. lower)
    (λ higher. let gt = h.rises b a k j d e higher in absurd (omega (arith, lt, gt)))
    (one_is_lower offsets j k apart)
  where
    apart : j ≡ k → ⊥
    apart same =
        let there : slice_get order a ≡ Some k = e ∙ ap (λ (n : ℕ). Some n) same in
        let at = h.has_once a b k there d in
        omega (arith, lt, at)

order_one : (offsets one other : List ℕ) → IsOrder offsets one → IsOrder offsets other → one ≡ other
order_one offsets one other p q =
    one_order (IsLower offsets) (never_both offsets) one other (order_rises offsets one p)
    (order_rises offsets other q)
    (λ k h. q.has_each k (p.inside h.0 k h.1))
    (λ k h. p.has_each k (q.inside h.0 k h.1))

-- ---- layouts

layout_one : (func : ℕ) (fields : List Field) (placing : Placing) (l k : Layout) → IsLayoutBy func fields placing l
    → IsLayoutBy func fields placing k → l ≡ k
layout_one func fields placing l k p q =
    let order : p.order ≡ q.order = order_one placing.offsets p.order q.order p.is_order q.is_order in
    let coroutine_is : l.coroutine ≡ k.coroutine = p.coroutine_is ∙ sym q.coroutine_is in
    let size_is : l.size ≡ k.size = p.size_is ∙ sym q.size_is in
    let align_is : l.align ≡ k.align = p.align_is ∙ sym q.align_is in
    let index_is : l.index ≡ k.index = p.index_is ∙ sym q.index_is in
    let offsets_are : l.offsets ≡ k.offsets = p.offsets_are ∙ sym q.offsets_are in
    let fields_are : l.fields ≡ k.fields =
    p.fields_are ∙ ap (map (placed fields placing.offsets)) order ∙ sym q.fields_are in
    λ i. record {
      coroutine = coroutine_is i;
      size = size_is i;
      align = align_is i;
      index = index_is i;
      offsets = offsets_are i;
      fields = fields_are i;
    }

-- memory wasn't wanting
abbrev pub IsKnown : Result Layout LayoutError → Type 0
IsKnown (Ok l) = Unit {0}
IsKnown (Err LayoutError.FrameTooLarge) = Unit {0}
IsKnown (Err LayoutError.OutOfMemory) = ⊥

laid_one : (Placed : Option Placing → Type 0) → ((a b : Option Placing) → Placed a → Placed b → a ≡ b)
    → (func : ℕ) (fields : List Field) (r s : Result Layout LayoutError) → IsKnown r → IsKnown s
    → IsLaidBy Placed func fields r → IsLaidBy Placed func fields s → r ≡ s
laid_one Placed once func fields (Ok l) (Ok k) x y p q =
    let same : p.0 ≡ q.0 = same_Some p.0 q.0 (once (Some p.0) (Some q.0) p.1 q.1) in
    let layout : l ≡ k =
    layout_one func fields p.0 l k p.2 (subst (λ (z : Placing). IsLayoutBy func fields z k) (sym same) q.2) in
    λ i. Ok (layout i)
laid_one Placed once func fields (Ok l) (Err LayoutError.FrameTooLarge) x y p q =
    absurd (none-some p.0 (once None (Some p.0) q p.1))
laid_one Placed once func fields (Ok l) (Err LayoutError.OutOfMemory) x y p q = absurd y
laid_one Placed once func fields (Err LayoutError.FrameTooLarge) (Ok k) x y p q =
    absurd (none-some q.0 (once None (Some q.0) p q.1))
laid_one Placed once func fields (Err LayoutError.FrameTooLarge) (Err LayoutError.FrameTooLarge) x y p q = refl
laid_one Placed once func fields (Err LayoutError.FrameTooLarge) (Err LayoutError.OutOfMemory) x y p q = absurd y
laid_one Placed once func fields (Err LayoutError.OutOfMemory) s x y p q = absurd x

pub laid_out_one : (func : ℕ) (fields : List Field) (conflicts : List (ℕ × ℕ)) (r s : Result Layout LayoutError)
    → IsKnown r → IsKnown s → IsLaidOut func fields conflicts r → IsLaidOut func fields conflicts s → r ≡ s
laid_out_one func fields conflicts r s x y p q =
    laid_one (IsPlaced fields conflicts) (placing_one (rooms_of fields) (promise_of fields) conflicts) func fields r s
    x y p q

pub laid_out_plain_one : (func : ℕ) (fields : List Field) (r s : Result Layout LayoutError) → IsKnown r → IsKnown s
    → IsLaidOutPlain func fields r → IsLaidOutPlain func fields s → r ≡ s
laid_out_plain_one func fields r s x y p q =
    laid_one (IsPlacedPlain fields) (plain_placing_one (rooms_of fields) (promise_of fields)) func fields r s x y p q
