-- What a sort of the positions gives.
use Rattle.std.proofs.Common.{◌≡◌, ◌≢◌, ℕ, ◌<◌, ◌≤◌, List, length, Bool, true, false, Option, Some, get_or, refl, sym, ap, ◌∙◌, subst, ⊎_elim, arith}
use Rattle.std.specs.Prelude.{nat_eq, slice_get, IsTrue}
use Rattle.std.specs.List.{IsDistinct}
use Rattle.std.specs.List.Sorted.{IsPermutation, IsSortedBy}
use Rattle.std.proofs.lemmas.Bool.{cases_lt, cases_order, eq-eqb, ne_eqb, both_ways}
use Rattle.std.proofs.lemmas.Bool.Decides.{nat_tests}
use Rattle.std.proofs.lemmas.List.Sorted.{All-permutation, Contains-permutation, sorted_far}
use Rattle.std.proofs.lemmas.Map.Keys.{IsDistinct-from_apart, IsDistinct-IsPermutation, apart_from_distinct}
use Rattle.std.proofs.lemmas.Option.{get_or_from_slice_get, slice_get-get_or, slice_get_within}
use Rattle.frame_placing.specs.Rooms.{comes_first}
use Rattle.frame_placing.specs.Steps.{IsOrder}
use Rattle.frame_placing.specs.declared.room.Room.{Room}
use Rattle.frame_placing.proofs.Firsts.{is_order, is_total}

-- the numbers below n in their order
pub record AreCounted (n : ℕ) (xs : List ℕ) : Type 0 where
  pub count : length xs ≡ n
  pub each : (k : ℕ) → k < n → get_or xs k 0 ≡ k

flips : (x y : ℕ) → nat_eq x y ≡ nat_eq y x
flips x y = grind (arith, nat_tests)

at_any : (xs : List ℕ) (k d : ℕ) → k < length xs → get_or xs k d ≡ get_or xs k 0
at_any xs k d lt = get_or_from_slice_get xs k (get_or xs k 0) d (slice_get-get_or xs k 0 lt)

distinct : (n : ℕ) (xs : List ℕ) → AreCounted n xs → IsDistinct nat_eq xs
distinct n xs h = IsDistinct-from_apart nat_eq xs (λ i j d less lt.
    let c = h.count in
    let one = at_any xs i d (omega (arith, less, lt)) ∙ h.each i (omega (arith, less, lt, c)) in
    let two = at_any xs j d lt ∙ h.each j (omega (arith, lt, c)) in
    ne_eqb (get_or xs i d) (get_or xs j d) (λ e. omega (arith, one, two, e, less)))

-- the sorted positions are an order of the fields
pub sorted_order : (rooms : List Room) (promise : Option ℕ) (start order : List ℕ) → AreCounted (length rooms) start → IsPermutation start order → IsSortedBy (comes_first rooms promise) order → IsOrder rooms promise order
sorted_order rooms promise start order h perm up = record {
  inside = λ a k e. let lt = slice_get_within order a k e in subst (λ (x : ℕ). x < length rooms) (get_or_from_slice_get order a k 0 e) (all_inside a 0 lt);
  has_each = λ k lt. let c = Contains-permutation start order k perm (k, omega (arith, lt, h.count), at_any start k k (omega (arith, lt, h.count)) ∙ h.each k lt) in
      (c.0, slice_get-get_or order c.0 k c.1 ∙ ap (λ (x : ℕ). Some x) c.2);
  has_once = λ a b k e f. once a b k e f;
  rises = λ a b j k e f first. ⊎_elim
      (λ (lt : a < b). lt)
      (λ (ge : b ≤ a). absurd (both_ways (comes_first rooms promise j k) (far a b j k e f ge) first))
      (cases_lt a b);
}
  where
    all_inside : (a d : ℕ) → a < length order → get_or order a d < length rooms
    all_inside = All-permutation (λ (x : ℕ). x < length rooms) start order perm (λ i d lt. let c = h.count in let e = at_any start i d lt ∙ h.each i (omega (arith, lt, c)) in omega (arith, e, lt, c))

    different : IsDistinct nat_eq order
    different = IsDistinct-IsPermutation nat_eq flips start order perm (distinct (length rooms) start h)

    before : (a b k : ℕ) → slice_get order a ≡ Some k → slice_get order b ≡ Some k → a < b → ⊥
    before a b k e f lt =
        let two = get_or_from_slice_get order a k k e in
        let three = get_or_from_slice_get order b k k f in
        both_ways (nat_eq (get_or order a k) (get_or order b k)) (apart_from_distinct nat_eq order a b k different lt (slice_get_within order b k f)) (eq-eqb (get_or order a k) (get_or order b k) (two ∙ sym three))

    once : (a b k : ℕ) → slice_get order a ≡ Some k → slice_get order b ≡ Some k → a ≡ b
    once a b k e f = ⊎_elim (λ same. same) (λ other. ⊎_elim (λ lt. absurd (before a b k e f lt)) (λ gt. absurd (before b a k f e gt)) other) (cases_order a b)

    far : (a b j k : ℕ) → slice_get order a ≡ Some j → slice_get order b ≡ Some k → b ≤ a → comes_first rooms promise j k ≡ false
    far a b j k e f ge =
        let at = sorted_far (comes_first rooms promise) (is_order rooms promise) order up b a 0 ge (slice_get_within order a j e) in
        ap (λ (x : ℕ). comes_first rooms promise x k) (sym (get_or_from_slice_get order a j 0 e)) ∙ ap (comes_first rooms promise (get_or order a 0)) (sym (get_or_from_slice_get order b k 0 f)) ∙ at

-- of two fields the one that stands before the other in the order comes first
pub order_tells : (rooms : List Room) (promise : Option ℕ) (order : List ℕ) (a b j k : ℕ) → IsOrder rooms promise order → slice_get order a ≡ Some j → slice_get order b ≡ Some k → a < b → IsTrue (comes_first rooms promise j k)
order_tells rooms promise order a b j k h e f lt = go (comes_first rooms promise j k) refl
  where
    go : (t : Bool) → comes_first rooms promise j k ≡ t → IsTrue t
    go true is = refl
    go false is =
        let ne : j ≢ k = λ same. (let one = h.has_once a b k (e ∙ ap (λ (x : ℕ). Some x) same) f in omega (arith, one, lt)) in
        let less = h.rises b a k j f e (is_total rooms promise j k ne is) in
        absurd (omega (arith, less, lt))
