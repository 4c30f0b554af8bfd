-- The order of fields is an order, and it is total.
use Rattle.std.proofs.Common.{◌≡◌, ◌≢◌, ℕ, List, Bool, true, false, not, Option, None, Some, refl, sym, subst, ◌∙◌, arith}
use Rattle.std.specs.Prelude.{◌&&◌, ◌||◌, nat_eq, nat_lt, IsTrue}
use Rattle.std.specs.Cmp.{IsStrictWeakOrder}
use Rattle.std.proofs.lemmas.Bool.{both_ways, eqb-true}
use Rattle.std.proofs.lemmas.Bool.Decides.{nat_tests}
use Rattle.frame_placing.specs.Rooms.{alignment_at, comes_first, is_promise, needs_more, size_at}
use Rattle.frame_placing.specs.declared.room.Room.{Room}

-- ---- by alignment, size and position

abbrev more : ℕ → ℕ → ℕ → ℕ → ℕ → ℕ → Bool
more a s x b t y = nat_lt b a || (nat_eq a b && (nat_lt t s || (nat_eq s t && nat_lt x y)))

more_one_way : (a s x b t y : ℕ) → more a s x b t y ≡ true → more b t y a s x ≡ false
more_one_way a s x b t y h = grind (arith, nat_tests)

more_chain : (a s x b t y c u z : ℕ) → more a s x b t y ≡ false → more b t y c u z ≡ false → more a s x c u z ≡ false
more_chain a s x b t y c u z h k = grind (arith, nat_tests)

more_total : (a s x b t y : ℕ) → x ≢ y → more a s x b t y ≡ false → more b t y a s x ≡ true
more_total a s x b t y ne h = grind (arith, nat_tests)

-- ---- with the promise first

one_way_by : (p q m n : Bool) → (m ≡ true → n ≡ false) → (not q && (p || m)) ≡ true → (not p && (q || n)) ≡ false
one_way_by true q m n h e = refl
one_way_by false true m n h e = absurd (cc)
one_way_by false false m n h e = h e

chain_by : (p q r m n o : Bool) → (m ≡ false → n ≡ false → o ≡ false) → (not q && (p || m)) ≡ false → (not r && (q || n)) ≡ false → (not r && (p || o)) ≡ false
chain_by p q true m n o h e f = refl
chain_by p true false m n o h e f = absurd (cc)
chain_by true false false m n o h e f = absurd (cc)
chain_by false false false m n o h e f = h e f

total_by : (p q m n : Bool) → (p ≡ true → q ≡ true → ⊥) → (m ≡ false → n ≡ true) → (not q && (p || m)) ≡ false → (not p && (q || n)) ≡ true
total_by true true m n one h e = absurd (one refl refl)
total_by true false m n one h e = absurd (cc)
total_by false true m n one h e = refl
total_by false false m n one h e = h e

pub is_order : (rooms : List Room) (promise : Option ℕ) → IsStrictWeakOrder (comes_first rooms promise)
unfolding comes_first needs_more
is_order rooms promise = record {
  one_way = λ x y h. one_way_by (is_promise promise x) (is_promise promise y) _ _
      (more_one_way (alignment_at rooms x) (size_at rooms x) x (alignment_at rooms y) (size_at rooms y) y) h;
  chain = λ x y z h k. chain_by (is_promise promise x) (is_promise promise y) (is_promise promise z) _ _ _
      (more_chain (alignment_at rooms x) (size_at rooms x) x (alignment_at rooms y) (size_at rooms y) y (alignment_at rooms z) (size_at rooms z) z) h k;
}

one_promise : (promise : Option ℕ) (x y : ℕ) → x ≢ y → is_promise promise x ≡ true → is_promise promise y ≡ true → ⊥
one_promise None x y ne e f = absurd (cc)
one_promise (Some p) x y ne e f = ne (sym (eqb-true p x e) ∙ eqb-true p y f)

pub is_total : (rooms : List Room) (promise : Option ℕ) (x y : ℕ) → x ≢ y → comes_first rooms promise x y ≡ false → comes_first rooms promise y x ≡ true
unfolding comes_first needs_more
is_total rooms promise x y ne e = total_by (is_promise promise x) (is_promise promise y) _ _ (one_promise promise x y ne)
    (more_total (alignment_at rooms x) (size_at rooms x) x (alignment_at rooms y) (size_at rooms y) y ne) e

-- none comes before the promise
pub none_before : (rooms : List Room) (promise : Option ℕ) (j k : ℕ) → IsTrue (is_promise promise k) → IsTrue (comes_first rooms promise j k) → ⊥
unfolding comes_first
none_before rooms promise j k is h = go (is_promise promise k) _ is h
  where
    go : (p m : Bool) → p ≡ true → (not p && m) ≡ true → ⊥
    go true m e f = absurd (cc)
    go false m e f = absurd (cc)

-- and none before itself
pub first_differs : (rooms : List Room) (promise : Option ℕ) (j k : ℕ) → IsTrue (comes_first rooms promise j k) → j ≢ k
first_differs rooms promise j k h same =
    let first = subst (λ (x : ℕ). comes_first rooms promise x k ≡ true) same h in
    both_ways (comes_first rooms promise k k) ((is_order rooms promise).one_way k k first) first
