-- Tables of numbers, one number further, and what stands in them.
use Rattle.std.proofs.Common.{◌≡◌, ◌<◌, ◌+◌, ℕ, suc, cond, Bool, true, false, List, [], ◌∷◌, length, take, get_or, map, refl, ap, sym, ◌∙◌, arith, Option, Some, None}
use Rattle.std.specs.Prelude.{is_some, not, option_map, ◌||◌, ◌==◌, if◌then◌else◌}
use Rattle.std.proofs.lemmas.Bool.{eqb-true}
use Rattle.rule_phis.specs.Edges.{differs, has}
use Rattle.rule_phis.specs.Mentions.{differs_at}
use Rattle.rule_phis.specs.Operands.{same_operand}
use Rattle.ir_model.specs.Names.{first_where}
use Rattle.ir_model.specs.declared.instr.Incoming.{Incoming}
use Rattle.ir_tables.specs.Tables.{or_at}
use Rattle.ir_tables.proofs.Tables.{first_where-suc}

or-true : (o : Option ℕ) (i : ℕ) → o ≡ None → Some i ≡ or_at o true i
or-true o i e = sym (ap (λ o. or_at o true i) e)

or-false : (o : Option ℕ) (i : ℕ) → o ≡ or_at o false i
or-false (Some k) i = refl
or-false None i = refl

or-some : (o : Option ℕ) (b : Bool) (i k : ℕ) → o ≡ Some k → o ≡ or_at o b i
or-some o b i k e = e ∙ sym (ap (λ o. or_at o b i) e)

new-by : (f : ℕ → Option ℕ) (number n at : ℕ) (b : Bool) → (number == n) ≡ b → f number ≡ None → cond b (Some at) (f n) ≡ or_at (f n) b at
new-by f number n at true e h = or-true (f n) at (sym (ap f (eqb-true number n e)) ∙ h)
new-by f number n at false e h = or-false (f n) at

pub new-number : (f : ℕ → Option ℕ) (number n at : ℕ) → f number ≡ None → cond (number == n) (Some at) (f n) ≡ or_at (f n) (number == n) at
new-number f number n at h = new-by f number n at (number == n) refl h

old-by : (f : ℕ → Option ℕ) (number n at k : ℕ) (b : Bool) → (number == n) ≡ b → f number ≡ Some k → f n ≡ or_at (f n) b at
old-by f number n at k true e h = or-some (f n) true at k (sym (ap f (eqb-true number n e)) ∙ h)
old-by f number n at k false e h = or-false (f n) at

pub old-number : (f : ℕ → Option ℕ) (number n at k : ℕ) → f number ≡ Some k → f n ≡ or_at (f n) (number == n) at
old-number f number n at k h = old-by f number n at k (number == n) refl h

-- one item more in a table
pub first_where-next : {T : Type 0} (number : T → ℕ) (n : ℕ) (xs : List T) (i : ℕ) (x : T) (m : ℕ) → i < length xs → x ≡ get_or xs i x → m ≡ number x → (old new : Option ℕ) → old ≡ first_where (λ y. number y == n) (take i xs) → new ≡ or_at old (m == n) i → new ≡ first_where (λ y. number y == n) (take (i + 1) xs)
first_where-next number n xs i x m lt e is old new h u =
    let one : suc i ≡ i + 1 = omega arith in
    u
    ∙ ap (λ (o : Option ℕ). or_at o (m == n) i) h
    ∙ ap (λ (k : ℕ). or_at (first_where (λ y. number y == n) (take i xs)) (k == n) i) is
    ∙ sym (first_where-suc (λ y. number y == n) xs i x lt e)
    ∙ ap (λ (k : ℕ). first_where (λ y. number y == n) (take k xs)) one

-- what stands in a table
some-by : (b : Bool) (o : Option ℕ) → is_some (if b then Some 0 else option_map suc o) ≡ (b || is_some o)
some-by true o = refl
some-by false None = refl
some-by false (Some k) = refl

pub stands : {T : Type 0} (number : T → ℕ) (xs : List T) (n : ℕ) → is_some (first_where (λ x. number x == n) xs) ≡ has (map number xs) n
stands number [] n = refl
stands number (x ∷ xs) n = some-by (number x == n) (first_where (λ y. number y == n) xs) ∙ ap (λ (b : Bool). (number x == n) || b) (stands number xs n)

pub stands_itself : (xs : List ℕ) (n : ℕ) → is_some (first_where (λ x. x == n) xs) ≡ has xs n
stands_itself [] n = refl
stands_itself (x ∷ xs) n = some-by (x == n) (first_where (λ y. y == n) xs) ∙ ap (λ (b : Bool). (x == n) || b) (stands_itself xs n)

differs-by : (b : Bool) (i : Incoming) (is : List Incoming) (o : Option ℕ) (j : Incoming) (rest : Bool) → rest ≡ differs_at is o j → (if b then not (same_operand i.value j.value) else rest) ≡ differs_at (i ∷ is) (if b then Some 0 else option_map suc o) j
differs-by true i is o j rest e = refl
differs-by false i is None j rest e = e
differs-by false i is (Some k) j rest e = e

pub differs-first : (is : List Incoming) (j : Incoming) → differs is j ≡ differs_at is (first_where (λ i. i.from == j.from) is) j
differs-first [] j = refl
differs-first (i ∷ is) j =
    differs-by (i.from == j.from) i is (first_where (λ i. i.from == j.from) is) j (differs is j) (differs-first is j)
