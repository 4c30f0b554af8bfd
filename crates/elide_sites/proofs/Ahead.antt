-- A destroy that stands behind the call in its block is passed by each path from the call.
use Rattle.std.proofs.Common.{◌≡◌, ℕ, ◌+◌, ◌<◌, ◌≤◌, Bool, true, false, ◌&&◌, ◌||◌, List, [], ◌∷◌, length, map, Some, Option, refl, sym, ap, ◌∙◌, subst, inl, inr, ⊎_elim, arith}
use Rattle.std.proofs.lemmas.Bool.{cases_eq, eqb-true, false≢true, lt-ltb, ltb-true}
use Rattle.std.specs.Prelude.{slice_get, nat_lt, IsTrue, IsFalse, ◌⊎◌, ◌↔◌, ◌==◌, if◌then◌else◌}
use Rattle.std.specs.List.{list_any}
use Rattle.elide_shape.specs.Calls.{value_at}
use Rattle.elide_sites.specs.Sites.{IsDestroyed, IsPassed, destroys_of, ends_use, is_ahead, is_ret_in}
use Rattle.ir_model.specs.declared.module.Block.{Block}
use Rattle.ir_model.specs.declared.module.Function.{Function}
use Rattle.ir_paths.proofs.Search.{eq_from, same_point-itself, same_point-same}
use Rattle.ir_paths.specs.Paths.{IsPath, Leads, entry_point, has_point, nexts, nexts_in, same_point, targets}
use Rattle.ir_paths.specs.declared.point.Point.{Point}
use Rattle.flow_points.specs.Reached.{IsReached}
use Rattle.rule_windows.specs.Outside.{is_return}

or_cases : (a b : Bool) → (a || b) ≡ true → (a ≡ true) ⊎ (b ≡ true)
or_cases true b e = inl refl
or_cases false b e = inr e

and_first : (a b : Bool) → (a && b) ≡ true → a ≡ true
and_first true b e = refl
and_first false b e = absurd (false≢true e)

and_second : (a b : Bool) → (a && b) ≡ true → b ≡ true
and_second true b e = e
and_second false b e = absurd (false≢true e)

and_none : (a b : Bool) → a ≡ false → (a && b) ≡ false
and_none true b e = absurd (false≢true (sym e))
and_none false b e = refl

or_none : (a b : Bool) → a ≡ false → b ≡ false → (a || b) ≡ false
or_none true b e h = e
or_none false b e h = h

neqb : (a b : ℕ) → (a ≡ b → ⊥) → (a == b) ≡ false
neqb a b h = by (a == b) refl
  where
    by : (r : Bool) → (a == b) ≡ r → (a == b) ≡ false
    by true e = absurd (h (eqb-true a b e))
    by false e = e

only : (x p : Point) → has_point (x ∷ []) p ≡ true → p ≡ x
only x p h = ⊎_elim (λ here. same_point-same p x here) (λ none. absurd (false≢true none)) (or_cases (same_point p x) false h)

-- behind an instruction comes the next point of its block
next_is : (f : Function) (q : Point) (b : Block) → slice_get f.blocks q.block ≡ Some b → q.at < length b.instrs → nexts f q ≡ record { block = q.block; at = q.at + 1 } ∷ []
next_is f q b there lt = ap (nexts_in f q) there ∙ by (nat_lt q.at (length b.instrs)) (if q.at == length b.instrs then map (entry_point f) (targets b.term) else []) (lt-ltb q.at (length b.instrs) lt)
  where
    by : (t : Bool) (rest : List Point) → t ≡ true → (if t then record { block = q.block; at = q.at + 1 } ∷ [] else rest) ≡ record { block = q.block; at = q.at + 1 } ∷ []
    by true rest e = refl
    by false rest e = absurd (false≢true e)

pub record IsBetween (k low high : ℕ) (p : Point) : Type 0 where
  pub block : p.block ≡ k
  pub above : low < p.at
  pub below : p.at ≤ high

-- a path from the block's points before the one avoided doesn't come further than that
walk : (f : Function) (avoided : List Point) (k m : ℕ) (b : Block) → slice_get f.blocks k ≡ Some b → m < length b.instrs → has_point avoided (record { block = k; at = m }) ≡ true →
    (q : Point) (between : List Point) (p : Point) → q.block ≡ k → q.at < m → IsPath f avoided q between p → IsBetween k q.at m p
walk f avoided k m b there inside is_avoided q [] p same before step =
    let next : nexts f q ≡ record { block = q.block; at = q.at + 1 } ∷ [] = next_is f q b (ap (slice_get f.blocks) same ∙ there) (omega (arith, before, inside)) in
    let is : p ≡ record { block = q.block; at = q.at + 1 } = only (record { block = q.block; at = q.at + 1 }) p (sym (ap (λ (l : List Point). has_point l p) next) ∙ step) in
    let at : p.at ≡ q.at + 1 = ap (λ (x : Point). x.at) is in
    record { block = ap (λ (x : Point). x.block) is ∙ same; above = omega (arith, at); below = omega (arith, at, before) }
walk f avoided k m b there inside is_avoided q (v ∷ between) p same before path =
    let next : nexts f q ≡ record { block = q.block; at = q.at + 1 } ∷ [] = next_is f q b (ap (slice_get f.blocks) same ∙ there) (omega (arith, before, inside)) in
    let is : v ≡ record { block = q.block; at = q.at + 1 } = only (record { block = q.block; at = q.at + 1 }) v (sym (ap (λ (l : List Point). has_point l v) next) ∙ path.0) in
    let at : v.at ≡ q.at + 1 = ap (λ (x : Point). x.at) is in
    let block : v.block ≡ k = ap (λ (x : Point). x.block) is ∙ same in
    ⊎_elim
    (λ reached. absurd (false≢true (sym path.1 ∙ ap (has_point avoided) (point_is v k m block (at ∙ reached)) ∙ is_avoided)))
    (λ further.
    let rest : IsBetween k v.at m p = walk f avoided k m b there inside is_avoided v between p block (omega (arith, at, before, further)) path.2 in
    let above = rest.above in
    record { block = rest.block; above = omega (arith, at, above); below = rest.below })
    (cases_eq (q.at + 1) m)
  where
    point_is : (x : Point) (n o : ℕ) → x.block ≡ n → x.at ≡ o → x ≡ record { block = n; at = o }
    point_is x n o e h = λ i. record { block = e i; at = h i }

ends_no_use : (f : Function) (call : Point) (k m : ℕ) (b : Block) (p : Point) → slice_get f.blocks k ≡ Some b → m < length b.instrs → IsBetween k call.at m p → ends_use f call p ≡ false
ends_no_use f call k m b p there inside is =
    let above = is.above in
    let below = is.below in
    or_none (same_point p call) (is_ret_in (slice_get f.blocks p.block) p.at)
    (neq_and (p.block == call.block) (p.at == call.at) (neqb p.at call.at (λ e. omega (arith, above, e))))
    (ap (λ (o : Option Block). is_ret_in o p.at) (ap (slice_get f.blocks) is.block ∙ there) ∙ and_none (p.at == length b.instrs) (is_return b.term) (neqb p.at (length b.instrs) (λ e. omega (arith, below, inside, e))))
  where
    neq_and : (a c : Bool) → c ≡ false → (a && c) ≡ false
    neq_and true c e = e
    neq_and false c e = refl

any_from : (test : Point → Bool) (xs : List Point) → list_any test xs ≡ true → (q : Point) × (has_point xs q ≡ true) × (test q ≡ true)
any_from test [] e = absurd (false≢true e)
any_from test (x ∷ xs) e = by (any_from test xs) (or_cases (test x) (list_any test xs) e)
  where
    left : (a b : Bool) → a ≡ true → (a || b) ≡ true
    left true b e = refl
    left false b e = absurd (false≢true e)

    right : (a b : Bool) → b ≡ true → (a || b) ≡ true
    right true b e = refl
    right false b e = e

    by : (list_any test xs ≡ true → (q : Point) × (has_point xs q ≡ true) × (test q ≡ true)) → (test x ≡ true) ⊎ (list_any test xs ≡ true) → (q : Point) × (has_point (x ∷ xs) q ≡ true) × (test q ≡ true)
    by later (inl h) = (x, left (same_point x x) (has_point xs x) (same_point-itself x), h)
    by later (inr h) = let r = later h in (r.0, right (same_point r.0 x) (has_point xs r.0) r.1, r.2)

pub ahead_is : (f : Function) (call : Point) (b : Block) (destroys : List Point) → slice_get f.blocks call.block ≡ Some b → destroys ≡ destroys_of f (value_at f call) → list_any (is_ahead (length b.instrs) call) destroys ≡ true → IsTrue true ↔ IsDestroyed f call
ahead_is f call b destroys there are some = ((λ e. record { before = before }), (λ d. refl))
  where
    found : (q : Point) × (has_point destroys q ≡ true) × (is_ahead (length b.instrs) call q ≡ true)
    found = any_from (is_ahead (length b.instrs) call) destroys some

    rest : (nat_lt call.at found.0.at && nat_lt found.0.at (length b.instrs)) ≡ true
    rest = and_second (found.0.block == call.block) (nat_lt call.at found.0.at && nat_lt found.0.at (length b.instrs)) found.2

    same : found.0.block ≡ call.block
    same = eq_from found.0.block call.block (and_first (found.0.block == call.block) (nat_lt call.at found.0.at && nat_lt found.0.at (length b.instrs)) found.2)

    after : call.at < found.0.at
    after = ltb-true call.at found.0.at (and_first (nat_lt call.at found.0.at) (nat_lt found.0.at (length b.instrs)) rest)

    inside : found.0.at < length b.instrs
    inside = ltb-true found.0.at (length b.instrs) (and_second (nat_lt call.at found.0.at) (nat_lt found.0.at (length b.instrs)) rest)

    avoids : has_point (destroys_of f (value_at f call)) (record { block = call.block; at = found.0.at }) ≡ true
    avoids = sym (ap (λ (l : List Point). has_point l (record { block = call.block; at = found.0.at })) are) ∙ ap (λ n. has_point destroys (record { block = n; at = found.0.at })) (sym same) ∙ found.1

    before : (p : Point) → IsReached f (call ∷ []) (destroys_of f (value_at f call)) p → IsFalse (ends_use f call p)
    before p reached =
        let start : reached.start ≡ call = only call reached.start reached.is_start in
        let path : Leads f (destroys_of f (value_at f call)) call p = subst (λ (s : Point). Leads f (destroys_of f (value_at f call)) s p) start reached.path in
        ends_no_use f call call.block found.0.at b p there inside
        (walk f (destroys_of f (value_at f call)) call.block found.0.at b there inside avoids call path.between p refl after path.is_path)

pub passed_is : (f : Function) (call : Point) (destroys : List Point) (b : Bool) → destroys ≡ destroys_of f (value_at f call) → (IsTrue b → IsPassed f destroys call) → b ≡ true → IsTrue true ↔ IsDestroyed f call
passed_is f call destroys b are passed so = let is = passed so in ahead_is f call is.block destroys is.is_block are is.is_passed
