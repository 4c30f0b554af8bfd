-- The search finds just the points to which a path leads.
use Rattle.std.proofs.Common.{◌≡◌, ℕ, zero, suc, ◌+◌, ◌≤◌, ◌⊎◌, inl, inr, Bool, true, false, List, [], ◌∷◌, ◌++◌, length, Option, Some, None, refl, sym, ap, ◌∙◌, subst, arith, add-zero, length-append, ◌↔◌}
use Rattle.std.specs.Prelude.{◌&&◌, ◌||◌, ◌==◌, if◌then◌else◌, nat_lt, map, slice_get}
use Rattle.ir_model.specs.declared.module.Block.{Block}
use Rattle.ir_model.specs.declared.module.Function.{Function}
use Rattle.ir_paths.specs.declared.point.Point.{Point}
use Rattle.ir_paths.specs.Paths.{nexts, nexts_in, same_point, has_point, IsPath, Leads, block_points, points_of_blocks, edges_from, edge_count, targets, entry_point, opened, found_within, found_from, led_to}

-- ---- tests

pub eq_from : (a b : ℕ) → (a == b) ≡ true → a ≡ b
eq_from a b e = grind arith

pub eq_itself : (a : ℕ) → (a == a) ≡ true
eq_itself a = grind arith

pub both : (a b : Bool) → (a && b) ≡ true → (a ≡ true) × (b ≡ true)
both true true e = (refl, refl)
both true false e = absurd (cc)
both false b e = absurd (cc)

pub either : (a b : Bool) → (a || b) ≡ true → (a ≡ true) ⊎ (b ≡ true)
either true b e = inl refl
either false b e = inr e

pub or_left : (a b : Bool) → a ≡ true → (a || b) ≡ true
or_left true b e = refl
or_left false b e = absurd (cc)

pub or_right : (a b : Bool) → b ≡ true → (a || b) ≡ true
or_right true b e = refl
or_right false b e = e

pub same_point-same : (p q : Point) → same_point p q ≡ true → p ≡ q
same_point-same p q e =
    let h : (p.block == q.block) ≡ true = (both (p.block == q.block) (p.at == q.at) e).0 in
    let k : (p.at == q.at) ≡ true = (both (p.block == q.block) (p.at == q.at) e).1 in
    λ i. record { block = eq_from p.block q.block h i; at = eq_from p.at q.at k i }

pub same_point-itself : (p : Point) → same_point p p ≡ true
same_point-itself p = ap (λ (b : Bool). b && (p.at == p.at)) (eq_itself p.block) ∙ eq_itself p.at

-- ---- lists of points

abbrev pub Has : List Point → Point → Type 0
Has ps p = has_point ps p ≡ true

append-cases : (x : Point) (ps qs : List Point) (p : Point) → (Has (ps ++ qs) p → Has ps p ⊎ Has qs p) → (same_point p x ≡ true) ⊎ Has (ps ++ qs) p → Has (x ∷ ps) p ⊎ Has qs p
append-cases x ps qs p ih (inl e) = inl (or_left (same_point p x) (has_point ps p) e)
append-cases x ps qs p ih (inr k) = on (ih k)
  where
    on : Has ps p ⊎ Has qs p → Has (x ∷ ps) p ⊎ Has qs p
    on (inl m) = inl (or_right (same_point p x) (has_point ps p) m)
    on (inr m) = inr m

pub has_append : (ps qs : List Point) (p : Point) → Has (ps ++ qs) p → Has ps p ⊎ Has qs p
has_append [] qs p h = inr h
has_append (x ∷ ps) qs p h = append-cases x ps qs p (has_append ps qs p) (either (same_point p x) (has_point (ps ++ qs) p) h)

left-cases : (x : Point) (ps qs : List Point) (p : Point) → (Has ps p → Has (ps ++ qs) p) → (same_point p x ≡ true) ⊎ Has ps p → Has ((x ∷ ps) ++ qs) p
left-cases x ps qs p ih (inl e) = or_left (same_point p x) (has_point (ps ++ qs) p) e
left-cases x ps qs p ih (inr k) = or_right (same_point p x) (has_point (ps ++ qs) p) (ih k)

pub has_left : (ps qs : List Point) (p : Point) → Has ps p → Has (ps ++ qs) p
has_left [] qs p h = absurd (cc)
has_left (x ∷ ps) qs p h = left-cases x ps qs p (has_left ps qs p) (either (same_point p x) (has_point ps p) h)

pub has_right : (ps qs : List Point) (p : Point) → Has qs p → Has (ps ++ qs) p
has_right [] qs p h = h
has_right (x ∷ ps) qs p h = or_right (same_point p x) (has_point (ps ++ qs) p) (has_right ps qs p h)

-- ---- what the search finds is led to

-- a path with one edge more
pub path-more : (f : Function) (a : List Point) (p : Point) (between : List Point) (v w : Point) → IsPath f a p between v → has_point a v ≡ false → Has (nexts f v) w → IsPath f a p (between ++ v ∷ []) w
path-more f a p [] v w h o k = (h, o, k)
path-more f a p (u ∷ between) v w h o k = (h.0, h.1, path-more f a u between v w h.2 o k)

pub leads-more : (f : Function) (a : List Point) (p v w : Point) → Leads f a p v → has_point a v ≡ false → Has (nexts f v) w → Leads f a p w
leads-more f a p v w l o k = record { between = l.between ++ v ∷ []; is_path = path-more f a p l.between v w l.is_path o k }

-- what is opened at a point stands behind it, and the point is not avoided
pub opened-cases : (f : Function) (a seen : List Point) (p w : Point) → Has (opened f a seen p) w → (has_point seen p ≡ false) × (has_point a p ≡ false) × Has (nexts f p) w
opened-cases f a seen p w h = on (has_point seen p) refl (has_point a p) refl h
  where
    on : (s : Bool) → has_point seen p ≡ s → (t : Bool) → has_point a p ≡ t → Has (if s || t then [] else nexts f p) w → (has_point seen p ≡ false) × (has_point a p ≡ false) × Has (nexts f p) w
    on true es t et k = absurd (cc)
    on false es true et k = absurd (cc)
    on false es false et k = (es, et, k)

module _ (f : Function) (a : List Point) (P : Point → Type 0) (more : (v w : Point) → P v → has_point a v ≡ false → Has (nexts f v) w → P w) where
  -- a fact that goes along each edge from a point that isn't avoided holds of all that is found
  pub found-kept : (n : ℕ) (todo seen : List Point) → ((q : Point) → Has todo q → P q) → ((q : Point) → Has seen q → P q) → (q : Point) → Has (found_within n f a todo seen) q → P q
  found-kept zero todo seen ht hs q h = hs q h
  found-kept (suc n) [] seen ht hs q h = hs q h
  found-kept (suc n) (p ∷ todo) seen ht hs q h =
      found-kept n (opened f a seen p ++ todo) (if has_point seen p then seen else p ∷ seen) todo-kept (seen-kept (has_point seen p)) q h
    where
      todo-kept : (q : Point) → Has (opened f a seen p ++ todo) q → P q
      todo-kept q k = on (has_append (opened f a seen p) todo q k)
        where
          on : Has (opened f a seen p) q ⊎ Has todo q → P q
          on (inl m) = let c = opened-cases f a seen p q m in more p q (ht p (or_left (same_point p p) (has_point todo p) (same_point-itself p))) c.1 c.2
          on (inr m) = ht q (or_right (same_point q p) (has_point todo q) m)

      seen-kept : (b : Bool) (q : Point) → Has (if b then seen else p ∷ seen) q → P q
      seen-kept true q k = hs q k
      seen-kept false q k = on (either (same_point q p) (has_point seen q) k)
        where
          on : (same_point q p ≡ true) ⊎ Has seen q → P q
          on (inl e) = ht q (or_left (same_point q p) (has_point todo q) e)
          on (inr m) = hs q m

pub led_to-sound : (f : Function) (a : List Point) (p q : Point) → Has (led_to f a p) q → Leads f a p q
led_to-sound f a p q h =
    found-kept f a (Leads f a p) (leads-more f a p) (length (nexts f p) + edge_count f) (nexts f p) []
    (λ v k. record { between = []; is_path = k }) (λ v k. absurd (cc)) q h

-- ---- all that is led to is found

-- the edges that the search may still look at: those of the points that it hasn't come to
weight : (Point → ℕ) → List Point → List Point → ℕ
weight c seen [] = 0
weight c seen (x ∷ xs) = (if has_point seen x then 0 else c x) + weight c seen xs

cond-le : (b d : Bool) (n : ℕ) → (b ≡ true → d ≡ true) → (if d then 0 else n) ≤ (if b then 0 else n)
cond-le true true n h = omega arith
cond-le true false n h = absurd (let e : false ≡ true = h refl in cc)
cond-le false true n h = omega arith
cond-le false false n h = omega arith

-- one point more
weight-more : (c : Point → ℕ) (seen : List Point) (p : Point) (xs : List Point) → weight c (p ∷ seen) xs ≤ weight c seen xs
unfolding weight
weight-more c seen p [] = omega arith
weight-more c seen p (x ∷ xs) =
    omega (arith, weight-more c seen p xs, cond-le (has_point seen x) (has_point (p ∷ seen) x) (c x) (or_right (same_point x p) (has_point seen x)))

-- the weight falls by that of a point that is new
weight-falls : (c : Point → ℕ) (seen : List Point) (p : Point) (xs : List Point) → Has xs p → has_point seen p ≡ false → c p + weight c (p ∷ seen) xs ≤ weight c seen xs
unfolding weight
weight-falls c seen p [] h e = absurd (cc)
weight-falls c seen p (x ∷ xs) h e = on (same_point p x) refl h (weight-falls c seen p xs)
  where
    on : (b : Bool) → same_point p x ≡ b → (b || has_point xs p) ≡ true → (Has xs p → has_point seen p ≡ false → c p + weight c (p ∷ seen) xs ≤ weight c seen xs) → c p + ((if has_point (p ∷ seen) x then 0 else c x) + weight c (p ∷ seen) xs) ≤ (if has_point seen x then 0 else c x) + weight c seen xs
    on true eb k ih =
        let P : Point → Type 0 = λ y. c p + ((if has_point (p ∷ seen) y then 0 else c y) + weight c (p ∷ seen) xs) ≤ (if has_point seen y then 0 else c y) + weight c seen xs in
        subst P (same_point-same p x eb)
        (rw (ap (λ (b : Bool). if b || has_point seen p then 0 else c p) (same_point-itself p), ap (λ (b : Bool). if b then 0 else c p) e)
        (omega (arith, weight-more c seen p xs)))
    on false eb k ih =
        omega (arith, ih k e, cond-le (has_point seen x) (has_point (p ∷ seen) x) (c x) (or_right (same_point x p) (has_point seen x)))

weight-start : (f : Function) (xs : List Point) → weight (λ p. length (nexts f p)) [] xs ≡ edges_from f xs
unfolding weight
weight-start f [] = refl
weight-start f (x ∷ xs) = ap (λ n. length (nexts f x) + n) (weight-start f xs)

-- ---- each point with an edge is among the function's

le-or-not : (n at : ℕ) → at ≤ suc n → (at ≡ suc n) ⊎ (at ≤ n)
le-or-not n at h = grind arith

block_points-has : (k n at : ℕ) → at ≤ n → Has (block_points k n) (record { block = k; at = at })
block_points-has k zero at h =
    let e : at ≡ 0 = omega arith in
    or_left (same_point (record { block = k; at = at }) (record { block = k; at = 0 })) false
    (subst (λ (m : ℕ). same_point (record { block = k; at = at }) (record { block = k; at = m }) ≡ true) e (same_point-itself (record { block = k; at = at })))
block_points-has k (suc n) at h = on (le-or-not n at h) (block_points-has k n at)
  where
    on : (at ≡ suc n) ⊎ (at ≤ n) → (at ≤ n → Has (block_points k n) (record { block = k; at = at })) → Has (block_points k (suc n)) (record { block = k; at = at })
    on (inl e) ih =
        or_left (same_point (record { block = k; at = at }) (record { block = k; at = suc n })) (has_point (block_points k n) (record { block = k; at = at }))
        (subst (λ (m : ℕ). same_point (record { block = k; at = at }) (record { block = k; at = m }) ≡ true) e (same_point-itself (record { block = k; at = at })))
    on (inr l) ih = or_right (same_point (record { block = k; at = at }) (record { block = k; at = suc n })) (has_point (block_points k n) (record { block = k; at = at })) (ih l)

-- a block's points are among those of its list
points-have : (k : ℕ) (bs : List Block) (i : ℕ) (b : Block) (at : ℕ) → slice_get bs i ≡ Some b → at ≤ length b.instrs → Has (points_of_blocks k bs) (record { block = k + i; at = at })
points-have k [] i b at e h = absurd (cc)
points-have k (x ∷ bs) zero b at e h =
    let same : x ≡ b = cc in
    has_left (block_points k (length x.instrs)) (points_of_blocks (suc k) bs) (record { block = k + 0; at = at })
    (rw add-zero (block_points-has k (length x.instrs) at (subst (λ (y : Block). at ≤ length y.instrs) (sym same) h)))
points-have k (x ∷ bs) (suc i) b at e h =
    has_right (block_points k (length x.instrs)) (points_of_blocks (suc k) bs) (record { block = k + suc i; at = at })
    (let s : k + suc i ≡ suc k + i = omega arith in rw s (points-have (suc k) bs i b at e h))

-- a point has no edge, or is among the function's
point-known : (f : Function) (p : Point) → (nexts f p ≡ []) ⊎ Has (points_of_blocks 0 f.blocks) p
point-known f p = on (slice_get f.blocks p.block) refl
  where
    on : (o : Option Block) → slice_get f.blocks p.block ≡ o → (nexts_in f p o ≡ []) ⊎ Has (points_of_blocks 0 f.blocks) p
    on None e = inl refl
    on (Some b) e = at-cases (nat_lt p.at (length b.instrs)) refl (p.at == length b.instrs) refl
      where
        known : p.at ≤ length b.instrs → Has (points_of_blocks 0 f.blocks) p
        known h = let z : 0 + p.block ≡ p.block = omega arith in rw z at (points-have 0 f.blocks p.block b p.at e h)

        at-cases : (c : Bool) → nat_lt p.at (length b.instrs) ≡ c → (d : Bool) → (p.at == length b.instrs) ≡ d → ((if c then record { block = p.block; at = p.at + 1 } ∷ [] else if d then map (entry_point f) (targets b.term) else []) ≡ []) ⊎ Has (points_of_blocks 0 f.blocks) p
        at-cases true ec d ed = inr (known (grind arith))
        at-cases false ec true ed = inr (known (grind arith))
        at-cases false ec false ed = inl refl

-- ---- the search is complete

-- what the search hasn't looked at yet takes at most so many turns
turns_left : Function → List Point → List Point → ℕ
turns_left f todo seen = length todo + weight (λ p. length (nexts f p)) seen (points_of_blocks 0 f.blocks)

-- the edges out of what was come to lead to what was come to or is to be looked at
Closed : Function → List Point → List Point → List Point → Type 0
Closed f a todo seen = (v : Point) → Has seen v → has_point a v ≡ false → (w : Point) → Has (nexts f v) w → Has seen w ⊎ Has todo w

-- what the search has found in the end
pub record Found (f : Function) (a todo seen all : List Point) : Type 0 where
  pub of_seen : (w : Point) → Has seen w → Has all w
  pub of_todo : (w : Point) → Has todo w → Has all w
  pub is_closed : (v : Point) → Has all v → has_point a v ≡ false → (w : Point) → Has (nexts f v) w → Has all w

nothing-left : (f : Function) (a seen : List Point) → Closed f a [] seen → Found f a [] seen seen
unfolding Closed
nothing-left f a seen c =
    record {
      of_seen = λ w h. h;
      of_todo = λ w h. absurd (let e : false ≡ true = h in cc);
      is_closed = λ v h o w k. on w (c v h o w k);
    }
  where
    on : (w : Point) → Has seen w ⊎ Has [] w → Has seen w
    on w (inl h) = h
    on w (inr h) = absurd (let e : false ≡ true = h in cc)

same-has : (ps : List Point) (v w : Point) → same_point w v ≡ true → Has ps v → Has ps w
same-has ps v w e h = subst (λ (y : Point). Has ps y) (sym (same_point-same w v e)) h

empty-or : (f : Function) (todo : List Point) (seen : List Point) → turns_left f todo seen ≤ 0 → todo ≡ []
unfolding turns_left
empty-or f [] seen h = refl
empty-or f (p ∷ todo) seen h = absurd (omega arith)

module _ (f : Function) (a : List Point) (n : ℕ) (ih : (todo seen : List Point) → turns_left f todo seen ≤ n → Closed f a todo seen → Found f a todo seen (found_within n f a todo seen)) where
  -- a point that the search came to before
  turn-again : (p : Point) (todo seen : List Point) → Has seen p → turns_left f (p ∷ todo) seen ≤ suc n → Closed f a (p ∷ todo) seen → Found f a (p ∷ todo) seen (found_within n f a todo seen)
  unfolding turns_left Closed
  turn-again p todo seen has h c =
      let found = ih todo seen (omega arith) (λ v hv o w k. on v w (c v hv o w k)) in
      record {
        of_seen = found.of_seen;
        of_todo = λ w k. in-all w _ found.of_seen found.of_todo (either (same_point w p) (has_point todo w) k);
        is_closed = found.is_closed;
      }
    where
      on : (v w : Point) → Has seen w ⊎ Has (p ∷ todo) w → Has seen w ⊎ Has todo w
      on v w (inl m) = inl m
      on v w (inr m) = cases (either (same_point w p) (has_point todo w) m)
        where
          cases : (same_point w p ≡ true) ⊎ Has todo w → Has seen w ⊎ Has todo w
          cases (inl e) = inl (same-has seen p w e has)
          cases (inr k) = inr k

      in-all : (w : Point) (all : List Point) → ((w : Point) → Has seen w → Has all w) → ((w : Point) → Has todo w → Has all w) → (same_point w p ≡ true) ⊎ Has todo w → Has all w
      in-all w all of_seen of_todo (inl e) = of_seen w (same-has seen p w e has)
      in-all w all of_seen of_todo (inr k) = of_todo w k

  -- a point that is new, behind which the search goes on at more
  turn-new : (p : Point) (more todo seen : List Point) → (has_point a p ≡ false → (w : Point) → Has (nexts f p) w → Has more w) → length more + weight (λ q. length (nexts f q)) (p ∷ seen) (points_of_blocks 0 f.blocks) ≤ weight (λ q. length (nexts f q)) seen (points_of_blocks 0 f.blocks) → turns_left f (p ∷ todo) seen ≤ suc n → Closed f a (p ∷ todo) seen → Found f a (p ∷ todo) seen (found_within n f a (more ++ todo) (p ∷ seen))
  unfolding turns_left Closed
  turn-new p more todo seen opens lighter h c =
      let found = ih (more ++ todo) (p ∷ seen) (omega (arith, length-append more todo)) closed in
      record {
        of_seen = λ w k. found.of_seen w (or_right (same_point w p) (has_point seen w) k);
        of_todo = λ w k. in-all w _ found.of_seen found.of_todo (either (same_point w p) (has_point todo w) k);
        is_closed = found.is_closed;
      }
    where
      old : (w : Point) → Has seen w ⊎ Has (p ∷ todo) w → Has (p ∷ seen) w ⊎ Has (more ++ todo) w
      old w (inl m) = inl (or_right (same_point w p) (has_point seen w) m)
      old w (inr m) = cases (either (same_point w p) (has_point todo w) m)
        where
          cases : (same_point w p ≡ true) ⊎ Has todo w → Has (p ∷ seen) w ⊎ Has (more ++ todo) w
          cases (inl e) = inl (or_left (same_point w p) (has_point seen w) e)
          cases (inr k) = inr (has_right more todo w k)

      closed : (v : Point) → Has (p ∷ seen) v → has_point a v ≡ false → (w : Point) → Has (nexts f v) w → Has (p ∷ seen) w ⊎ Has (more ++ todo) w
      closed v hv o w k = cases (either (same_point v p) (has_point seen v) hv)
        where
          cases : (same_point v p ≡ true) ⊎ Has seen v → Has (p ∷ seen) w ⊎ Has (more ++ todo) w
          cases (inl e) =
              let same : v ≡ p = same_point-same v p e in
              inr (has_left more todo w (opens (subst (λ (y : Point). has_point a y ≡ false) same o) w (subst (λ (y : Point). Has (nexts f y) w) same k)))
          cases (inr m) = old w (c v m o w k)

      in-all : (w : Point) (all : List Point) → ((w : Point) → Has (p ∷ seen) w → Has all w) → ((w : Point) → Has (more ++ todo) w → Has all w) → (same_point w p ≡ true) ⊎ Has todo w → Has all w
      in-all w all of_seen of_todo (inl e) = of_seen w (or_left (same_point w p) (has_point seen w) e)
      in-all w all of_seen of_todo (inr k) = of_todo w (has_right more todo w k)

  turn : (p : Point) (todo seen : List Point) → turns_left f (p ∷ todo) seen ≤ suc n → Closed f a (p ∷ todo) seen → Found f a (p ∷ todo) seen (found_within (suc n) f a (p ∷ todo) seen)
  turn p todo seen h c = on (has_point seen p) refl (has_point a p) refl
    where
      lighter : has_point seen p ≡ false → (nexts f p ≡ []) ⊎ Has (points_of_blocks 0 f.blocks) p → length (nexts f p) + weight (λ q. length (nexts f q)) (p ∷ seen) (points_of_blocks 0 f.blocks) ≤ weight (λ q. length (nexts f q)) seen (points_of_blocks 0 f.blocks)
      lighter e (inl none) = rw none (omega (arith, weight-more (λ q. length (nexts f q)) seen p (points_of_blocks 0 f.blocks)))
      lighter e (inr k) = weight-falls (λ q. length (nexts f q)) seen p (points_of_blocks 0 f.blocks) k e

      on : (b : Bool) → has_point seen p ≡ b → (d : Bool) → has_point a p ≡ d → Found f a (p ∷ todo) seen (found_within n f a ((if b || d then [] else nexts f p) ++ todo) (if b then seen else p ∷ seen))
      on true eb d ed = turn-again p todo seen eb h c
      on false eb true ed = turn-new p [] todo seen (λ o w k. absurd (cc)) (omega (arith, weight-more (λ q. length (nexts f q)) seen p (points_of_blocks 0 f.blocks))) h c
      on false eb false ed = turn-new p (nexts f p) todo seen (λ o w k. k) (lighter eb (point-known f p)) h c

found-all : (f : Function) (a : List Point) (n : ℕ) (todo seen : List Point) → turns_left f todo seen ≤ n → Closed f a todo seen → Found f a todo seen (found_within n f a todo seen)
found-all f a zero todo seen h c =
    let e : todo ≡ [] = empty-or f todo seen h in
    subst (λ (t : List Point). Found f a t seen seen) (sym e) (nothing-left f a seen (subst (λ (t : List Point). Closed f a t seen) e c))
found-all f a (suc n) [] seen h c = nothing-left f a seen c
found-all f a (suc n) (p ∷ todo) seen h c = turn f a n (found-all f a n) p todo seen h c

-- of all that is found from some points on, the edges lead to what is found
pub found_from-all : (f : Function) (a todo : List Point) → Found f a todo [] (found_from f a todo)
unfolding turns_left Closed
found_from-all f a todo =
    found-all f a (length todo + edge_count f) todo []
    (let e = weight-start f (points_of_blocks 0 f.blocks) in omega (arith, e))
    (λ v h o w k. absurd (let e : false ≡ true = h in cc))

-- along a path all is found
pub path-found : (f : Function) (a all : List Point) → ((v : Point) → Has all v → has_point a v ≡ false → (w : Point) → Has (nexts f v) w → Has all w) → (v : Point) → ((w : Point) → Has (nexts f v) w → Has all w) → (between : List Point) (q : Point) → IsPath f a v between q → Has all q
path-found f a all closed v first [] q h = first q h
path-found f a all closed v first (u ∷ between) q h = path-found f a all closed u (closed u (first u h.0) h.1) between q h.2

pub led_to-complete : (f : Function) (a : List Point) (p q : Point) → Leads f a p q → Has (led_to f a p) q
led_to-complete f a p q l =
    let found = found_from-all f a (nexts f p) in
    path-found f a (led_to f a p) found.is_closed p found.of_todo l.between q l.is_path

-- the search finds just the points to which a path leads
pub led_to-is : (f : Function) (a : List Point) (p q : Point) → Has (led_to f a p) q ↔ Leads f a p q
led_to-is f a p q = (led_to-sound f a p q, led_to-complete f a p q)
