-- The points found are those behind suspends.
use Rattle.std.proofs.Common.{◌≡◌, ℕ, zero, suc, ◌+◌, Bool, true, false, ◌&&◌, List, [], ◌∷◌, ◌++◌, refl, ap, sym, ◌∙◌, subst, ⊎_elim, inl, inr, arith}
use Rattle.std.specs.Prelude.{flat_map, not, if◌then◌else◌}
use Rattle.std.proofs.lemmas.Bool.{false≢true}
use Rattle.ir_model.specs.declared.module.Function.{Function}
use Rattle.flow_points.proofs.ir_paths.Search.{Has, both, either, has_append, has_left, has_right, or_left, or_right, same_point-itself, same_point-same}
use Rattle.flow_points.specs.ir_paths.Paths.{has_point, same_point}
use Rattle.flow_points.specs.ir_paths.Slots.{IsBehindSuspend, behind_suspends, end_points}
use Rattle.flow_points.specs.ir_paths.declared.point.Point.{Point}
use Rattle.flow_points.proofs.Tests.{point-is}
use Rattle.flow_points.specs.Reached.{AreReached, IsReached}
use Rattle.flow_facts.proofs.Entered.{behind-first, mark_at}
use Rattle.flow_facts.specs.Slots.{AreBehind, AreEntered, AreFirst, outside_if, firsts_from}

not-false : (b : Bool) → not b ≡ true → b ≡ false
not-false true e = absurd (false≢true e)
not-false false e = refl

-- a point that a test lets through
if-sound : (f : Function) (b : Bool) (p q : Point) → Has (outside_if f b p) q → (q ≡ p) × (b ≡ true) × (has_point (end_points f) p ≡ false)
if-sound f b p q h = on (b && not (has_point (end_points f) p)) refl h
  where
    on : (c : Bool) → (b && not (has_point (end_points f) p)) ≡ c → Has (if c then p ∷ [] else []) q → (q ≡ p) × (b ≡ true) × (has_point (end_points f) p ≡ false)
    on true e k =
        let t = both b (not (has_point (end_points f) p)) e in
        (⊎_elim (λ s. same_point-same q p s) (λ none. absurd (false≢true none)) (either (same_point q p) false k), t.0, not-false (has_point (end_points f) p) t.1)
    on false e k = absurd (false≢true k)

if-complete : (f : Function) (b : Bool) (p : Point) → b ≡ true → has_point (end_points f) p ≡ false → Has (outside_if f b p) p
if-complete f b p t e =
    subst (λ (c : Bool). Has (if c && not (has_point (end_points f) p) then p ∷ [] else []) p) (sym t)
    (subst (λ (c : Bool). Has (if true && not c then p ∷ [] else []) p) (sym e) (or_left (same_point p p) false (same_point-itself p)))

-- ---- the first points

record IsFirst (f : Function) (n : ℕ) (marks : List Bool) (p : Point) : Type 0 where
  pub place : ℕ
  pub at : p.at ≡ 0
  pub block : p.block ≡ n + place
  pub is_marked : mark_at marks place ≡ true
  pub is_outside : has_point (end_points f) p ≡ false

firsts-sound : (f : Function) (n : ℕ) (marks : List Bool) (p : Point) → Has (firsts_from f n marks) p → IsFirst f n marks p
firsts-sound f n [] p h = absurd (false≢true h)
firsts-sound f n (b ∷ bs) p h = ⊎_elim
    (λ here. let k = if-sound f b (record { block = n; at = 0 }) p here in
    record {
      place = 0;
      at = ap (λ (q : Point). q.at) k.0;
      block = let z : n ≡ n + 0 = omega arith in ap (λ (q : Point). q.block) k.0 ∙ z;
      is_marked = k.1;
      is_outside = subst (λ (q : Point). has_point (end_points f) q ≡ false) (sym k.0) k.2;
    })
    (λ later. let k = firsts-sound f (suc n) bs p later in
    record {
      place = suc k.place;
      at = k.at;
      block = let e = k.block in omega (arith, e);
      is_marked = k.is_marked;
      is_outside = k.is_outside;
    })
    (has_append (outside_if f b (record { block = n; at = 0 })) (firsts_from f (suc n) bs) p h)

firsts-complete : (f : Function) (n : ℕ) (marks : List Bool) (k : ℕ) → mark_at marks k ≡ true → has_point (end_points f) (record { block = n + k; at = 0 }) ≡ false → Has (firsts_from f n marks) (record { block = n + k; at = 0 })
firsts-complete f n [] k m e = absurd (false≢true m)
firsts-complete f n (b ∷ bs) zero m e =
    let z : n + 0 ≡ n = omega arith in
    subst (λ y. Has (firsts_from f n (b ∷ bs)) (record { block = y; at = 0 })) (sym z)
    (has_left (outside_if f b (record { block = n; at = 0 })) (firsts_from f (suc n) bs) (record { block = n; at = 0 })
    (if-complete f b (record { block = n; at = 0 }) m (subst (λ y. has_point (end_points f) (record { block = y; at = 0 }) ≡ false) z e)))
firsts-complete f n (b ∷ bs) (suc k) m e =
    let s : n + suc k ≡ suc n + k = omega arith in
    subst (λ y. Has (firsts_from f n (b ∷ bs)) (record { block = y; at = 0 })) (sym s)
    (has_right (outside_if f b (record { block = n; at = 0 })) (firsts_from f (suc n) bs) (record { block = suc n + k; at = 0 })
    (firsts-complete f (suc n) bs k m (subst (λ y. has_point (end_points f) (record { block = y; at = 0 }) ≡ false) s e)))

pub are-first : (f : Function) (marks : List Bool) → AreEntered f marks → AreFirst f (firsts_from f 0 marks)
are-first f marks entered = record { each = λ p. (sound p, complete p) }
  where
    sound : (p : Point) → Has (firsts_from f 0 marks) p → Has (behind_suspends f) p × (has_point (end_points f) p ≡ false)
    sound p h =
        let k = firsts-sound f 0 marks p h in
        let z : 0 + k.place ≡ k.place = omega arith in
        let is : record { block = k.place; at = 0 } ≡ p = point-is (record { block = k.place; at = 0 }) p (sym (k.block ∙ z)) (sym k.at) in
        (subst (λ (q : Point). Has (behind_suspends f) q) is (sym (entered.each k.place) ∙ k.is_marked), k.is_outside)

    complete : (p : Point) → Has (behind_suspends f) p × (has_point (end_points f) p ≡ false) → Has (firsts_from f 0 marks) p
    complete p h =
        let z : 0 + p.block ≡ p.block = omega arith in
        let is : p ≡ record { block = 0 + p.block; at = 0 } = point-is p (record { block = 0 + p.block; at = 0 }) (sym z) (behind-first f p h.0) in
        let here : p ≡ record { block = p.block; at = 0 } = point-is p (record { block = p.block; at = 0 }) refl (behind-first f p h.0) in
        subst (λ (q : Point). Has (firsts_from f 0 marks) q) (sym is)
        (firsts-complete f 0 marks p.block (entered.each p.block ∙ subst (λ (q : Point). Has (behind_suspends f) q) here h.0)
        (subst (λ (q : Point). has_point (end_points f) q ≡ false) is h.1))

-- ---- all points

outside-sound : (f : Function) (ps : List Point) (q : Point) → Has (flat_map (outside_if f true) ps) q → Has ps q × (has_point (end_points f) q ≡ false)
outside-sound f [] q h = absurd (false≢true h)
outside-sound f (p ∷ ps) q h = ⊎_elim
    (λ here. let k = if-sound f true p q here in
    (or_left (same_point q p) (has_point ps q) (subst (λ (y : Point). same_point q y ≡ true) k.0 (same_point-itself q)), subst (λ (y : Point). has_point (end_points f) y ≡ false) (sym k.0) k.2))
    (λ later. let k = outside-sound f ps q later in (or_right (same_point q p) (has_point ps q) k.0, k.1))
    (has_append (outside_if f true p) (flat_map (outside_if f true) ps) q h)

outside-complete : (f : Function) (ps : List Point) (q : Point) → Has ps q → has_point (end_points f) q ≡ false → Has (flat_map (outside_if f true) ps) q
outside-complete f [] q h e = absurd (false≢true h)
outside-complete f (p ∷ ps) q h e = ⊎_elim
    (λ here. has_left (outside_if f true p) (flat_map (outside_if f true) ps) q
    (subst (λ (y : Point). Has (outside_if f true y) q) (same_point-same q p here) (if-complete f true q refl e)))
    (λ later. has_right (outside_if f true p) (flat_map (outside_if f true) ps) q (outside-complete f ps q later e))
    (either (same_point q p) (has_point ps q) h)

pub are-behind : (f : Function) (firsts reached all : List Point) → AreFirst f firsts → AreReached f firsts (end_points f) reached → all ≡ firsts ++ flat_map (outside_if f true) reached → AreBehind f all
are-behind f firsts reached all first found is = record { each = λ p. (λ h. sound p (subst (λ (l : List Point). Has l p) is h), λ h. subst (λ (l : List Point). Has l p) (sym is) (complete p h)) }
  where
    sound : (p : Point) → Has (firsts ++ flat_map (outside_if f true) reached) p → IsBehindSuspend f p
    sound p h = ⊎_elim
        (λ here. let k = (first.each p).0 here in record { first = p; is_first = k.0; path = inl refl; is_not_in_end = k.1 })
        (λ later.
        let k = outside-sound f reached p later in
        let r : IsReached f firsts (end_points f) p = (found.each p).0 k.0 in
        let s = (first.each r.start).0 r.is_start in
        record { first = r.start; is_first = s.0; path = inr (s.1, r.path); is_not_in_end = k.1 })
        (has_append firsts (flat_map (outside_if f true) reached) p h)

    complete : (p : Point) → IsBehindSuspend f p → Has (firsts ++ flat_map (outside_if f true) reached) p
    complete p b = ⊎_elim
        (λ e. has_left firsts (flat_map (outside_if f true) reached) p ((first.each p).1 (subst (λ (q : Point). Has (behind_suspends f) q) e b.is_first, b.is_not_in_end)))
        (λ l. has_right firsts (flat_map (outside_if f true) reached) p
        (outside-complete f reached p ((found.each p).1 (record { start = b.first; is_start = (first.each b.first).1 (b.is_first, l.0); path = l.1 })) b.is_not_in_end))
        b.path
