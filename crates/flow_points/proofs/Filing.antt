-- Ends of blocks filed with the blocks to which they lead.
use Rattle.std.proofs.Common.{◌≡◌, ℕ, zero, suc, ◌+◌, ◌<◌, ◌≤◌, Bool, true, false, ◌&&◌, ◌||◌, List, [], ◌∷◌, ◌++◌, length, take, get_or, replicate, refl, ap, sym, subst, ◌∙◌, arith, Some, ⊎_elim, length-append}
use Rattle.std.specs.Prelude.{nat_lt, slice_get, slice_set}
use Rattle.std.proofs.lemmas.Bool.{and_from, and_parts, cases_eq, false≢true, le-ltb, lt-ltb, ltb-true, or_cases, cases_lt}
use Rattle.std.proofs.lemmas.List.{get_or_default, length-replicate, length-set}
use Rattle.std.proofs.lemmas.Option.{slice_get_within, unwrap_or-slice_get}
use Rattle.ir_paths.specs.ir_model.declared.module.Block.{Block}
use Rattle.ir_paths.specs.ir_model.declared.module.Function.{Function}
use Rattle.ir_paths.specs.Paths.{has_point, nexts, same_point, targets}
use Rattle.ir_paths.specs.declared.point.Point.{Point}
use Rattle.ir_paths.proofs.Search.{same_point-same}
use Rattle.flow_points.specs.Edges.{AreEntries, AreFiled, AreIncoming, first_of, outgoing_of}
use Rattle.flow_points.specs.Rows.{row_at}
use Rattle.flow_points.proofs.Neighbours.{IsBranch, IsInner, edge-cases, entry-place, next-term, row-outgoing, some-same}
use Rattle.flow_points.proofs.Tests.{has_point-at, has_point-more, has_point-push, or-false, place_other, place_set, same_point-from, same_test, take-all}

-- ---- one block

pub filed-none : (end : Point) (rows : List (List Point)) → AreFiled [] end rows rows
filed-none end rows = record { count = refl; each = λ k q. sym (or-false (has_point (row_at rows k) q)) }

now_too : (a h s t : Bool) → t ≡ true → ((a || (h && s)) || s) ≡ (a || ((h || t) && s))
now_too true h s t e = refl
now_too false true true true e = refl
now_too false true false true e = refl
now_too false false s true e = refl
now_too false h s false e = absurd (false≢true e)

as_before : (a h s t : Bool) → t ≡ false → (a || (h && s)) ≡ (a || ((h || t) && s))
as_before true h s t e = refl
as_before false true s false e = refl
as_before false false s false e = refl
as_before false h s true e = absurd (false≢true (sym e))

not-same : (p q : Point) → (p.block ≡ q.block → ⊥) → same_point p q ≡ false
not-same p q ne = on (same_point p q) refl
  where
    on : (b : Bool) → same_point p q ≡ b → same_point p q ≡ false
    on true e = absurd (ne (ap (λ (y : Point). y.block) (same_point-same p q e)))
    on false e = e

pub filed-more : (points : List Point) (i : ℕ) (pt end : Point) (first old new : List (List Point)) → i < length points → pt ≡ get_or points i pt → AreEntries (length first) points → new ≡ slice_set old pt.block (row_at old pt.block ++ end ∷ []) → AreFiled (take i points) end first old → AreFiled (take (i + 1) points) end first new
filed-more points i pt end first old new lt e are is filed = subst (AreFiled (take (i + 1) points) end first) (sym is) (record { count = length-set old pt.block (row_at old pt.block ++ end ∷ []) ∙ filed.count; each = each })
  where
    among : has_point points pt ≡ true
    among = has_point-at points i pt lt e

    within : pt.block < length old
    within = let a = are.block pt among in let b = filed.count in omega (arith, a, b)

    row : List Point
    row = row_at old pt.block ++ end ∷ []

    more : (k : ℕ) → has_point (take (i + 1) points) (first_of k) ≡ (has_point (take i points) (first_of k) || same_point (first_of k) pt)
    more k = has_point-more points i pt (first_of k) lt e

    here : (k : ℕ) (q : Point) → k ≡ pt.block → has_point (row_at (slice_set old pt.block (row_at old pt.block ++ end ∷ [])) k) q ≡ (has_point (row_at first k) q || (has_point (take (i + 1) points) (first_of k) && same_point q end))
    here k q s =
        ap (λ (j : ℕ). has_point (row_at (slice_set old pt.block (row_at old pt.block ++ end ∷ [])) j) q) s
        ∙ ap (λ (r : List Point). has_point r q) (place_set old pt.block (row_at old pt.block ++ end ∷ []) [] within)
        ∙ has_point-push (row_at old pt.block) end q
        ∙ ap (λ (j : ℕ). has_point (row_at old j) q || same_point q end) (sym s)
        ∙ ap (λ b. b || same_point q end) (filed.each k q)
        ∙ now_too (has_point (row_at first k) q) (has_point (take i points) (first_of k)) (same_point q end) (same_point (first_of k) pt) (same_point-from (first_of k) pt s (sym (are.at pt among)))
        ∙ ap (λ b. has_point (row_at first k) q || (b && same_point q end)) (sym (more k))

    there : (k : ℕ) (q : Point) → (k ≡ pt.block → ⊥) → has_point (row_at (slice_set old pt.block (row_at old pt.block ++ end ∷ [])) k) q ≡ (has_point (row_at first k) q || (has_point (take (i + 1) points) (first_of k) && same_point q end))
    there k q ne =
        ap (λ (r : List Point). has_point r q) (place_other old pt.block k (row_at old pt.block ++ end ∷ []) [] ne)
        ∙ filed.each k q
        ∙ as_before (has_point (row_at first k) q) (has_point (take i points) (first_of k)) (same_point q end) (same_point (first_of k) pt) (not-same (first_of k) pt ne)
        ∙ ap (λ b. has_point (row_at first k) q || (b && same_point q end)) (sym (more k))

    each : (k : ℕ) (q : Point) → has_point (row_at (slice_set old pt.block (row_at old pt.block ++ end ∷ [])) k) q ≡ (has_point (row_at first k) q || (has_point (take (i + 1) points) (first_of k) && same_point q end))
    each k q = ⊎_elim (here k q) (there k q) (cases_eq k pt.block)

pub filed-all : (points : List Point) (i : ℕ) (end : Point) (old new : List (List Point)) → length points ≤ i → AreFiled (take i points) end old new → AreFiled points end old new
filed-all points i end old new le f = subst (λ (l : List Point). AreFiled l end old new) (take-all points i le) f

-- ---- one block after another

-- the ends of the first blocks are filed
pub record IsFiledTo (f : Function) (i : ℕ) (rows : List (List Point)) : Type 0 where
  pub count : length rows ≡ length f.blocks + 1
  pub each : (k : ℕ) (q : Point) → has_point (row_at rows k) q ≡ (nat_lt q.block i && has_point (nexts f q) (first_of k))

row-empty : (n k : ℕ) → row_at {A = Point} (replicate n [] ++ [] ∷ []) k ≡ []
row-empty zero zero = refl
row-empty zero (suc k) = refl
row-empty (suc n) zero = refl
row-empty (suc n) (suc k) = row-empty n k

false-and : (a b : Bool) → a ≡ false → false ≡ (a && b)
false-and false b e = refl
false-and true b e = absurd (false≢true (sym e))

pub filed-start : (f : Function) (rows rows2 : List (List Point)) → rows ≡ replicate (length f.blocks) [] → rows2 ≡ rows ++ [] ∷ [] → IsFiledTo f 0 rows2
filed-start f rows rows2 e is = subst (IsFiledTo f 0) (sym (is ∙ ap (λ (l : List (List Point)). l ++ [] ∷ []) e)) (record { count = count; each = each })
  where
    count : length {A = List Point} (replicate (length f.blocks) [] ++ [] ∷ []) ≡ length f.blocks + 1
    count = length-append (replicate (length f.blocks) []) ([] ∷ []) ∙ ap (λ n. n + 1) (length-replicate (length f.blocks) [])

    each : (k : ℕ) (q : Point) → has_point (row_at (replicate (length f.blocks) [] ++ [] ∷ []) k) q ≡ (nat_lt q.block 0 && has_point (nexts f q) (first_of k))
    each k q = ap (λ (r : List Point). has_point r q) (row-empty (length f.blocks) k) ∙ false-and (nat_lt q.block 0) (has_point (nexts f q) (first_of k)) (le-ltb q.block 0 (omega arith))

-- a terminator leads to places for which there are rows
pub entries-of-row : (f : Function) (i : ℕ) (b : Block) (outgoing : List (List Point)) (row : List Point) (rows : List (List Point)) → slice_get f.blocks i ≡ Some b → outgoing ≡ outgoing_of f → row ≡ row_at outgoing i → IsFiledTo f i rows → AreEntries (length rows) row
entries-of-row f i b outgoing row rows got out is filed = record { block = block; at = λ p h. (place p h).0 }
  where
    place : (p : Point) → has_point row p ≡ true → (p.at ≡ 0) × (p.block ≤ length f.blocks)
    place p h = entry-place f (targets b.term) p (ap (λ (l : List Point). has_point l p) (sym (is ∙ ap (λ (l : List (List Point)). row_at l i) out ∙ row-outgoing f i b got)) ∙ h)

    block : (p : Point) → has_point row p ≡ true → p.block < length rows
    block p h = let le = (place p h).1 in let n = filed.count in omega (arith, le, n)

pub filed-next : (f : Function) (i : ℕ) (b : Block) (end : Point) (outgoing : List (List Point)) (row : List Point) (rows rows2 : List (List Point)) → slice_get f.blocks i ≡ Some b → outgoing ≡ outgoing_of f → row ≡ row_at outgoing i → end ≡ record { block = i; at = length b.instrs } → AreFiled row end rows rows2 → IsFiledTo f i rows → IsFiledTo f (i + 1) rows2
filed-next f i b end outgoing row rows rows2 got out is_row is_end filed to = record { count = filed.count ∙ to.count; each = each }
  where
    block : end.block ≡ i
    block = ap (λ (y : Point). y.block) is_end

    at : end.at ≡ length b.instrs
    at = ap (λ (y : Point). y.at) is_end

    row_is : row ≡ nexts f end
    row_is =
        is_row ∙ ap (λ (l : List (List Point)). row_at l i) out ∙ row-outgoing f i b got
        ∙ sym (next-term f end b (ap (slice_get f.blocks) block ∙ got) at)

    there : (k : ℕ) (q : Point) → ((nat_lt q.block i && has_point (nexts f q) (first_of k)) || (has_point row (first_of k) && same_point q end)) ≡ true → (nat_lt q.block (i + 1) && has_point (nexts f q) (first_of k)) ≡ true
    there k q h = ⊎_elim before now (or_cases (nat_lt q.block i && has_point (nexts f q) (first_of k)) (has_point row (first_of k) && same_point q end) h)
      where
        before : (nat_lt q.block i && has_point (nexts f q) (first_of k)) ≡ true → (nat_lt q.block (i + 1) && has_point (nexts f q) (first_of k)) ≡ true
        before g =
            let parts = and_parts (nat_lt q.block i) (has_point (nexts f q) (first_of k)) g in
            let lt : q.block < i = ltb-true q.block i parts.0 in
            and_from (nat_lt q.block (i + 1)) (has_point (nexts f q) (first_of k)) (lt-ltb q.block (i + 1) (omega arith)) parts.1

        now : (has_point row (first_of k) && same_point q end) ≡ true → (nat_lt q.block (i + 1) && has_point (nexts f q) (first_of k)) ≡ true
        now g =
            let parts = and_parts (has_point row (first_of k)) (same_point q end) g in
            let same : q ≡ end = same_point-same q end parts.1 in
            let is_block : q.block ≡ i = ap (λ (y : Point). y.block) same ∙ block in
            and_from (nat_lt q.block (i + 1)) (has_point (nexts f q) (first_of k)) (lt-ltb q.block (i + 1) (omega (arith, is_block)))
            (ap (λ (y : Point). has_point (nexts f y) (first_of k)) same ∙ ap (λ (l : List Point). has_point l (first_of k)) (sym row_is) ∙ parts.0)

    back : (k : ℕ) (q : Point) → (nat_lt q.block (i + 1) && has_point (nexts f q) (first_of k)) ≡ true → ((nat_lt q.block i && has_point (nexts f q) (first_of k)) || (has_point row (first_of k) && same_point q end)) ≡ true
    back k q h = ⊎_elim early late (cases_lt q.block i)
      where
        parts : (nat_lt q.block (i + 1) ≡ true) × (has_point (nexts f q) (first_of k) ≡ true)
        parts = and_parts (nat_lt q.block (i + 1)) (has_point (nexts f q) (first_of k)) h

        or-one : (x y : Bool) → x ≡ true → (x || y) ≡ true
        or-one true y e = refl
        or-one false y e = absurd (false≢true e)

        or-two : (x y : Bool) → y ≡ true → (x || y) ≡ true
        or-two true y e = refl
        or-two false y e = e

        early : q.block < i → ((nat_lt q.block i && has_point (nexts f q) (first_of k)) || (has_point row (first_of k) && same_point q end)) ≡ true
        early lt = or-one (nat_lt q.block i && has_point (nexts f q) (first_of k)) (has_point row (first_of k) && same_point q end) (and_from (nat_lt q.block i) (has_point (nexts f q) (first_of k)) (lt-ltb q.block i lt) parts.1)

        inner : IsInner f q (first_of k) → same_point q end ≡ true
        inner x = let next = x.next in absurd (omega (arith, next))

        branch : q.block ≡ i → IsBranch f q (first_of k) → same_point q end ≡ true
        branch s x =
            let same : x.block ≡ b = some-same (slice_get f.blocks i) x.block b (ap (slice_get f.blocks) (sym s) ∙ x.got) got in
            same_point-from q end (s ∙ sym block) (x.last ∙ ap (λ (y : Block). length y.instrs) same ∙ sym at)

        late : i ≤ q.block → ((nat_lt q.block i && has_point (nexts f q) (first_of k)) || (has_point row (first_of k) && same_point q end)) ≡ true
        late le =
            let lt : q.block < i + 1 = ltb-true q.block (i + 1) parts.0 in
            let s : q.block ≡ i = omega (arith, lt, le) in
            let at_end : same_point q end ≡ true = ⊎_elim inner (branch s) (edge-cases f q (first_of k) parts.1) in
            let same : q ≡ end = same_point-same q end at_end in
            or-two (nat_lt q.block i && has_point (nexts f q) (first_of k)) (has_point row (first_of k) && same_point q end)
            (and_from (has_point row (first_of k)) (same_point q end)
            (ap (λ (l : List Point). has_point l (first_of k)) row_is ∙ ap (λ (y : Point). has_point (nexts f y) (first_of k)) (sym same) ∙ parts.1)
            at_end)

    each : (k : ℕ) (q : Point) → has_point (row_at rows2 k) q ≡ (nat_lt q.block (i + 1) && has_point (nexts f q) (first_of k))
    each k q =
        filed.each k q ∙ ap (λ b. b || (has_point row (first_of k) && same_point q end)) (to.each k q)
        ∙ same_test ((nat_lt q.block i && has_point (nexts f q) (first_of k)) || (has_point row (first_of k) && same_point q end)) (nat_lt q.block (i + 1) && has_point (nexts f q) (first_of k)) (there k q) (back k q)

pub filed-last : (f : Function) (i : ℕ) (rows : List (List Point)) → length f.blocks ≤ i → IsFiledTo f i rows → AreIncoming f rows
filed-last f i rows le to = record { each = λ k q. to.each k q ∙ same_test (nat_lt q.block i && has_point (nexts f q) (first_of k)) (has_point (nexts f q) (first_of k)) (λ h. (and_parts (nat_lt q.block i) (has_point (nexts f q) (first_of k)) h).1) (λ h. and_from (nat_lt q.block i) (has_point (nexts f q) (first_of k)) (lt-ltb q.block i (in_range k q h)) h) }
  where
    in_range : (k : ℕ) (q : Point) → has_point (nexts f q) (first_of k) ≡ true → q.block < i
    in_range k q h = ⊎_elim (λ (x : IsInner f q (first_of k)). let w = slice_get_within f.blocks q.block x.block x.got in omega (arith, w, le)) (λ (x : IsBranch f q (first_of k)). let w = slice_get_within f.blocks q.block x.block x.got in omega (arith, w, le)) (edge-cases f q (first_of k) h)

-- an end put into the row of a block
pub row-put : (rows : List (List Point)) (b : ℕ) (row new : List Point) (end : Point) → b < length rows → row ≡ get_or rows b row → new ≡ row ++ end ∷ [] → slice_set rows b new ≡ slice_set rows b (row_at rows b ++ end ∷ [])
row-put rows b row new end lt is e =
    ap (slice_set rows b)
    (e ∙ ap (λ (l : List Point). l ++ end ∷ []) (is ∙ get_or_default rows b row [] lt ∙ sym (unwrap_or-slice_get rows b [])))
