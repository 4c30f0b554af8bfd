-- The points beside a point, in both directions.
use Rattle.std.proofs.Common.{◌≡◌, ℕ, zero, suc, ◌+◌, ◌-◌, ◌<◌, ◌≤◌, ◌⊎◌, inl, inr, Bool, true, false, ◌||◌, List, [], ◌∷◌, ◌++◌, length, refl, ap, sym, subst, ◌∙◌, arith, Option, Some, None, ⊎_elim}
use Rattle.std.specs.Prelude.{map, nat_lt, slice_get, unwrap_or, if◌then◌else◌, ◌==◌}
use Rattle.std.proofs.lemmas.Bool.{eq-eqb, eqb-true, false≢true, le-ltb, lt-ltb, ltb-true, ne_eqb}
use Rattle.ir_paths.specs.ir_model.Names.{position_of}
use Rattle.ir_paths.specs.ir_model.declared.module.Block.{Block}
use Rattle.ir_paths.specs.ir_model.declared.module.Function.{Function}
use Rattle.ir_paths.specs.Paths.{entry_point, has_point, nexts, nexts_in, same_point, targets}
use Rattle.ir_paths.specs.declared.point.Point.{Point}
use Rattle.ir_paths.proofs.Search.{either, same_point-same}
use Rattle.flow_points.specs.Edges.{AreIncoming, first_of, outgoing_of}
use Rattle.flow_points.specs.Rows.{AreInside, is_inside, row_at, sizes_of}
use Rattle.flow_points.specs.Search.{adjoins}
use Rattle.flow_points.specs.declared.direction.Direction.{Direction}
use Rattle.flow_points.proofs.LabelPositions.{leading, leading-is}
use Rattle.flow_points.proofs.Marking.{inside-size, size_at}
use Rattle.flow_points.proofs.Tests.{get_map, or-false, point-is, same_point-from, same_test}

if-true : {A : Type 0} (b : Bool) (x y : A) → b ≡ true → (if b then x else y) ≡ x
if-true true x y e = refl
if-true false x y e = absurd (false≢true e)

if-false : {A : Type 0} (b : Bool) (x y : A) → b ≡ false → (if b then x else y) ≡ y
if-false false x y e = refl
if-false true x y e = absurd (false≢true (sym e))

pub some-same : {A : Type 0} (o : Option A) (x y : A) → o ≡ Some x → o ≡ Some y → x ≡ y
some-same o x y e f = let g : Some x ≡ Some y = sym e ∙ f in cc

some-none : {A B : Type 0} (o : Option A) (x : A) → o ≡ Some x → o ≡ None → B
some-none o x e f = absurd (let g : Some x ≡ None = sym e ∙ f in cc)

-- ---- the edges out of a point

pub next-none : (f : Function) (p : Point) → slice_get f.blocks p.block ≡ None → nexts f p ≡ []
next-none f p e = ap (nexts_in f p) e

pub next-inner : (f : Function) (p : Point) (b : Block) → slice_get f.blocks p.block ≡ Some b → p.at < length b.instrs → nexts f p ≡ record { block = p.block; at = p.at + 1 } ∷ []
next-inner f p b e lt =
    ap (nexts_in f p) e
    ∙ if-true (nat_lt p.at (length b.instrs)) (record { block = p.block; at = p.at + 1 } ∷ []) (if p.at == length b.instrs then map (entry_point f) (targets b.term) else []) (lt-ltb p.at (length b.instrs) lt)

pub next-term : (f : Function) (p : Point) (b : Block) → slice_get f.blocks p.block ≡ Some b → p.at ≡ length b.instrs → nexts f p ≡ map (entry_point f) (targets b.term)
next-term f p b e is =
    ap (nexts_in f p) e
    ∙ if-false (nat_lt p.at (length b.instrs)) (record { block = p.block; at = p.at + 1 } ∷ []) (if p.at == length b.instrs then map (entry_point f) (targets b.term) else []) (le-ltb p.at (length b.instrs) (omega arith))
    ∙ if-true (p.at == length b.instrs) (map (entry_point f) (targets b.term)) [] (eq-eqb p.at (length b.instrs) is)

pub next-past : (f : Function) (p : Point) (b : Block) → slice_get f.blocks p.block ≡ Some b → length b.instrs < p.at → nexts f p ≡ []
next-past f p b e lt =
    ap (nexts_in f p) e
    ∙ if-false (nat_lt p.at (length b.instrs)) (record { block = p.block; at = p.at + 1 } ∷ []) (if p.at == length b.instrs then map (entry_point f) (targets b.term) else []) (le-ltb p.at (length b.instrs) (omega arith))
    ∙ if-false (p.at == length b.instrs) (map (entry_point f) (targets b.term)) [] (ne_eqb p.at (length b.instrs) (λ s. omega arith))

pub row-outgoing : (f : Function) (k : ℕ) (b : Block) → slice_get f.blocks k ≡ Some b → row_at (outgoing_of f) k ≡ map (entry_point f) (targets b.term)
row-outgoing f k b e = ap (λ (o : Option (List Point)). unwrap_or o []) (get_map (λ (b : Block). map (entry_point f) (targets b.term)) f.blocks k b e)

-- ---- what an edge is

-- an edge within a block
pub record IsInner (f : Function) (q p : Point) : Type 0 where
  pub block : Block
  pub got : slice_get f.blocks q.block ≡ Some block
  pub within : q.at < length block.instrs
  pub same : p.block ≡ q.block
  pub next : p.at ≡ q.at + 1

-- an edge out of a terminator
pub record IsBranch (f : Function) (q p : Point) : Type 0 where
  pub block : Block
  pub got : slice_get f.blocks q.block ≡ Some block
  pub last : q.at ≡ length block.instrs
  pub entry : has_point (map (entry_point f) (targets block.term)) p ≡ true

pub edge-cases : (f : Function) (q p : Point) → has_point (nexts f q) p ≡ true → IsInner f q p ⊎ IsBranch f q p
edge-cases f q p h = on (slice_get f.blocks q.block) refl h
  where
    on : (o : Option Block) → slice_get f.blocks q.block ≡ o → has_point (nexts_in f q o) p ≡ true → IsInner f q p ⊎ IsBranch f q p
    on None e h = absurd (false≢true h)
    on (Some b) e h = at-cases (nat_lt q.at (length b.instrs)) refl (q.at == length b.instrs) refl h
      where
        inner : nat_lt q.at (length b.instrs) ≡ true → same_point p (record { block = q.block; at = q.at + 1 }) ≡ true → IsInner f q p
        inner c s =
            let is : p ≡ record { block = q.block; at = q.at + 1 } = same_point-same p (record { block = q.block; at = q.at + 1 }) s in
            record { block = b; got = e; within = ltb-true q.at (length b.instrs) c; same = ap (λ (y : Point). y.block) is; next = ap (λ (y : Point). y.at) is }

        at-cases : (c : Bool) → nat_lt q.at (length b.instrs) ≡ c → (d : Bool) → (q.at == length b.instrs) ≡ d → has_point (if c then record { block = q.block; at = q.at + 1 } ∷ [] else if d then map (entry_point f) (targets b.term) else []) p ≡ true → IsInner f q p ⊎ IsBranch f q p
        at-cases true ec d ed h = inl (inner ec (sym (or-false (same_point p (record { block = q.block; at = q.at + 1 }))) ∙ h))
        at-cases false ec true ed h = inr (record { block = b; got = e; last = eqb-true q.at (length b.instrs) ed; entry = h })
        at-cases false ec false ed h = absurd (false≢true h)

leading-bound : (label : ℕ) (bs : List Block) → leading label bs ≤ length bs
leading-bound label [] = omega arith
leading-bound label (b ∷ bs) = on (b.label == label) (leading label bs) (length bs) (leading-bound label bs)
  where
    on : (c : Bool) (m n : ℕ) → m ≤ n → (if c then 0 else suc m) ≤ suc n
    on true m n h = omega arith
    on false m n h = omega arith

position-bound : (f : Function) (label : ℕ) → position_of f label ≤ length f.blocks
position-bound f label = let P : ℕ → Type 0 = λ n. n ≤ length f.blocks in subst P (sym (leading-is label f.blocks)) (leading-bound label f.blocks)

-- a terminator leads to the first point of a block, or of the position behind the last
pub entry-place : (f : Function) (labels : List ℕ) (p : Point) → has_point (map (entry_point f) labels) p ≡ true → (p.at ≡ 0) × (p.block ≤ length f.blocks)
entry-place f [] p h = absurd (false≢true h)
entry-place f (l ∷ labels) p h = on (either (same_point p (entry_point f l)) (has_point (map (entry_point f) labels) p) h) (entry-place f labels p)
  where
    on : (same_point p (entry_point f l) ≡ true) ⊎ (has_point (map (entry_point f) labels) p ≡ true) → (has_point (map (entry_point f) labels) p ≡ true → (p.at ≡ 0) × (p.block ≤ length f.blocks)) → (p.at ≡ 0) × (p.block ≤ length f.blocks)
    on (inl s) ih =
        let is : p ≡ entry_point f l = same_point-same p (entry_point f l) s in
        let P : ℕ → Type 0 = λ n. n ≤ length f.blocks in
        (ap (λ (y : Point). y.at) is, subst P (sym (ap (λ (y : Point). y.block) is)) (position-bound f l))
    on (inr m) ih = ih m

-- ---- places for marks

size-of-block : (bs : List Block) (k : ℕ) (b : Block) → slice_get bs k ≡ Some b → size_at (map (λ (b : Block). length b.instrs + 1) bs ++ 1 ∷ []) k ≡ length b.instrs + 1
size-of-block [] k b e = absurd (cc)
size-of-block (x ∷ bs) zero b e = let same : x ≡ b = cc in ap (λ (y : Block). length y.instrs + 1) same
size-of-block (x ∷ bs) (suc k) b e = size-of-block bs k b e

size-entry : (bs : List Block) (k : ℕ) → k ≤ length bs → 0 < size_at (map (λ (b : Block). length b.instrs + 1) bs ++ 1 ∷ []) k
size-entry [] zero le = omega arith
size-entry [] (suc k) le = absurd (omega arith)
size-entry (x ∷ bs) zero le = omega arith
size-entry (x ∷ bs) (suc k) le = size-entry bs k (omega arith)

pub inside-point : (f : Function) (rows : List (List Bool)) (p : Point) (b : Block) → map length rows ≡ sizes_of f → slice_get f.blocks p.block ≡ Some b → p.at ≤ length b.instrs → is_inside rows p ≡ true
inside-point f rows p b sizes e le =
    inside-size rows p
    ∙ ap (λ (l : List ℕ). nat_lt p.at (size_at l p.block)) sizes
    ∙ ap (nat_lt p.at) (size-of-block f.blocks p.block b e)
    ∙ lt-ltb p.at (length b.instrs + 1) (omega arith)

pub inside-entry : (f : Function) (rows : List (List Bool)) (p : Point) → map length rows ≡ sizes_of f → p.at ≡ 0 → p.block ≤ length f.blocks → is_inside rows p ≡ true
inside-entry f rows p sizes zero_at le =
    inside-size rows p
    ∙ ap (λ (l : List ℕ). nat_lt p.at (size_at l p.block)) sizes
    ∙ ap (λ (n : ℕ). nat_lt n (size_at (sizes_of f) p.block)) zero_at
    ∙ lt-ltb 0 (size_at (sizes_of f) p.block) (size-entry f.blocks p.block le)

pub target-inside : (f : Function) (rows : List (List Bool)) (q p : Point) → map length rows ≡ sizes_of f → has_point (nexts f q) p ≡ true → is_inside rows p ≡ true
target-inside f rows q p sizes h = ⊎_elim inner branch (edge-cases f q p h)
  where
    inner : IsInner f q p → is_inside rows p ≡ true
    inner x = let within = x.within in let next = x.next in inside-point f rows p x.block sizes (ap (slice_get f.blocks) x.same ∙ x.got) (omega (arith, within, next))

    branch : IsBranch f q p → is_inside rows p ≡ true
    branch x = let place = entry-place f (targets x.block.term) p x.entry in inside-entry f rows p sizes place.0 place.1

pub source-inside : (f : Function) (rows : List (List Bool)) (q p : Point) → map length rows ≡ sizes_of f → has_point (nexts f q) p ≡ true → is_inside rows q ≡ true
source-inside f rows q p sizes h = ⊎_elim inner branch (edge-cases f q p h)
  where
    inner : IsInner f q p → is_inside rows q ≡ true
    inner x = let within = x.within in inside-point f rows q x.block sizes x.got (omega (arith, within))

    branch : IsBranch f q p → is_inside rows q ≡ true
    branch x = let last = x.last in inside-point f rows q x.block sizes x.got (omega (arith, last))

pub adjoins-inside : (f : Function) (d : Direction) (rows : List (List Bool)) (p q : Point) → map length rows ≡ sizes_of f → adjoins f d p q ≡ true → is_inside rows q ≡ true
adjoins-inside f Direction.Forward rows p q sizes h = target-inside f rows p q sizes h
adjoins-inside f Direction.Backward rows p q sizes h = source-inside f rows q p sizes h

-- ---- along the edges

pub forward-none : (f : Function) (p : Point) → slice_get f.blocks p.block ≡ None → (q : Point) → false ≡ has_point (nexts f p) q
forward-none f p e q = sym (ap (λ (l : List Point). has_point l q) (next-none f p e))

pub forward-inner : (f : Function) (p next : Point) (b : Block) → slice_get f.blocks p.block ≡ Some b → p.at < length b.instrs → next ≡ record { block = p.block; at = p.at + 1 } → (q : Point) → same_point q next ≡ has_point (nexts f p) q
forward-inner f p next b e lt is q =
    ap (same_point q) is ∙ sym (or-false (same_point q (record { block = p.block; at = p.at + 1 }))) ∙ sym (ap (λ (l : List Point). has_point l q) (next-inner f p b e lt))

pub forward-term : (f : Function) (p : Point) (b : Block) (rows : List (List Point)) (row : List Point) → slice_get f.blocks p.block ≡ Some b → p.at ≡ length b.instrs → rows ≡ outgoing_of f → row ≡ row_at rows p.block → row ≡ nexts f p
forward-term f p b rows row e is out got = got ∙ ap (λ (l : List (List Point)). row_at l p.block) out ∙ row-outgoing f p.block b e ∙ sym (next-term f p b e is)

pub forward-past : (f : Function) (p : Point) (b : Block) → slice_get f.blocks p.block ≡ Some b → length b.instrs < p.at → (q : Point) → false ≡ has_point (nexts f p) q
forward-past f p b e lt q = sym (ap (λ (l : List Point). has_point l q) (next-past f p b e lt))

pub row-inside : (f : Function) (p : Point) (rows : List (List Bool)) (row : List Point) → map length rows ≡ sizes_of f → row ≡ nexts f p → AreInside rows row
row-inside f p rows row sizes is = record { each = λ q h. target-inside f rows p q sizes (ap (λ (l : List Point). has_point l q) (sym is) ∙ h) }

-- ---- against the edges

-- no edge out of a terminator leads into a block's inside
no-branch : {A : Type 0} (f : Function) (q p : Point) → 0 < p.at → IsBranch f q p → A
no-branch f q p lt x = let place = (entry-place f (targets x.block.term) p x.entry).0 in absurd (omega (arith, place, lt))

pub backward-none : (f : Function) (p : Point) → 0 < p.at → slice_get f.blocks p.block ≡ None → (q : Point) → false ≡ has_point (nexts f q) p
backward-none f p lt e q = same_test false (has_point (nexts f q) p) (λ h. absurd (false≢true h)) (λ h. ⊎_elim inner (no-branch f q p lt) (edge-cases f q p h))
  where
    inner : IsInner f q p → false ≡ true
    inner x = some-none (slice_get f.blocks p.block) x.block (ap (slice_get f.blocks) x.same ∙ x.got) e

pub backward-past : (f : Function) (p : Point) (b : Block) → slice_get f.blocks p.block ≡ Some b → length b.instrs < p.at → (q : Point) → false ≡ has_point (nexts f q) p
backward-past f p b e lt q = same_test false (has_point (nexts f q) p) (λ h. absurd (false≢true h)) (λ h. ⊎_elim inner (no-branch f q p (omega arith)) (edge-cases f q p h))
  where
    inner : IsInner f q p → false ≡ true
    inner x =
        let same : x.block ≡ b = some-same (slice_get f.blocks p.block) x.block b (ap (slice_get f.blocks) x.same ∙ x.got) e in
        let len : length x.block.instrs ≡ length b.instrs = ap (λ (y : Block). length y.instrs) same in
        let within = x.within in
        let next = x.next in
        absurd (omega (arith, len, within, next, lt))

pub backward-inner : (f : Function) (p previous : Point) (b : Block) → slice_get f.blocks p.block ≡ Some b → 0 < p.at → p.at ≤ length b.instrs → previous ≡ record { block = p.block; at = p.at - 1 } → (q : Point) → same_point q previous ≡ has_point (nexts f q) p
backward-inner f p previous b e lt le is q = same_test (same_point q previous) (has_point (nexts f q) p) there (λ h. ⊎_elim inner (no-branch f q p lt) (edge-cases f q p h))
  where
    there : same_point q previous ≡ true → has_point (nexts f q) p ≡ true
    there s =
        let same : q ≡ record { block = p.block; at = p.at - 1 } = same_point-same q previous s ∙ is in
        let block : q.block ≡ p.block = ap (λ (y : Point). y.block) same in
        let at : q.at ≡ p.at - 1 = ap (λ (y : Point). y.at) same in
        let step : p.at ≡ q.at + 1 = omega (arith, at, lt) in
        ap (λ (l : List Point). has_point l p) (next-inner f q b (ap (slice_get f.blocks) block ∙ e) (omega (arith, at, lt, le)))
        ∙ ap (λ t. t || false) (same_point-from p (record { block = q.block; at = q.at + 1 }) (sym block) step)

    inner : IsInner f q p → same_point q previous ≡ true
    inner x =
        let next = x.next in
        let at : q.at ≡ p.at - 1 = omega (arith, next) in
        same_point-from q previous (sym x.same ∙ ap (λ (y : Point). y.block) (sym is)) (at ∙ ap (λ (y : Point). y.at) (sym is))

pub backward-entry : (f : Function) (p : Point) (rows : List (List Point)) (row : List Point) → p.at ≡ 0 → AreIncoming f rows → row ≡ row_at rows p.block → (q : Point) → has_point row q ≡ has_point (nexts f q) p
backward-entry f p rows row at x got q =
    ap (λ (l : List Point). has_point l q) got ∙ x.each p.block q ∙ ap (λ (y : Point). has_point (nexts f q) y) (point-is (first_of p.block) p refl (sym at))

pub sources-inside : (f : Function) (p : Point) (rows : List (List Bool)) (row : List Point) → map length rows ≡ sizes_of f → ((q : Point) → has_point row q ≡ has_point (nexts f q) p) → AreInside rows row
sources-inside f p rows row sizes same = record { each = λ q h. source-inside f rows q p sizes (sym (same q) ∙ h) }
