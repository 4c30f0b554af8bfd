-- Marks that are set and cleared.
use Rattle.std.proofs.Common.{◌≡◌, ℕ, zero, suc, ◌+◌, ◌<◌, ◌≤◌, Bool, true, false, ◌&&◌, ◌||◌, List, [], ◌∷◌, ◌++◌, length, take, get_or, replicate, refl, ap, sym, subst, ◌∙◌, arith, ⊎_elim, length-append}
use Rattle.std.specs.Prelude.{map, not, nat_lt, slice_get, slice_set, unwrap_or}
use Rattle.std.proofs.lemmas.Bool.{false≢true, cases_eq, cases_lt, ltb-true, lt-ltb}
use Rattle.std.proofs.lemmas.List.{length-replicate, length-set, map-append, take_more}
use Rattle.ir_paths.specs.ir_model.declared.module.Block.{Block}
use Rattle.ir_paths.specs.Paths.{has_point, same_point}
use Rattle.ir_paths.specs.declared.point.Point.{Point}
use Rattle.ir_paths.proofs.Search.{same_point-same}
use Rattle.flow_points.specs.Rows.{AreBlank, AreCleared, AreJoined, AreMarked, is_inside, is_marked, row_at, with_mark}
use Rattle.flow_points.specs.Search.{clear_count, clear_in}
use Rattle.flow_points.proofs.Tests.{has_point-more, no_test, or-false, or_assoc, place_other, place_set, same_point-from, set_past, take-all}

-- ---- places for marks

abbrev pub size_at : List ℕ → ℕ → ℕ
size_at sizes k = unwrap_or (slice_get sizes k) 0

row-size : {A : Type 0} (rows : List (List A)) (k : ℕ) → length (row_at rows k) ≡ size_at (map length rows) k
row-size [] k = refl
row-size (r ∷ rows) zero = refl
row-size (r ∷ rows) (suc k) = row-size rows k

pub inside-size : (rows : List (List Bool)) (p : Point) → is_inside rows p ≡ nat_lt p.at (size_at (map length rows) p.block)
inside-size rows p = ap (nat_lt p.at) (row-size rows p.block)

-- tables with rows of the same sizes have places for the same points
pub inside-same : (a b : List (List Bool)) (p : Point) → map length a ≡ map length b → is_inside a p ≡ is_inside b p
inside-same a b p e = inside-size a p ∙ ap (λ (l : List ℕ). nat_lt p.at (size_at l p.block)) e ∙ sym (inside-size b p)

in-a-row : {A : Type 0} (rows : List (List A)) (k at : ℕ) → nat_lt at (length (row_at rows k)) ≡ true → k < length rows
in-a-row [] k at e = absurd (let l : at < 0 = ltb-true at 0 e in omega arith)
in-a-row (r ∷ rows) zero at e = omega arith
in-a-row (r ∷ rows) (suc k) at e = let l : k < length rows = in-a-row rows k at e in omega arith

marked-within : (row : List Bool) (at : ℕ) → unwrap_or (slice_get row at) false ≡ true → at < length row
marked-within [] at e = absurd (false≢true e)
marked-within (b ∷ row) zero e = omega arith
marked-within (b ∷ row) (suc at) e = let l : at < length row = marked-within row at e in omega arith

-- what is marked has a place
pub marked-inside : (rows : List (List Bool)) (p : Point) → is_marked rows p ≡ true → is_inside rows p ≡ true
marked-inside rows p e = lt-ltb p.at (length (row_at rows p.block)) (marked-within (row_at rows p.block) p.at e)

-- ---- one mark

pub sizes-set : (rows : List (List Bool)) (k at : ℕ) (mark : Bool) → map length (slice_set rows k (slice_set (row_at rows k) at mark)) ≡ map length rows
sizes-set [] k at mark = refl
sizes-set (r ∷ rows) zero at mark = ap (λ n. n ∷ map length rows) (length-set r at mark)
sizes-set (r ∷ rows) (suc k) at mark = ap (λ (l : List ℕ). length r ∷ l) (sizes-set rows k at mark)

pub mark-here : (rows : List (List Bool)) (p : Point) (mark : Bool) → is_inside rows p ≡ true → is_marked (with_mark rows p mark) p ≡ mark
mark-here rows p mark e =
    ap (λ (row : List Bool). unwrap_or (slice_get row p.at) false)
    (place_set rows p.block (slice_set (row_at rows p.block) p.at mark) [] (in-a-row rows p.block p.at e))
    ∙ place_set (row_at rows p.block) p.at mark false (ltb-true p.at (length (row_at rows p.block)) e)

pub mark-other : (rows : List (List Bool)) (p q : Point) (mark : Bool) → same_point q p ≡ false → is_marked (with_mark rows p mark) q ≡ is_marked rows q
mark-other rows p q mark e = ⊎_elim same (λ ne. ap (λ (row : List Bool). unwrap_or (slice_get row q.at) false) (place_other rows p.block q.block (slice_set (row_at rows p.block) p.at mark) [] ne)) (cases_eq q.block p.block)
  where
    row : List Bool
    row = row_at rows p.block

    here : q.block ≡ p.block → p.block < length rows → is_marked (with_mark rows p mark) q ≡ is_marked rows q
    here s lt =
        ap (λ (k : ℕ). unwrap_or (slice_get (row_at (with_mark rows p mark) k) q.at) false) s
        ∙ ap (λ (r : List Bool). unwrap_or (slice_get r q.at) false) (place_set rows p.block (slice_set (row_at rows p.block) p.at mark) [] lt)
        ∙ place_other (row_at rows p.block) p.at q.at mark false (λ a. no_test (same_point q p) (same_point-from q p s a) e)
        ∙ ap (λ (k : ℕ). unwrap_or (slice_get (row_at rows k) q.at) false) (sym s)

    same : q.block ≡ p.block → is_marked (with_mark rows p mark) q ≡ is_marked rows q
    same s =
        ⊎_elim (here s)
        (λ le. ap (λ (l : List (List Bool)). is_marked l q) (set_past rows p.block (slice_set (row_at rows p.block) p.at mark) le))
        (cases_lt p.block (length rows))

-- a mark set for a point that has a place
pub is_marked-set : (rows : List (List Bool)) (p q : Point) → is_inside rows p ≡ true → is_marked (with_mark rows p true) q ≡ (is_marked rows q || same_point q p)
is_marked-set rows p q h = on (same_point q p) refl
  where
    always : (a : Bool) → true ≡ (a || true)
    always true = refl
    always false = refl

    on : (b : Bool) → same_point q p ≡ b → is_marked (with_mark rows p true) q ≡ (is_marked rows q || b)
    on true e = let s = same_point-same q p e in ap (λ (y : Point). is_marked (with_mark rows p true) y) s ∙ mark-here rows p true h ∙ always (is_marked rows q)
    on false e = mark-other rows p q true e ∙ sym (or-false (is_marked rows q))

clear-row : (row : List Bool) (at : ℕ) → at < length row → unwrap_or (slice_get row at) false ≡ false → clear_in (slice_set row at true) + 1 ≡ clear_in row
clear-row [] at lt e = absurd (omega arith)
clear-row (true ∷ row) zero lt e = absurd (cc)
clear-row (false ∷ row) zero lt e = omega arith
clear-row (b ∷ row) (suc at) lt e = let ih = clear-row row at (omega arith) e in omega (arith, ih)

clear-rows : (rows : List (List Bool)) (k at : ℕ) → at < length (row_at rows k) → unwrap_or (slice_get (row_at rows k) at) false ≡ false → clear_count (slice_set rows k (slice_set (row_at rows k) at true)) + 1 ≡ clear_count rows
clear-rows [] k at lt e = absurd (omega arith)
clear-rows (r ∷ rows) zero at lt e = let one = clear-row r at lt e in omega (arith, one)
clear-rows (r ∷ rows) (suc k) at lt e = let ih = clear-rows rows k at lt e in omega (arith, ih)

-- one place less has no mark
pub clear-falls : (rows : List (List Bool)) (p : Point) → is_inside rows p ≡ true → is_marked rows p ≡ false → clear_count (with_mark rows p true) + 1 ≡ clear_count rows
clear-falls rows p h e = clear-rows rows p.block p.at (ltb-true p.at (length (row_at rows p.block)) h) e

-- ---- many marks

pub joined-none : (marks : List (List Bool)) → AreJoined [] marks marks
joined-none marks = record { sizes = refl; each = λ p h. sym (or-false (is_marked marks p)) }

pub joined-more : (points : List Point) (i : ℕ) (p : Point) (first old new : List (List Bool)) → i < length points → p ≡ get_or points i p → new ≡ with_mark old p true → AreJoined (take i points) first old → AreJoined (take (i + 1) points) first new
joined-more points i p first old new lt e is j = subst (AreJoined (take (i + 1) points) first) (sym is) (record { sizes = sizes-set old p.block p.at true ∙ j.sizes; each = each })
  where
    before : (q : Point) → is_inside first q ≡ true → is_marked old q ≡ (is_marked first q || has_point (take i points) q)
    before q h = j.each q h

    both : (q : Point) → is_inside first q ≡ true → (b : Bool) → same_point q p ≡ b → is_marked (with_mark old p true) q ≡ (is_marked old q || b)
    both q h true s =
        let same = same_point-same q p s in
        is_marked-set old p q (subst (λ (y : Point). is_inside old y ≡ true) same (inside-same old first q j.sizes ∙ h)) ∙ ap (λ b. is_marked old q || b) s
    both q h false s = mark-other old p q true s ∙ sym (or-false (is_marked old q))

    each : (q : Point) → is_inside first q ≡ true → is_marked (with_mark old p true) q ≡ (is_marked first q || has_point (take (i + 1) points) q)
    each q h =
        both q h (same_point q p) refl
        ∙ ap (λ b. b || same_point q p) (before q h)
        ∙ or_assoc (is_marked first q) (has_point (take i points) q) (same_point q p)
        ∙ ap (λ b. is_marked first q || b) (sym (has_point-more points i p q lt e))

pub joined-all : (points : List Point) (i : ℕ) (old new : List (List Bool)) → length points ≤ i → AreJoined (take i points) old new → AreJoined points old new
joined-all points i old new le j = subst (λ (l : List Point). AreJoined l old new) (take-all points i le) j

pub cleared-none : (marks : List (List Bool)) → AreCleared [] marks marks
cleared-none marks = record { sizes = refl; each = λ p. sym (and-true (is_marked marks p)) }
  where
    and-true : (b : Bool) → (b && true) ≡ b
    and-true true = refl
    and-true false = refl

and-not : (a b c : Bool) → ((a && not b) && not c) ≡ (a && not (b || c))
and-not true true c = refl
and-not true false c = refl
and-not false b c = refl

-- a mark cleared
pub is_marked-clear : (rows : List (List Bool)) (p q : Point) → is_marked (with_mark rows p false) q ≡ (is_marked rows q && not (same_point q p))
is_marked-clear rows p q = on (same_point q p) refl
  where
    cleared : (b : Bool) → is_inside rows p ≡ b → is_marked (with_mark rows p false) p ≡ false
    cleared true e = mark-here rows p false e
    cleared false e = outside (is_marked (with_mark rows p false) p) refl
      where
        outside : (m : Bool) → is_marked (with_mark rows p false) p ≡ m → is_marked (with_mark rows p false) p ≡ false
        outside true k = no_test (is_inside rows p) (sym (inside-same (with_mark rows p false) rows p (sizes-set rows p.block p.at false)) ∙ marked-inside (with_mark rows p false) p k) e
        outside false k = k

    and-false : (a : Bool) → false ≡ (a && false)
    and-false true = refl
    and-false false = refl

    and-true : (a : Bool) → a ≡ (a && true)
    and-true true = refl
    and-true false = refl

    on : (b : Bool) → same_point q p ≡ b → is_marked (with_mark rows p false) q ≡ (is_marked rows q && not b)
    on true e = ap (λ (y : Point). is_marked (with_mark rows p false) y) (same_point-same q p e) ∙ cleared (is_inside rows p) refl ∙ and-false (is_marked rows q)
    on false e = mark-other rows p q false e ∙ and-true (is_marked rows q)

pub cleared-more : (points : List Point) (i : ℕ) (p : Point) (first old new : List (List Bool)) → i < length points → p ≡ get_or points i p → new ≡ with_mark old p false → AreCleared (take i points) first old → AreCleared (take (i + 1) points) first new
cleared-more points i p first old new lt e is j =
    subst (AreCleared (take (i + 1) points) first) (sym is)
    (record {
      sizes = sizes-set old p.block p.at false ∙ j.sizes;
      each = λ q.
          is_marked-clear old p q
          ∙ ap (λ b. b && not (same_point q p)) (j.each q)
          ∙ and-not (is_marked first q) (has_point (take i points) q) (same_point q p)
          ∙ ap (λ b. is_marked first q && not b) (sym (has_point-more points i p q lt e));
    })

pub cleared-all : (points : List Point) (i : ℕ) (old new : List (List Bool)) → length points ≤ i → AreCleared (take i points) old new → AreCleared points old new
cleared-all points i old new le j = subst (λ (l : List Point). AreCleared l old new) (take-all points i le) j

and-itself : (a : Bool) → (a && not a) ≡ false
and-itself true = refl
and-itself false = refl

-- a table in which all that is marked was cleared
pub blank-cleared : (points : List Point) (marks last : List (List Bool)) → ((p : Point) → is_marked marks p ≡ true → has_point points p ≡ true) → AreCleared points marks last → AreBlank last
blank-cleared points marks last m c = record { none = λ p. c.each p ∙ on p (is_marked marks p) refl }
  where
    on : (p : Point) (b : Bool) → is_marked marks p ≡ b → (is_marked marks p && not (has_point points p)) ≡ false
    on p true e = ap (λ t. t && not (has_point points p)) e ∙ ap not (m p e)
    on p false e = ap (λ t. t && not (has_point points p)) e

-- what is marked is among the points that were marked
pub joined-marked : (points : List Point) (blank joined : List (List Bool)) → AreBlank blank → AreJoined points blank joined → (p : Point) → is_marked joined p ≡ true → has_point points p ≡ true
joined-marked points blank joined b j p k =
    sym (j.each p (sym (inside-same joined blank p j.sizes) ∙ marked-inside joined p k) ∙ ap (λ t. t || has_point points p) (b.none p)) ∙ k

-- ---- no marks

blank-at : (rows : List (List Bool)) (row : List Bool) → ((k at : ℕ) → unwrap_or (slice_get (row_at rows k) at) false ≡ false) → ((at : ℕ) → unwrap_or (slice_get row at) false ≡ false) → (k at : ℕ) → unwrap_or (slice_get (row_at (rows ++ row ∷ []) k) at) false ≡ false
blank-at [] row h g zero at = g at
blank-at [] row h g (suc k) at = refl
blank-at (r ∷ rows) row h g zero at = h zero at
blank-at (r ∷ rows) row h g (suc k) at = blank-at rows row (λ k at. h (suc k) at) g k at

blank-row : (n at : ℕ) → unwrap_or (slice_get (replicate n false ++ false ∷ []) at) false ≡ false
blank-row zero zero = refl
blank-row zero (suc at) = refl
blank-row (suc n) zero = refl
blank-row (suc n) (suc at) = blank-row n at

-- a row more without marks
pub blank-more : (n : ℕ) (rows : List (List Bool)) (row : List Bool) (rows2 : List (List Bool)) → row ≡ replicate n false ++ false ∷ [] → rows2 ≡ rows ++ row ∷ [] → AreBlank rows → AreBlank rows2
blank-more n rows row rows2 e is b =
    subst AreBlank (sym is)
    (record {
      none = λ p. blank-at rows row (λ k at. b.none (record { block = k; at = at })) (λ at. ap (λ (r : List Bool). unwrap_or (slice_get r at) false) e ∙ blank-row n at) p.block p.at;
    })

pub sizes-more : (n : ℕ) (rows : List (List Bool)) (row : List Bool) (rows2 : List (List Bool)) → row ≡ replicate n false ++ false ∷ [] → rows2 ≡ rows ++ row ∷ [] → map length rows2 ≡ map length rows ++ (n + 1) ∷ []
sizes-more n rows row rows2 e is =
    ap (map length) is ∙ map-append length rows (row ∷ [])
    ∙ ap (λ m. map length rows ++ m ∷ []) (ap length e ∙ length-append (replicate n false) (false ∷ []) ∙ ap (λ m. m + 1) (length-replicate n false))

pub sizes-step : (blocks : List Block) (i : ℕ) (b : Block) (n : ℕ) (rows : List (List Bool)) (row : List Bool) (rows2 : List (List Bool)) → i < length blocks → b ≡ get_or blocks i b → n ≡ length b.instrs → row ≡ replicate n false ++ false ∷ [] → rows2 ≡ rows ++ row ∷ [] → map length rows ≡ map (λ (b : Block). length b.instrs + 1) (take i blocks) → map length rows2 ≡ map (λ (b : Block). length b.instrs + 1) (take (i + 1) blocks)
sizes-step blocks i b n rows row rows2 lt is len e push h =
    sizes-more n rows row rows2 e push
    ∙ ap (λ (l : List ℕ). l ++ (n + 1) ∷ []) h
    ∙ ap (λ m. map (λ (b : Block). length b.instrs + 1) (take i blocks) ++ (m + 1) ∷ []) len
    ∙ ap (λ (y : Block). map (λ (b : Block). length b.instrs + 1) (take i blocks) ++ (length y.instrs + 1) ∷ []) is
    ∙ sym (map-append (λ (b : Block). length b.instrs + 1) (take i blocks) (get_or blocks i b ∷ []))
    ∙ ap (map (λ (b : Block). length b.instrs + 1)) (sym (take_more blocks i b lt))
