-- Edges put into the rows of the nodes they leave.
use Rattle.std.proofs.Common.{◌≡◌, ◌≢◌, ℕ, ◌+◌, ◌<◌, ◌≤◌, List, [], ◌∷◌, ◌++◌, length, map, get_or, replicate, Some, sym, ap, ◌∙◌, subst, ⊎_elim, arith}
use Rattle.std.specs.Prelude.{slice_get, slice_set}
use Rattle.std.proofs.lemmas.Bool.{cases_lt}
use Rattle.std.proofs.lemmas.Option.{slice_get_within, slice_get-get_or}
use Rattle.std.proofs.lemmas.List.{length-set, length-replicate, get_or-replicate, get_or-map, map-set}
use Rattle.flow_solver.specs.Outgoing.{AreOutgoing}
use Rattle.flow_solver.specs.Paths.{IsListed}
use Rattle.flow_solver.proofs.Lists.{set_cases, same_place, listed_front, listed_last, listed_cases}

-- the first edges are in their rows
pub record AreFiled (nodes : ℕ) (edges : List (ℕ × ℕ)) (count : ℕ) (rows : List (List ℕ)) : Type 0 where
  pub rows_length : length rows ≡ nodes
  pub lists : (e from to : ℕ) (row : List ℕ) → e < count → slice_get edges e ≡ Some (from, to) → slice_get rows from ≡ Some row → IsListed e row
  pub leaves : (e from : ℕ) (row : List ℕ) → slice_get rows from ≡ Some row → IsListed e row → (to : ℕ) × (slice_get edges e ≡ Some (from, to))

none_filed : (nodes : ℕ) (edges : List (ℕ × ℕ)) → AreFiled nodes edges 0 (replicate nodes [])
none_filed nodes edges = record {
  rows_length = length-replicate nodes [];
  lists = λ e from to row lt at is. absurd (omega arith);
  leaves = λ e from row is h. absurd (subst (IsListed e) (empty from row is) h);
}
  where
    empty : (k : ℕ) (row : List ℕ) → slice_get (replicate nodes []) k ≡ Some row → row ≡ []
    empty k row e =
        let lt = slice_get_within (replicate nodes []) k row e in
        let len = length-replicate {A = List ℕ} nodes [] in
        let below : k < nodes = omega (arith, lt, len) in
        same_place (slice_get (replicate nodes []) k) row [] e (slice_get-get_or (replicate nodes []) k [] lt ∙ ap (λ (z : List ℕ). Some z) (get_or-replicate nodes k [] [] below))

pub filing_begins : (nodes : ℕ) (edges : List (ℕ × ℕ)) (rows : List (List ℕ)) → rows ≡ replicate nodes [] → AreFiled nodes edges 0 rows
filing_begins nodes edges rows e = subst (AreFiled nodes edges 0) (sym e) (none_filed nodes edges)

pub one_filed : (nodes : ℕ) (edges : List (ℕ × ℕ)) (count node to : ℕ) (rows rows2 : List (List ℕ)) → slice_get edges count ≡ Some (node, to) → node < length rows →
    rows2 ≡ slice_set rows node (get_or rows node [] ++ count ∷ []) → AreFiled nodes edges count rows → AreFiled nodes edges (count + 1) rows2
one_filed nodes edges count node to rows rows2 at lt is f = subst (AreFiled nodes edges (count + 1)) (sym is) (record {
  rows_length = length-set rows node (get_or rows node [] ++ count ∷ []) ∙ f.rows_length;
  lists = λ e from to2 row less at2 there. ⊎_elim (λ p. here_lists e from to2 row less at2 p.0 p.1) (λ p. other_lists e from to2 row less at2 p.0 p.1) (set_cases rows node from (get_or rows node [] ++ count ∷ []) row there);
  leaves = λ e from row there h. ⊎_elim (λ p. here_leaves e from row p.0 (subst (IsListed e) p.1 h)) (λ p. f.leaves e from row p.0 h) (set_cases rows node from (get_or rows node [] ++ count ∷ []) row there);
})
  where
    old_at : slice_get rows node ≡ Some (get_or rows node [])
    old_at = slice_get-get_or rows node [] lt

    early : (e from to2 : ℕ) → e < count → slice_get edges e ≡ Some (from, to2) → from ≡ node → IsListed e (get_or rows node [] ++ count ∷ [])
    early e from to2 less at2 same = listed_front e (get_or rows node []) (count ∷ []) (f.lists e from to2 (get_or rows node []) less at2 (ap (slice_get rows) same ∙ old_at))

    late : (e : ℕ) → e ≡ count → IsListed e (get_or rows node [] ++ count ∷ [])
    late e same = subst (λ k. IsListed k (get_or rows node [] ++ count ∷ [])) (sym same) (listed_last count (get_or rows node []))

    here_lists : (e from to2 : ℕ) (row : List ℕ) → e < count + 1 → slice_get edges e ≡ Some (from, to2) → from ≡ node → row ≡ get_or rows node [] ++ count ∷ [] → IsListed e row
    here_lists e from to2 row less at2 same rw_is = subst (IsListed e) (sym rw_is) (⊎_elim (λ l. early e from to2 l at2 same) (λ more. late e (omega arith)) (cases_lt e count))

    other_lists : (e from to2 : ℕ) (row : List ℕ) → e < count + 1 → slice_get edges e ≡ Some (from, to2) → slice_get rows from ≡ Some row → from ≢ node → IsListed e row
    other_lists e from to2 row less at2 there ne =
        ⊎_elim (λ l. f.lists e from to2 row l at2 there)
        (λ more. let same : e ≡ count = omega arith in
        absurd (ne (ap (λ (p : ℕ × ℕ). p.0) (same_place (slice_get edges e) (from, to2) (node, to) at2 (ap (slice_get edges) same ∙ at)))))
        (cases_lt e count)

    here_leaves : (e from : ℕ) (row : List ℕ) → from ≡ node → IsListed e (get_or rows node [] ++ count ∷ []) → (to2 : ℕ) × (slice_get edges e ≡ Some (from, to2))
    here_leaves e from row same h =
        ⊎_elim (λ old. f.leaves e from (get_or rows node []) (ap (slice_get rows) same ∙ old_at) old)
        (λ is_count. (to, ap (slice_get edges) is_count ∙ at ∙ ap (λ (k : ℕ). Some (k, to)) (sym same)))
        (listed_cases e count (get_or rows node []) h)

pub all_filed : (nodes : ℕ) (edges : List (ℕ × ℕ)) (count : ℕ) (rows : List (List ℕ)) → length edges ≤ count → AreFiled nodes edges count rows → AreOutgoing nodes edges rows
all_filed nodes edges count rows le f = record {
  rows_length = f.rows_length;
  lists = λ e from to row at there. let lt = slice_get_within edges e (from, to) at in f.lists e from to row (omega (arith, lt, le)) at there;
  leaves = f.leaves;
}

-- a row that is longer by an edge, put back into its place
pub put_back : {X : Type 0} (rows : List X) (row_of : X → List ℕ) (node edge : ℕ) (old new : X) → node < length rows → old ≡ get_or rows node old → row_of new ≡ row_of old ++ edge ∷ [] →
    map row_of (slice_set rows node new) ≡ slice_set (map row_of rows) node (get_or (map row_of rows) node [] ++ edge ∷ [])
put_back rows row_of node edge old new lt is grown =
    map-set row_of rows node new
    ∙ ap (λ (l : List ℕ). slice_set (map row_of rows) node l)
    (grown ∙ ap (λ (l : List ℕ). l ++ edge ∷ []) (sym (get_or-map row_of rows node old [] lt ∙ ap row_of (sym is))))
