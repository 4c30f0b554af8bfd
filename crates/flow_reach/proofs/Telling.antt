-- The words of points, put together.
use Rattle.std.proofs.Common.{◌≡◌, ℕ, ◌+◌, ◌<◌, List, [], ◌++◌, length, map, Some, sym, ap, ◌∙◌, subst, ⊎_elim, arith}
use Rattle.std.proofs.lemmas.Option.{slice_get_within}
use Rattle.std.specs.Prelude.{slice_get, unwrap_or}
use Rattle.flow_bits.specs.Bits.{HasBit}
use Rattle.flow_bits.specs.Reaching.{AnswersAt, StartAt}
use Rattle.flow_blocks.proofs.Bounds.{edge_bounded}
use Rattle.flow_blocks.proofs.Elements.{listed_append, listed_map}
use Rattle.flow_blocks.specs.Edges.{block_edges, graph_of}
use Rattle.flow_blocks.specs.Words.{word_at}
use Rattle.flow_solver.proofs.Lists.{listed_at}
use Rattle.flow_solver.specs.Paths.{IsListed}
use Rattle.flow_solver.specs.declared.graph.Graph.{Graph}
use Rattle.ir_model.specs.declared.module.Function.{Function}
use Rattle.ir_paths.specs.declared.point.Point.{Point}
use Rattle.flow_reach.proofs.Each.{HasRow, each_gets, length_each, row_of_block}
use Rattle.flow_reach.proofs.Fronts.{all_told, has_reached, to_points, walk}
use Rattle.flow_reach.proofs.Stepping.{length_words, word_after, word_stands}
use Rattle.flow_reach.specs.Reached.{AreBlocks, AreReachedAt, HaveShape, IsPointOf, IsReached, word_at_point}
use Rattle.flow_reach.specs.Rows.{each_from, kept_word, made_of, made_start, shut_of, stops_of, words_of}
use Rattle.flow_reach.specs.declared.question.Pass.{Pass}
use Rattle.flow_reach.specs.declared.question.Passes.{Passes}

module _ (f : Function) (passes : Passes) (shape : HaveShape f passes.rows) (fronts : AreBlocks f passes.fronts) (words : List ℕ) (len : length words ≡ length f.blocks + 1)
    (answers : (node word : ℕ) → slice_get words node ≡ Some word → AnswersAt (block_edges f) (map (kept_word (each_from (stops_of passes.closed) 0 passes.rows)) (block_edges f)) (passes.fronts ++ map (made_start (each_from (made_of passes.closed) 0 passes.rows)) (block_edges f)) node word) where
  abbrev all : List (List ℕ)
  all = each_from (words_of passes.closed words) 0 passes.rows

  point_word : (p : Point) (row : List Pass) → slice_get passes.rows p.block ≡ Some row → p.at < length row → word_at_point all p ≡ word_after (shut_of passes.closed p.block) (word_at words p.block) row p.at
  point_word p row is_row lt =
      let z : 0 + p.block ≡ p.block = omega arith in
      ap (λ (r : List ℕ). unwrap_or (slice_get r p.at) 0)
      (ap (λ o. unwrap_or o []) (each_gets (words_of passes.closed words) 0 passes.rows p.block row is_row) ∙ ap (λ (n : ℕ). words_of passes.closed words n row) z)
      ∙ ap (λ o. unwrap_or o 0) (word_stands (shut_of passes.closed p.block) (word_at words p.block) row p.at lt)

  pub are_reached_at : AreReachedAt f passes all
  are_reached_at = record {
    shape = length_each (words_of passes.closed words) length (λ at row. length_words (shut_of passes.closed at) (word_at words at) row) 0 passes.rows ∙ shape;
    each = λ p c is small. (to p c is small, from p c is small);
  }
    where
      bound : (p : Point) → IsPointOf f p → p.block < length f.blocks + 1
      bound p is = let lt = within f.blocks p.block is.block is.is_block in omega (arith, lt)
        where
          within : {X : Type 0} (xs : List X) (k : ℕ) (x : X) → slice_get xs k ≡ Some x → k < length xs
          within xs k x e = slice_get_within xs k x e

      to : (p : Point) (c : ℕ) → IsPointOf f p → c < 64 → HasBit (word_at_point all p) c → IsReached f passes c p
      to p c is small h =
          let r : HasRow passes.rows p.block (length is.block.instrs) = row_of_block passes.rows f.blocks shape p.block is.block is.is_block in
          let le = is.within in
          let long = r.is_long in
          walk f passes c small shape p.block is.block is.is_block r.row r.is_row r.is_long p.at is.within (word_at words p.block)
          (λ has. to_points f passes c small shape p.block (has_reached f passes c small shape fronts words len answers p.block (bound p is) has))
          (subst (λ (w : ℕ). HasBit w c) (point_word p r.row r.is_row (omega (arith, le, long))) h)

      from : (p : Point) (c : ℕ) → IsPointOf f p → c < 64 → IsReached f passes c p → HasBit (word_at_point all p) c
      from p c is small reached =
          let r : HasRow passes.rows p.block (length is.block.instrs) = row_of_block passes.rows f.blocks shape p.block is.block is.is_block in
          let le = is.within in
          let long = r.is_long in
          subst (λ (w : ℕ). HasBit w c) (sym (point_word p r.row r.is_row (omega (arith, le, long))))
          (subst (λ (l : List Pass). HasBit (word_after (shut_of passes.closed p.block) (word_at words p.block) l p.at) c) (ap (λ o. unwrap_or o []) r.is_row)
          (all_told f passes c small shape fronts words len answers p reached))

pub points_told : (f : Function) (g : Graph) (passes : Passes) (rows : List (List Pass)) (fronts : List (ℕ × ℕ)) (made made2 stops stops2 words words2 : List ℕ) (out : List (List ℕ)) →
    g ≡ graph_of f → HaveShape f passes.rows → AreBlocks f passes.fronts → rows ≡ passes.rows → fronts ≡ passes.fronts →
    made ≡ each_from (made_of passes.closed) 0 rows → made2 ≡ made → stops ≡ each_from (stops_of passes.closed) 0 rows → stops2 ≡ stops → length words ≡ length f.blocks + 1 →
    ((node word : ℕ) → slice_get words node ≡ Some word → AnswersAt g.edges (map (kept_word stops2) g.edges) (fronts ++ map (made_start made2) g.edges) node word) →
    words2 ≡ words → out ≡ each_from (words_of passes.closed words2) 0 rows → AreReachedAt f passes out
points_told f g passes rows fronts made made2 stops stops2 words words2 out is shape blocks rows_is fronts_is made_is made_same stops_is stops_same len answers words_same out_is =
    subst (AreReachedAt f passes) (sym (out_is ∙ ap (λ (w : List ℕ). each_from (words_of passes.closed w) 0 rows) words_same ∙ ap (each_from (words_of passes.closed words) 0) rows_is))
    (are_reached_at f passes shape blocks words len answers_all)
  where
    made_all : made2 ≡ each_from (made_of passes.closed) 0 passes.rows
    made_all = made_same ∙ made_is ∙ ap (each_from (made_of passes.closed) 0) rows_is

    stops_all : stops2 ≡ each_from (stops_of passes.closed) 0 passes.rows
    stops_all = stops_same ∙ stops_is ∙ ap (each_from (stops_of passes.closed) 0) rows_is

    answers_all : (node word : ℕ) → slice_get words node ≡ Some word → AnswersAt (block_edges f) (map (kept_word (each_from (stops_of passes.closed) 0 passes.rows)) (block_edges f)) (passes.fronts ++ map (made_start (each_from (made_of passes.closed) 0 passes.rows)) (block_edges f)) node word
    answers_all node word at =
        subst (λ (m : List ℕ). AnswersAt (block_edges f) (map (kept_word (each_from (stops_of passes.closed) 0 passes.rows)) (block_edges f)) (passes.fronts ++ map (made_start m) (block_edges f)) node word) made_all
        (subst (λ (s : List ℕ). AnswersAt (block_edges f) (map (kept_word s) (block_edges f)) (passes.fronts ++ map (made_start made2) (block_edges f)) node word) stops_all
        (subst (λ (l : List (ℕ × ℕ)). AnswersAt (block_edges f) (map (kept_word stops2) (block_edges f)) (l ++ map (made_start made2) (block_edges f)) node word) fronts_is
        (subst (λ (x : Graph). AnswersAt x.edges (map (kept_word stops2) x.edges) (fronts ++ map (made_start made2) x.edges) node word) is (answers node word at))))

-- all paths begin at nodes
pub starts_within : (f : Function) (g : Graph) (fronts edges starts : List (ℕ × ℕ)) (made : List ℕ) → g ≡ graph_of f → AreBlocks f fronts → edges ≡ g.edges → starts ≡ fronts ++ map (made_start made) edges → StartAt g.nodes starts
starts_within f g fronts edges starts made is blocks edges_are starts_are i node word at =
    subst (λ (x : Graph). node < x.nodes) (sym is) (⊎_elim
    (λ front. blocks node word front)
    (λ out.
    let found : (e : ℕ × ℕ) × (IsListed e edges × ((node, word) ≡ made_start made e)) = listed_map (made_start made) (node, word) edges out in
    let edge : IsListed (found.0.0, found.0.1) (block_edges f) = subst (λ (l : List (ℕ × ℕ)). IsListed (found.0.0, found.0.1) l) (edges_are ∙ ap (λ (x : Graph). x.edges) is) found.1.0 in
    let lt = (edge_bounded f found.0.0 found.0.1 edge).1 in
    let same = ap (λ (p : ℕ × ℕ). p.0) found.1.1 in
    omega (arith, lt, same))
    (listed_append (node, word) fronts (map (made_start made) edges) (subst (IsListed (node, word)) starts_are (listed_at starts i (node, word) at))))
