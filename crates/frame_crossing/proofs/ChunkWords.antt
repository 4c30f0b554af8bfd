-- What the functions of a chunk give, put together.
use Rattle.std.proofs.Common.{◌≡◌, ℕ, ◌+◌, ◌%◌, ◌<◌, List, ◌∷◌, ◌++◌, length, map, replicate, Some, Option, sym, ap, ◌∙◌, subst, ⊎_elim, arith}
use Rattle.std.specs.Prelude.{filter, reverse, slice_get, slice_set}
use Rattle.flow_bits.specs.Reaching.{AnswersAt, StartAt}
use Rattle.rule_uses.proofs.flow_blocks.Bounds.{edge_bounded}
use Rattle.rule_uses.proofs.flow_blocks.Elements.{listed_append, listed_map}
use Rattle.rule_uses.specs.flow_blocks.Edges.{block_edges, graph_of}
use Rattle.rule_uses.specs.Questions.{all_bits, block_word}
use Rattle.flow_solver.proofs.Lists.{listed_at}
use Rattle.flow_solver.specs.Paths.{HasNodes, IsListed}
use Rattle.flow_solver.specs.declared.graph.Graph.{Graph}
use Rattle.ir_model.specs.declared.module.Block.{Block}
use Rattle.ir_model.specs.declared.module.Function.{Function}
use Rattle.ir_paths.specs.Windows.{end_block}
use Rattle.frame_crossing.proofs.Bits.{own_bit}
use Rattle.frame_crossing.proofs.Seeing.{seen_told, told_seen}
use Rattle.frame_crossing.proofs.Solving.{edge_listed, in_filter, in_reverse, needed_told, open_within, told_needed}
use Rattle.frame_crossing.proofs.Telling.{suspends_told}
use Rattle.frame_crossing.specs.EdgeUses.{edge_uses, is_behind, is_edge, way_of}
use Rattle.frame_crossing.specs.Words.{AreNumbered, IsPlanOf, TellChunk, block_open, crossing_words, kept_back, made_starts, needed_starts, open_starts, params_word, turned, use_start, use_words}
use Rattle.frame_crossing.specs.declared.edge_use.EdgeUse.{EdgeUse}
use Rattle.frame_crossing.specs.declared.plan.Plan.{Plan}

-- ---- the questions begin at nodes

pub made_within : (f : Function) (g : Graph) (word : ℕ) (made : List ℕ) (edges starts : List (ℕ × ℕ)) → g ≡ graph_of f → edges ≡ g.edges → starts ≡ (0, word) ∷ made_starts made edges → StartAt g.nodes starts
made_within f g word made edges starts is edges_are starts_are i node w at =
    subst (λ (x : Graph). node < x.nodes) (sym is) (⊎_elim
    (λ e. let first = ap (λ (p : ℕ × ℕ). p.0) e in omega (arith, first))
    (λ later.
    let found = listed_map (λ (e : ℕ × ℕ). (e.1, Rattle.rule_uses.specs.flow_blocks.Words.word_at made e.0)) (node, w) edges later in
    let edge : IsListed (found.0.0, found.0.1) (block_edges f) = subst (λ (l : List (ℕ × ℕ)). IsListed (found.0.0, found.0.1) l) (edges_are ∙ ap (λ (x : Graph). x.edges) is) found.1.0 in
    let lt = (edge_bounded f found.0.0 found.0.1 edge).1 in
    let same = ap (λ (p : ℕ × ℕ). p.0) found.1.1 in
    omega (arith, lt, same))
    (subst (IsListed (node, w)) starts_are (listed_at starts i (node, w) at)))

turned_nodes : (f : Function) → HasNodes (length f.blocks + 1) (map turned (block_edges f))
turned_nodes f e from to at =
    let found : (x : ℕ × ℕ) × (IsListed x (block_edges f) × ((from, to) ≡ turned x)) = listed_map turned (from, to) (block_edges f) (listed_at (map turned (block_edges f)) e (from, to) at) in
    let bounds = edge_bounded f found.0.0 found.0.1 found.1.0 in
    let first : from ≡ found.0.1 = ap (λ (p : ℕ × ℕ). p.0) found.1.1 in
    let second : to ≡ found.0.0 = ap (λ (p : ℕ × ℕ). p.1) found.1.1 in
    (omega (arith, first, bounds.1), omega (arith, second, bounds.0))

pub back_has_nodes : (f : Function) (g : Graph) → g ≡ record { nodes = length f.blocks + 1; edges = map turned (block_edges f) } → HasNodes g.nodes g.edges
back_has_nodes f g is = subst (λ (x : Graph). HasNodes x.nodes x.edges) (sym is) (turned_nodes f)

pub needed_within : (f : Function) (g : Graph) (numbers : List (Option ℕ)) (chunk : ℕ) (stops opens : List ℕ) (uses uses2 : List EdgeUse) (starts first : List (ℕ × ℕ)) →
    g ≡ record { nodes = length f.blocks + 1; edges = map turned (block_edges f) } → length opens ≡ length f.blocks → uses ≡ filter (is_edge (block_edges f)) (edge_uses f) → uses2 ≡ uses →
    first ≡ open_starts 0 opens → starts ≡ reverse (first ++ map (use_start numbers chunk stops) uses2) → StartAt g.nodes starts
needed_within f g numbers chunk stops opens uses uses2 starts first is len uses_are same first_is starts_are i node w at =
    subst (λ (x : Graph). node < x.nodes) (sym is) (⊎_elim
    (λ h. let lt = open_within 0 opens node w h in omega (arith, lt, len))
    (λ h.
    let found : (u : EdgeUse) × (IsListed u uses2 × ((node, w) ≡ use_start numbers chunk stops u)) = listed_map (use_start numbers chunk stops) (node, w) uses2 h in
    let kept = in_filter (is_edge (block_edges f)) found.0 (edge_uses f) (subst (IsListed found.0) (same ∙ uses_are) found.1.0) in
    let lt = (edge_bounded f found.0.from found.0.to (edge_listed (block_edges f) found.0.from found.0.to kept.1)).0 in
    let first = ap (λ (p : ℕ × ℕ). p.0) found.1.1 in
    omega (arith, lt, first))
    (listed_append (node, w) (open_starts 0 opens) (map (use_start numbers chunk stops) uses2)
    (in_reverse (node, w) (open_starts 0 opens ++ map (use_start numbers chunk stops) uses2) (subst (IsListed (node, w)) (starts_are ∙ ap (λ (l : List (ℕ × ℕ)). reverse (l ++ map (use_start numbers chunk stops) uses2)) first_is) (listed_at starts i (node, w) at)))))

-- ---- a chunk

module _ (f : Function) (numbers : List (Option ℕ)) (chunk : ℕ) where
  abbrev made : List ℕ
  made = map (block_word numbers chunk) f.blocks

  abbrev stops : List ℕ
  stops = slice_set made (end_block f) all_bits

  abbrev opens : List ℕ
  opens = slice_set (map (block_open numbers chunk) f.blocks) (end_block f) 0

  abbrev uses : List EdgeUse
  uses = filter (is_edge (block_edges f)) (edge_uses f)

  abbrev ways : List (ℕ × ℕ)
  ways = map (way_of f) f.blocks

  abbrev own : List ℕ
  own = use_words numbers chunk (replicate (length f.blocks) 0) (filter (is_behind ways) (edge_uses f))

  abbrev back : List (ℕ × ℕ)
  back = map turned (block_edges f)

  abbrev AnswerSeen : List ℕ → Type 0
  AnswerSeen seen = (node word : ℕ) → slice_get seen node ≡ Some word → AnswersAt (block_edges f) (replicate (length (block_edges f)) all_bits) ((0, params_word numbers chunk 0 f.params) ∷ made_starts made (block_edges f)) node word

  abbrev AnswerNeeded : List ℕ → Type 0
  AnswerNeeded needed = (node word : ℕ) → slice_get needed node ≡ Some word → AnswersAt back (map (kept_back stops) back) (needed_starts numbers chunk stops opens uses) node word

  chunk_tells : (values : List ℕ) → AreNumbered (length f.names) numbers values → (seen needed : List ℕ) → length seen ≡ length f.blocks + 1 → AnswerSeen seen → length needed ≡ length f.blocks + 1 → AnswerNeeded needed →
      TellChunk f numbers chunk (crossing_words numbers chunk seen own needed ways 0 f.blocks)
  chunk_tells values numbered seen needed seen_length seen_answers needed_length needed_answers v k at is listed =
      let o = own_bit (length f.names) numbers values numbered.numbering chunk v k at is in
      suspends_told f numbers chunk v (k % 64) o listed needed
      (told_needed f numbers chunk v (k % 64) o needed needed_length needed_answers)
      (needed_told f numbers chunk v (k % 64) o needed needed_length needed_answers)
      seen
      (told_seen f numbers chunk v (k % 64) o seen seen_length seen_answers)
      (seen_told f numbers chunk v (k % 64) o seen seen_length seen_answers)

pub chunk_told : (f : Function) (p : Plan) (numbers : List (Option ℕ)) (values : List ℕ) (chunk : ℕ) (blocks : List Block) (made made2 stops2 opens2 seen seen2 needed needed2 own own2 words : List ℕ) (behind2 : List EdgeUse) (n : ℕ) →
    IsPlanOf f p → AreNumbered (length f.names) numbers values → blocks ≡ f.blocks → made ≡ map (block_word numbers chunk) blocks → made2 ≡ made →
    length seen ≡ p.graph.nodes →
    ((node word : ℕ) → slice_get seen node ≡ Some word → AnswersAt p.graph.edges (replicate (length p.graph.edges) all_bits) ((0, params_word numbers chunk 0 f.params) ∷ made_starts made2 p.graph.edges) node word) →
    stops2 ≡ slice_set made p.end all_bits → opens2 ≡ slice_set (map (block_open numbers chunk) blocks) p.end 0 →
    length needed ≡ p.back.nodes →
    ((node word : ℕ) → slice_get needed node ≡ Some word → AnswersAt p.back.edges (map (kept_back stops2) p.back.edges) (needed_starts numbers chunk stops2 opens2 p.uses) node word) →
    n ≡ length blocks → behind2 ≡ p.behind → own ≡ use_words numbers chunk (replicate n 0) behind2 → seen2 ≡ seen → own2 ≡ own → needed2 ≡ needed →
    words ≡ crossing_words numbers chunk seen2 own2 needed2 p.ways 0 blocks → TellChunk f numbers chunk words
chunk_told f p numbers values chunk blocks made2 made3 stops2 opens2 seen seen2 needed needed2 own2 own3 words behind2 n is numbered blocks_are made_is made_same seen_length seen_answers stops_are opens_are needed_length needed_answers n_is behind_same own_is seen_same own_same needed_same words_are =
    subst (TellChunk f numbers chunk) (sym all_words)
    (chunk_tells f numbers chunk values numbered seen needed (seen_length ∙ ap (λ (g : Graph). g.nodes) is.graph) seen_all (needed_length ∙ ap (λ (g : Graph). g.nodes) is.back) needed_all)
  where
    made_all : made2 ≡ made f numbers chunk
    made_all = made_is ∙ ap (map (block_word numbers chunk)) blocks_are

    stops_all : stops2 ≡ stops f numbers chunk
    stops_all = stops_are ∙ ap (λ (l : List ℕ). slice_set l p.end all_bits) made_all ∙ ap (λ (e : ℕ). slice_set (made f numbers chunk) e all_bits) is.end

    opens_all : opens2 ≡ opens f numbers chunk
    opens_all = opens_are ∙ ap (λ (l : List Block). slice_set (map (block_open numbers chunk) l) p.end 0) blocks_are ∙ ap (λ (e : ℕ). slice_set (map (block_open numbers chunk) f.blocks) e 0) is.end

    own_all : own2 ≡ own f numbers chunk
    own_all =
        own_is
        ∙ ap (λ (k : ℕ). use_words numbers chunk (replicate k 0) behind2) (n_is ∙ ap length blocks_are)
        ∙ ap (use_words numbers chunk (replicate (length f.blocks) 0)) (behind_same ∙ is.behind ∙ ap (λ (l : List (ℕ × ℕ)). filter (is_behind l) (edge_uses f)) is.ways)

    all_words : words ≡ crossing_words numbers chunk seen (own f numbers chunk) needed (ways f numbers chunk) 0 f.blocks
    all_words =
        words_are
        ∙ ap (λ (l : List ℕ). crossing_words numbers chunk l own3 needed2 p.ways 0 blocks) seen_same
        ∙ ap (λ (l : List ℕ). crossing_words numbers chunk seen l needed2 p.ways 0 blocks) (own_same ∙ own_all)
        ∙ ap (λ (l : List ℕ). crossing_words numbers chunk seen (own f numbers chunk) l p.ways 0 blocks) needed_same
        ∙ ap (λ (l : List (ℕ × ℕ)). crossing_words numbers chunk seen (own f numbers chunk) needed l 0 blocks) is.ways
        ∙ ap (λ (l : List Block). crossing_words numbers chunk seen (own f numbers chunk) needed (ways f numbers chunk) 0 l) blocks_are

    seen_all : AnswerSeen f numbers chunk seen
    seen_all node word at =
        subst (λ (m : List ℕ). AnswersAt (block_edges f) (replicate (length (block_edges f)) all_bits) ((0, params_word numbers chunk 0 f.params) ∷ made_starts m (block_edges f)) node word) (made_same ∙ made_all)
        (subst (λ (g : Graph). AnswersAt g.edges (replicate (length g.edges) all_bits) ((0, params_word numbers chunk 0 f.params) ∷ made_starts made3 g.edges) node word) is.graph (seen_answers node word at))

    needed_all : AnswerNeeded f numbers chunk needed
    needed_all node word at =
        subst (λ (u : List EdgeUse). AnswersAt (back f numbers chunk) (map (kept_back (stops f numbers chunk)) (back f numbers chunk)) (needed_starts numbers chunk (stops f numbers chunk) (opens f numbers chunk) u) node word) is.uses
        (subst (λ (x : List ℕ). AnswersAt (back f numbers chunk) (map (kept_back (stops f numbers chunk)) (back f numbers chunk)) (needed_starts numbers chunk (stops f numbers chunk) x p.uses) node word) opens_all
        (subst (λ (x : List ℕ). AnswersAt (back f numbers chunk) (map (kept_back x) (back f numbers chunk)) (needed_starts numbers chunk x opens2 p.uses) node word) stops_all
        (subst (λ (g : Graph). AnswersAt g.edges (map (kept_back stops2) g.edges) (needed_starts numbers chunk stops2 opens2 p.uses) node word) is.back (needed_answers node word at))))
