-- What questions about paths require.
use Rattle.std.proofs.Common.{◌≡◌, ℕ, zero, suc, ◌+◌, ◌<◌, List, [], ◌∷◌, length, map, refl, sym, ap, ◌∙◌, subst, ⊎_elim, inl, inr, arith}
use Rattle.std.specs.Prelude.{◌⊎◌, slice_get, Some}
use Rattle.flow_reach.proofs.flow_blocks.Bounds.{position_bounded}
use Rattle.flow_solver.specs.Paths.{IsListed}
use Rattle.ir_model.specs.declared.module.Block.{Block}
use Rattle.ir_model.specs.declared.module.Function.{Function}
use Rattle.ir_model.specs.declared.operand.Intrinsic.{Intrinsic}
use Rattle.ir_paths.specs.Windows.{label_of_term}
use Rattle.flow_reach.specs.Reached.{AreBlocks, HaveShape}
use Rattle.frame_classes.proofs.Shapes.{shape_of_kept, shape_of_text, shape_of_zip}
use Rattle.frame_classes.specs.Rows.{all_bits, call_rows, call_word, kept_rows, others, pass_by, passes_by, word_in}
use Rattle.frame_classes.specs.Ways.{LeadToBlocks, edge_fronts, fronts_from, way_of, ways_of}
use Rattle.frame_classes.specs.Words.{IsChunkBy, none_rows, parting_rows}
use Rattle.frame_classes.specs.declared.chunk.Chunk.{Chunk}
use Rattle.frame_slots.proofs.Spotting.{edges_within}
use Rattle.frame_slots.specs.Words.{marked, marker_rows, use_rows, used, with_term}
use Rattle.frame_slots.specs.declared.edge.EdgeWord.{EdgeWord}

-- ---- shapes

pub shape_of_passes : (f : Function) (mask : ℕ) (stops begins : List (List ℕ)) → HaveShape f stops → HaveShape f (passes_by (kept_rows mask stops) begins)
shape_of_passes f mask stops begins shape = shape_of_zip f pass_by (kept_rows mask stops) begins (shape_of_kept f mask stops shape)

pub shape_of_calls : (i : Intrinsic) (word : ℕ) (f : Function) → HaveShape f (call_rows i word f)
shape_of_calls i word f = shape_of_text (call_word i word) (λ t. 0) f

pub shape_of_markers : (m : Intrinsic) (words : List ℕ) (f : Function) → HaveShape f (marker_rows m words f)
shape_of_markers m words f = shape_of_text (marked m words) (λ t. 0) f

pub shape_of_uses : (words : List ℕ) (f : Function) → HaveShape f (use_rows words f)
shape_of_uses words f = shape_of_text (used words) (with_term words 0) f

pub shape_of_starts : (f : Function) (c : Chunk) → IsChunkBy f c → HaveShape f c.starts
shape_of_starts f c by = subst (HaveShape f) (sym by.is_chunk.starts) (shape_of_markers Intrinsic.LifetimeStart c.own f)

pub shape_of_parting : (f : Function) (c : Chunk) → IsChunkBy f c → HaveShape f (parting_rows c)
shape_of_parting f c by = shape_of_kept f (others c.escaped) c.starts (shape_of_starts f c by)

pub shape_of_none : (f : Function) → HaveShape f (none_rows f)
shape_of_none f = shape_of_kept f 0 (call_rows Intrinsic.CoroSuspend all_bits f) (shape_of_calls Intrinsic.CoroSuspend all_bits f)

-- ---- fronts

edge_front : (edges : List EdgeWord) (block word : ℕ) → IsListed (block, word) (edge_fronts edges) → (e : EdgeWord) × (IsListed e edges × ((e.to ≡ block) × (e.word ≡ word)))
edge_front [] block word h = absurd h
edge_front (e ∷ edges) block word (inl same) = (e, (inl refl, (sym (ap (λ (x : ℕ × ℕ). x.0) same), sym (ap (λ (x : ℕ × ℕ). x.1) same))))
edge_front (e ∷ edges) block word (inr later) = let r = edge_front edges block word later in (r.0, (inr r.1.0, r.1.1))

-- an edge of which a front comes
pub front_of_edge : (edges : List EdgeWord) (block word : ℕ) → IsListed (block, word) (edge_fronts edges) → (e : EdgeWord) × (IsListed e edges × ((e.to ≡ block) × (e.word ≡ word)))
front_of_edge edges block word h = edge_front edges block word h

pub edge_in_front : (edges : List EdgeWord) (e : EdgeWord) → IsListed e edges → IsListed (e.to, e.word) (edge_fronts edges)
edge_in_front [] e h = absurd h
edge_in_front (x ∷ edges) e (inl same) = inl (ap (λ (y : EdgeWord). (y.to, y.word)) same)
edge_in_front (x ∷ edges) e (inr later) = inr (edge_in_front edges e later)

pub edge_blocks : (f : Function) (edges : List EdgeWord) (fronts : List (ℕ × ℕ)) → fronts ≡ edge_fronts edges → LeadToBlocks f edges → AreBlocks f fronts
edge_blocks f edges fronts e lead block word h =
    let r = edge_front edges block word (subst (λ (l : List (ℕ × ℕ)). IsListed (block, word) l) e h) in
    subst (λ (n : ℕ). n < length f.blocks + 1) r.1.1.0 (lead.each r.0 r.1.0)

-- a front on a way
pub record IsWayFront (ways : List (ℕ × ℕ)) (n : ℕ) (own : List ℕ) (block word : ℕ) : Type 0 where
  pub at : ℕ
  pub way : ℕ × ℕ
  pub is_way : slice_get ways at ≡ Some way
  pub is_either : (block ≡ way.0) ⊎ (block ≡ way.1)
  pub is_word : word ≡ word_in own (n + at)

pub way_front : (ways : List (ℕ × ℕ)) (n : ℕ) (own : List ℕ) (block word : ℕ) → IsListed (block, word) (fronts_from n ways own) → IsWayFront ways n own block word
way_front [] n own block word h = absurd h
way_front (way ∷ ways) n own block word (inl first) =
    let z : n ≡ n + 0 = omega arith in
    record { at = 0; way = way; is_way = refl; is_either = inl (ap (λ (x : ℕ × ℕ). x.0) first); is_word = ap (λ (x : ℕ × ℕ). x.1) first ∙ ap (word_in own) z }
way_front (way ∷ ways) n own block word (inr (inl second)) =
    let z : n ≡ n + 0 = omega arith in
    record { at = 0; way = way; is_way = refl; is_either = inr (ap (λ (x : ℕ × ℕ). x.0) second); is_word = ap (λ (x : ℕ × ℕ). x.1) second ∙ ap (word_in own) z }
way_front (way ∷ ways) n own block word (inr (inr later)) =
    let r = way_front ways (n + 1) own block word later in
    let z : n + 1 + r.at ≡ n + suc r.at = omega arith in
    record { at = suc r.at; way = r.way; is_way = r.is_way; is_either = r.is_either; is_word = r.is_word ∙ ap (word_in own) z }

pub way_in_front : (ways : List (ℕ × ℕ)) (n : ℕ) (own : List ℕ) (at : ℕ) (way : ℕ × ℕ) → slice_get ways at ≡ Some way →
    IsListed (way.0, word_in own (n + at)) (fronts_from n ways own) × IsListed (way.1, word_in own (n + at)) (fronts_from n ways own)
way_in_front [] n own at way e = absurd (cc)
way_in_front (x ∷ ways) n own zero way e =
    let same : way ≡ x = cc in
    let z : n + 0 ≡ n = omega arith in (
      inl (ap (λ (y : ℕ × ℕ). (y.0, word_in own (n + 0))) same ∙ ap (λ (m : ℕ). (x.0, word_in own m)) z),
      inr (inl (ap (λ (y : ℕ × ℕ). (y.1, word_in own (n + 0))) same ∙ ap (λ (m : ℕ). (x.1, word_in own m)) z)),
    )
way_in_front (x ∷ ways) n own (suc at) way e =
    let r = way_in_front ways (n + 1) own at way e in
    let z : n + 1 + at ≡ n + suc at = omega arith in (
      inr (inr (subst (λ (m : ℕ). IsListed (way.0, word_in own m) (fronts_from (n + 1) ways own)) z r.0)),
      inr (inr (subst (λ (m : ℕ). IsListed (way.1, word_in own m) (fronts_from (n + 1) ways own)) z r.1)),
    )

-- the way of a block
pub way_at : (f : Function) (bs : List Block) (at : ℕ) (way : ℕ × ℕ) → slice_get (map (way_of f) bs) at ≡ Some way → (b : Block) × ((slice_get bs at ≡ Some b) × (way ≡ way_of f b))
way_at f [] at way e = absurd (cc)
way_at f (b ∷ bs) zero way e = let same : way ≡ way_of f b = cc in (b, (refl, same))
way_at f (b ∷ bs) (suc at) way e = way_at f bs at way e

pub way_blocks : (f : Function) (ways : List (ℕ × ℕ)) (own : List ℕ) (fronts : List (ℕ × ℕ)) → ways ≡ ways_of f → fronts ≡ fronts_from 0 ways own → AreBlocks f fronts
way_blocks f ways own fronts ew e block word h =
    let r = way_front ways 0 own block word (subst (λ (l : List (ℕ × ℕ)). IsListed (block, word) l) e h) in
    let b = way_at f f.blocks r.at r.way (subst (λ (l : List (ℕ × ℕ)). slice_get l r.at ≡ Some r.way) ew r.is_way) in
    ⊎_elim
    (λ one. subst (λ (n : ℕ). n < length f.blocks + 1) (sym (one ∙ ap (λ (x : ℕ × ℕ). x.0) b.1.1)) (position_bounded f (label_of_term 0 b.0.term)))
    (λ two. subst (λ (n : ℕ). n < length f.blocks + 1) (sym (two ∙ ap (λ (x : ℕ × ℕ). x.1) b.1.1)) (position_bounded f (label_of_term 1 b.0.term)))
    r.is_either

pub no_edges : (f : Function) → LeadToBlocks f []
no_edges f = record { each = λ e h. absurd h }

pub chunk_edges : (f : Function) (c : Chunk) → IsChunkBy f c → LeadToBlocks f c.edges
chunk_edges f c by = record {
  each = λ e h. let lt = edges_within c.addresses f e (subst (λ (l : List EdgeWord). IsListed e l) by.is_chunk.edges h) in omega (arith, lt);
}
