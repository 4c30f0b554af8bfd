-- All words of rows together, and what stands on edges.
use Rattle.std.proofs.Common.{◌≡◌, ℕ, zero, suc, Bool, true, false, List, [], ◌∷◌, Option, Some, None, refl, sym, subst, ⊎_elim, inl, inr}
use Rattle.std.specs.Prelude.{◌⊎◌, bit_and, bit_or, option_map, slice_get, unwrap_or}
use Rattle.std.proofs.lemmas.Option.{slice_get-map}
use Rattle.flow_bits.specs.Bits.{HasBit}
use Rattle.flow_solver.specs.Paths.{IsListed}
use Rattle.ir_model.specs.declared.module.Function.{Function}
use Rattle.ir_paths.specs.declared.point.Point.{Point}
use Rattle.frame_classes.specs.Rows.{block_words, common, row_word, rows_word, word_in}
use Rattle.frame_classes.specs.Ways.{edges_word, is_either, own_if, ways_word}
use Rattle.frame_classes.specs.Words.{spots_word}
use Rattle.frame_classes.proofs.Zips.{common_complete, common_sound}
use Rattle.frame_slots.specs.rule_slots.Early.{end_at}
use Rattle.frame_slots.proofs.Bits.{both_bits, common_bit, left_bit, no_bit, one_bit, right_bit}
use Rattle.frame_slots.proofs.Spotting.{HasEdge}
use Rattle.frame_slots.specs.Spots.{Spot, point_at}
use Rattle.frame_slots.specs.Spots.Spot.{At, On}
use Rattle.frame_slots.specs.Words.{word_at_point}
use Rattle.frame_slots.specs.declared.edge.EdgeWord.{EdgeWord}

-- ---- rows

pub row_cases : (word : ℕ) (row : List ℕ) (c : ℕ) → HasBit (row_word word row) c → HasBit word c ⊎ ((at : ℕ) × HasBit (word_in row at) c)
row_cases word [] c h = inl h
row_cases word (w ∷ row) c h = ⊎_elim
    (λ before. ⊎_elim (λ l. inl l) (λ r. inr (0, r)) (one_bit word w c before))
    (λ later. inr (suc later.0, later.1))
    (row_cases (bit_or word w) row c h)

pub row_before : (word : ℕ) (row : List ℕ) (c : ℕ) → HasBit word c → HasBit (row_word word row) c
row_before word [] c h = h
row_before word (w ∷ row) c h = row_before (bit_or word w) row c (left_bit word w c h)

pub row_place : (word : ℕ) (row : List ℕ) (c at : ℕ) → HasBit (word_in row at) c → HasBit (row_word word row) c
row_place word [] c at h = absurd (no_bit c h)
row_place word (w ∷ row) c zero h = row_before (bit_or word w) row c (right_bit word w c h)
row_place word (w ∷ row) c (suc at) h = row_place (bit_or word w) row c at h

abbrev pub point : ℕ → ℕ → Point
point block at = record { block = block; at = at }

rows_cases : (word : ℕ) (rows : List (List ℕ)) (c : ℕ) → HasBit (rows_word word rows) c → HasBit word c ⊎ ((block : ℕ) × ((at : ℕ) × HasBit (word_at_point rows (point block at)) c))
rows_cases word [] c h = inl h
rows_cases word (row ∷ rows) c h = ⊎_elim
    (λ before. ⊎_elim (λ l. inl l) (λ r. inr (0, (r.0, r.1))) (row_cases word row c before))
    (λ later. inr (suc later.0, later.1))
    (rows_cases (row_word word row) rows c h)

pub rows_before : (word : ℕ) (rows : List (List ℕ)) (c : ℕ) → HasBit word c → HasBit (rows_word word rows) c
rows_before word [] c h = h
rows_before word (row ∷ rows) c h = rows_before (row_word word row) rows c (row_before word row c h)

rows_place : (word : ℕ) (rows : List (List ℕ)) (c block at : ℕ) → HasBit (word_at_point rows (point block at)) c → HasBit (rows_word word rows) c
rows_place word [] c block at h = absurd (no_bit c h)
rows_place word (row ∷ rows) c zero at h = rows_before (row_word word row) rows c (row_place word row c at h)
rows_place word (row ∷ rows) c (suc block) at h = rows_place (row_word word row) rows c block at h

-- the words together have the bits of each
pub any_sound : (word : ℕ) (rows : List (List ℕ)) (c : ℕ) → HasBit (rows_word word rows) c → HasBit word c ⊎ ((p : Point) × HasBit (word_at_point rows p) c)
any_sound word rows c h = ⊎_elim (λ l. inl l) (λ r. inr (point r.0 r.1.0, r.1.1)) (rows_cases word rows c h)

pub any_complete : (word : ℕ) (rows : List (List ℕ)) (c : ℕ) (p : Point) → HasBit (word_at_point rows p) c → HasBit (rows_word word rows) c
any_complete word rows c p h = rows_place word rows c p.block p.at h

-- the word of a block has the bits of its row
pub block_sound : (rows : List (List ℕ)) (block c : ℕ) → HasBit (word_in (block_words rows) block) c → (at : ℕ) × HasBit (word_at_point rows (point block at)) c
block_sound rows block c h = by (slice_get rows block) refl (subst (λ (o : Option ℕ). HasBit (unwrap_or o 0) c) (slice_get-map (row_word 0) rows block) h)
  where
    by : (o : Option (List ℕ)) → slice_get rows block ≡ o → HasBit (unwrap_or (option_map (row_word 0) o) 0) c → (at : ℕ) × HasBit (word_at_point rows (point block at)) c
    by None e h = absurd (no_bit c h)
    by (Some row) e h = ⊎_elim
        (λ none. absurd (no_bit c none))
        (λ found. (found.0, subst (λ (o : Option (List ℕ)). HasBit (word_in (unwrap_or o []) found.0) c) (sym e) found.1))
        (row_cases 0 row c h)

pub block_complete : (rows : List (List ℕ)) (block at c : ℕ) → HasBit (word_at_point rows (point block at)) c → HasBit (word_in (block_words rows) block) c
block_complete rows block at c h = subst (λ (o : Option ℕ). HasBit (unwrap_or o 0) c) (sym (slice_get-map (row_word 0) rows block)) (by (slice_get rows block) h)
  where
    by : (o : Option (List ℕ)) → HasBit (word_in (unwrap_or o []) at) c → HasBit (unwrap_or (option_map (row_word 0) o) 0) c
    by None h = absurd (no_bit c h)
    by (Some row) h = row_place 0 row c at h

-- ---- edges

pub record OnEdges (f : Function) (rows : List (List ℕ)) (edges : List EdgeWord) (c : ℕ) : Type 0 where
  pub edge : EdgeWord
  pub is_listed : IsListed edge edges
  pub has : HasBit edge.word c
  pub met : HasBit (word_at_point rows (end_at f edge.from)) c

edges_cases : (f : Function) (rows : List (List ℕ)) (word : ℕ) (edges : List EdgeWord) (c : ℕ) → HasBit (edges_word f rows word edges) c → HasBit word c ⊎ OnEdges f rows edges c
edges_cases f rows word [] c h = inl h
edges_cases f rows word (e ∷ edges) c h = ⊎_elim
    (λ before. ⊎_elim
    (λ l. inl l)
    (λ r. let two = both_bits e.word (word_at_point rows (end_at f e.from)) c r in inr (record { edge = e; is_listed = inl refl; has = two.0; met = two.1 }))
    (one_bit word (bit_and e.word (word_at_point rows (end_at f e.from))) c before))
    (λ later. inr (record { edge = later.edge; is_listed = inr later.is_listed; has = later.has; met = later.met }))
    (edges_cases f rows (bit_or word (bit_and e.word (word_at_point rows (end_at f e.from)))) edges c h)

edges_before : (f : Function) (rows : List (List ℕ)) (word : ℕ) (edges : List EdgeWord) (c : ℕ) → HasBit word c → HasBit (edges_word f rows word edges) c
edges_before f rows word [] c h = h
edges_before f rows word (e ∷ edges) c h = edges_before f rows (bit_or word (bit_and e.word (word_at_point rows (end_at f e.from)))) edges c (left_bit word (bit_and e.word (word_at_point rows (end_at f e.from))) c h)

edges_met : (f : Function) (rows : List (List ℕ)) (word : ℕ) (edges : List EdgeWord) (c : ℕ) (e : EdgeWord) → IsListed e edges → HasBit e.word c → HasBit (word_at_point rows (end_at f e.from)) c → HasBit (edges_word f rows word edges) c
edges_met f rows word [] c e listed has met = absurd listed
edges_met f rows word (x ∷ edges) c e (inl same) has met =
    edges_before f rows (bit_or word (bit_and x.word (word_at_point rows (end_at f x.from)))) edges c
    (right_bit word (bit_and x.word (word_at_point rows (end_at f x.from))) c
    (subst (λ (y : EdgeWord). HasBit (bit_and y.word (word_at_point rows (end_at f y.from))) c) same (common_bit e.word (word_at_point rows (end_at f e.from)) c has met)))
edges_met f rows word (x ∷ edges) c e (inr later) has met = edges_met f rows (bit_or word (bit_and x.word (word_at_point rows (end_at f x.from)))) edges c e later has met

pub record OnWays (ways : List (ℕ × ℕ)) (own : List ℕ) (edges : List EdgeWord) (c : ℕ) : Type 0 where
  pub edge : EdgeWord
  pub is_listed : IsListed edge edges
  pub has : HasBit edge.word c
  pub is_way : is_either edge.to (slice_get ways edge.from) ≡ true
  pub owns : HasBit (word_in own edge.from) c

own_cases : (b : Bool) (word own c : ℕ) → HasBit (own_if b word own) c → (b ≡ true) × (HasBit word c × HasBit own c)
own_cases true word own c h = (refl, both_bits word own c h)
own_cases false word own c h = absurd (no_bit c h)

own_met : (b : Bool) (word own c : ℕ) → b ≡ true → HasBit word c → HasBit own c → HasBit (own_if b word own) c
own_met true word own c e h k = common_bit word own c h k
own_met false word own c e h k = absurd (cc)

pub ways_cases : (ways : List (ℕ × ℕ)) (own : List ℕ) (word : ℕ) (edges : List EdgeWord) (c : ℕ) → HasBit (ways_word ways own word edges) c → HasBit word c ⊎ OnWays ways own edges c
ways_cases ways own word [] c h = inl h
ways_cases ways own word (e ∷ edges) c h = ⊎_elim
    (λ before. ⊎_elim
    (λ l. inl l)
    (λ r. let three = own_cases (is_either e.to (slice_get ways e.from)) e.word (word_in own e.from) c r in inr (record { edge = e; is_listed = inl refl; has = three.1.0; is_way = three.0; owns = three.1.1 }))
    (one_bit word (own_if (is_either e.to (slice_get ways e.from)) e.word (word_in own e.from)) c before))
    (λ later. inr (record { edge = later.edge; is_listed = inr later.is_listed; has = later.has; is_way = later.is_way; owns = later.owns }))
    (ways_cases ways own (bit_or word (own_if (is_either e.to (slice_get ways e.from)) e.word (word_in own e.from))) edges c h)

pub ways_before : (ways : List (ℕ × ℕ)) (own : List ℕ) (word : ℕ) (edges : List EdgeWord) (c : ℕ) → HasBit word c → HasBit (ways_word ways own word edges) c
ways_before ways own word [] c h = h
ways_before ways own word (e ∷ edges) c h =
    ways_before ways own (bit_or word (own_if (is_either e.to (slice_get ways e.from)) e.word (word_in own e.from))) edges c (left_bit word (own_if (is_either e.to (slice_get ways e.from)) e.word (word_in own e.from)) c h)

pub ways_met : (ways : List (ℕ × ℕ)) (own : List ℕ) (word : ℕ) (edges : List EdgeWord) (c : ℕ) (e : EdgeWord) → IsListed e edges → HasBit e.word c → is_either e.to (slice_get ways e.from) ≡ true → HasBit (word_in own e.from) c → HasBit (ways_word ways own word edges) c
ways_met ways own word [] c e listed has way owns = absurd listed
ways_met ways own word (x ∷ edges) c e (inl same) has way owns =
    ways_before ways own (bit_or word (own_if (is_either x.to (slice_get ways x.from)) x.word (word_in own x.from))) edges c
    (right_bit word (own_if (is_either x.to (slice_get ways x.from)) x.word (word_in own x.from)) c
    (subst (λ (y : EdgeWord). HasBit (own_if (is_either y.to (slice_get ways y.from)) y.word (word_in own y.from)) c) same (own_met (is_either e.to (slice_get ways e.from)) e.word (word_in own e.from) c way has owns)))
ways_met ways own word (x ∷ edges) c e (inr later) has way owns = ways_met ways own (bit_or word (own_if (is_either x.to (slice_get ways x.from)) x.word (word_in own x.from))) edges c e later has way owns

-- ---- spots

-- something with the question stands there, by rows and edges
abbrev pub HasSpot : List (List ℕ) → List EdgeWord → ℕ → Spot → Type 0
HasSpot rows edges c (At p) = HasBit (word_at_point rows p) c
HasSpot rows edges c (On from to) = HasEdge edges from to c

pub record IsMet (f : Function) (rows : List (List ℕ)) (edges : List EdgeWord) (words : List (List ℕ)) (c : ℕ) : Type 0 where
  pub spot : Spot
  pub has : HasSpot rows edges c spot
  pub met : HasBit (word_at_point words (point_at f spot)) c

pub spots_sound : (f : Function) (rows : List (List ℕ)) (edges : List EdgeWord) (words : List (List ℕ)) (c : ℕ) → HasBit (spots_word f rows edges words) c → IsMet f rows edges words c
spots_sound f rows edges words c h = ⊎_elim
    (λ here. ⊎_elim
    (λ none. absurd (no_bit c none))
    (λ found. let two = common_sound rows words found.0 c found.1 in record { spot = At found.0; has = two.0; met = two.1 })
    (any_sound 0 (common rows words) c here))
    (λ on. record { spot = On on.edge.from on.edge.to; has = record { word = on.edge.word; is_listed = on.is_listed; has = on.has }; met = on.met })
    (edges_cases f words (rows_word 0 (common rows words)) edges c h)

pub spots_complete : (f : Function) (rows : List (List ℕ)) (edges : List EdgeWord) (words : List (List ℕ)) (c : ℕ) (spot : Spot) → HasSpot rows edges c spot → HasBit (word_at_point words (point_at f spot)) c → HasBit (spots_word f rows edges words) c
spots_complete f rows edges words c (At p) h met =
    edges_before f words (rows_word 0 (common rows words)) edges c (any_complete 0 (common rows words) c p (common_complete rows words p c h met))
spots_complete f rows edges words c (On from to) e met =
    edges_met f words (rows_word 0 (common rows words)) edges c (record { from = from; to = to; word = e.word }) e.is_listed e.has met
