-- What is touched behind suspends.
use Rattle.std.proofs.Common.{◌≡◌, ℕ, ◌<◌, true, List, [], ◌∷◌, Option, Some, None, refl, sym, ap, ◌∙◌, subst, ⊎_elim, inl, inr}
use Rattle.std.specs.Prelude.{◌==◌, slice_get}
use Rattle.std.proofs.lemmas.Bool.{false≢true}
use Rattle.flow_bits.specs.Bits.{HasBit}
use Rattle.flow_solver.specs.Paths.{IsListed}
use Rattle.ir_model.specs.Names.{position_of}
use Rattle.ir_model.specs.declared.module.Block.{Block}
use Rattle.ir_model.specs.declared.module.Function.{Function}
use Rattle.ir_paths.proofs.Search.{either, eq_from, eq_itself, or_left, or_right}
use Rattle.ir_paths.specs.Windows.{end_block, label_at}
use Rattle.ir_paths.specs.declared.point.Point.{Point}
use Rattle.flow_reach.specs.Reached.{IsPointOf}
use Rattle.frame_classes.proofs.Coming.{Avoids, leaving_complete, leaving_sound, not_in_end, outside_end, way_is}
use Rattle.frame_classes.proofs.Gathers.{HasSpot, block_complete, block_sound, point, spots_complete, spots_sound, ways_before, ways_cases, ways_met}
use Rattle.frame_classes.proofs.Passing.{way_at}
use Rattle.frame_classes.proofs.Places.{cleared_complete, cleared_sound}
use Rattle.frame_classes.specs.Rows.{block_words}
use Rattle.frame_classes.specs.Ways.{is_either, way_of, ways_of}
use Rattle.frame_classes.specs.Words.{AreBehindRows, late_word, spots_word}
use Rattle.frame_slots.specs.Spots.{IsBehind, Spot, point_at}
use Rattle.frame_slots.specs.Spots.Spot.{On}
use Rattle.frame_slots.specs.Words.{word_at_point}
use Rattle.frame_slots.specs.declared.edge.EdgeWord.{EdgeWord}
use Rattle.frame_slots.specs.rule_window_values.Kept.{own_blocks}

-- something with the question stands behind a suspend that has it
pub record IsLate (f : Function) (touches : List (List ℕ)) (edges : List EdgeWord) (c : ℕ) (rows : List (List ℕ)) (avoided : List Point) : Type 0 where
  pub suspend : Point
  pub comes : HasBit (word_at_point rows suspend) c
  pub spot : Spot
  pub stands : HasSpot touches edges c spot
  pub behind : IsBehind f suspend avoided spot

way_listed : (f : Function) (from at to : ℕ) → is_either to (slice_get (ways_of f) from) ≡ true → IsListed to (own_blocks f (point from at))
way_listed f from at to h = by (slice_get (ways_of f) from) refl h
  where
    by : (o : Option (ℕ × ℕ)) → slice_get (ways_of f) from ≡ o → is_either to o ≡ true → IsListed to (own_blocks f (point from at))
    by None e h = absurd (false≢true h)
    by (Some way) e h =
        let b = way_at f f.blocks from way e in
        let P : Option Block → Type 0 = λ o. IsListed to (position_of f (label_at 0 o) ∷ position_of f (label_at 1 o) ∷ []) in
        subst P (sym b.1.0)
        (⊎_elim
        (λ one. inl (eq_from to way.0 one ∙ ap (λ (x : ℕ × ℕ). x.0) b.1.1))
        (λ two. inr (inl (eq_from to way.1 two ∙ ap (λ (x : ℕ × ℕ). x.1) b.1.1)))
        (either (to == way.0) (to == way.1) h))

listed_way : (f : Function) (s : Point) (to : ℕ) → (is : IsPointOf f s) → IsListed to (own_blocks f s) → is_either to (Some (way_of f is.block)) ≡ true
listed_way f s to is h =
    let P : Option Block → Type 0 = λ o. IsListed to (position_of f (label_at 0 o) ∷ position_of f (label_at 1 o) ∷ []) in
    ⊎_elim
    (λ one. or_left (to == (way_of f is.block).0) (to == (way_of f is.block).1) (subst (λ (n : ℕ). (to == n) ≡ true) one (eq_itself to)))
    (λ rest. ⊎_elim
    (λ two. or_right (to == (way_of f is.block).0) (to == (way_of f is.block).1) (subst (λ (n : ℕ). (to == n) ≡ true) two (eq_itself to)))
    (λ none. absurd none)
    rest)
    (subst P is.is_block h)

module _ (f : Function) (c : ℕ) (lt : c < 64) (touches : List (List ℕ)) (edges : List EdgeWord) (rows : List (List ℕ)) (avoided : List Point) (stops behind : List (List ℕ))
    (are : AreBehindRows f (block_words rows) stops behind) (avoids : Avoids f stops c avoided) where
  pub late_sound : HasBit (late_word f touches edges (block_words rows) behind) c → IsLate f touches edges c rows avoided
  late_sound h = ⊎_elim
      (λ spots.
      let m = spots_sound f touches edges behind c spots in
      let two = cleared_sound are.reached (end_block f) (point_at f m.spot) c (subst (λ (r : List (List ℕ)). HasBit (word_at_point r (point_at f m.spot)) c) are.is m.met) in
      let w = leaving_sound f c lt (block_words rows) stops are.reached avoided are.are_reached avoids (point_at f m.spot) two.1 in
      let s = block_sound rows w.from c w.owns in
      record {
        suspend = point w.from s.0;
        comes = s.1;
        spot = m.spot;
        stands = m.has;
        behind = IsBehind.Later m.spot w.first (w.is_first s.0) w.comes (outside_end f (point_at f m.spot) two.0);
      })
      (λ on.
      let s = block_sound rows on.edge.from c on.owns in
      record {
        suspend = point on.edge.from s.0;
        comes = s.1;
        spot = On on.edge.from on.edge.to;
        stands = record { word = on.edge.word; is_listed = on.is_listed; has = on.has };
        behind = IsBehind.OnEdge on.edge.to (way_listed f on.edge.from s.0 on.edge.to on.is_way);
      })
      (ways_cases (ways_of f) (block_words rows) (spots_word f touches edges behind) edges c h)

  pub late_complete : (s : Point) → IsPointOf f s → HasBit (word_at_point rows s) c → (spot : Spot) → IsPointOf f (point_at f spot) → IsBehind f s avoided spot → HasSpot touches edges c spot → HasBit (late_word f touches edges (block_words rows) behind) c
  late_complete s s_is has _ is (IsBehind.OnEdge to listed) e =
      ways_met (ways_of f) (block_words rows) (spots_word f touches edges behind) edges c (record { from = s.block; to = to; word = e.word }) e.is_listed e.has
      (ap (is_either to) (way_is f c lt (block_words rows) stops are.reached avoided are.are_reached avoids s.block s_is.block s_is.is_block) ∙ listed_way f s to s_is listed)
      (block_complete rows s.block s.at c has)
  late_complete s s_is has _ is (IsBehind.Later spot r first comes outside) stands =
      let q = point_at f spot in
      let reached = leaving_complete f c lt (block_words rows) stops are.reached avoided are.are_reached avoids s q s_is is (block_complete rows s.block s.at c has) r first comes in
      let met = cleared_complete are.reached (end_block f) q c (not_in_end f q is outside) reached in
      ways_before (ways_of f) (block_words rows) (spots_word f touches edges behind) edges c
      (spots_complete f touches edges behind c spot stands (subst (λ (x : List (List ℕ)). HasBit (word_at_point x q) c) (sym are.is) met))
