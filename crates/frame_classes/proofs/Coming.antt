-- Paths of questions as paths between points.
use Rattle.std.proofs.Common.{◌≡◌, ◌≢◌, ℕ, zero, suc, ◌+◌, ◌<◌, ◌≤◌, Bool, true, false, ◌||◌, List, [], ◌∷◌, ◌++◌, length, Option, Some, None, refl, sym, ap, ◌∙◌, subst, ⊎_elim, inl, inr, arith}
use Rattle.std.specs.Prelude.{◌↔◌, ◌⊎◌, IsTrue, option_map, slice_get}
use Rattle.std.proofs.lemmas.Bool.{false≢true}
use Rattle.std.proofs.lemmas.Option.{slice_get_within, slice_get-map}
use Rattle.flow_bits.specs.Bits.{HasBit}
use Rattle.flow_solver.specs.Paths.{IsListed}
use Rattle.ir_model.specs.declared.module.Block.{Block}
use Rattle.ir_model.specs.declared.module.Function.{Function}
use Rattle.ir_paths.proofs.Search.{either, has_append, has_left, has_right, or_left, or_right, same_point-itself, same_point-same}
use Rattle.ir_paths.specs.Paths.{block_points, entry_point, has_point, same_point}
use Rattle.ir_paths.specs.Slots.{end_points, points_at}
use Rattle.ir_paths.specs.Windows.{destroy_label, end_block, label_at, resume_label}
use Rattle.ir_paths.specs.declared.point.Point.{Point}
use Rattle.flow_reach.proofs.Avoiding.{comes_reached, leads_reached, reached_from}
use Rattle.flow_reach.specs.Reached.{AreAvoided, AreReachedAt, ComesTo, HaveShape, IsFrom, IsPointOf}
use Rattle.flow_reach.specs.Reached.IsFrom.{FromBegin, FromFront}
use Rattle.frame_classes.proofs.Gathers.{HasSpot, point}
use Rattle.frame_classes.proofs.Passing.{edge_in_front, front_of_edge, way_at, way_front, way_in_front}
use Rattle.frame_classes.proofs.Shapes.{bit_point, point_inside}
use Rattle.frame_classes.proofs.Zips.{begins_complete, begins_sound, stops_are}
use Rattle.frame_classes.specs.Rows.{word_in}
use Rattle.frame_classes.specs.Ways.{coming, fronts_from, leaving, way_of, ways_of}
use Rattle.frame_slots.proofs.Bits.{no_bit}
use Rattle.frame_slots.specs.Spots.{Comes, LeadsFrom, Spot}
use Rattle.frame_slots.specs.Spots.Spot.{At, On}
use Rattle.frame_slots.specs.Words.{word_at_point}
use Rattle.frame_slots.specs.declared.edge.EdgeWord.{EdgeWord}
use Rattle.frame_slots.specs.rule_windows.Windows.{own_edges}

-- of the function's points just those are avoided at which the question ends
pub record Avoids (f : Function) (stops : List (List ℕ)) (c : ℕ) (avoided : List Point) : Type 0 where
  pub each : (p : Point) → IsPointOf f p → IsTrue (has_point avoided p) ↔ HasBit (word_at_point stops p) c

-- something with the question leads to the point
pub record SpotLeads (f : Function) (rows : List (List ℕ)) (edges : List EdgeWord) (c : ℕ) (avoided : List Point) (q : Point) : Type 0 where
  pub spot : Spot
  pub has : HasSpot rows edges c spot
  pub leads : LeadsFrom f avoided spot q

module _ (f : Function) (c : ℕ) (lt : c < 64) (rows : List (List ℕ)) (edges : List EdgeWord) (stops reached : List (List ℕ)) (avoided : List Point)
    (are : AreReachedAt f (coming f rows edges stops) reached) (avoids : Avoids f stops c avoided) where
  coming_known : AreAvoided f (coming f rows edges stops) c avoided
  coming_known = record {
    each = λ p is. (
      λ h. inl ((stops_are stops rows p c).1 ((avoids.each p is).0 h)),
      λ s. ⊎_elim
          (λ h. (avoids.each p is).1 ((stops_are stops rows p c).0 h))
          (λ e. let small = slice_get_within f.blocks p.block is.block is.is_block in absurd (omega (arith, e, small)))
          s,
    );
  }

  pub coming_sound : (q : Point) → HasBit (word_at_point reached q) c → SpotLeads f rows edges c avoided q
  coming_sound q h = by (reached_from f (coming f rows edges stops) c avoided coming_known q ((are.each q c (bit_point f reached are.shape q c h) lt).0 h))
    where
      by : IsFrom f (coming f rows edges stops) c avoided q → SpotLeads f rows edges c avoided q
      by (FromBegin p b l) = record { spot = At p; has = begins_sound stops rows p c b; leads = l }
      by (FromFront block word listed b comes) =
          let e = front_of_edge edges block word listed in
          record {
            spot = On e.0.from e.0.to;
            has = record { word = e.0.word; is_listed = e.1.0; has = subst (λ (w : ℕ). HasBit w c) (sym e.1.1.1) b };
            leads = subst (λ (n : ℕ). ComesTo f avoided (point n 0) q) (sym e.1.1.0) comes;
          }

  pub coming_complete : HaveShape f rows → HaveShape f stops → (q : Point) → IsPointOf f q → (spot : Spot) → HasSpot rows edges c spot → LeadsFrom f avoided spot q → HasBit (word_at_point reached q) c
  coming_complete shape stops_shape q is (At p) h leads =
      let inside = point_inside f stops stops_shape p (bit_point f rows shape p c h) in
      (are.each q c is lt).1 (leads_reached f (coming f rows edges stops) c avoided coming_known p q (begins_complete stops rows p c inside.0 inside.1 h) leads)
  coming_complete shape stops_shape q is (On from to) e leads =
      (are.each q c is lt).1 (comes_reached f (coming f rows edges stops) c avoided coming_known to e.word q (edge_in_front edges (record { from = from; to = to; word = e.word }) e.is_listed) e.has leads)

-- ---- the end block

block_sound : (n k : ℕ) (p : Point) → has_point (block_points n k) p ≡ true → (p.block ≡ n) × (p.at ≤ k)
block_sound n zero p h = ⊎_elim
    (λ e. let same = same_point-same p (point n 0) e in (ap (λ (x : Point). x.block) same, let z = ap (λ (x : Point). x.at) same in omega (arith, z)))
    (λ none. absurd (false≢true none))
    (either (same_point p (point n 0)) false h)
block_sound n (suc k) p h = ⊎_elim
    (λ e. let same = same_point-same p (point n (suc k)) e in (ap (λ (x : Point). x.block) same, let z = ap (λ (x : Point). x.at) same in omega (arith, z)))
    (λ later. let r = block_sound n k p later in let le = r.1 in (r.0, omega (arith, le)))
    (either (same_point p (point n (suc k))) (has_point (block_points n k) p) h)

block_complete : (n k at : ℕ) → at ≤ k → has_point (block_points n k) (point n at) ≡ true
block_complete n zero at le =
    let z : at ≡ 0 = omega arith in
    or_left (same_point (point n at) (point n 0)) false (subst (λ (x : ℕ). same_point (point n at) (point n x) ≡ true) z (same_point-itself (point n at)))
block_complete n (suc k) at le = ⊎_elim
    (λ below. or_right (same_point (point n at) (point n (suc k))) (has_point (block_points n k) (point n at)) (block_complete n k at below))
    (λ same. or_left (same_point (point n at) (point n (suc k))) (has_point (block_points n k) (point n at)) (subst (λ (x : ℕ). same_point (point n at) (point n x) ≡ true) same (same_point-itself (point n at))))
    (split at k le)
  where
    split : (a b : ℕ) → a ≤ suc b → (a ≤ b) ⊎ (a ≡ suc b)
    split zero b le = inl (omega arith)
    split (suc a) zero le = inr (omega arith)
    split (suc a) (suc b) le = ⊎_elim (λ l. inl (omega (arith, l))) (λ e. inr (ap suc e)) (split a b (omega arith))

pub end_sound : (f : Function) (p : Point) → has_point (end_points f) p ≡ true → p.block ≡ end_block f
end_sound f p h = by (slice_get f.blocks (end_block f)) h
  where
    by : (o : Option Block) → has_point (points_at (end_block f) o) p ≡ true → p.block ≡ end_block f
    by None h = absurd (false≢true h)
    by (Some b) h = (block_sound (end_block f) (length b.instrs) p h).0

pub end_complete : (f : Function) (p : Point) → IsPointOf f p → p.block ≡ end_block f → has_point (end_points f) p ≡ true
end_complete f p is e =
    subst (λ (o : Option Block). has_point (points_at (end_block f) o) p ≡ true) (sym (ap (slice_get f.blocks) (sym e) ∙ is.is_block))
    (subst (λ (n : ℕ). has_point (block_points n (length is.block.instrs)) p ≡ true) e (block_complete p.block (length is.block.instrs) p.at is.within))

not_true : (b : Bool) → (b ≡ true → ⊥) → b ≡ false
not_true true n = absurd (n refl)
not_true false n = refl

pub outside_end : (f : Function) (p : Point) → p.block ≢ end_block f → has_point (end_points f) p ≡ false
outside_end f p other = not_true (has_point (end_points f) p) (λ h. other (end_sound f p h))

pub not_in_end : (f : Function) (p : Point) → IsPointOf f p → has_point (end_points f) p ≡ false → p.block ≢ end_block f
not_in_end f p is free e = false≢true (sym free ∙ end_complete f p is e)

-- ---- ways

-- a path comes to the point on a way from a block with the question
pub record WayComes (f : Function) (own : List ℕ) (c : ℕ) (avoided : List Point) (q : Point) : Type 0 where
  pub from : ℕ
  pub owns : HasBit (word_in own from) c
  pub first : Point
  pub is_first : (at : ℕ) → IsTrue (has_point (own_edges f (point from at)) first)
  pub comes : Comes f (avoided ++ end_points f) first q

module _ (f : Function) (c : ℕ) (lt : c < 64) (own : List ℕ) (stops reached : List (List ℕ)) (avoided : List Point)
    (are : AreReachedAt f (leaving (ways_of f) own stops (end_block f)) reached) (avoids : Avoids f stops c avoided) where
  leaving_known : AreAvoided f (leaving (ways_of f) own stops (end_block f)) c (avoided ++ end_points f)
  leaving_known = record {
    each = λ p is. (
      λ h. ⊎_elim
          (λ here. inl ((stops_are stops [] p c).1 ((avoids.each p is).0 here)))
          (λ there. inr (end_sound f p there))
          (has_append avoided (end_points f) p h),
      λ s. ⊎_elim
          (λ h. has_left avoided (end_points f) p ((avoids.each p is).1 ((stops_are stops [] p c).0 h)))
          (λ e. has_right avoided (end_points f) p (end_complete f p is e))
          s,
    );
  }

  first_is : (b : Block) (from at block : ℕ) → slice_get f.blocks from ≡ Some b → (block ≡ (way_of f b).0) ⊎ (block ≡ (way_of f b).1) → has_point (own_edges f (point from at)) (point block 0) ≡ true
  first_is b from at block e either_way =
      let P : Option Block → Type 0 = λ o. has_point (entry_point f (label_at 0 o) ∷ entry_point f (label_at 1 o) ∷ []) (point block 0) ≡ true in
      subst P (sym e)
      (⊎_elim
      (λ one. or_left (same_point (point block 0) (point (way_of f b).0 0)) (same_point (point block 0) (point (way_of f b).1 0) || false) (subst (λ (n : ℕ). same_point (point block 0) (point n 0) ≡ true) one (same_point-itself (point block 0))))
      (λ two. or_right (same_point (point block 0) (point (way_of f b).0 0)) (same_point (point block 0) (point (way_of f b).1 0) || false)
      (or_left (same_point (point block 0) (point (way_of f b).1 0)) false (subst (λ (n : ℕ). same_point (point block 0) (point n 0) ≡ true) two (same_point-itself (point block 0)))))
      either_way)

  pub leaving_sound : (q : Point) → HasBit (word_at_point reached q) c → WayComes f own c avoided q
  leaving_sound q h = by (reached_from f (leaving (ways_of f) own stops (end_block f)) c (avoided ++ end_points f) leaving_known q ((are.each q c (bit_point f reached are.shape q c h) lt).0 h))
    where
      by : IsFrom f (leaving (ways_of f) own stops (end_block f)) c (avoided ++ end_points f) q → WayComes f own c avoided q
      by (FromBegin p b l) = absurd (no_bit c (begins_sound stops [] p c b))
      by (FromFront block word listed b comes) =
          let r = way_front (ways_of f) 0 own block word listed in
          let w = way_at f f.blocks r.at r.way r.is_way in
          let z : 0 + r.at ≡ r.at = omega arith in
          record {
            from = r.at;
            owns = subst (λ (x : ℕ). HasBit x c) (r.is_word ∙ ap (word_in own) z) b;
            first = point block 0;
            is_first = λ at. first_is w.0 r.at at block w.1.0 (subst (λ (x : ℕ × ℕ). (block ≡ x.0) ⊎ (block ≡ x.1)) w.1.1 r.is_either);
            comes = comes;
          }

  pub way_is : (from : ℕ) (b : Block) → slice_get f.blocks from ≡ Some b → slice_get (ways_of f) from ≡ Some (way_of f b)
  way_is from b e = slice_get-map (way_of f) f.blocks from ∙ ap (option_map (way_of f)) e

  pub leaving_complete : (s q : Point) → IsPointOf f s → IsPointOf f q → HasBit (word_in own s.block) c → (first : Point) → has_point (own_edges f s) first ≡ true → Comes f (avoided ++ end_points f) first q → HasBit (word_at_point reached q) c
  leaving_complete s q s_is q_is owns first is_first comes = ⊎_elim
      (λ one. on_way (way_of f s_is.block).0 listed.0 (same_point-same first (entry_point f (resume_label f s)) one ∙ ap (λ (o : Option Block). entry_point f (label_at 0 o)) s_is.is_block))
      (λ rest. ⊎_elim
      (λ two. on_way (way_of f s_is.block).1 listed.1 (same_point-same first (entry_point f (destroy_label f s)) two ∙ ap (λ (o : Option Block). entry_point f (label_at 1 o)) s_is.is_block))
      (λ none. absurd (false≢true none))
      (either (same_point first (entry_point f (destroy_label f s))) false rest))
      (either (same_point first (entry_point f (resume_label f s))) (same_point first (entry_point f (destroy_label f s)) || false) is_first)
    where
      z : 0 + s.block ≡ s.block
      z = omega arith

      listed : IsListed ((way_of f s_is.block).0, word_in own (0 + s.block)) (fronts_from 0 (ways_of f) own) × IsListed ((way_of f s_is.block).1, word_in own (0 + s.block)) (fronts_from 0 (ways_of f) own)
      listed = way_in_front (ways_of f) 0 own s.block (way_of f s_is.block) (way_is s.block s_is.block s_is.is_block)

      on_way : (to : ℕ) → IsListed (to, word_in own (0 + s.block)) (fronts_from 0 (ways_of f) own) → first ≡ point to 0 → HasBit (word_at_point reached q) c
      on_way to is_listed same =
          (are.each q c q_is lt).1
          (comes_reached f (leaving (ways_of f) own stops (end_block f)) c (avoided ++ end_points f) leaving_known to (word_in own (0 + s.block)) q is_listed
          (subst (λ (m : ℕ). HasBit (word_in own m) c) (sym z) owns)
          (subst (λ (p : Point). Comes f (avoided ++ end_points f) p q) same comes))
