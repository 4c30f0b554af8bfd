-- What the words of a chunk say of one of its slots.
use Rattle.std.proofs.Common.{◌≡◌, ℕ, zero, suc, ◌<◌, Bool, true, false, List, [], ◌∷◌, ◌++◌, length, Some, refl, sym, ap, ◌∙◌, subst, ⊎_elim, inl, inr, arith}
use Rattle.std.specs.Prelude.{◌↔◌, IsTrue, slice_get}
use Rattle.std.proofs.lemmas.Bool.{false≢true}
use Rattle.flow_bits.specs.Bits.{HasBit}
use Rattle.ir_model.specs.declared.module.Block.{Block}
use Rattle.ir_model.specs.declared.module.Function.{Function}
use Rattle.ir_model.specs.declared.operand.Intrinsic.{Intrinsic}
use Rattle.ir_paths.proofs.Search.{has_left, has_right, or_left, same_point-itself}
use Rattle.ir_paths.specs.Paths.{has_point, same_point}
use Rattle.ir_paths.specs.Slots.{is_escaped}
use Rattle.ir_paths.specs.declared.point.Point.{Point}
use Rattle.flow_reach.specs.Reached.{HaveShape, IsPointOf}
use Rattle.frame_classes.proofs.Coming.{Avoids}
use Rattle.frame_classes.proofs.Flips.{no_other, other_bit}
use Rattle.frame_classes.proofs.Gathers.{HasSpot, any_complete, any_sound, rows_before}
use Rattle.frame_classes.proofs.Passing.{shape_of_markers, shape_of_uses}
use Rattle.frame_classes.proofs.Shapes.{bit_point, point_inside, shape_of_kept}
use Rattle.frame_classes.proofs.Zips.{kept_complete, kept_sound, touching_left, touching_right, touching_sound}
use Rattle.frame_classes.specs.Alive.{markers_of}
use Rattle.frame_classes.specs.Classes.{Touches, parting}
use Rattle.frame_classes.specs.Rows.{kept_rows, others, rows_word}
use Rattle.frame_classes.specs.Words.{IsChunkOf, end_rows, parting_rows, touch_rows, unmarked_word}
use Rattle.frame_classes.specs.declared.chunk.Chunk.{Chunk}
use Rattle.frame_slots.specs.rule_slots.Early.{instr_count}
use Rattle.frame_slots.proofs.Bits.{no_bit}
use Rattle.frame_slots.proofs.Spotting.{HasEdge, edge_told, use_told}
use Rattle.frame_slots.proofs.Telling.{escaped_told, marker_told}
use Rattle.frame_slots.specs.Spots.{IsStart, IsUse, Spot, point_at}
use Rattle.frame_slots.specs.Spots.Spot.{At, On}
use Rattle.frame_slots.specs.Uses.{ends_of, starts_of}
use Rattle.frame_slots.specs.Words.{marker_rows, use_rows, word_at_point}
use Rattle.frame_slots.specs.declared.edge.EdgeWord.{EdgeWord}

-- ---- lists of points

no_points : (ps : List Point) → ((p : Point) → has_point ps p ≡ true → ⊥) → ps ≡ []
no_points [] n = refl
no_points (p ∷ ps) n = absurd (n p (or_left (same_point p p) (has_point ps p) (same_point-itself p)))

-- ---- one slot

module _ (f : Function) (slots : List ℕ) (ch : Chunk) (is : IsChunkOf f slots ch) (c slot : ℕ) (lt : c < 64) (at : slice_get slots c ≡ Some slot) where
  same_rows : (a b : List (List ℕ)) (p : Point) → a ≡ b → HasBit (word_at_point a p) c → HasBit (word_at_point b p) c
  same_rows a b p e h = subst (λ (r : List (List ℕ)). HasBit (word_at_point r p) c) e h

  -- uses
  pub use_sound : (spot : Spot) → HasSpot ch.uses ch.edges c spot → IsUse f slot spot
  use_sound (At p) h = (use_told f slots ch.addresses is.addresses c slot lt at p).0 (same_rows ch.uses (use_rows ch.addresses f) p is.uses h)
  use_sound (On from to) h = (edge_told f slots ch.addresses is.addresses c slot lt at from to).0 (subst (λ (l : List EdgeWord). HasEdge l from to c) is.edges h)

  pub use_complete : (spot : Spot) → IsUse f slot spot → HasSpot ch.uses ch.edges c spot
  use_complete (At p) u = same_rows (use_rows ch.addresses f) ch.uses p (sym is.uses) ((use_told f slots ch.addresses is.addresses c slot lt at p).1 u)
  use_complete (On from to) u = subst (λ (l : List EdgeWord). HasEdge l from to c) (sym is.edges) ((edge_told f slots ch.addresses is.addresses c slot lt at from to).1 u)

  pub uses_shape : HaveShape f ch.uses
  uses_shape = subst (HaveShape f) (sym is.uses) (shape_of_uses ch.addresses f)

  -- escaped
  pub escaped_sound : HasBit ch.escaped c → is_escaped f slot ≡ true
  escaped_sound h = (escaped_told f slots ch.addresses is.addresses c slot lt at).0 (subst (λ (w : ℕ). HasBit w c) is.escaped h)

  pub escaped_complete : is_escaped f slot ≡ true → HasBit ch.escaped c
  escaped_complete e = subst (λ (w : ℕ). HasBit w c) (sym is.escaped) ((escaped_told f slots ch.addresses is.addresses c slot lt at).1 e)

  -- markers
  pub start_sound : (p : Point) → HasBit (word_at_point ch.starts p) c → has_point (starts_of f slot) p ≡ true
  start_sound p h = (marker_told Intrinsic.LifetimeStart f slots ch.own is.own c slot lt at p).0 (same_rows ch.starts (marker_rows Intrinsic.LifetimeStart ch.own f) p is.starts h)

  pub start_complete : (p : Point) → has_point (starts_of f slot) p ≡ true → HasBit (word_at_point ch.starts p) c
  start_complete p h = same_rows (marker_rows Intrinsic.LifetimeStart ch.own f) ch.starts p (sym is.starts) ((marker_told Intrinsic.LifetimeStart f slots ch.own is.own c slot lt at p).1 h)

  pub end_sound : (p : Point) → HasBit (word_at_point (end_rows f ch) p) c → has_point (ends_of f slot) p ≡ true
  end_sound p h = (marker_told Intrinsic.LifetimeEnd f slots ch.own is.own c slot lt at p).0 h

  pub end_complete : (p : Point) → has_point (ends_of f slot) p ≡ true → HasBit (word_at_point (end_rows f ch) p) c
  end_complete p h = (marker_told Intrinsic.LifetimeEnd f slots ch.own is.own c slot lt at p).1 h

  pub starts_shape : HaveShape f ch.starts
  starts_shape = subst (HaveShape f) (sym is.starts) (shape_of_markers Intrinsic.LifetimeStart ch.own f)

  -- the ends of a slot that is escaped
  pub alive_stops_shape : HaveShape f (kept_rows ch.escaped (end_rows f ch))
  alive_stops_shape = shape_of_kept f ch.escaped (end_rows f ch) (shape_of_markers Intrinsic.LifetimeEnd ch.own f)

  pub avoids_ends : is_escaped f slot ≡ true → Avoids f (kept_rows ch.escaped (end_rows f ch)) c (ends_of f slot)
  avoids_ends e = record {
    each = λ p p_is. (
      λ h. kept_complete ch.escaped (end_rows f ch) p c (end_complete p h) (escaped_complete e),
      λ h. end_sound p (kept_sound ch.escaped (end_rows f ch) p c h).0,
    );
  }

  -- the starts that part uses
  pub avoids_parting : Avoids f (parting_rows ch) c (parting (is_escaped f slot) f slot)
  avoids_parting = record { each = λ p p_is. by (is_escaped f slot) refl p }
    where
      by : (b : Bool) → is_escaped f slot ≡ b → (p : Point) → IsTrue (has_point (parting b f slot) p) ↔ HasBit (word_at_point (parting_rows ch) p) c
      by true e p = (
        λ h. absurd (false≢true h),
        λ h. absurd (no_other ch.escaped c lt (kept_sound (others ch.escaped) ch.starts p c h).1 (escaped_complete e)),
      )
      by false e p = (
        λ h. kept_complete (others ch.escaped) ch.starts p c (start_complete p h) (other_bit ch.escaped c lt (λ k. false≢true (sym e ∙ escaped_sound k))),
        λ h. start_sound p (kept_sound (others ch.escaped) ch.starts p c h).0,
      )

  -- touches
  start_at : (spot : Spot) → IsStart f slot spot → (p : Point) → spot ≡ At p → has_point (starts_of f slot) p ≡ true
  start_at _ (IsStart.Marked q h) p e = let same : q ≡ p = cc in subst (λ (x : Point). has_point (starts_of f slot) x ≡ true) same h

  never_on : (spot : Spot) → IsStart f slot spot → (from to : ℕ) → spot ≡ On from to → ⊥
  never_on _ (IsStart.Marked q h) from to e = cc

  pub touch_sound : (spot : Spot) → HasSpot (touch_rows ch) ch.edges c spot → Touches f slot spot
  touch_sound (At p) h = ⊎_elim
      (λ used. inl (use_sound (At p) used))
      (λ started. inr (escaped_sound started.1, IsStart.Marked p (start_sound p started.0)))
      (touching_sound ch.escaped ch.uses ch.starts p c h)
  touch_sound (On from to) h = inl (use_sound (On from to) h)

  pub touch_complete : (spot : Spot) → Touches f slot spot → HasSpot (touch_rows ch) ch.edges c spot
  touch_complete (At p) t = ⊎_elim
      (λ u. touching_left ch.escaped ch.uses ch.starts p c (use_complete (At p) u))
      (λ s.
      let started = start_complete p (start_at (At p) s.1 p refl) in
      let inside = point_inside f ch.uses uses_shape p (bit_point f ch.starts starts_shape p c started) in
      touching_right ch.escaped ch.uses ch.starts p c inside.0 inside.1 started (escaped_complete s.0))
      t
  touch_complete (On from to) t = ⊎_elim (λ u. use_complete (On from to) u) (λ s. absurd (never_on (On from to) s.1 from to refl)) t

  -- ---- points

  block_in : (bs : List Block) (k : ℕ) → k < length bs → (b : Block) × (slice_get bs k ≡ Some b)
  block_in [] k less = absurd (omega arith)
  block_in (b ∷ bs) zero less = (b, refl)
  block_in (b ∷ bs) (suc k) less = block_in bs k (omega arith)

  pub use_point : (spot : Spot) → IsUse f slot spot → IsPointOf f (point_at f spot)
  use_point (At p) u = bit_point f ch.uses uses_shape p c (use_complete (At p) u)
  use_point (On from to) u =
      let b = block_in f.blocks from u.uses.0 in
      record { block = b.0; is_block = b.1; within = let e = ap instr_count b.1 in omega (arith, e) }

  pub touch_point : (spot : Spot) → Touches f slot spot → IsPointOf f (point_at f spot)
  touch_point (At p) t = ⊎_elim (λ u. use_point (At p) u) (λ s. bit_point f ch.starts starts_shape p c (start_complete p (start_at (At p) s.1 p refl))) t
  touch_point (On from to) t = ⊎_elim (λ u. use_point (On from to) u) (λ s. absurd (never_on (On from to) s.1 from to refl)) t

  -- ---- slots without markers

  empty_left : (xs ys : List Point) → xs ++ ys ≡ [] → xs ≡ []
  empty_left [] ys e = refl
  empty_left (x ∷ xs) ys e = absurd (cc)

  both_empty : (xs ys : List Point) → xs ≡ [] → ys ≡ [] → xs ++ ys ≡ []
  both_empty xs ys e k = ap (λ (l : List Point). l ++ ys) e ∙ k

  no_bits : markers_of f slot ≡ [] → HasBit (rows_word (rows_word 0 ch.starts) (end_rows f ch)) c → ⊥
  no_bits e h = ⊎_elim
      (λ first. ⊎_elim
      (λ none. no_bit c none)
      (λ s. none_there s.0 (has_left (starts_of f slot) (ends_of f slot) s.0 (start_sound s.0 s.1)))
      (any_sound 0 ch.starts c first))
      (λ s. none_there s.0 (has_right (starts_of f slot) (ends_of f slot) s.0 (end_sound s.0 s.1)))
      (any_sound (rows_word 0 ch.starts) (end_rows f ch) c h)
    where
      none_there : (p : Point) → has_point (markers_of f slot) p ≡ true → ⊥
      none_there p k = false≢true (ap (λ (l : List Point). has_point l p) (sym e) ∙ k)

  pub unmarked_sound : HasBit (unmarked_word f ch) c → markers_of f slot ≡ []
  unmarked_sound h =
      let never = no_other (rows_word (rows_word 0 ch.starts) (end_rows f ch)) c lt h in
      both_empty (starts_of f slot) (ends_of f slot)
      (no_points (starts_of f slot) (λ p k. never (rows_before (rows_word 0 ch.starts) (end_rows f ch) c (any_complete 0 ch.starts c p (start_complete p k)))))
      (no_points (ends_of f slot) (λ p k. never (any_complete (rows_word 0 ch.starts) (end_rows f ch) c p (end_complete p k))))

  pub unmarked_complete : markers_of f slot ≡ [] → HasBit (unmarked_word f ch) c
  unmarked_complete e = other_bit (rows_word (rows_word 0 ch.starts) (end_rows f ch)) c lt (no_bits e)
