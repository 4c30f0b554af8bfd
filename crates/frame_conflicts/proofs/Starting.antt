-- Where slots are started, by the words of their markers.
use Rattle.std.proofs.Common.{◌≡◌, ℕ, ◌<◌, ◌⊎◌, true, false, List, [], length, Some, sym, ap, ◌∙◌, subst, ⊎_elim, inl, inr, arith}
use Rattle.std.specs.Prelude.{slice_get}
use Rattle.std.proofs.lemmas.Bool.{false≢true}
use Rattle.std.proofs.lemmas.Option.{slice_get_within}
use Rattle.flow_bits.specs.Bits.{HasBit}
use Rattle.flow_solver.specs.Paths.{IsListed}
use Rattle.ir_model.specs.declared.module.Function.{Function}
use Rattle.ir_model.specs.declared.operand.Intrinsic.{Intrinsic}
use Rattle.ir_paths.proofs.Search.{has_append, has_left, has_right}
use Rattle.ir_paths.specs.Paths.{has_point}
use Rattle.ir_paths.specs.declared.point.Point.{Point}
use Rattle.frame_classes.proofs.flow_reach.Avoiding.{leads_reached, reached_from}
use Rattle.frame_classes.proofs.flow_reach.Bits.{no_bit}
use Rattle.frame_classes.specs.flow_reach.Reached.{AreAvoided, AreReachedAt, HaveShape, IsFrom, IsReached, begins_at, stops_at, word_at_point}
use Rattle.frame_classes.specs.flow_reach.Reached.IsFrom.{FromBegin, FromFront}
use Rattle.frame_classes.specs.flow_reach.declared.question.Pass.{Pass}
use Rattle.frame_classes.specs.flow_reach.declared.question.Passes.{Passes}
use Rattle.frame_conflicts.proofs.Places.{none_has}
use Rattle.frame_conflicts.proofs.Rows.{HasAt, begins_are, in_rows, of_rows, passes_long, stops_are}
use Rattle.frame_conflicts.specs.Started.{AreStarted, HaveMarkers, IsStarted, pass_rows, rows_word}
use Rattle.frame_classes.specs.Alive.{markers_of}
use Rattle.frame_classes.proofs.frame_slots.Telling.{marker_told}
use Rattle.frame_classes.specs.frame_slots.Told.{AreSlotWords}
use Rattle.frame_classes.specs.frame_slots.Uses.{ends_of, starts_of}
use Rattle.frame_classes.specs.frame_slots.Words.{marker_rows}

module _ (f : Function) (slots words : List ℕ) (known : AreSlotWords slots words) where
  abbrev starts : List (List ℕ)
  starts = marker_rows Intrinsic.LifetimeStart words f

  abbrev ends : List (List ℕ)
  ends = marker_rows Intrinsic.LifetimeEnd words f

  abbrev passes_of : List (List Pass)
  passes_of = pass_rows words f

  -- ---- markers

  pub have_markers : HaveMarkers f slots (rows_word 0 passes_of)
  have_markers = record { marked = some_marker; unmarked = no_marker }
    where
      some_marker : (c slot : ℕ) → c < 64 → slice_get slots c ≡ Some slot → HasBit (rows_word 0 passes_of) c → markers_of f slot ≡ [] → ⊥
      some_marker c slot lt is h none = ⊎_elim
          (λ never. no_bit c never)
          (λ (x : HasAt passes_of c).
          let p : Point = record { block = x.block; at = x.at } in
          ⊎_elim
          (λ stop. has_none p (has_right (starts_of f slot) (ends_of f slot) p ((marker_told Intrinsic.LifetimeEnd f slots words known c slot lt is p).0 (subst (λ (w : ℕ). HasBit w c) (stops_are words f p) stop))))
          (λ begin. has_none p (has_left (starts_of f slot) (ends_of f slot) p ((marker_told Intrinsic.LifetimeStart f slots words known c slot lt is p).0 (subst (λ (w : ℕ). HasBit w c) (begins_are words f p) begin))))
          x.has)
          (of_rows passes_of 0 c h)
        where
          has_none : (p : Point) → has_point (markers_of f slot) p ≡ true → ⊥
          has_none p has = false≢true (sym (ap (λ (l : List Point). has_point l p) none) ∙ has)

      no_marker : (c slot : ℕ) → c < 64 → slice_get slots c ≡ Some slot → (HasBit (rows_word 0 passes_of) c → ⊥) → markers_of f slot ≡ []
      no_marker c slot lt is never = none_has (markers_of f slot) (λ p has. never (in_rows passes_of 0 p.block p.at c (⊎_elim
          (λ s. inr (subst (λ (w : ℕ). HasBit w c) (sym (begins_are words f p)) ((marker_told Intrinsic.LifetimeStart f slots words known c slot lt is p).1 s)))
          (λ e. inl (subst (λ (w : ℕ). HasBit w c) (sym (stops_are words f p)) ((marker_told Intrinsic.LifetimeEnd f slots words known c slot lt is p).1 e)))
          (has_append (starts_of f slot) (ends_of f slot) p has))))

  -- ---- paths

  module _ (passes : Passes) (rows_are : passes.rows ≡ passes_of) (no_fronts : passes.fronts ≡ []) (none_closed : passes.closed ≡ length f.blocks) (c slot : ℕ) (lt : c < 64) (is : slice_get slots c ≡ Some slot) where
    stops_at_point : (p : Point) → stops_at passes.rows p ≡ word_at_point ends p
    stops_at_point p = ap (λ l. stops_at l p) rows_are ∙ stops_are words f p

    begins_at_point : (p : Point) → begins_at passes.rows p ≡ word_at_point starts p
    begins_at_point p = ap (λ l. begins_at l p) rows_are ∙ begins_are words f p

    are_avoided : AreAvoided f passes c (ends_of f slot)
    are_avoided = record {
      each = λ p at. (
        λ has. inl (subst (λ (w : ℕ). HasBit w c) (sym (stops_at_point p)) ((marker_told Intrinsic.LifetimeEnd f slots words known c slot lt is p).1 has)),
        λ stops. ⊎_elim
            (λ h. (marker_told Intrinsic.LifetimeEnd f slots words known c slot lt is p).0 (subst (λ (w : ℕ). HasBit w c) (stops_at_point p) h))
            (λ e. let within = slice_get_within f.blocks p.block at.block at.is_block in absurd (omega (arith, within, e, none_closed)))
            stops,
      );
    }

    pub reached_started : (p : Point) → IsReached f passes c p → IsStarted f slot p
    reached_started p r = by (reached_from f passes c (ends_of f slot) are_avoided p r)
      where
        by : IsFrom f passes c (ends_of f slot) p → IsStarted f slot p
        by (FromBegin s h leads) = record {
          start = s;
          is_start = (marker_told Intrinsic.LifetimeStart f slots words known c slot lt is s).0 (subst (λ (w : ℕ). HasBit w c) (begins_at_point s) h);
          leads = leads;
        }
        by (FromFront block word listed h comes) = absurd (subst (IsListed (block, word)) no_fronts listed)

    pub started_reached : (p : Point) → IsStarted f slot p → IsReached f passes c p
    started_reached p s =
        leads_reached f passes c (ends_of f slot) are_avoided s.start p
        (subst (λ (w : ℕ). HasBit w c) (sym (begins_at_point s.start)) ((marker_told Intrinsic.LifetimeStart f slots words known c slot lt is s.start).1 s.is_start))
        s.leads

  pub are_started : (passes : Passes) (rows : List (List ℕ)) → passes.rows ≡ passes_of → passes.fronts ≡ [] → passes.closed ≡ length f.blocks → AreReachedAt f passes rows → AreStarted f slots rows
  are_started passes rows rows_are no_fronts none_closed r = record {
    each = λ p c slot at lt is. (
      λ h. reached_started passes rows_are no_fronts none_closed c slot lt is p ((r.each p c at lt).0 h),
      λ s. (r.each p c at lt).1 (started_reached passes rows_are no_fronts none_closed c slot lt is p s),
    );
  }

  pub passes_shape : (passes : Passes) → passes.rows ≡ passes_of → HaveShape f passes.rows
  passes_shape passes rows_are = subst (HaveShape f) (sym rows_are) (passes_long words f)
