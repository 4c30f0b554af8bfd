-- Each value that crosses a suspend has a place.
use Rattle.std.proofs.Common.{◌≡◌, ◌⊎◌, inl, inr, ⊎_elim, ℕ, zero, suc, ◌+◌, ◌<◌, Bool, true, false, List, [], ◌∷◌, ◌++◌, length, refl, sym, ap, ◌∙◌, subst, arith}
use Rattle.std.specs.Prelude.{Option, Some, None, replicate, slice_get, slice_set, if◌then◌else◌}
use Rattle.pass_edges_proof.proofs.ir_laws.facts.Truth.{either}
use Rattle.pass_edges_proof.proofs.ir_laws.facts.Lists.{set_here, set_length, set_other, blank_length as blank_long}
use Rattle.pass_edges_proof.proofs.ir_laws.paths.source_rules.Locals.{listed_left, listed_right}
use Rattle.pass_edges_proof.specs.flow_solver.Paths.{IsListed}
use Rattle.ir_model.specs.declared.module.Function.{Function}
use Rattle.pass_edges_proof.specs.ir_paths.declared.point.Point.{Point}
use Rattle.pass_edges_proof.specs.frame_crossing.Crossing.{AreCrossed, CrossedBy, Crosses, LeftOut, More, NoMore, Nothing, Taken, suspends_of}
use Rattle.pass_edges_proof.specs.pass_cells.Kept.{entry, is_new, is_untold, joined, keeping_of, with_value, with_values}
use Rattle.pass_edges_proof.specs.pass_cells.declared.keeping.Keeping.{Keeping}

-- ---- a value that crosses is among the pairs

crossed_at : (f : Function) (v k : ℕ) (ss : List Point) (all : List (ℕ × ℕ)) → AreCrossed f v k ss all → (s : Point) → IsListed s ss → Crosses f v s → (j : ℕ) × IsListed {X = ℕ × ℕ} (v, j) all
crossed_at f v _ _ _ (NoMore k) s l c = absurd l
crossed_at f v _ _ _ (Taken k x ss all crosses rest) s (inl e) c = (k, inl refl)
crossed_at f v _ _ _ (Taken k x ss all crosses rest) s (inr l) c = let r = crossed_at f v (k + 1) ss all rest s l c in (r.0, inr r.1)
crossed_at f v _ _ _ (LeftOut k x ss all never rest) s (inl e) c = absurd (never (subst (Crosses f v) e c))
crossed_at f v _ _ _ (LeftOut k x ss all never rest) s (inr l) c = crossed_at f v (k + 1) ss all rest s l c

pub crossed_listed : (f : Function) (vs : List ℕ) (all : List (ℕ × ℕ)) → CrossedBy f vs all → (v : ℕ) → IsListed v vs → (s : Point) → IsListed s (suspends_of f) → Crosses f v s → (j : ℕ) × IsListed {X = ℕ × ℕ} (v, j) all
crossed_listed f _ _ Nothing v l s suspend c = absurd l
crossed_listed f _ _ (More u vs here rest first more) v (inl e) s suspend c =
    let r = crossed_at f u 0 (suspends_of f) here first s suspend (subst (λ (n : ℕ). Crosses f n s) e c) in
    (r.0, listed_left {A = ℕ × ℕ} (v, r.0) here rest (subst (λ (n : ℕ). IsListed {X = ℕ × ℕ} (n, r.0) here) (sym e) r.1))
crossed_listed f _ _ (More u vs here rest first more) v (inr l) s suspend c =
    let r = crossed_listed f vs rest more v l s suspend c in (r.0, listed_right {A = ℕ × ℕ} (v, r.0) here rest r.1)

-- ---- and is kept

IsPlaced : Keeping → ℕ → Type 0
IsPlaced k v = (at : ℕ) × (entry k.places v ≡ Some at)

untold_entry : (o : Option (Option ℕ)) (at : ℕ) → is_untold o ≡ true → joined o ≡ Some at → ⊥
untold_entry None at h e = absurd (cc)
untold_entry (Some None) at h e = absurd (cc)
untold_entry (Some (Some n)) at h e = absurd (cc)

stays_placed : (k : Keeping) (u v : ℕ) → IsPlaced k v → IsPlaced (with_value k u) v
unfolding IsPlaced
stays_placed k u v h = on (is_new k.places u) refl
  where
    on : (b : Bool) → is_new k.places u ≡ b → (at : ℕ) × (entry ((if b then record { values = k.values ++ u ∷ []; places = slice_set k.places u (Some (length k.values)) } else k).places) v ≡ Some at)
    on true e =
        ⊎_elim
        (λ same. absurd (untold_entry (slice_get k.places u) h.0 e (ap (entry k.places) same ∙ h.1)))
        (λ ne. (h.0, ap joined (set_other k.places u v (Some (length k.values)) ne) ∙ h.1))
        (either u v)
    on false e = h

told_entry : (places : List (Option ℕ)) (v : ℕ) → v < length places → is_new places v ≡ false → (at : ℕ) × (entry places v ≡ Some at)
told_entry [] v lt e = absurd (omega (arith, lt))
told_entry (None ∷ ps) zero lt e = absurd (cc)
told_entry (Some n ∷ ps) zero lt e = (n, refl)
told_entry (p ∷ ps) (suc v) lt e = told_entry ps v (omega (arith, lt)) e

now_placed : (k : Keeping) (v : ℕ) → v < length k.places → IsPlaced (with_value k v) v
unfolding IsPlaced
now_placed k v lt = on (is_new k.places v) refl
  where
    on : (b : Bool) → is_new k.places v ≡ b → (at : ℕ) × (entry ((if b then record { values = k.values ++ v ∷ []; places = slice_set k.places v (Some (length k.values)) } else k).places) v ≡ Some at)
    on true e = (length k.values, ap joined (set_here k.places v (Some (length k.values)) lt))
    on false e = told_entry k.places v lt e

same_long : (k : Keeping) (v : ℕ) → length (with_value k v).places ≡ length k.places
same_long k v = on (is_new k.places v)
  where
    on : (b : Bool) → length ((if b then record { values = k.values ++ v ∷ []; places = slice_set k.places v (Some (length k.values)) } else k).places) ≡ length k.places
    on true = set_length k.places v (Some (length k.values))
    on false = refl

stay_placed : (k : Keeping) (ps : List (ℕ × ℕ)) (v : ℕ) → IsPlaced k v → IsPlaced (with_values k ps) v
stay_placed k [] v h = h
stay_placed k (p ∷ ps) v h = stay_placed (with_value k p.0) ps v (stays_placed k p.0 v h)

all_placed : (k : Keeping) (ps : List (ℕ × ℕ)) (p : ℕ × ℕ) → p.0 < length k.places → IsListed p ps → IsPlaced (with_values k ps) p.0
all_placed k [] p lt l = absurd l
all_placed k (q ∷ ps) p lt (inl e) = stay_placed (with_value k q.0) ps p.0 (subst (λ (n : ℕ). IsPlaced (with_value k n) p.0) (ap (λ (x : ℕ × ℕ). x.0) e) (now_placed k p.0 lt))
all_placed k (q ∷ ps) p lt (inr l) = let long = same_long k q.0 in all_placed (with_value k q.0) ps p (omega (arith, lt, long)) l

pub pair_placed : (count : ℕ) (crossing : List (ℕ × ℕ)) (p : ℕ × ℕ) → p.0 < count → IsListed p crossing → (at : ℕ) × (entry (keeping_of count crossing).places p.0 ≡ Some at)
unfolding IsPlaced
pair_placed count crossing p lt l = let long = blank_long count in all_placed (record { values = []; places = replicate count None }) crossing p (omega (arith, lt, long)) l
