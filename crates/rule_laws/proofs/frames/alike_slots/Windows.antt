-- The windows of two functions that are alike.
use Rattle.std.proofs.Common.{◌≡◌, ◌⊎◌, inl, inr, Bool, true, false, List, [], ◌∷◌, map, Some, None, Option, refl, sym, ap, ◌∙◌, subst}
use Rattle.std.specs.List.{cons_option}
use Rattle.std.specs.Prelude.{filter_map, option_map}
use Rattle.ir_laws.proofs.paths.alike_slots.SlotsAlike.{AreLone}
use Rattle.ir_laws.proofs.paths.alike_slots.Strands.{AreStrands}
use Rattle.rule_laws.proofs.frames.alike_slots.Strands.{leads_back, leads_home, to_point}
use Rattle.ir_laws.proofs.paths.expanded.Ways.{has_map, map_has}
use Rattle.ir_laws.specs.ir_model.declared.module.Function.{Function}
use Rattle.ir_laws.specs.ir_model.declared.operand.Intrinsic.{Intrinsic}
use Rattle.ir_laws.proofs.ir_paths.Search.{Has, either, or_left, or_right, same_point-itself, same_point-same}
use Rattle.ir_laws.specs.ir_paths.Paths.{has_point, same_point}
use Rattle.ir_laws.specs.ir_paths.Windows.{IsInWindow, is_call_of, points_where, suspend_of}
use Rattle.ir_laws.specs.ir_paths.declared.point.Point.{Point}
use Rattle.ir_laws.proofs.facts.Truth.{same_truth}
use Rattle.rule_all.specs.rule_slots.Closed.{IsInOneOf, IsInSomeWindow}

-- the point is in the window of a save with its suspend
pub record IsIn (f : Function) (p : Point) : Type 0 where
  pub save : Point
  pub is_save : Has (points_where (is_call_of Intrinsic.CoroSave) f) save
  pub suspend : Point
  pub suspend_is : suspend_of f save ≡ Some suspend
  pub inside : IsInWindow f save suspend p

module _ (f : Function) (p : Point) where
  abbrev pairs : List Point → List (Point × Point)
  pairs ks = filter_map (λ save. option_map (λ suspend. (save, suspend)) (suspend_of f save)) ks

  pub record IsInOf (ks : List Point) : Type 0 where
    pub save : Point
    pub is_save : Has ks save
    pub suspend : Point
    pub suspend_is : suspend_of f save ≡ Some suspend
    pub inside : IsInWindow f save suspend p

  of_one : (ks : List Point) → IsInOneOf f (pairs ks) p → IsInOf ks
  of_one [] h = absurd h
  of_one (k ∷ ks) h = on (suspend_of f k) refl h (of_one ks)
    where
      more : IsInOf ks → IsInOf (k ∷ ks)
      more i = record { save = i.save; is_save = or_right (same_point i.save k) (has_point ks i.save) i.is_save; suspend = i.suspend; suspend_is = i.suspend_is; inside = i.inside }

      on : (o : Option Point) → suspend_of f k ≡ o → IsInOneOf f (cons_option (option_map (λ suspend. (k, suspend)) o) (pairs ks)) p → (IsInOneOf f (pairs ks) p → IsInOf ks) → IsInOf (k ∷ ks)
      on None e h again = more (again h)
      on (Some s) e (inl w) again = record { save = k; is_save = or_left (same_point k k) (has_point ks k) (same_point-itself k); suspend = s; suspend_is = e; inside = w }
      on (Some s) e (inr r) again = more (again r)

  to_one : (ks : List Point) → IsInOf ks → IsInOneOf f (pairs ks) p
  to_one [] i = let no = i.is_save in absurd (cc)
  to_one (k ∷ ks) i = on (suspend_of f k) refl (either (same_point i.save k) (has_point ks i.save) i.is_save) (to_one ks)
    where
      here : i.save ≡ k → suspend_of f k ≡ Some i.suspend
      here e = ap (suspend_of f) (sym e) ∙ i.suspend_is

      later : Has ks i.save → IsInOf ks
      later h = record { save = i.save; is_save = h; suspend = i.suspend; suspend_is = i.suspend_is; inside = i.inside }

      on : (o : Option Point) → suspend_of f k ≡ o → (same_point i.save k ≡ true) ⊎ Has ks i.save → (IsInOf ks → IsInOneOf f (pairs ks) p) → IsInOneOf f (cons_option (option_map (λ suspend. (k, suspend)) o) (pairs ks)) p
      on None e (inl s) again = let is = sym e ∙ here (same_point-same i.save k s) in absurd (cc)
      on None e (inr h) again = again (later h)
      on (Some s) e (inl t) again =
          let save : i.save ≡ k = same_point-same i.save k t in
          let both : Some s ≡ Some i.suspend = sym e ∙ here save in
          let suspend : i.suspend ≡ s = cc in
          inl (subst (λ (x : Point). IsInWindow f k x p) suspend (subst (λ (x : Point). IsInWindow f x i.suspend p) save i.inside))
      on (Some s) e (inr h) again = inr (again (later h))

  pub in_some : IsInSomeWindow f p → IsIn f p
  in_some h =
      let i = of_one (points_where (is_call_of Intrinsic.CoroSave) f) h in
      record { save = i.save; is_save = i.is_save; suspend = i.suspend; suspend_is = i.suspend_is; inside = i.inside }

  pub some_in : IsIn f p → IsInSomeWindow f p
  some_in i = to_one (points_where (is_call_of Intrinsic.CoroSave) f) (record { save = i.save; is_save = i.is_save; suspend = i.suspend; suspend_is = i.suspend_is; inside = i.inside })

-- ---- the window of a save and a suspend that are one point each

module _ (f g : Function) (front back : Point → Point) (strands : AreStrands f g front back) where
  -- points that are one point each in g, with their backs
  pub lone_map : (ps : List Point) → ((p : Point) → Has ps p → front p ≡ back p) → AreLone front back ps (map back ps)
  lone_map ps lone = record {
    carried = record {
      fronts = λ p. same_truth (has_point (map back ps) (front p)) (has_point ps p)
          (λ h. let from = map_has back ps (front p) h in subst (Has ps) (sym (strands.mixed p from.point from.is)) from.there)
          (λ h. subst (Has (map back ps)) (sym (lone p h)) (has_map back ps p h));
      backs = λ p. same_truth (has_point (map back ps) (back p)) (has_point ps p)
          (λ h. let from = map_has back ps (back p) h in subst (Has ps) (sym (strands.backs p from.point from.is)) from.there)
          (has_map back ps p);
    };
    clear = λ q. on q (has_point ps q) refl;
    found = λ x h. let from = map_has back ps x h in (from.point, from.is);
  }
    where
      on : (q : Point) (b : Bool) → has_point ps q ≡ b → (front q ≡ back q) ⊎ (has_point ps q ≡ false)
      on q true e = inl (lone q e)
      on q false e = inr e

  module _ (k s : Point) (lone_save : front k ≡ back k) (lone_suspend : front s ≡ back s) where
    both_lone : AreLone front back (k ∷ s ∷ []) (back k ∷ back s ∷ [])
    both_lone = lone_map (k ∷ s ∷ []) each
      where
        each : (p : Point) → Has (k ∷ s ∷ []) p → front p ≡ back p
        each p h = on (either (same_point p k) (has_point (s ∷ []) p) h)
          where
            second : (same_point p s ≡ true) ⊎ (false ≡ true) → front p ≡ back p
            second (inl e) = let same = same_point-same p s e in ap front same ∙ lone_suspend ∙ sym (ap back same)
            second (inr e) = absurd (cc)

            on : (same_point p k ≡ true) ⊎ Has (s ∷ []) p → front p ≡ back p
            on (inl e) = let same = same_point-same p k e in ap front same ∙ lone_save ∙ sym (ap back same)
            on (inr m) = second (either (same_point p s) false m)

    same_backs : (p q : Point) → same_point (back p) (back q) ≡ same_point p q
    same_backs p q = same_truth (same_point (back p) (back q)) (same_point p q)
        (λ e. let same = strands.backs p q (same_point-same (back p) (back q) e) in ap (λ (x : Point). same_point x q) same ∙ same_point-itself q)
        (λ e. let same = same_point-same p q e in ap (λ (x : Point). same_point (back x) (back q)) same ∙ same_point-itself (back q))

    pub window_forth : (p : Point) → IsInWindow f k s p → IsInWindow g (back k) (back s) (back p)
    window_forth p w = record {
      is_not_save = same_backs p k ∙ w.is_not_save;
      is_not_suspend = same_backs p s ∙ w.is_not_suspend;
      from_save = leads_back f g front back strands (k ∷ s ∷ []) (back k ∷ back s ∷ []) both_lone.carried k p (both_lone.clear p) w.from_save;
      to_suspend = leads_back f g front back strands (k ∷ s ∷ []) (back k ∷ back s ∷ []) both_lone.carried p s (both_lone.clear s) w.to_suspend;
    }

    pub window_home : (p : Point) → IsInWindow g (back k) (back s) (back p) → IsInWindow f k s p
    window_home p w = record {
      is_not_save = sym (same_backs p k) ∙ w.is_not_save;
      is_not_suspend = sym (same_backs p s) ∙ w.is_not_suspend;
      from_save = to_point f g front back strands (k ∷ s ∷ []) (back k ∷ back s ∷ []) both_lone.carried k p (back p) (inr refl) (leads_home f g front back strands (k ∷ s ∷ []) (back k ∷ back s ∷ []) both_lone.carried k (back p) w.from_save);
      to_suspend = to_point f g front back strands (k ∷ s ∷ []) (back k ∷ back s ∷ []) both_lone.carried p s (back s) (inr refl) (leads_home f g front back strands (k ∷ s ∷ []) (back k ∷ back s ∷ []) both_lone.carried p (back s) w.to_suspend);
    }
