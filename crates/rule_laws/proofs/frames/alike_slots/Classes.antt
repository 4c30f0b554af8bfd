-- The classes of slots, where slots may be alive at suspends, and which slots conflict, in functions that are alike.
use Rattle.std.proofs.Common.{◌≡◌, ℕ, inl, inr, Bool, true, false, List, [], length, Some, refl, sym, ap, ◌∙◌, subst, ◌↔◌}
use Rattle.std.specs.Prelude.{slice_get}
use Rattle.ir_laws.proofs.paths.alike_slots.SlotsAlike.{AreLone}
use Rattle.rule_laws.proofs.frames.alike_slots.SlotsAlike.{AreSlotsAlike, after_forth, after_home, alive_forth, alive_home, none_lone}
use Rattle.rule_laws.proofs.frames.alike_slots.Spots.{IsOfSpot, behind_forth, behind_home, from_forth, from_home, moved_spot, point_moved, start_forth, start_home, use_forth, use_home}
use Rattle.rule_laws.proofs.frames.alike_slots.Strands.{none_carried}
use Rattle.ir_laws.proofs.paths.expanded.Ways.{has_map, map_has}
use Rattle.ir_laws.specs.ir_model.declared.module.Function.{Function}
use Rattle.ir_laws.proofs.ir_paths.Search.{Has}
use Rattle.ir_laws.specs.ir_paths.Paths.{has_point}
use Rattle.ir_laws.specs.ir_paths.Slots.{allocas_of, is_escaped}
use Rattle.ir_laws.specs.ir_paths.declared.point.Point.{Point}
use Rattle.frame_contents.specs.frame_classes.Classes.{AreClasses, IsAliveAcross, IsOf, IsUsedAcross, IsUsedAway, MeetsLater, NeedsFrame, Touches, parting, suspends}
use Rattle.frame_contents.specs.frame_classes.Classes.NeedsFrame.{Promise, Away, Across, Alive}
use Rattle.frame_contents.specs.frame_classes.declared.class.SlotClass.{SlotClass}
use Rattle.rule_all.specs.rule_slots.Closed.{IsClosed}
use Rattle.frame_contents.specs.frame_slots.Spots.{IsBehind, LeadsFrom, Spot, point_at}

module _ (f g : Function) (front back : Point → Point) (Name : ℕ → Type 0) (alike : AreSlotsAlike f g front back Name) where
  abbrev moved : Spot → Spot
  moved s = moved_spot back s

  -- ---- suspends, touches and closed points

  suspend_forth : (s : Point) → Has (suspends f) s → Has (suspends g) (back s)
  suspend_forth s h = ap (λ (ps : List Point). has_point ps (back s)) alike.suspends_moved ∙ has_map back (suspends f) s h

  suspend_home : (x : Point) → Has (suspends g) x → (s : Point) × ((x ≡ back s) × Has (suspends f) s)
  suspend_home x h =
      let from = map_has back (suspends f) x (ap (λ (ps : List Point). has_point ps x) (sym alike.suspends_moved) ∙ h) in
      (from.point, (from.is, from.there))

  touch_forth : (slot : ℕ) (s : Spot) → Name slot → Touches f slot s → Touches g slot (moved s)
  touch_forth slot s name (inl u) = inl (use_forth f g front back Name alike slot s name u)
  touch_forth slot s name (inr h) = inr (alike.escaped slot name ∙ h.0, start_forth f g front back Name alike slot s name h.1)

  abbrev OfSpot : (Spot → Type 0) → Spot → Type 0
  OfSpot P t = IsOfSpot f g front back Name alike P t

  touch_home : (slot : ℕ) (t : Spot) → Name slot → Touches g slot t → OfSpot (Touches f slot) t
  touch_home slot t name (inl u) = let from = use_home f g front back Name alike slot t name u in record { spot = from.spot; is = from.is; holds = inl from.holds }
  touch_home slot t name (inr h) =
      let from = start_home f g front back Name alike slot t name h.1 in
      record { spot = from.spot; is = from.is; holds = inr (sym (alike.escaped slot name) ∙ h.0, from.holds) }

  closed_forth : (s : Spot) → IsClosed f (point_at f s) → IsClosed g (point_at g (moved s))
  closed_forth s (inl a) = inl (after_forth f g front back Name alike (point_at f s) (point_at g (moved s)) (inr (point_moved f g front back Name alike s)) a)
  closed_forth s (inr w) = inr (subst (λ (x : Point). Rattle.rule_all.specs.rule_slots.Closed.IsInSomeWindow g x) (sym (point_moved f g front back Name alike s)) ((alike.windows (point_at f s)).0 w))

  closed_home : (s : Spot) (t : Spot) → t ≡ moved s → IsClosed g (point_at g t) → IsClosed f (point_at f s)
  closed_home s t e h = on (subst (λ (u : Spot). IsClosed g (point_at g u)) e h)
    where
      on : IsClosed g (point_at g (moved s)) → IsClosed f (point_at f s)
      on (inl a) = inl (after_home f g front back Name alike (point_at f s) (point_at g (moved s)) (inr (point_moved f g front back Name alike s)) a)
      on (inr w) = inr ((alike.windows (point_at f s)).1 (subst (λ (x : Point). Rattle.rule_all.specs.rule_slots.Closed.IsInSomeWindow g x) (point_moved f g front back Name alike s) w))

  -- ---- used away

  away_forth : (slot : ℕ) → Name slot → IsUsedAway f slot → IsUsedAway g slot
  away_forth slot name u = record {
    early = moved u.early;
    is_use = use_forth f g front back Name alike slot u.early name u.is_use;
    is_away = closed_forth u.early u.is_away;
    suspend = back u.suspend;
    is_suspend = suspend_forth u.suspend u.is_suspend;
    late = moved u.late;
    touches = touch_forth slot u.late name u.touches;
    is_behind = behind_forth f g front back Name alike [] [] (none_lone front back) u.suspend u.late u.is_behind;
  }

  away_home : (slot : ℕ) → Name slot → IsUsedAway g slot → IsUsedAway f slot
  away_home slot name u =
      let early = use_home f g front back Name alike slot u.early name u.is_use in
      let suspend = suspend_home u.suspend u.is_suspend in
      let late = touch_home slot u.late name u.touches in
      record {
        early = early.spot;
        is_use = early.holds;
        is_away = closed_home early.spot u.early early.is u.is_away;
        suspend = suspend.0;
        is_suspend = suspend.1.1;
        late = late.spot;
        touches = late.holds;
        is_behind = behind_home f g front back Name alike [] [] (none_lone front back) suspend.0 u.late (subst (λ (s : Point). IsBehind g s [] u.late) suspend.1.0 u.is_behind) late.spot late.is;
      }

  -- ---- used across

  parting_lone : (b : Bool) (slot : ℕ) → Name slot → AreLone front back (parting b f slot) (parting b g slot)
  parting_lone true slot name = none_lone front back
  parting_lone false slot name = alike.starts_lone slot name

  across_forth : (slot : ℕ) → Name slot → IsUsedAcross f slot → IsUsedAcross g slot
  across_forth slot name u =
      let lone = parting_lone (is_escaped f slot) slot name in
      record {
        early = moved u.early;
        is_use = use_forth f g front back Name alike slot u.early name u.is_use;
        suspend = back u.suspend;
        is_suspend = suspend_forth u.suspend u.is_suspend;
        comes = subst (λ (b : Bool). LeadsFrom g (parting b g slot) (moved u.early) (back u.suspend)) (sym (alike.escaped slot name))
            (from_forth f g front back Name alike (parting (is_escaped f slot) f slot) (parting (is_escaped f slot) g slot) lone.carried u.early u.suspend (lone.clear u.suspend) u.comes);
        late = moved u.late;
        touches = touch_forth slot u.late name u.touches;
        is_behind = subst (λ (b : Bool). IsBehind g (back u.suspend) (parting b g slot) (moved u.late)) (sym (alike.escaped slot name))
            (behind_forth f g front back Name alike (parting (is_escaped f slot) f slot) (parting (is_escaped f slot) g slot) lone u.suspend u.late u.is_behind);
      }

  across_home : (slot : ℕ) → Name slot → IsUsedAcross g slot → IsUsedAcross f slot
  across_home slot name u =
      let lone = parting_lone (is_escaped f slot) slot name in
      let early = use_home f g front back Name alike slot u.early name u.is_use in
      let suspend = suspend_home u.suspend u.is_suspend in
      let late = touch_home slot u.late name u.touches in
      let comes = subst (λ (b : Bool). LeadsFrom g (parting b g slot) u.early u.suspend) (alike.escaped slot name) u.comes in
      let behind = subst (λ (b : Bool). IsBehind g u.suspend (parting b g slot) u.late) (alike.escaped slot name) u.is_behind in
      record {
        early = early.spot;
        is_use = early.holds;
        suspend = suspend.0;
        is_suspend = suspend.1.1;
        comes = from_home f g front back Name alike (parting (is_escaped f slot) f slot) (parting (is_escaped f slot) g slot) lone.carried early.spot suspend.0
            (subst (λ (x : Spot). LeadsFrom g (parting (is_escaped f slot) g slot) x (back suspend.0)) early.is
            (subst (λ (x : Point). LeadsFrom g (parting (is_escaped f slot) g slot) u.early x) suspend.1.0 comes));
        late = late.spot;
        touches = late.holds;
        is_behind = behind_home f g front back Name alike (parting (is_escaped f slot) f slot) (parting (is_escaped f slot) g slot) lone suspend.0 u.late
            (subst (λ (s : Point). IsBehind g s (parting (is_escaped f slot) g slot) u.late) suspend.1.0 behind) late.spot late.is;
      }

  -- ---- alive across

  meets_forth : (s : Spot) (q : Point) → MeetsLater f s q → MeetsLater g (moved s) (back q)
  meets_forth s q (inl l) = inl (from_forth f g front back Name alike [] [] (none_carried front back) s q (inr refl) l)
  meets_forth s q (inr a) = inr (after_forth f g front back Name alike (point_at f s) (point_at g (moved s)) (inr (point_moved f g front back Name alike s)) a)

  meets_home : (s : Spot) (q : Point) → MeetsLater g (moved s) (back q) → MeetsLater f s q
  meets_home s q (inl l) = inl (from_home f g front back Name alike [] [] (none_carried front back) s q l)
  meets_home s q (inr a) = inr (after_home f g front back Name alike (point_at f s) (point_at g (moved s)) (inr (point_moved f g front back Name alike s)) a)

  lives_forth : (slot : ℕ) → Name slot → IsAliveAcross f slot → IsAliveAcross g slot
  lives_forth slot name u = record {
    is_escaped = alike.escaped slot name ∙ u.is_escaped;
    suspend = back u.suspend;
    is_suspend = suspend_forth u.suspend u.is_suspend;
    is_alive = alive_forth f g front back Name alike slot u.suspend name u.is_alive;
    spot = moved u.spot;
    is_use = use_forth f g front back Name alike slot u.spot name u.is_use;
    meets = meets_forth u.spot u.suspend u.meets;
  }

  lives_home : (slot : ℕ) → Name slot → IsAliveAcross g slot → IsAliveAcross f slot
  lives_home slot name u =
      let suspend = suspend_home u.suspend u.is_suspend in
      let found = use_home f g front back Name alike slot u.spot name u.is_use in
      record {
        is_escaped = sym (alike.escaped slot name) ∙ u.is_escaped;
        suspend = suspend.0;
        is_suspend = suspend.1.1;
        is_alive = alive_home f g front back Name alike slot suspend.0 u.suspend name (inr suspend.1.0) u.is_alive;
        spot = found.spot;
        is_use = found.holds;
        meets = meets_home found.spot suspend.0 (subst (λ (x : Spot). MeetsLater g x (back suspend.0)) found.is (subst (MeetsLater g u.spot) suspend.1.0 u.meets));
      }

  -- ---- classes

  pub needs_forth : (slot : ℕ) → Name slot → NeedsFrame f slot → NeedsFrame g slot
  needs_forth slot name (Promise p) = Promise (alike.promise slot name ∙ p)
  needs_forth slot name (Away u) = Away (away_forth slot name u)
  needs_forth slot name (Across u) = Across (across_forth slot name u)
  needs_forth slot name (Alive u) = Alive (lives_forth slot name u)

  pub needs_home : (slot : ℕ) → Name slot → NeedsFrame g slot → NeedsFrame f slot
  needs_home slot name (Promise p) = Promise (sym (alike.promise slot name) ∙ p)
  needs_home slot name (Away u) = Away (away_home slot name u)
  needs_home slot name (Across u) = Across (across_home slot name u)
  needs_home slot name (Alive u) = Alive (lives_home slot name u)

  pub of_forth : (k slot : ℕ) (class : SlotClass) → slice_get (allocas_of f) k ≡ Some slot → IsOf f slot class → IsOf g slot class
  of_forth k slot SlotClass.Ramp e h = (alike.ramp k slot e).0 h
  of_forth k slot SlotClass.Local e h = ((λ r. h.0 ((alike.ramp k slot e).1 r)), (λ n. h.1 (needs_home slot (alike.alloca_names k slot e) n)))
  of_forth k slot SlotClass.Frame e h = ((λ r. h.0 ((alike.ramp k slot e).1 r)), needs_forth slot (alike.alloca_names k slot e) h.1)

  pub of_home : (k slot : ℕ) (class : SlotClass) → slice_get (allocas_of f) k ≡ Some slot → IsOf g slot class → IsOf f slot class
  of_home k slot SlotClass.Ramp e h = (alike.ramp k slot e).1 h
  of_home k slot SlotClass.Local e h = ((λ r. h.0 ((alike.ramp k slot e).0 r)), (λ n. h.1 (needs_forth slot (alike.alloca_names k slot e) n)))
  of_home k slot SlotClass.Frame e h = ((λ r. h.0 ((alike.ramp k slot e).0 r)), needs_home slot (alike.alloca_names k slot e) h.1)

  own_alloca : (k slot : ℕ) → slice_get (allocas_of g) k ≡ Some slot → slice_get (allocas_of f) k ≡ Some slot
  own_alloca k slot e = ap (λ (vs : List ℕ). slice_get vs k) (sym alike.allocas) ∙ e

  its_alloca : (k slot : ℕ) → slice_get (allocas_of f) k ≡ Some slot → slice_get (allocas_of g) k ≡ Some slot
  its_alloca k slot e = ap (λ (vs : List ℕ). slice_get vs k) alike.allocas ∙ e

  pub classes_same : (classes : List SlotClass) → AreClasses f classes ↔ AreClasses g classes
  classes_same classes = (
    (λ h. record {
      count = h.count ∙ sym (ap length alike.allocas);
      each = λ k slot class e d. of_forth k slot class (own_alloca k slot e) (h.each k slot class (own_alloca k slot e) d);
    }),
    (λ h. record {
      count = h.count ∙ ap length alike.allocas;
      each = λ k slot class e d. of_home k slot class e (h.each k slot class (its_alloca k slot e) d);
    }),
  )
