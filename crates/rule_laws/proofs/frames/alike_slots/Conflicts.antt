-- Which slots may be alive at suspends, and which conflict, in functions that are alike.
use Rattle.std.proofs.Common.{◌≡◌, ℕ, ◌⊎◌, inl, inr, true, false, List, [], ◌∷◌, Some, None, Option, refl, sym, ap, ◌∙◌, subst, ◌↔◌}
use Rattle.std.proofs.lemmas.Option.{slice_get-map}
use Rattle.std.specs.Prelude.{option_map, slice_get}
use Rattle.rule_laws.proofs.frames.alike_slots.Classes.{of_forth, of_home}
use Rattle.rule_laws.proofs.frames.alike_slots.SlotsAlike.{AreSlotsAlike, after_forth, alive_at, alive_forth, alive_home, unmarked_forth, unmarked_home}
use Rattle.rule_laws.proofs.frames.alike_slots.Spots.{moved_spot, point_moved, use_forth, use_home}
use Rattle.rule_laws.proofs.frames.alike_slots.Strands.{IsOf, comes_home, from_front, leads_back}
use Rattle.ir_laws.proofs.paths.expanded.Strands.{IsOnlyNext}
use Rattle.ir_laws.proofs.paths.alike_slots.Strands.{leads_at}
use Rattle.ir_laws.specs.ir_model.declared.module.Function.{Function}
use Rattle.ir_laws.proofs.ir_paths.Search.{Has, either, or_left, same_point-itself, same_point-same}
use Rattle.ir_laws.specs.ir_paths.Paths.{Leads, has_point, same_point}
use Rattle.ir_laws.specs.ir_paths.Slots.{allocas_of}
use Rattle.ir_laws.specs.ir_paths.declared.point.Point.{Point}
use Rattle.flow_points.specs.Reached.{IsReached}
use Rattle.frame_contents.specs.frame_conflicts.Conflicts.{AliveAt, AreAliveAt, AreAliveTogether, AreConflicts, Conflict, ConflictAt, IsFrameSlotAt, IsUsedEarly}
use Rattle.frame_contents.specs.frame_conflicts.Conflicts.Conflict.{Unmarked, Early, Together}
use Rattle.frame_contents.specs.frame_classes.Classes.{suspends}
use Rattle.frame_contents.specs.frame_classes.declared.class.SlotClass.{SlotClass}
use Rattle.rule_all.specs.rule_slots.Early.{IsBeforeBegin}
use Rattle.frame_contents.specs.frame_slots.Spots.{Comes, point_at}
use Rattle.rule_windows.specs.Points.{begins, entry}

only_one : (y x : Point) → Has (y ∷ []) x → x ≡ y
only_one y x h = on (either (same_point x y) false h)
  where
    on : (same_point x y ≡ true) ⊎ (false ≡ true) → x ≡ y
    on (inl e) = same_point-same x y e
    on (inr e) = absurd (cc)

module _ (f g : Function) (front back : Point → Point) (Name : ℕ → Type 0) (alike : AreSlotsAlike f g front back Name) where
  -- ---- before begin

  -- from the entry a path leads there without begin
  led_there : (q : Point) → has_point (begins g) entry ≡ false → Leads g (begins g) entry q → IsBeforeBegin g q
  led_there q n l = inr (record { begins_later = n; path = inr (record { start = entry; is_start = or_left (same_point entry entry) false (same_point-itself entry); path = l }) })

  entry_is : front entry ≡ entry
  entry_is = alike.first 0

  at_entry : IsBeforeBegin g (back entry)
  at_entry = on (alike.strands.ways.within entry) (alike.begins_lone.clear entry)
    where
      same : front entry ≡ back entry → IsBeforeBegin g (back entry)
      same e = inl (sym e ∙ entry_is)

      on : (front entry ≡ back entry) ⊎ IsOnlyNext g (front entry) (back entry) → (front entry ≡ back entry) ⊎ (has_point (begins f) entry ≡ false) → IsBeforeBegin g (back entry)
      on (inl e) h = same e
      on (inr i) (inl e) = same e
      on (inr i) (inr n) =
          led_there (back entry) (ap (has_point (begins g)) (sym entry_is) ∙ alike.begins_lone.carried.fronts entry ∙ n)
          (leads_at g (begins g) entry (back entry) (subst (λ (x : Point). Has (Rattle.ir_laws.specs.ir_paths.Paths.nexts g x) (back entry)) entry_is i.edge))

  before_forth : (p : Point) → IsBeforeBegin f p → IsBeforeBegin g (back p)
  before_forth p (inl e) = subst (λ (x : Point). IsBeforeBegin g (back x)) (sym e) at_entry
  before_forth p (inr w) = on w.path
    where
      by_path : (start : Point) → start ≡ entry → Leads f (begins f) start p → IsBeforeBegin g (back p)
      by_path start e l =
          led_there (back p) (ap (has_point (begins g)) (sym entry_is) ∙ alike.begins_lone.carried.fronts entry ∙ w.begins_later)
          (subst (λ (x : Point). Leads g (begins g) x (back p)) entry_is
          (from_front f g front back alike.strands (begins f) (begins g) alike.begins_lone.carried entry (back p) w.begins_later
          (leads_back f g front back alike.strands (begins f) (begins g) alike.begins_lone.carried entry p (alike.begins_lone.clear p)
          (subst (λ (x : Point). Leads f (begins f) x p) e l))))

      on : (p ≡ entry) ⊎ IsReached f (entry ∷ []) (begins f) p → IsBeforeBegin g (back p)
      on (inl e) = subst (λ (x : Point). IsBeforeBegin g (back x)) (sym e) at_entry
      on (inr r) = by_path r.start (only_one entry r.start r.is_start) r.path

  before_home : (p x : Point) → x ≡ back p → IsBeforeBegin g x → IsBeforeBegin f p
  before_home p x at (inl e) = inl (sym (alike.strands.mixed entry p (entry_is ∙ sym e ∙ at)))
  before_home p x at (inr w) = on w.path
    where
      from : Comes f (begins f) entry p → IsBeforeBegin f p
      from (inl e) = inl (sym e)
      from (inr l) = inr (record { begins_later = l.0; path = inr (record { start = entry; is_start = or_left (same_point entry entry) false (same_point-itself entry); path = l.1 }) })

      by_path : (start : Point) → start ≡ entry → Leads g (begins g) start x → IsBeforeBegin f p
      by_path start e l =
          from (comes_home f g front back alike.strands (begins f) (begins g) alike.begins_lone.carried entry p
          (inr (ap (has_point (begins g)) entry_is ∙ w.begins_later, subst (λ (y : Point). Leads g (begins g) y (back p)) (e ∙ sym entry_is) (subst (λ (y : Point). Leads g (begins g) start y) at l))))

      on : (x ≡ entry) ⊎ IsReached g (entry ∷ []) (begins g) x → IsBeforeBegin f p
      on (inl e) = inl (sym (alike.strands.mixed entry p (entry_is ∙ sym e ∙ at)))
      on (inr r) = by_path r.start (only_one entry r.start r.is_start) r.path

  early_forth : (slot : ℕ) → Name slot → IsUsedEarly f slot → IsUsedEarly g slot
  early_forth slot name u = record {
    spot = moved_spot back u.spot;
    is_use = use_forth f g front back Name alike slot u.spot name u.is_use;
    is_early = subst (IsBeforeBegin g) (sym (point_moved f g front back Name alike u.spot)) (before_forth (point_at f u.spot) u.is_early);
  }

  early_home : (slot : ℕ) → Name slot → IsUsedEarly g slot → IsUsedEarly f slot
  early_home slot name u =
      let from = use_home f g front back Name alike slot u.spot name u.is_use in
      record {
        spot = from.spot;
        is_use = from.holds;
        is_early = before_home (point_at f from.spot) (point_at g u.spot) (ap (point_at g) from.is ∙ point_moved f g front back Name alike from.spot) u.is_early;
      }

  -- ---- alive together

  together_forth : (a b : ℕ) → Name a → Name b → AreAliveTogether f a b → AreAliveTogether g a b
  together_forth a b one other t = record {
    point = back t.point;
    is_point = alike.points t.point t.is_point;
    is_outside = λ e. t.is_outside (sym (alike.back_block t.point) ∙ e ∙ alike.end);
    is_before_end
        = λ h. t.is_before_end (Rattle.rule_laws.proofs.frames.alike_slots.SlotsAlike.after_home f g front back Name
        alike t.point (back t.point) (inr refl) h);
    one = alive_forth f g front back Name alike a t.point one t.one;
    other = alive_forth f g front back Name alike b t.point other t.other;
  }

  together_home : (a b : ℕ) → Name a → Name b → AreAliveTogether g a b → AreAliveTogether f a b
  together_home a b one other t =
      let from = alive_at f g front back Name alike a t.point one t.one in
      record {
        point = from.0;
        is_point = alike.points_home from.0 t.point from.1 t.is_point;
        is_outside = λ e. t.is_outside (block from.0 from.1 ∙ e ∙ sym alike.end);
        is_before_end = λ h. t.is_before_end (after_forth f g front back Name alike from.0 t.point from.1 h);
        one = alive_home f g front back Name alike a from.0 t.point one from.1 t.one;
        other = alive_home f g front back Name alike b from.0 t.point other from.1 t.other;
      }
    where
      block : (p : Point) → IsOf front back p t.point → t.point.block ≡ p.block
      block p (inl e) = ap (λ (x : Point). x.block) e ∙ alike.front_block p
      block p (inr e) = ap (λ (x : Point). x.block) e ∙ alike.back_block p

  -- ---- conflicts

  conflict_forth : (a b : ℕ) → Name a → Name b → Conflict f a b → Conflict g a b
  conflict_forth a b one other (Unmarked (inl e)) = Unmarked (inl (unmarked_forth f g front back Name alike a one e))
  conflict_forth a b one other (Unmarked (inr e)) = Unmarked (inr (unmarked_forth f g front back Name alike b other e))
  conflict_forth a b one other (Early (inl u)) = Early (inl (early_forth a one u))
  conflict_forth a b one other (Early (inr u)) = Early (inr (early_forth b other u))
  conflict_forth a b one other (Together t) = Together (together_forth a b one other t)

  conflict_home : (a b : ℕ) → Name a → Name b → Conflict g a b → Conflict f a b
  conflict_home a b one other (Unmarked (inl e)) = Unmarked (inl (unmarked_home f g front back Name alike a one e))
  conflict_home a b one other (Unmarked (inr e)) = Unmarked (inr (unmarked_home f g front back Name alike b other e))
  conflict_home a b one other (Early (inl u)) = Early (inl (early_home a one u))
  conflict_home a b one other (Early (inr u)) = Early (inr (early_home b other u))
  conflict_home a b one other (Together t) = Together (together_home a b one other t)

  slot_forth : (k slot : ℕ) → IsFrameSlotAt f k slot → IsFrameSlotAt g k slot
  slot_forth k slot h = record {
    stands = ap (λ (vs : List ℕ). slice_get vs k) alike.allocas ∙ h.stands;
    is_frame = of_forth f g front back Name alike k slot SlotClass.Frame h.stands h.is_frame;
  }

  slot_home : (k slot : ℕ) → IsFrameSlotAt g k slot → IsFrameSlotAt f k slot
  slot_home k slot h =
      let own : slice_get (allocas_of f) k ≡ Some slot = ap (λ (vs : List ℕ). slice_get vs k) (sym alike.allocas) ∙ h.stands in
      record { stands = own; is_frame = of_home f g front back Name alike k slot SlotClass.Frame own h.is_frame }

  pair_forth : (i k : ℕ) → ConflictAt f i k → ConflictAt g i k
  pair_forth i k c = record {
    one = c.one;
    other = c.other;
    is_one = slot_forth i c.one c.is_one;
    is_other = slot_forth k c.other c.is_other;
    is_lower = c.is_lower;
    conflict = conflict_forth c.one c.other (alike.alloca_names i c.one c.is_one.stands) (alike.alloca_names k c.other c.is_other.stands) c.conflict;
  }

  pair_home : (i k : ℕ) → ConflictAt g i k → ConflictAt f i k
  pair_home i k c =
      let first = slot_home i c.one c.is_one in
      let second = slot_home k c.other c.is_other in
      record {
        one = c.one;
        other = c.other;
        is_one = first;
        is_other = second;
        is_lower = c.is_lower;
        conflict = conflict_home c.one c.other (alike.alloca_names i c.one first.stands) (alike.alloca_names k c.other second.stands) c.conflict;
      }

  pub conflicts_same : (pairs : List (ℕ × ℕ)) → AreConflicts f pairs ↔ AreConflicts g pairs
  conflicts_same pairs = (
    (λ h. record { in_order = h.in_order; each = λ i k. ((λ l. pair_forth i k ((h.each i k).0 l)), (λ c. (h.each i k).1 (pair_home i k c))) }),
    (λ h. record { in_order = h.in_order; each = λ i k. ((λ l. pair_home i k ((h.each i k).0 l)), (λ c. (h.each i k).1 (pair_forth i k c))) }),
  )

  -- ---- alive at suspends

  pub suspend_at : (k : ℕ) → slice_get (suspends g) k ≡ option_map back (slice_get (suspends f) k)
  suspend_at k = ap (λ (ps : List Point). slice_get ps k) alike.suspends_moved ∙ slice_get-map back (suspends f) k

  at_forth : (i k : ℕ) → AliveAt f i k → AliveAt g i k
  at_forth i k a = record {
    slot = a.slot;
    is_slot = slot_forth i a.slot a.is_slot;
    suspend = back a.suspend;
    is_suspend = suspend_at k ∙ ap (option_map back) a.is_suspend;
    is_alive = alive_forth f g front back Name alike a.slot a.suspend (alike.alloca_names i a.slot a.is_slot.stands) a.is_alive;
  }

  of_suspend : (o : Option Point) (x : Point) → option_map back o ≡ Some x → (p : Point) × ((o ≡ Some p) × (x ≡ back p))
  of_suspend None x e = absurd (cc)
  of_suspend (Some p) x e = let same : x ≡ back p = cc in (p, (refl, same))

  at_home : (i k : ℕ) → AliveAt g i k → AliveAt f i k
  at_home i k a =
      let own = slot_home i a.slot a.is_slot in
      let from = of_suspend (slice_get (suspends f) k) a.suspend (sym (suspend_at k) ∙ a.is_suspend) in
      record {
        slot = a.slot;
        is_slot = own;
        suspend = from.0;
        is_suspend = from.1.0;
        is_alive = alive_home f g front back Name alike a.slot from.0 a.suspend (alike.alloca_names i a.slot own.stands) (inr from.1.1) a.is_alive;
      }

  pub alive_same : (pairs : List (ℕ × ℕ)) → AreAliveAt f pairs ↔ AreAliveAt g pairs
  alive_same pairs = (
    (λ h. record { in_order = h.in_order; each = λ i k. ((λ l. at_forth i k ((h.each i k).0 l)), (λ c. (h.each i k).1 (at_home i k c))) }),
    (λ h. record { in_order = h.in_order; each = λ i k. ((λ l. at_home i k ((h.each i k).0 l)), (λ c. (h.each i k).1 (at_forth i k c))) }),
  )
