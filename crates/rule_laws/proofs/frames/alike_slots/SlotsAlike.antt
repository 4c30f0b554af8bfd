-- Two functions in which the same is said of slots at the same points, but that a point of the one may be two of the other.
use Rattle.std.proofs.Common.{◌≡◌, ℕ, inl, inr, true, false, List, [], ◌∷◌, ◌++◌, length, map, Some, refl, sym, ap, ◌∙◌, subst, ◌↔◌}
use Rattle.std.specs.Prelude.{slice_get}
use Rattle.ir_laws.proofs.paths.alike_slots.Strands.{AreCarried, AreStrands}
use Rattle.rule_laws.proofs.frames.alike_slots.Strands.{IsLedTo, IsOf, leads_back, leads_front, leads_home, none_carried, to_point}
use Rattle.ir_laws.specs.ir_model.Names.{position_of}
use Rattle.ir_laws.specs.ir_model.declared.module.Function.{Function}
use Rattle.ir_laws.proofs.ir_paths.Search.{Has, or_left, same_point-itself}
use Rattle.ir_laws.specs.ir_paths.Paths.{Leads, has_point, same_point}
use Rattle.ir_laws.specs.ir_paths.Slots.{IsRampSlot, addresses_of, allocas_of, end_points, has_name, is_escaped, is_promise}
use Rattle.ir_laws.specs.ir_paths.Windows.{destroy_label, end_block, resume_label}
use Rattle.ir_laws.specs.ir_paths.declared.point.Point.{Point}
use Rattle.flow_reach.specs.Reached.{IsPointOf}
use Rattle.frame_contents.specs.frame_classes.Alive.{MayBeAlive, markers_of}
use Rattle.frame_contents.specs.frame_classes.Alive.MayBeAlive.{Unmarked, Started}
use Rattle.frame_contents.specs.frame_classes.Classes.{suspends}
use Rattle.rule_all.specs.rule_slots.Closed.{IsInSomeWindow}
use Rattle.rule_all.specs.rule_slots.Early.{end_at}
use Rattle.frame_contents.specs.frame_slots.Uses.{UsesAt, ends_of, starts_of}
use Rattle.rule_windows.specs.Points.{begins, ends}
use Rattle.rule_windows.specs.Sets.{IsAfterEnd}
use Rattle.rule_all.specs.rule_window_values.Kept.{TakesFrom}
use Rattle.ir_laws.proofs.paths.alike_slots.SlotsAlike.{AreLone}

-- a use in g stands at the back of a point
pub record AreSlotsAlike (f g : Function) (front back : Point → Point) (Name : ℕ → Type 0) : Type 0 where
  pub strands : AreStrands f g front back
  pub front_block : (p : Point) → (front p).block ≡ p.block
  pub back_block : (p : Point) → (back p).block ≡ p.block
  pub first : (b : ℕ) → front (record { block = b; at = 0 }) ≡ record { block = b; at = 0 }
  pub position : (label : ℕ) → position_of g label ≡ position_of f label
  pub blocks : length g.blocks ≡ length f.blocks
  pub points : (p : Point) → IsPointOf f p → IsPointOf g (back p)
  pub points_home : (p x : Point) → IsOf front back p x → IsPointOf g x → IsPointOf f p
  pub last : (b : ℕ) → end_at g b ≡ back (end_at f b)
  pub end : end_block g ≡ end_block f
  pub end_carried : AreCarried front back (end_points f) (end_points g)
  pub begins_lone : AreLone front back (begins f) (begins g)
  pub ends_lone : AreLone front back (ends f) (ends g)
  pub suspends_moved : suspends g ≡ map back (suspends f)
  pub starts_lone : (slot : ℕ) → Name slot → AreLone front back (starts_of f slot) (starts_of g slot)
  pub stops_lone : (slot : ℕ) → Name slot → AreLone front back (ends_of f slot) (ends_of g slot)
  pub resumes : (s : Point) → resume_label g (back s) ≡ resume_label f s
  pub destroys : (s : Point) → destroy_label g (back s) ≡ destroy_label f s
  pub windows : (p : Point) → IsInSomeWindow f p ↔ IsInSomeWindow g (back p)
  pub allocas : allocas_of g ≡ allocas_of f
  pub alloca_names : (k a : ℕ) → slice_get (allocas_of f) k ≡ Some a → Name a
  pub addresses : (a : ℕ) → Name a → addresses_of g a ≡ addresses_of f a
  pub address_names : (a v : ℕ) → Name a → has_name (addresses_of f a) v ≡ true → Name v
  pub escaped : (a : ℕ) → Name a → is_escaped g a ≡ is_escaped f a
  pub promise : (a : ℕ) → Name a → is_promise g a ≡ is_promise f a
  pub ramp : (k a : ℕ) → slice_get (allocas_of f) k ≡ Some a → IsRampSlot f a ↔ IsRampSlot g a
  pub uses : (v : ℕ) (p : Point) → Name v → UsesAt f v p ↔ UsesAt g v (back p)
  pub use_found : (v : ℕ) (x : Point) → Name v → UsesAt g v x → (p : Point) × (x ≡ back p)
  pub takes : (v from to : ℕ) → Name v → TakesFrom f v from to ↔ TakesFrom g v from to

-- ---- sets

pub none_lone : (front back : Point → Point) → AreLone front back [] []
none_lone front back = record { carried = none_carried front back; clear = λ q. inr refl; found = λ x h. absurd (cc) }

itself_there : (y : Point) (ys : List Point) → Has (y ∷ ys) y
itself_there y ys = or_left (same_point y y) (has_point ys y) (same_point-itself y)

empty_forth : (front back : Point → Point) (ps us : List Point) → AreLone front back ps us → ps ≡ [] → us ≡ []
empty_forth front back ps [] lone e = refl
empty_forth front back ps (y ∷ us) lone e =
    let from = lone.found y (itself_there y us) in
    let yes : has_point ps from.0 ≡ true = sym (lone.carried.backs from.0) ∙ subst (Has (y ∷ us)) from.1 (itself_there y us) in
    let no : has_point ps from.0 ≡ false = ap (λ (qs : List Point). has_point qs from.0) e in
    let never = sym yes ∙ no in
    absurd (cc)

empty_home : (front back : Point → Point) (ps us : List Point) → AreLone front back ps us → us ≡ [] → ps ≡ []
empty_home front back [] us lone e = refl
empty_home front back (y ∷ ps) us lone e =
    let yes : has_point us (back y) ≡ true = lone.carried.backs y ∙ itself_there y ps in
    let no : has_point us (back y) ≡ false = ap (λ (qs : List Point). has_point qs (back y)) e in
    let never = sym yes ∙ no in
    absurd (cc)

both_empty : (ps qs : List Point) → ps ++ qs ≡ [] → (ps ≡ []) × (qs ≡ [])
both_empty [] qs e = (refl, e)
both_empty (p ∷ ps) qs e = absurd (cc)

empty_both : (ps qs : List Point) → ps ≡ [] → qs ≡ [] → ps ++ qs ≡ []
empty_both ps qs e d = (λ i. e i ++ d i)

module _ (f g : Function) (front back : Point → Point) (Name : ℕ → Type 0) (alike : AreSlotsAlike f g front back Name) where
  pub unmarked_forth : (slot : ℕ) → Name slot → markers_of f slot ≡ [] → markers_of g slot ≡ []
  unmarked_forth slot name e =
      let two = both_empty (starts_of f slot) (ends_of f slot) e in
      empty_both (starts_of g slot) (ends_of g slot)
      (empty_forth front back (starts_of f slot) (starts_of g slot) (alike.starts_lone slot name) two.0)
      (empty_forth front back (ends_of f slot) (ends_of g slot) (alike.stops_lone slot name) two.1)

  pub unmarked_home : (slot : ℕ) → Name slot → markers_of g slot ≡ [] → markers_of f slot ≡ []
  unmarked_home slot name e =
      let two = both_empty (starts_of g slot) (ends_of g slot) e in
      empty_both (starts_of f slot) (ends_of f slot)
      (empty_home front back (starts_of f slot) (starts_of g slot) (alike.starts_lone slot name) two.0)
      (empty_home front back (ends_of f slot) (ends_of g slot) (alike.stops_lone slot name) two.1)

  -- ---- where a slot may be alive

  pub alive_forth : (slot : ℕ) (p : Point) → Name slot → MayBeAlive f slot p → MayBeAlive g slot (back p)
  alive_forth slot p name (Unmarked begin none is leads) =
      Unmarked (back begin) (unmarked_forth slot name none) (alike.begins_lone.carried.backs begin ∙ is)
      (leads_back f g front back alike.strands [] [] (none_carried front back) begin p (inr refl) leads)
  alive_forth slot p name (Started start is leads) =
      let stops = alike.stops_lone slot name in
      Started (back start) ((alike.starts_lone slot name).carried.backs start ∙ is)
      (leads_back f g front back alike.strands (ends_of f slot) (ends_of g slot) stops.carried start p (stops.clear p) leads)

  -- what is reached from a point of a lone set is reached from a point of f
  pub record IsReachedFrom (starts avoided besides : List Point) (carried : AreCarried front back avoided besides) (x : Point) : Type 0 where
    pub start : Point
    pub is_start : Has starts start
    pub led : IsLedTo f g front back alike.strands avoided besides carried start x

  pub reached_home : (ps us avoided besides : List Point) (carried : AreCarried front back avoided besides) (start x : Point) → AreLone front back ps us → Has us start → Leads g besides start x → IsReachedFrom ps avoided besides carried x
  reached_home ps us avoided besides carried start x lone is leads =
      let from = lone.found start is in
      record {
        start = from.0;
        is_start = sym (lone.carried.backs from.0) ∙ subst (Has us) from.1 is;
        led = leads_home f g front back alike.strands avoided besides carried from.0 x (subst (λ (y : Point). Leads g besides y x) from.1 leads);
      }

  pub alive_home : (slot : ℕ) (p x : Point) → Name slot → IsOf front back p x → MayBeAlive g slot x → MayBeAlive f slot p
  alive_home slot p x name at (Unmarked begin none is leads) =
      let from = reached_home (begins f) (begins g) [] [] (none_carried front back) begin x alike.begins_lone is leads in
      Unmarked from.start (unmarked_home slot name none) from.is_start (to_point f g front back alike.strands [] [] (none_carried front back) from.start p x at from.led)
  alive_home slot p x name at (Started start is leads) =
      let stops = alike.stops_lone slot name in
      let from = reached_home (starts_of f slot) (starts_of g slot) (ends_of f slot) (ends_of g slot) stops.carried start x (alike.starts_lone slot name) is leads in
      Started from.start from.is_start (to_point f g front back alike.strands (ends_of f slot) (ends_of g slot) stops.carried from.start p x at from.led)

  -- a point at which a slot may be alive in g is of one of f
  pub alive_at : (slot : ℕ) (x : Point) → Name slot → MayBeAlive g slot x → (p : Point) × IsOf front back p x
  alive_at slot x name (Unmarked begin none is leads) =
      let from = reached_home (begins f) (begins g) [] [] (none_carried front back) begin x alike.begins_lone is leads in
      (from.led.point, from.led.is)
  alive_at slot x name (Started start is leads) =
      let stops = alike.stops_lone slot name in
      let from = reached_home (starts_of f slot) (starts_of g slot) (ends_of f slot) (ends_of g slot) stops.carried start x (alike.starts_lone slot name) is leads in
      (from.led.point, from.led.is)

  -- ---- behind the end

  pub after_forth : (p x : Point) → IsOf front back p x → IsAfterEnd f p → IsAfterEnd g x
  after_forth p x at r = record {
    start = back r.start;
    is_start = alike.ends_lone.carried.backs r.start ∙ r.is_start;
    path = on at;
  }
    where
      on : IsOf front back p x → Leads g [] (back r.start) x
      on (inl e) = subst (λ (y : Point). Leads g [] (back r.start) y) (sym e) (leads_front f g front back alike.strands [] [] (none_carried front back) r.start p r.path)
      on (inr e) = subst (λ (y : Point). Leads g [] (back r.start) y) (sym e) (leads_back f g front back alike.strands [] [] (none_carried front back) r.start p (inr refl) r.path)

  pub after_home : (p x : Point) → IsOf front back p x → IsAfterEnd g x → IsAfterEnd f p
  after_home p x at r =
      let from = reached_home (ends f) (ends g) [] [] (none_carried front back) r.start x alike.ends_lone r.is_start r.path in
      record {
        start = from.start;
        is_start = from.is_start;
        path = to_point f g front back alike.strands [] [] (none_carried front back) from.start p x at from.led;
      }
