-- Where something of a slot stands, and what lies behind a suspend, in functions that are alike.
use Rattle.std.proofs.Common.{◌≡◌, ℕ, ◌<◌, inr, true, List, [], ◌∷◌, ◌++◌, map, refl, sym, ap, ◌∙◌, subst}
use Rattle.ir_laws.proofs.paths.alike_slots.SlotsAlike.{AreLone}
use Rattle.rule_laws.proofs.frames.alike_slots.SlotsAlike.{AreSlotsAlike}
use Rattle.ir_laws.proofs.paths.alike_slots.Strands.{AreCarried, IsOpen}
use Rattle.rule_laws.proofs.frames.alike_slots.Strands.{both_carried, both_open, comes_forth, comes_home, leads_back, leads_home, to_point}
use Rattle.ir_laws.proofs.paths.expanded.Ways.{has_map, map_has}
use Rattle.ir_laws.specs.flow_solver.Paths.{IsListed}
use Rattle.ir_laws.specs.ir_model.Names.{position_of}
use Rattle.ir_laws.specs.ir_model.declared.module.Function.{Function}
use Rattle.ir_laws.proofs.ir_paths.Search.{Has}
use Rattle.ir_laws.specs.ir_paths.Paths.{entry_point, has_point}
use Rattle.ir_laws.specs.ir_paths.Slots.{addresses_of, end_points, has_name}
use Rattle.ir_laws.specs.ir_paths.Windows.{destroy_label, resume_label}
use Rattle.ir_laws.specs.ir_paths.declared.point.Point.{Point}
use Rattle.frame_contents.specs.frame_slots.Spots.{Comes, IsBehind, IsStart, IsUse, LeadsFrom, Spot, UsesIn, point_at}
use Rattle.frame_contents.specs.frame_slots.Spots.IsBehind.{OnEdge, Later}
use Rattle.frame_contents.specs.frame_slots.Spots.IsStart.{Marked}
use Rattle.frame_contents.specs.frame_slots.Spots.Spot.{At, On}
use Rattle.frame_contents.specs.frame_slots.Uses.{starts_of}
use Rattle.rule_windows.specs.Windows.{own_edges}
use Rattle.rule_all.specs.rule_window_values.Kept.{own_blocks}

-- what stands at a point stands at its back, and on edges all stay
abbrev pub moved_spot : (Point → Point) → Spot → Spot
moved_spot back (At p) = At (back p)
moved_spot back (On from to) = On from to

module _ (f g : Function) (front back : Point → Point) (Name : ℕ → Type 0) (alike : AreSlotsAlike f g front back Name) where
  abbrev moved : Spot → Spot
  moved s = moved_spot back s

  pub point_moved : (s : Spot) → point_at g (moved s) ≡ back (point_at f s)
  point_moved (At p) = refl
  point_moved (On from to) = alike.last from

  -- something that holds at a spot of g, which is one of f at which the other holds
  pub record IsOfSpot (P : Spot → Type 0) (t : Spot) : Type 0 where
    pub spot : Spot
    pub is : t ≡ moved spot
    pub holds : P spot

  -- ---- uses

  uses_forth : (v : ℕ) (s : Spot) → Name v → UsesIn f v s → UsesIn g v (moved s)
  uses_forth v (At p) name u = (alike.uses v p name).0 u
  uses_forth v (On from to) name u = (subst (λ (n : ℕ). from < n) (sym alike.blocks) u.0, (alike.takes v from to name).0 u.1)

  uses_home : (v : ℕ) (t : Spot) → Name v → UsesIn g v t → IsOfSpot (UsesIn f v) t
  uses_home v (At x) name u =
      let from = alike.use_found v x name u in
      record { spot = At from.0; is = ap At from.1; holds = (alike.uses v from.0 name).1 (subst (λ (y : Point). UsesIn g v (At y)) from.1 u) }
  uses_home v (On from to) name u = record { spot = On from to; is = refl; holds = (subst (λ (n : ℕ). from < n) alike.blocks u.0, (alike.takes v from to name).1 u.1) }

  pub use_forth : (slot : ℕ) (s : Spot) → Name slot → IsUse f slot s → IsUse g slot (moved s)
  use_forth slot s name u = record {
    address = u.address;
    is_address = ap (λ (vs : List ℕ). has_name vs u.address) (alike.addresses slot name) ∙ u.is_address;
    uses = uses_forth u.address s (alike.address_names slot u.address name u.is_address) u.uses;
  }

  pub use_home : (slot : ℕ) (t : Spot) → Name slot → IsUse g slot t → IsOfSpot (IsUse f slot) t
  use_home slot t name u =
      let own : has_name (addresses_of f slot) u.address ≡ true = ap (λ (vs : List ℕ). has_name vs u.address) (sym (alike.addresses slot name)) ∙ u.is_address in
      let from = uses_home u.address t (alike.address_names slot u.address name own) u.uses in
      record { spot = from.spot; is = from.is; holds = record { address = u.address; is_address = own; uses = from.holds } }

  -- ---- starts

  pub start_forth : (slot : ℕ) (s : Spot) → Name slot → IsStart f slot s → IsStart g slot (moved s)
  start_forth slot _ name (Marked p h) = Marked (back p) ((alike.starts_lone slot name).carried.backs p ∙ h)

  pub start_home : (slot : ℕ) (t : Spot) → Name slot → IsStart g slot t → IsOfSpot (IsStart f slot) t
  start_home slot _ name (Marked x h) =
      let lone = alike.starts_lone slot name in
      let from = lone.found x h in
      record { spot = At from.0; is = ap At from.1; holds = Marked from.0 (sym (lone.carried.backs from.0) ∙ subst (Has (starts_of g slot)) from.1 h) }

  -- ---- paths from spots

  module _ (avoided besides : List Point) (carried : AreCarried front back avoided besides) where
    pub from_forth : (s : Spot) (q : Point) → IsOpen front back avoided q → LeadsFrom f avoided s q → LeadsFrom g besides (moved s) (back q)
    from_forth (At p) q clear l = leads_back f g front back alike.strands avoided besides carried p q clear l
    from_forth (On from to) q clear l =
        subst (λ (r : Point). Comes g besides r (back q)) (alike.first to) (comes_forth f g front back alike.strands avoided besides carried (record { block = to; at = 0 }) q clear l)

    pub from_home : (s : Spot) (q : Point) → LeadsFrom g besides (moved s) (back q) → LeadsFrom f avoided s q
    from_home (At p) q l = to_point f g front back alike.strands avoided besides carried p q (back q) (inr refl) (leads_home f g front back alike.strands avoided besides carried p (back q) l)
    from_home (On from to) q l =
        comes_home f g front back alike.strands avoided besides carried (record { block = to; at = 0 }) q (subst (λ (r : Point). Comes g besides r (back q)) (sym (alike.first to)) l)

  -- ---- behind suspends

  entry_moved : (a b : ℕ) → a ≡ b → entry_point g a ≡ front (entry_point f b)
  entry_moved a b e = ap (entry_point g) e ∙ ap (λ (k : ℕ). record { block = k; at = 0 }) (alike.position b) ∙ sym (alike.first (position_of f b))

  edges_moved : (s : Point) → own_edges g (back s) ≡ map front (own_edges f s)
  edges_moved s =
      let one = entry_moved (resume_label g (back s)) (resume_label f s) (alike.resumes s) in
      let two = entry_moved (destroy_label g (back s)) (destroy_label f s) (alike.destroys s) in
      λ i. one i ∷ two i ∷ []

  blocks_same : (s : Point) → own_blocks g (back s) ≡ own_blocks f s
  blocks_same s =
      let one = ap (position_of g) (alike.resumes s) ∙ alike.position (resume_label f s) in
      let two = ap (position_of g) (alike.destroys s) ∙ alike.position (destroy_label f s) in
      λ i. one i ∷ two i ∷ []

  module _ (ps us : List Point) (lone : AreLone front back ps us) where
    all_carried : AreCarried front back (ps ++ end_points f) (us ++ end_points g)
    all_carried = both_carried front back ps (end_points f) us (end_points g) lone.carried alike.end_carried

    pub behind_forth : (s : Point) (t : Spot) → IsBehind f s ps t → IsBehind g (back s) us (moved t)
    behind_forth s _ (OnEdge to l) =
        subst (λ (b : ℕ). IsBehind g (back s) us (On b to)) (alike.back_block s) (OnEdge to (subst (IsListed to) (sym (blocks_same s)) l))
    behind_forth s _ (Later t r h c n) =
        Later (moved t) (front r) (ap (λ (qs : List Point). has_point qs (front r)) (edges_moved s) ∙ has_map front (own_edges f s) r h)
        (subst (Comes g (us ++ end_points g) (front r)) (sym (point_moved t))
        (comes_forth f g front back alike.strands (ps ++ end_points f) (us ++ end_points g) all_carried r (point_at f t) (both_open front back ps (end_points f) (point_at f t) (lone.clear (point_at f t)) n) c))
        (ap (has_point (end_points g)) (point_moved t) ∙ alike.end_carried.backs (point_at f t) ∙ n)

    pub behind_home : (s : Point) (u : Spot) → IsBehind g (back s) us u → (t : Spot) → u ≡ moved t → IsBehind f s ps t
    behind_home s _ (OnEdge to l) (At p) e = absurd (cc)
    behind_home s _ (OnEdge to l) (On from end) e =
        let one : (back s).block ≡ from = cc in
        let two : to ≡ end = cc in
        let start : s.block ≡ from = sym (alike.back_block s) ∙ one in
        subst (λ (b : ℕ). IsBehind f s ps (On b end)) start (OnEdge end (subst (λ (k : ℕ). IsListed k (own_blocks f s)) two (subst (IsListed to) (blocks_same s) l)))
    behind_home s _ (Later u r h c n) t e =
        let from = map_has front (own_edges f s) r (ap (λ (qs : List Point). has_point qs r) (sym (edges_moved s)) ∙ h) in
        let at : point_at g u ≡ back (point_at f t) = ap (point_at g) e ∙ point_moved t in
        Later t from.point from.there
        (comes_home f g front back alike.strands (ps ++ end_points f) (us ++ end_points g) all_carried from.point (point_at f t)
        (subst (Comes g (us ++ end_points g) (front from.point)) at (subst (λ (x : Point). Comes g (us ++ end_points g) x (point_at g u)) from.is c)))
        (sym (alike.end_carried.backs (point_at f t)) ∙ ap (has_point (end_points g)) (sym at) ∙ n)
