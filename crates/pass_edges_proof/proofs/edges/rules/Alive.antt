-- A slot may be alive at a point exactly where it may be at the point to which that is moved when edges have blocks.
use Rattle.std.proofs.Common.{Bool, List, [], ap, false, map, refl, subst, sym, true, ℕ, ◌++◌, ◌∙◌, ◌∷◌, ◌≡◌}
use Rattle.std.specs.Prelude.{◌↔◌}
use Rattle.pass_edges_proof.proofs.edges.paths.Edges.{moved_apart, threads}
use Rattle.pass_early_proof.proofs.ir_laws.paths.expanded.Ways.{has_map}
use Rattle.pass_edges_proof.proofs.edges.paths.Points.{map_has, points_moved}
use Rattle.pass_early_proof.proofs.ir_laws.paths.threads.Threads.{paths_kept}
use Rattle.pass_early_proof.specs.ir_laws.paths.threads.Labels.{HasNamedLabels}
use Rattle.pass_edges_proof.specs.edges.paths.Spots.{moved}
use Rattle.pass_early_proof.specs.ir_laws.paths.threads.Threads.{AreAvoidedToo}
use Rattle.pass_edges.specs.EdgeBlocks.{with_edge_blocks}
use Rattle.ir_model.specs.declared.instr.Instr.{Instr}
use Rattle.ir_model.specs.declared.module.Function.{Function}
use Rattle.ir_model.specs.declared.operand.Intrinsic.{Intrinsic}
use Rattle.pass_early_proof.specs.ir_paths.Paths.{Leads, has_point}
use Rattle.pass_early_proof.specs.ir_paths.Windows.{is_call_of, points_where}
use Rattle.pass_early_proof.specs.ir_paths.declared.point.Point.{Point}
use Rattle.pass_early_proof.proofs.ir_laws.facts.Truth.{same_truth}
use Rattle.pass_early_proof.specs.frame_classes.Alive.{MayBeAlive, markers_of}
use Rattle.pass_early_proof.specs.frame_classes.Alive.MayBeAlive.{Started, Unmarked}
use Rattle.pass_early_proof.specs.frame_slots.Uses.{ends_of, is_marker_of, starts_of}

module _ (f : Function) (named : HasNamedLabels f) where
  abbrev g : Function
  g = with_edge_blocks f

  -- ---- sets of points that are moved

  module _ (ps : List Point) where
    there_moved : (p : Point) → has_point (map (moved f) ps) (moved f p) ≡ has_point ps p
    there_moved p = same_truth (has_point (map (moved f) ps) (moved f p)) (has_point ps p) home_of (has_map (moved f) ps p)
      where
        home_of : has_point (map (moved f) ps) (moved f p) ≡ true → has_point ps p ≡ true
        home_of h =
            let x = map_has (moved f) ps (moved f p) h in
            subst (λ (q : Point). has_point ps q ≡ true) (sym (moved_apart f p x.point x.is)) x.there

    not_there : (y : Point) → ((p : Point) → y ≡ moved f p → ⊥) → has_point (map (moved f) ps) y ≡ false
    not_there y none = on (has_point (map (moved f) ps) y) refl
      where
        on : (b : Bool) → has_point (map (moved f) ps) y ≡ b → b ≡ false
        on true h = let x = map_has (moved f) ps y h in absurd (none x.point x.is)
        on false h = refl

    pub points_avoided : AreAvoidedToo (moved f) ps (map (moved f) ps)
    points_avoided = record { moved = there_moved; others = not_there }

  pub avoided : (test : Instr → Bool) → AreAvoidedToo (moved f) (points_where test f) (points_where test g)
  avoided test = subst (AreAvoidedToo (moved f) (points_where test f)) (sym (points_moved test f)) (points_avoided (points_where test f))

  pub nothing : AreAvoidedToo (moved f) [] []
  nothing = points_avoided []

  -- a point of the result at which an instruction passes a test is moved there
  pub record IsMovedTo (test : Instr → Bool) (x : Point) : Type 0 where
    pub point : Point
    pub is : x ≡ moved f point
    pub there : has_point (points_where test f) point ≡ true

  pub from_where : (test : Instr → Bool) (x : Point) → has_point (points_where test g) x ≡ true → IsMovedTo test x
  from_where test x h =
      let y = map_has (moved f) (points_where test f) x (subst (λ (ps : List Point). has_point ps x ≡ true) (points_moved test f) h) in
      record { point = y.point; is = y.is; there = y.there }

  pub to_where : (test : Instr → Bool) (p : Point) → has_point (points_where test f) p ≡ true → has_point (points_where test g) (moved f p) ≡ true
  to_where test p h = (avoided test).moved p ∙ h

  -- ---- markers

  markers_moved : (slot : ℕ) → markers_of g slot ≡ map (moved f) (markers_of f slot)
  markers_moved slot =
      (λ k. points_moved (is_marker_of Intrinsic.LifetimeStart slot) f k ++ points_moved (is_marker_of Intrinsic.LifetimeEnd slot) f k)
      ∙ sym (map_joined (starts_of f slot) (ends_of f slot))
    where
      map_joined : (ps qs : List Point) → map (moved f) (ps ++ qs) ≡ map (moved f) ps ++ map (moved f) qs
      map_joined [] qs = refl
      map_joined (p ∷ ps) qs = ap (λ (xs : List Point). moved f p ∷ xs) (map_joined ps qs)

  none_moved : (ps : List Point) → map (moved f) ps ≡ [] → ps ≡ []
  none_moved [] e = refl
  none_moved (p ∷ ps) e = absurd (cc)

  -- ---- where a slot may be alive

  alive_forth : (slot : ℕ) (p : Point) → MayBeAlive f slot p → MayBeAlive g slot (moved f p)
  alive_forth slot p (Unmarked begin none is leads) =
      Unmarked (moved f begin) (markers_moved slot ∙ ap (map (moved f)) none) (to_where (is_call_of Intrinsic.CoroBegin) begin is)
      ((paths_kept f g (moved f) (threads f named) [] [] nothing begin p).0 leads)
  alive_forth slot p (Started start is leads) =
      Started (moved f start) (to_where (is_marker_of Intrinsic.LifetimeStart slot) start is)
      ((paths_kept f g (moved f) (threads f named) (ends_of f slot) (ends_of g slot) (avoided (is_marker_of Intrinsic.LifetimeEnd slot)) start p).0 leads)

  alive_home : (slot : ℕ) (p : Point) → MayBeAlive g slot (moved f p) → MayBeAlive f slot p
  alive_home slot p (Unmarked begin none is leads) =
      let x = from_where (is_call_of Intrinsic.CoroBegin) begin is in
      Unmarked x.point (none_moved (markers_of f slot) (sym (markers_moved slot) ∙ none)) x.there
      ((paths_kept f g (moved f) (threads f named) [] [] nothing x.point p).1 (subst (λ (y : Point). Leads g [] y (moved f p)) x.is leads))
  alive_home slot p (Started start is leads) =
      let x = from_where (is_marker_of Intrinsic.LifetimeStart slot) start is in
      Started x.point x.there
      ((paths_kept f g (moved f) (threads f named) (ends_of f slot) (ends_of g slot) (avoided (is_marker_of Intrinsic.LifetimeEnd slot)) x.point p).1 (subst (λ (y : Point). Leads g (ends_of g slot) y (moved f p)) x.is leads))

  pub alive_stays : (slot : ℕ) (p : Point) → MayBeAlive f slot p ↔ MayBeAlive (with_edge_blocks f) slot (moved f p)
  alive_stays slot p = (alive_forth slot p, alive_home slot p)
