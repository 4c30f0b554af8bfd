-- Where edges have blocks, paths without begin are those of the function, so K5 isn't broken there.
use Rattle.std.proofs.Common.{◌≡◌, ◌⊎◌, inl, inr, ⊎_elim, Bool, true, false, List, [], ◌∷◌, refl, sym, ap, ◌∙◌, subst}
use Rattle.std.specs.Prelude.{Some, None, Option, map, slice_get, ◌||◌}
use Rattle.pass_edges_proof.proofs.edges.paths.Edges.{threads}
use Rattle.pass_early_proof.proofs.ir_laws.paths.expanded.Ways.{has_map}
use Rattle.pass_edges_proof.proofs.edges.paths.Points.{map_has, points_moved}
use Rattle.pass_early_proof.proofs.ir_laws.paths.threads.Threads.{leads_home}
use Rattle.pass_early_proof.specs.ir_laws.paths.threads.Labels.{HasNamedLabels}
use Rattle.pass_edges_proof.specs.edges.paths.Spots.{moved}
use Rattle.pass_early_proof.specs.ir_laws.paths.threads.Threads.{AreAvoidedToo, AreThreads}
use Rattle.pass_edges_proof.proofs.edges.rules.Homes.{IsEdge, IsOwn, home}
use Rattle.pass_edges.specs.EdgeBlocks.{edge_block, with_edge_blocks}
use Rattle.pass_early_proof.proofs.rule_laws.rules.shape.Beginning.{NoneWithout}
use Rattle.ir_model.specs.declared.module.Block.{Block}
use Rattle.ir_model.specs.declared.module.Function.{Function}
use Rattle.ir_model.specs.declared.operand.Intrinsic.{Intrinsic}
use Rattle.pass_early_proof.proofs.ir_paths.Search.{same_point-same}
use Rattle.pass_early_proof.specs.ir_paths.Paths.{Leads, has_point, same_point}
use Rattle.pass_early_proof.specs.ir_paths.Windows.{instr_at, instr_in, is_call_of}
use Rattle.pass_early_proof.specs.ir_paths.declared.point.Point.{Point}
use Rattle.pass_early_proof.specs.flow_points.Reached.{IsReached}
use Rattle.pass_early_proof.specs.rule_windows.Points.{begins, entry}
use Rattle.pass_early_proof.specs.rule_windows.Sets.{IsWithoutBegin}
use Rattle.pass_early_proof.proofs.ir_laws.facts.Truth.{same_truth}

module _ (f : Function) (named : HasNamedLabels f) where
  abbrev g : Function
  g = with_edge_blocks f

  abbrev move : Point → Point
  move p = moved f p

  lines : AreThreads f g (moved f)
  lines = threads f named

  begins_are : begins g ≡ map (moved f) (begins f)
  begins_are = points_moved (is_call_of Intrinsic.CoroBegin) f

  has_moved : (p : Point) → has_point (begins g) (moved f p) ≡ has_point (begins f) p
  has_moved p =
      same_truth (has_point (begins g) (moved f p)) (has_point (begins f) p) back
      (λ h. ap (λ (ps : List Point). has_point ps (moved f p)) begins_are ∙ has_map (moved f) (begins f) p h)
    where
      back : has_point (begins g) (moved f p) ≡ true → has_point (begins f) p ≡ true
      back h =
          let x = map_has (moved f) (begins f) (moved f p) (sym (ap (λ (ps : List Point). has_point ps (moved f p)) begins_are) ∙ h) in
          subst (λ (q : Point). has_point (begins f) q ≡ true) (sym (lines.apart p x.point x.is)) x.there

  none_other : (y : Point) → ((p : Point) → y ≡ moved f p → ⊥) → has_point (begins g) y ≡ false
  none_other y h = on (has_point (begins g) y) refl
    where
      on : (b : Bool) → has_point (begins g) y ≡ b → b ≡ false
      on true e = let x = map_has (moved f) (begins f) y (sym (ap (λ (ps : List Point). has_point ps y) begins_are) ∙ e) in absurd (h x.point x.is)
      on false e = refl

  avoided_too : AreAvoidedToo (moved f) (begins f) (begins g)
  avoided_too = record { moved = has_moved; others = none_other }

  entry_moved : moved f entry ≡ entry
  entry_moved = refl

  only_entry : (p : Point) → has_point (entry ∷ []) p ≡ true → p ≡ entry
  only_entry p h = same_point-same p entry (one (same_point p entry) h)
    where
      one : (b : Bool) → (b || false) ≡ true → b ≡ true
      one true e = refl
      one false e = absurd (cc)

  without_home : (p : Point) → IsWithoutBegin g (moved f p) → IsWithoutBegin f p
  without_home p x = record { begins_later = sym (has_moved entry) ∙ ap (has_point (begins g)) entry_moved ∙ x.begins_later; path = on x.path }
    where
      on : (moved f p ≡ entry) ⊎ IsReached g (entry ∷ []) (begins g) (moved f p) → (p ≡ entry) ⊎ IsReached f (entry ∷ []) (begins f) p
      on (inl e) = inl (lines.apart p entry (e ∙ sym entry_moved))
      on (inr r) =
          let path : Leads g (begins g) (moved f entry) (moved f p) = subst (λ (q : Point). Leads g (begins g) q (moved f p)) (only_entry r.start r.is_start ∙ sym entry_moved) r.path in
          inr (record { start = entry; is_start = refl; path = leads_home f g (moved f) lines (begins f) (begins g) avoided_too entry p path })

  pub without_stays : NoneWithout f → NoneWithout g
  without_stays none p i e needs path = by_block (slice_get g.blocks p.block) refl e
    where
      own : (c : Block) → IsOwn f p.block c → slice_get c.instrs p.at ≡ Some i → ⊥
      own c x there =
          let q : Point = record { block = x.index; at = p.at } in
          let is : p ≡ moved f q = (λ k. record { block = x.stands k; at = p.at }) in
          let stands : instr_at f q ≡ Some i = ap (λ (o : Option Block). instr_in o p.at) x.got ∙ ap (λ (d : Block). slice_get d.instrs p.at) (sym x.is) ∙ there in
          none q i stands needs (without_home q (subst (IsWithoutBegin g) is path))

      of_edge : (c : Block) → IsEdge f p.block c → slice_get c.instrs p.at ≡ Some i → ⊥
      of_edge c x there = let no : slice_get (edge_block x.edge).instrs p.at ≡ Some i = ap (λ (d : Block). slice_get d.instrs p.at) (sym x.is) ∙ there in absurd (cc)

      by_block : (o : Option Block) → slice_get g.blocks p.block ≡ o → instr_in o p.at ≡ Some i → ⊥
      by_block None d h = absurd (cc)
      by_block (Some c) d h = ⊎_elim (λ (x : IsOwn f p.block c). own c x h) (λ (x : IsEdge f p.block c). of_edge c x h) (home f p.block c d)
