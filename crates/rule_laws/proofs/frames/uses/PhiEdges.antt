-- Where phis name exactly the blocks from which edges come (rule F1), each operand of a phi comes along an edge.
use Rattle.std.proofs.Common.{◌≡◌, inl, inr, ℕ, zero, suc, ◌+◌, true, List, [], ◌∷◌, refl, sym, ap, ◌∙◌, subst, arith}
use Rattle.std.specs.List.{list_all, list_any}
use Rattle.std.specs.Prelude.{None, Option, Some, filter, not, slice_get, ◌&&◌}
use Rattle.rule_laws.proofs.rules.counted.PartFacts.{PhiPasses, block_passes}
use Rattle.ir_laws.proofs.paths.counted.PartFacts.{all_listed}
use Rattle.rule_uses.specs.Uses.{local_of}
use Rattle.ir_laws.proofs.facts.Truth.{and_first, and_second, holds}
use Rattle.ir_laws.proofs.paths.source_rules.Locals.{listed_left, listed_right}
use Rattle.rule_laws.proofs.rules.source_rules.Locals.{own_label}
use Rattle.rule_phis.specs.Edges.{block_at, breaks_edges, differs, first_wrong_edge, fits_edges, has, incoming_labels, into_block, leads, predecessors}
use Rattle.ir_laws.specs.flow_solver.Paths.{IsListed}
use Rattle.ir_parts.specs.Contents.{ending_labels}
use Rattle.ir_parts.specs.Locals.{locals_of}
use Rattle.ir_laws.specs.ir_model.Names.{position_of}
use Rattle.ir_laws.specs.ir_model.declared.instr.Incoming.{Incoming}
use Rattle.ir_laws.specs.ir_model.declared.instr.Phi.{Phi}
use Rattle.ir_laws.specs.ir_model.declared.module.Block.{Block}
use Rattle.ir_laws.specs.ir_model.declared.module.Function.{Function}
use Rattle.ir_laws.specs.ir_model.declared.operand.Operand.{Operand}
use Rattle.ir_laws.specs.ir_paths.Paths.{targets}
use Rattle.rule_names.specs.Definitions.{first_twice}
use Rattle.ir_laws.proofs.paths.edges.Lists.{from_filtered}
use Rattle.ir_laws.proofs.paths.uses.Paths.{from_mapped, place_of}
use Rattle.ir_laws.proofs.paths.replaced.Known.{listed_mapped, of_listed}
use Rattle.frame_contents.specs.frame_crossing.EdgeUses.{IsUsedOn, blocks_uses, edge_use, incoming_uses, phis_uses, uses_by}
use Rattle.rule_laws.proofs.rules.edges.Entered.{listed_has as has_listed}
use Rattle.rule_laws.proofs.rules.known_labels.Rules.{labels_spelt as labels_same}

module _ (k : ℕ) (f : Function) (edges : first_wrong_edge k f ≡ None) (once : first_twice [] (locals_of k f) ≡ None) where
  -- the block from which an operand of a phi comes, and its edge
  pub phi_source : (to : ℕ) (c : Block) (x : Phi) (i : Incoming) → slice_get f.blocks to ≡ Some c → IsListed x c.phis → IsListed i x.incoming → (b : Block) × ((slice_get f.blocks (position_of f i.from) ≡ Some b) × ((b.label ≡ i.from) × IsListed c.label (targets b.term)))
  phi_source to c x i got phi incoming =
      let all = block_passes (breaks_edges f) k f edges to c got in
      let one = of_listed (PhiPasses (breaks_edges f) to) c.phis x all.phis phi in
      let fits : fits_edges (predecessors f c.label) x.incoming ≡ true =
      sym (ap (λ (o : Option Block). fits_edges (into_block (predecessors f) o) x.incoming) (ap (block_at f) one.1 ∙ got)) ∙ holds (fits_edges (into_block (predecessors f) (block_at f one.0.block)) x.incoming) one.2 in
      let rest = and_second (list_all (has (incoming_labels x.incoming)) (predecessors f c.label)) (list_all (has (predecessors f c.label)) (incoming_labels x.incoming) && not (list_any (differs x.incoming) x.incoming)) fits in
      let named : list_all (has (predecessors f c.label)) (incoming_labels x.incoming) ≡ true = and_first (list_all (has (predecessors f c.label)) (incoming_labels x.incoming)) (not (list_any (differs x.incoming) x.incoming)) rest in
      let there = has_listed (predecessors f c.label) i.from (all_listed (has (predecessors f c.label)) (incoming_labels x.incoming) named i.from (listed_mapped (λ (j : Incoming). j.from) x.incoming i incoming)) in
      let b = from_mapped (λ (d : Block). d.label) (filter (leads c.label) f.blocks) i.from there in
      let y = from_filtered (leads c.label) f.blocks b.0 b.1.0 in
      let p = place_of f.blocks b.0 y.0 in
      let at : position_of f i.from ≡ p.0 = ap (position_of f) b.1.1 ∙ own_label k f once p.0 b.0 p.1 in (
        b.0,
        (ap (slice_get f.blocks) at ∙ p.1, (sym b.1.1, subst (IsListed c.label) (labels_same b.0.term) (has_listed (ending_labels b.0.term) c.label y.1))),
      )

-- ---- operands of phis are used on edges

module _ (f : Function) (v : ℕ) (i : Incoming) (local : i.value ≡ Operand.Local v) where
  in_incoming : (to : ℕ) (is : List Incoming) → IsListed i is → IsListed (edge_use (position_of f i.from) to v) (incoming_uses f to is)
  in_incoming to [] l = absurd l
  in_incoming to (j ∷ is) (inl e) =
      listed_left (edge_use (position_of f i.from) to v) (uses_by (position_of f j.from) to (local_of j.value)) (incoming_uses f to is)
      (subst (λ (x : Incoming). IsListed (edge_use (position_of f i.from) to v) (uses_by (position_of f x.from) to (local_of x.value))) e
      (subst (λ (x : Operand). IsListed (edge_use (position_of f i.from) to v) (uses_by (position_of f i.from) to (local_of x))) (sym local) (inl refl)))
  in_incoming to (j ∷ is) (inr l) = listed_right (edge_use (position_of f i.from) to v) (uses_by (position_of f j.from) to (local_of j.value)) (incoming_uses f to is) (in_incoming to is l)

  in_phis : (to : ℕ) (ps : List Phi) (x : Phi) → IsListed x ps → IsListed i x.incoming → IsListed (edge_use (position_of f i.from) to v) (phis_uses f to ps)
  in_phis to [] x l m = absurd l
  in_phis to (p ∷ ps) x (inl e) m = listed_left (edge_use (position_of f i.from) to v) (incoming_uses f to p.incoming) (phis_uses f to ps) (in_incoming to p.incoming (subst (λ (y : Phi). IsListed i y.incoming) e m))
  in_phis to (p ∷ ps) x (inr l) m = listed_right (edge_use (position_of f i.from) to v) (incoming_uses f to p.incoming) (phis_uses f to ps) (in_phis to ps x l m)

  in_blocks : (from : ℕ) (bs : List Block) (to : ℕ) (c : Block) (x : Phi) → slice_get bs to ≡ Some c → IsListed x c.phis → IsListed i x.incoming → IsListed (edge_use (position_of f i.from) (from + to) v) (blocks_uses f from bs)
  in_blocks from [] to c x e l m = absurd (cc)
  in_blocks from (b ∷ bs) zero c x e l m =
      let same : b ≡ c = cc in
      let here : from ≡ from + 0 = omega arith in
      subst (λ (n : ℕ). IsListed (edge_use (position_of f i.from) n v) (blocks_uses f from (b ∷ bs))) here
      (listed_left (edge_use (position_of f i.from) from v) (phis_uses f from b.phis) (blocks_uses f (from + 1) bs) (in_phis from b.phis x (subst (λ (y : Block). IsListed x y.phis) (sym same) l) m))
  in_blocks from (b ∷ bs) (suc to) c x e l m =
      let next : from + 1 + to ≡ from + suc to = omega arith in
      subst (λ (n : ℕ). IsListed (edge_use (position_of f i.from) n v) (blocks_uses f from (b ∷ bs))) next
      (listed_right (edge_use (position_of f i.from) (from + 1 + to) v) (phis_uses f from b.phis) (blocks_uses f (from + 1) bs) (in_blocks (from + 1) bs to c x e l m))

  pub used_on : (to : ℕ) (c : Block) (x : Phi) → slice_get f.blocks to ≡ Some c → IsListed x c.phis → IsListed i x.incoming → IsUsedOn f v (position_of f i.from) to
  used_on to c x e l m = let same : 0 + to ≡ to = omega arith in subst (λ (n : ℕ). IsUsedOn f v (position_of f i.from) n) same (in_blocks 0 f.blocks to c x e l m)
