-- The labels of phis and of resume and destroy edges.
use Rattle.pass_edges_proof.proofs.ir_laws.facts.names_apart.Words.{either as either_true}
use Rattle.std.proofs.Common.{◌≡◌, ◌⊎◌, inl, inr, ⊎_elim, ℕ, zero, suc, ◌+◌, Bool, true, false, List, [], ◌∷◌, length, refl, sym, ap, ◌∙◌, subst}
use Rattle.std.specs.List.{list_all, list_any}
use Rattle.std.specs.Prelude.{Option, Some, None, filter, map, not, replicate, slice_get, slice_set, ◌&&◌, ◌==◌, if◌then◌else◌}
use Rattle.pass_edges_proof.proofs.ir_laws.paths.counted.PartFacts.{all_listed}
use Rattle.pass_edges_proof.proofs.rule_laws.rules.counted.PartFacts.{block_passes}
use Rattle.pass_fetch_proof.specs.cells.rules.Asked.{AreCellsFor}
use Rattle.pass_edges_proof.proofs.ir_laws.facts.Members.{at_each, each_there}
use Rattle.pass_edges_proof.proofs.ir_laws.facts.Truth.{equal_numbers, and_first, and_second, holds}
use Rattle.pass_edges_proof.proofs.ir_laws.facts.Lists.{set_other}
use Rattle.pass_edges_proof.proofs.rule_laws.rules.source_rules.Locals.{own_label}
use Rattle.pass_edges_proof.specs.rule_phis.Edges.{block_at, breaks_edges, differs, fits_edges, has, incoming_labels, into_block, leads, predecessors}
use Rattle.pass_edges_proof.specs.flow_solver.Paths.{IsListed}
use Rattle.pass_edges_proof.specs.rule_laws.rules.function_rules.Kept.{KeepsFunctionRules}
use Rattle.pass_edges_proof.specs.pass_intrinsics.Shapes.{suspends_of}
use Rattle.pass_edges_proof.specs.pass_intrinsics.declared.shape.SuspendPoint.{SuspendPoint}
use Rattle.ir_model.specs.Names.{position_of}
use Rattle.ir_model.specs.declared.instr.Incoming.{Incoming}
use Rattle.ir_model.specs.declared.module.Block.{Block}
use Rattle.ir_model.specs.declared.module.Function.{Function}
use Rattle.ir_model.specs.declared.module.Module.{Module}
use Rattle.pass_edges_proof.specs.run_laws.changed.Changed.{Each}
use Rattle.pass_edges_proof.specs.pass_cells.Kept.{entry, joined}
use Rattle.pass_edges_proof.specs.pass_cells.Plan.{returns_of, with_returns}

-- ---- a phi's operands come from blocks of the function

pub record IsLabel (bs : List Block) (label : ℕ) : Type 0 where
  pub at : ℕ
  pub block : Block
  pub got : slice_get bs at ≡ Some block
  pub same : block.label ≡ label

later : (b : Block) (bs : List Block) (label : ℕ) → IsLabel bs label → IsLabel (b ∷ bs) label
later b bs label x = record { at = suc x.at; block = x.block; got = x.got; same = x.same }

filtered_label : (t : Block → Bool) (bs : List Block) (label : ℕ) → has (map (λ b. b.label) (filter t bs)) label ≡ true → IsLabel bs label
filtered_label t [] label h = absurd (cc)
filtered_label t (b ∷ bs) label h = on (t b) h (filtered_label t bs label)
  where
    on : (c : Bool) → has (map (λ x. x.label) (if c then b ∷ filter t bs else filter t bs)) label ≡ true → (has (map (λ x. x.label) (filter t bs)) label ≡ true → IsLabel bs label) → IsLabel (b ∷ bs) label
    on true k rest = ⊎_elim (λ e. record { at = 0; block = b; got = refl; same = equal_numbers b.label label e }) (λ r. later b bs label (rest r)) (either_true (b.label == label) (has (map (λ x. x.label) (filter t bs)) label) k)
    on false k rest = later b bs label (rest k)

from_listed : (is : List Incoming) (k : ℕ) (i : Incoming) → slice_get is k ≡ Some i → IsListed i.from (incoming_labels is)
from_listed [] k i e = absurd (cc)
from_listed (j ∷ is) zero i e = let same : j ≡ i = cc in inl (ap (λ (x : Incoming). x.from) (sym same))
from_listed (j ∷ is) (suc k) i e = inr (from_listed is k i e)

module _ (m : Module) (k : ℕ) (f : Function) (rules : KeepsFunctionRules m k f) where
  pub labels_there : (j : ℕ) (b : Block) → slice_get f.blocks j ≡ Some b → Each (λ p. Each (λ i. IsLabel f.blocks i.from) p.incoming) b.phis
  labels_there j b got =
      each_there _ b.phis (λ at p there.
      each_there _ p.incoming (λ c i e.
      let x = at_each _ b.phis at p (block_passes (breaks_edges f) k f rules.edges j b got).phis there in
      let fit : fits_edges (into_block (predecessors f) (block_at f (Some j))) p.incoming ≡ true = holds (fits_edges (into_block (predecessors f) (block_at f (Some j))) p.incoming) (ap (λ (o : Option ℕ). not (fits_edges (into_block (predecessors f) (block_at f o)) p.incoming)) (sym x.1) ∙ x.2) in
      let fits : fits_edges (predecessors f b.label) p.incoming ≡ true = subst (λ (o : Option Block). fits_edges (into_block (predecessors f) o) p.incoming ≡ true) got fit in
      let labels : List ℕ = predecessors f b.label in
      let rest : (list_all (has labels) (incoming_labels p.incoming) && not (list_any (differs p.incoming) p.incoming)) ≡ true = and_second (list_all (has (incoming_labels p.incoming)) labels) (list_all (has labels) (incoming_labels p.incoming) && not (list_any (differs p.incoming) p.incoming)) fits in
      let all : list_all (has labels) (incoming_labels p.incoming) ≡ true = and_first (list_all (has labels) (incoming_labels p.incoming)) (not (list_any (differs p.incoming) p.incoming)) rest in
      filtered_label (leads b.label) f.blocks i.from (all_listed (has labels) (incoming_labels p.incoming) all i.from (from_listed p.incoming c i e))))

-- ---- no suspend's edge leads to the entry block

pub untold : (count v : ℕ) → entry (replicate count None) v ≡ None
untold zero v = refl
untold (suc n) zero = refl
untold (suc n) (suc v) = untold n v

unreturned : (table : List (Option ℕ)) (j : ℕ) (ss : List SuspendPoint) (v : ℕ) → ((s : SuspendPoint) → IsListed s ss → (s.resume ≡ v → ⊥) × (s.destroy ≡ v → ⊥)) → entry (with_returns table j ss) v ≡ entry table v
unreturned table j [] v h = refl
unreturned table j (s ∷ ss) v h =
    unreturned (slice_set (slice_set table s.resume (Some j)) s.destroy (Some j)) (j + 1) ss v (λ x l. h x (inr l))
    ∙ ap joined (set_other (slice_set table s.resume (Some j)) s.destroy v (Some j) (h s (inl refl)).1)
    ∙ ap joined (set_other table s.resume v (Some j) (h s (inl refl)).0)

module _ (m : Module) (k : ℕ) (f : Function) (rules : KeepsFunctionRules m k f) (crossing : List (ℕ × ℕ)) (local : List Bool) (asked : AreCellsFor k f crossing local) where
  pub entry_unreturned : (b : Block) → slice_get f.blocks 0 ≡ Some b → entry (returns_of (length f.names) (suspends_of f)) b.label ≡ None
  entry_unreturned b got =
      let first : position_of f b.label ≡ 0 = own_label k f rules.definitions 0 b got in
      unreturned (replicate (length f.names) None) 0 (suspends_of f) b.label
      (λ s l. (λ e. (asked.returns s l).resume (ap (position_of f) e ∙ first), λ e. (asked.returns s l).destroy (ap (position_of f) e ∙ first)))
      ∙ untold (length f.names) b.label
