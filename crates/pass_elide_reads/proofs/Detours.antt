-- A path to a block outside of a region that makes a value leads around the region.
use Rattle.std.proofs.Common.{◌≡◌, ◌⊎◌, inl, inr, ⊎_elim, ℕ, [], ◌∷◌, subst, sym}
use Rattle.pass_elide_ready.specs.pass_elide_proof.pass_proofs.flow_blocks.Edges.{block_edges}
use Rattle.pass_elide_ready.specs.pass_elide_proof.pass_proofs.flow_blocks.Reach.{Edge, IsReached, Start}
use Rattle.pass_elide_ready.specs.pass_elide_proof.pass_proofs.flow_solver.Paths.{IsListed}
use Rattle.pass_elide_ready.specs.pass_elide_proof.pass_proofs.ir_model.declared.module.Function.{Function}
use Rattle.pass_elide_ready.specs.pass_elide_proof.pass_proofs.rule_uses.Undefined.{Entry, Next, ReachesWithout}
use Rattle.pass_elide_ready.specs.pass_elide_proof.pass_proofs.rule_uses.Uses.{values_at}

-- A region of blocks that is entered from one block outside, which isn't the entry. Where an edge leaves it, another way
-- leads from that block to the same target. No block outside makes the value.
module _ (f : Function) (v : ℕ) (In : ℕ → Type 0) (in_or : (b : ℕ) → In b ⊎ (In b → ⊥)) (home : ℕ)
    (outside : In home → ⊥) (unmade : (b : ℕ) → (In b → ⊥) → IsListed v (values_at f b) → ⊥) (no_start : In 0 → ⊥)
    (into : (from to : ℕ) → IsListed {X = ℕ × ℕ} (from, to) (block_edges f) → In to → In from ⊎ (from ≡ home))
    (out : (from to : ℕ) → IsListed {X = ℕ × ℕ} (from, to) (block_edges f) → In from → (In to → ⊥)
    → ReachesWithout f v home → ReachesWithout f v to) where
  record Comes (b : ℕ) : Type 0 where
    around : (In b → ⊥) → ReachesWithout f v b
    inside : In b → ReachesWithout f v home

  comes : (b : ℕ) → IsReached f (0 ∷ []) [] b → Comes b
  comes _ (Start b (inl first)) = record {
    around = λ away. subst (ReachesWithout f v) (sym first) Entry;
    inside = λ here. absurd (no_start (subst In first here));
  }
  comes _ (Start b (inr none)) = absurd none
  comes _ (Edge from to path edge free) =
      let x = comes from path in
      record {
        around = λ away. ⊎_elim (λ here. out from to edge here away (x.inside here))
            (λ not. Next from to (x.around not) (unmade from not) edge) (in_or from);
        inside = λ here. ⊎_elim (λ before. x.inside before)
            (λ same. subst (ReachesWithout f v) same (x.around (λ h. outside (subst In same h)))) (into from to edge here);
      }

  pub leads_around : (b : ℕ) → IsReached f (0 ∷ []) [] b → (In b → ⊥) → ReachesWithout f v b
  leads_around b path = (comes b path).around
