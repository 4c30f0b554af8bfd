-- Blocks to which one edge leads, and that have no phis, stay so.
use Rattle.std.proofs.Common.{◌≡◌, ℕ, zero, suc, ◌+◌, List, [], refl, sym, ◌∙◌}
use Rattle.std.specs.Prelude.{Some, slice_get}
use Rattle.rule_uses.specs.Uses.{values_at}
use Rattle.rule_phis.specs.Edges.{predecessors}
use Rattle.pass_intrinsics.specs.declared.shape.SuspendPoint.{SuspendPoint}
use Rattle.ir_laws.specs.ir_model.Names.{position_of}
use Rattle.ir_laws.specs.ir_model.declared.instr.Phi.{Phi}
use Rattle.ir_laws.specs.ir_model.declared.module.Block.{Block}
use Rattle.ir_laws.specs.ir_model.declared.module.Function.{Function}
use Rattle.ir_laws.specs.ir_model.declared.module.Module.{Module}
use Rattle.ir_laws.specs.ir_model.declared.operand.Operand.{Operand}
use Rattle.rule_laws.specs.frames.replaced.Splittable.{HasOwnEdges, IsLedToBy}
use Rattle.ir_laws.specs.run_laws.changed.Changed.{Each}
use Rattle.ir_laws.proofs.facts.Members.{each_turns}
use Rattle.rule_laws.specs.rules.woven_rules.Blocks.{AreWovenBlocks, IsWoven, NoBlock, OneBlock}
use Rattle.ir_laws.specs.facts.woven_rules.Pairs.{Empty, Pair, Pairwise}
use Rattle.rule_laws.specs.rules.woven_rules.Parts.{PhiStays}
use Rattle.rule_laws.specs.rules.woven_rules.Weaving.{IsInPlace, Weaving}

no_phis : (R : ℕ → Operand → Operand → Type 0) (ps qs : List Phi) → Pairwise (PhiStays R) ps qs → ps ≡ [] → qs ≡ []
no_phis R _ _ Empty e = refl
no_phis R _ _ (Pair p q ps qs s rest) e = absurd (cc)

module _ (w : Weaving) (m : Module) (f g : Function) (h : IsWoven w m f g) (edges : (label : ℕ) → predecessors g label ≡ predecessors f label) where
  -- a block without phis where it came from one
  record ComesFrom (at : ℕ) (bs : List Block) (c : Block) : Type 0 where
    block : Block
    there : slice_get bs at ≡ Some block
    label : c.label ≡ block.label
    phis : block.phis ≡ [] → c.phis ≡ []

  comes_from : (at block : ℕ) (bs cs : List Block) → AreWovenBlocks w m f g block bs cs → (c : Block) → slice_get cs at ≡ Some c → ComesFrom at bs c
  comes_from at block _ _ (NoBlock _) d e = absurd (cc)
  comes_from zero block _ _ (OneBlock _ b c bs cs s rest) d e =
      let one : d ≡ c = cc in
      record {
        block = b;
        there = refl;
        label = (λ k. (one k).label) ∙ s.label;
        phis = λ none. (λ k. (one k).phis) ∙ no_phis (λ (from : ℕ). IsInPlace w f (values_at g (position_of g from))) b.phis c.phis s.phis none;
      }
  comes_from (suc at) block _ _ (OneBlock _ b c bs cs s rest) d e =
      let x = comes_from at (block + 1) bs cs rest d e in
      record { block = x.block; there = x.there; label = x.label; phis = x.phis }

  led_to : (label from : ℕ) → IsLedToBy f label from → IsLedToBy g label from
  led_to label from s = record {
    phis = λ at c e is. let x = comes_from at 0 f.blocks g.blocks h.blocks c e in x.phis (s.phis at x.block x.there (sym x.label ∙ is));
    sources = edges label ∙ s.sources;
  }

  pub own_edges : (p : SuspendPoint) → HasOwnEdges f p → HasOwnEdges g p
  own_edges p s = record { resume = led_to p.resume p.block s.resume; destroy = led_to p.destroy p.block s.destroy }

  pub all_own_edges : (ps : List SuspendPoint) → Each (HasOwnEdges f) ps → Each (HasOwnEdges g) ps
  all_own_edges ps s = each_turns (HasOwnEdges f) (HasOwnEdges g) own_edges ps s
