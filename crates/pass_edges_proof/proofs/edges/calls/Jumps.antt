-- Blocks with phis are still entered by jumps where instructions are woven in.
use Rattle.std.proofs.Common.{◌≡◌, ℕ, zero, suc, ◌+◌, true, List, refl, sym, ap, ◌∙◌}
use Rattle.std.specs.Prelude.{Some, slice_get}
use Rattle.pass_early_proof.specs.rule_uses.Uses.{block_values, values_at}
use Rattle.pass_edges_proof.specs.edges.rules.Phis.{ArePhisEnteredByJumps}
use Rattle.pass_edges.specs.Edges.{has_phis}
use Rattle.pass_early_proof.specs.rule_phis.Edges.{has, leads}
use Rattle.ir_model.specs.Names.{position_of}
use Rattle.ir_model.specs.declared.instr.Phi.{Phi}
use Rattle.ir_model.specs.declared.instr.Terminator.{Terminator}
use Rattle.ir_model.specs.declared.module.Block.{Block}
use Rattle.ir_model.specs.declared.module.Function.{Function}
use Rattle.ir_model.specs.declared.module.Module.{Module}
use Rattle.ir_model.specs.declared.operand.Operand.{Operand}
use Rattle.pass_early_proof.proofs.rule_laws.rules.woven_rules.Operands.{same_labels}
use Rattle.pass_early_proof.specs.rule_laws.rules.woven_rules.Blocks.{AreWovenBlocks, IsWoven, NoBlock, OneBlock}
use Rattle.pass_early_proof.specs.ir_laws.facts.woven_rules.Pairs.{Empty, Pair, Pairwise}
use Rattle.pass_early_proof.specs.ir_laws.facts.woven_rules.Parts.{Branch, Jump, Return, ReturnVoid, Switch, TermStays, Unreachable}
use Rattle.pass_early_proof.specs.rule_laws.rules.woven_rules.Parts.{PhiStays}
use Rattle.pass_early_proof.specs.rule_laws.rules.woven_rules.Weaving.{IsInPlace, Weaving}

same_jump : (R : Operand → Operand → Type 0) (l : ℕ) (t u : Terminator) → TermStays R t u → t ≡ Terminator.Jump l → u ≡ Terminator.Jump l
same_jump R l _ _ (Jump label) e = e
same_jump R l _ _ (Branch x y a b s) e = absurd (cc)
same_jump R l _ _ (Switch a c default cases s k) e = absurd (cc)
same_jump R l _ _ (Return a c s) e = absurd (cc)
same_jump R l _ _ ReturnVoid e = absurd (cc)
same_jump R l _ _ Unreachable e = absurd (cc)

same_phis : (R : ℕ → Operand → Operand → Type 0) (ps qs : List Phi) → Pairwise (PhiStays R) ps qs → has_phis qs ≡ has_phis ps
same_phis R _ _ Empty = refl
same_phis R _ _ (Pair p q ps qs s rest) = refl

module _ (w : Weaving) (m : Module) (f g : Function) (h : IsWoven w m f g) where
  record ComesFrom (at : ℕ) (bs : List Block) (c : Block) : Type 0 where
    block : Block
    there : slice_get bs at ≡ Some block
    label : c.label ≡ block.label
    phis : has_phis c.phis ≡ has_phis block.phis
    leads_same : (l : ℕ) → leads l c ≡ leads l block
    jump : (l : ℕ) → block.term ≡ Terminator.Jump l → c.term ≡ Terminator.Jump l

  comes_from : (at block : ℕ) (bs cs : List Block) → AreWovenBlocks w m f g block bs cs → (c : Block) → slice_get cs at ≡ Some c → ComesFrom at bs c
  comes_from at block _ _ (NoBlock _) d e = absurd (cc)
  comes_from zero block _ _ (OneBlock _ b c bs cs s rest) d e =
      let one : d ≡ c = cc in
      let R : Operand → Operand → Type 0 = IsInPlace w f (block_values c) in
      record {
        block = b;
        there = refl;
        label = (λ k. (one k).label) ∙ s.label;
        phis = (λ k. has_phis (one k).phis) ∙ same_phis (λ (from : ℕ). IsInPlace w f (values_at g (position_of g from))) b.phis c.phis s.phis;
        leads_same = λ l. (λ k. leads l (one k)) ∙ ap (λ (ls : List ℕ). has ls l) (same_labels R b.term c.term s.term);
        jump = λ l j. (λ k. (one k).term) ∙ same_jump R l b.term c.term s.term j;
      }
  comes_from (suc at) block _ _ (OneBlock _ b c bs cs s rest) d e =
      let x = comes_from at (block + 1) bs cs rest d e in
      record { block = x.block; there = x.there; label = x.label; phis = x.phis; leads_same = x.leads_same; jump = x.jump }

  pub jumps_stay : ArePhisEnteredByJumps f → ArePhisEnteredByJumps g
  jumps_stay jumps k j b c got some there led =
      let x = comes_from k 0 f.blocks g.blocks h.blocks b got in
      let y = comes_from j 0 f.blocks g.blocks h.blocks c there in
      let was : leads x.block.label y.block ≡ true = sym (y.leads_same x.block.label) ∙ ap (λ (l : ℕ). leads l c) (sym x.label) ∙ led in
      y.jump x.block.label (jumps k j x.block y.block x.there (sym x.phis ∙ some) y.there was)
      ∙ ap (λ (l : ℕ). Terminator.Jump l) (sym x.label)
