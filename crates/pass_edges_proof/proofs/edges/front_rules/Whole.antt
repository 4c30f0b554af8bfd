-- A framed coroutine stays as splitting asks when the allocas of its entry block are moved to its front.
use Rattle.std.proofs.Common.{◌≡◌, ℕ, true, List, ap, sym, ◌∙◌}
use Rattle.std.specs.Prelude.{slice_get}
use Rattle.pass_edges.specs.Edges.{has_phis}
use Rattle.pass_early_proof.specs.rule_phis.Edges.{has, leads}
use Rattle.pass_edges_proof.specs.edges.rules.Phis.{ArePhisEnteredByJumps}
use Rattle.pass_early_proof.specs.rule_laws.rules.woven_rules.Pairs.{AreIncomingOnce}
use Rattle.pass_early_proof.specs.pass_front.Front.{with_front_allocas}
use Rattle.pass_early_proof.specs.ir_parts.Contents.{ending_labels}
use Rattle.ir_model.specs.declared.instr.Phi.{Phi}
use Rattle.ir_model.specs.declared.instr.Terminator.{Terminator}
use Rattle.ir_model.specs.declared.module.Block.{Block}
use Rattle.ir_model.specs.declared.module.Function.{Function}
use Rattle.ir_model.specs.declared.module.Module.{Module}
use Rattle.pass_early_proof.proofs.ir_laws.facts.Numbers.{same_term}
use Rattle.pass_early_proof.proofs.ir_laws.facts.Lists.{source_of}
use Rattle.pass_edges_proof.proofs.edges.front_rules.Shape.{shape_kept}
use Rattle.pass_early_proof.specs.rule_laws.frames.shape.Passes.{IsKept}
use Rattle.pass_early_proof.proofs.rule_laws.rules.front_rules.Whole.{rules_kept}

pub once_kept : (f : Function) → AreIncomingOnce f → AreIncomingOnce (with_front_allocas f)
once_kept f once k j c p there phi =
    let x = source_of f.blocks k c there in
    once k j x.0 p x.1.0 (ap (λ (ps : List Phi). slice_get ps j) (sym (same_term x.0 c x.1.1).1.0) ∙ phi)

pub jumps_kept : (f : Function) → ArePhisEnteredByJumps f → ArePhisEnteredByJumps (with_front_allocas f)
jumps_kept f jumps k j b c there some other on =
    let x = source_of f.blocks k b there in
    let y = source_of f.blocks j c other in
    let s = same_term x.0 b x.1.1 in
    let t = same_term y.0 c y.1.1 in
    t.0 ∙ jumps k j x.0 y.0 x.1.0 (ap has_phis (sym s.1.0) ∙ some) y.1.0 (leads_was x.0 b y.0 c s.1.1 t.0 on) ∙ ap Terminator.Jump (sym s.1.1)
  where
    leads_was : (x b y c : Block) → b.label ≡ x.label → c.term ≡ y.term → leads b.label c ≡ true → leads x.label y ≡ true
    leads_was x b y c label term on = ap (λ (n : ℕ). leads n y) (sym label) ∙ ap (λ (t : Terminator). has (ending_labels t) b.label) (sym term) ∙ on

pub all_kept : (m : Module) (func : ℕ) (f : Function) (begin : ℕ) → IsKept m func f begin → IsKept m func (with_front_allocas f) begin
all_kept m func f begin h = record { coroutine = h.coroutine; rules = rules_kept m func f h.rules; once = once_kept f h.once; shape = shape_kept func f begin h.coroutine h.shape }
