-- What passes keep of begin's value: paths without it were there before, and what made it still does.
use Rattle.std.proofs.Common.{◌≡◌, ℕ, false, List, sym, ap, ◌∙◌, subst}
use Rattle.std.specs.Prelude.{Option, map}
use Rattle.pass_fetch_proof.specs.addresses.begin_order.Behind.{IsBehind, IsIncomingBehind}
use Rattle.pass_edges_proof.specs.rule_uses.Undefined.{ReachesWithout, params_of}
use Rattle.pass_edges_proof.specs.rule_uses.Uses.{values_at}
use Rattle.pass_edges_proof.specs.flow_solver.Paths.{IsListed}
use Rattle.pass_edges_proof.specs.rule_laws.rules.function_rules.Kept.{KeepsFunctionRules}
use Rattle.ir_model.specs.Names.{position_of}
use Rattle.ir_model.specs.declared.instr.Incoming.{Incoming}
use Rattle.ir_model.specs.declared.instr.Phi.{Phi}
use Rattle.ir_model.specs.declared.module.Function.{Function}
use Rattle.ir_model.specs.declared.module.Module.{Module}
use Rattle.ir_model.specs.declared.operand.Operand.{Operand}
use Rattle.pass_edges_proof.specs.run_laws.changed.Changed.{Each}
use Rattle.pass_edges_proof.proofs.rule_laws.rules.woven_rules.Edges.{same_edges, same_position}
use Rattle.pass_edges_proof.proofs.rule_laws.rules.woven_rules.Laid.{AreLaidBlocks, laid}
use Rattle.pass_edges_proof.proofs.rule_laws.rules.woven_rules.Once.{below}
use Rattle.pass_edges_proof.proofs.ir_laws.facts.Members.{each_turns}
use Rattle.pass_edges_proof.proofs.rule_laws.rules.woven_rules.Uses.{path_before, within_at}
use Rattle.pass_edges_proof.specs.rule_laws.rules.woven_rules.Blocks.{IsWoven}
use Rattle.pass_edges_proof.specs.rule_laws.rules.woven_rules.Pairs.{AreIncomingOnce}
use Rattle.pass_edges_proof.specs.rule_laws.rules.woven_rules.Weaving.{IsThere, Weaving}

-- g makes the value where f does, and paths lead the same way
pub record Passes (f g : Function) (begin : ℕ) : Type 0 where
  pub path : (block : ℕ) → ReachesWithout g begin block → ReachesWithout f begin block
  pub made : (block : ℕ) → IsListed begin (values_at f block) → IsListed begin (values_at g block)
  pub position : (label : ℕ) → position_of g label ≡ position_of f label
  pub params : params_of g ≡ params_of f

pub woven_passes : (w : Weaving) (m : Module) (k : ℕ) (f g : Function) (begin : ℕ) → IsWoven w m f g → KeepsFunctionRules m k f → AreIncomingOnce f → w.goes begin ≡ false → Passes f g begin
woven_passes w m k f g begin h keeps once stays =
    let blocks : AreLaidBlocks w m f g 0 f.blocks g.blocks = laid w m f g h (below w m k f g h keeps.tabled) once in
    record {
      path = λ block r. path_before w m f g h (same_edges w m f g blocks) (same_position w m f g blocks) begin block stays r;
      made = λ block l. within_at w m f g h block begin stays l;
      position = same_position w m f g blocks;
      params = ap (λ ps. map (λ p. p.name) ps) h.params;
    }

pub passes_both : (f g h : Function) (begin : ℕ) → Passes f g begin → Passes g h begin → Passes f h begin
passes_both f g h begin a b =
    record {
      path = λ block r. a.path block (b.path block r);
      made = λ block l. b.made block (a.made block l);
      position = λ label. b.position label ∙ a.position label;
      params = b.params ∙ a.params;
    }

module _ (f g : Function) (begin : ℕ) (offsets : List (Option ℕ)) (passes : Passes f g begin) where
  pub there_still : (block : ℕ) (before made : List ℕ) → (IsListed begin before → IsListed begin made) → IsThere f block before begin → IsThere g block made begin
  there_still block before made up k r none no_param = k (passes.path block r) (λ l. none (up l)) (λ l. no_param (subst (IsListed begin) (sym passes.params) l))

  pub operand_still : (block : ℕ) (before made : List ℕ) → (IsListed begin before → IsListed begin made) → (x : Operand) → IsBehind f begin offsets block before x → IsBehind g begin offsets block made x
  operand_still block before made up (Operand.Local v) k = λ e. there_still block before made up (k e)
  operand_still block before made up _ k = tt

  pub operands_still : (block : ℕ) (before made : List ℕ) → (IsListed begin before → IsListed begin made) → (xs : List Operand) → Each (IsBehind f begin offsets block before) xs → Each (IsBehind g begin offsets block made) xs
  operands_still block before made up xs k = each_turns (IsBehind f begin offsets block before) (IsBehind g begin offsets block made) (λ x h. operand_still block before made up x h) xs k

  pub incoming_still : (i : Incoming) → IsIncomingBehind f begin offsets i → IsIncomingBehind g begin offsets i
  incoming_still i k =
      subst (λ (n : ℕ). IsBehind g begin offsets n (values_at g n) i.value) (sym (passes.position i.from))
      (operand_still (position_of f i.from) (values_at f (position_of f i.from)) (values_at g (position_of f i.from)) (passes.made (position_of f i.from)) i.value k)

  pub phis_still : (ps : List Phi) → Each (λ (p : Phi). Each (IsIncomingBehind f begin offsets) p.incoming) ps → Each (λ (p : Phi). Each (IsIncomingBehind g begin offsets) p.incoming) ps
  phis_still ps k =
      each_turns (λ (p : Phi). Each (IsIncomingBehind f begin offsets) p.incoming) (λ (p : Phi). Each (IsIncomingBehind g begin offsets) p.incoming)
      (λ p h. each_turns (IsIncomingBehind f begin offsets) (IsIncomingBehind g begin offsets) incoming_still p.incoming h) ps k
