-- Lemmas on ramp quiet, that speak of no pass.
use Rattle.std.proofs.Common.{◌≡◌, ℕ}
use Rattle.std.specs.Prelude.{Some, slice_get}
use Rattle.rule_laws.proofs.rules.counted.PartFacts.{AllMadeBefore}
use Rattle.rule_uses.specs.Undefined.{ReachesWithout, params_of}
use Rattle.rule_uses.specs.Uses.{block_values, locals_in, phi_values, values_at}
use Rattle.ir_laws.specs.flow_solver.Paths.{IsListed}
use Rattle.ir_parts.specs.Contents.{ending_operands}
use Rattle.ir_laws.specs.ir_model.Names.{position_of}
use Rattle.ir_laws.specs.ir_model.declared.instr.Incoming.{Incoming}
use Rattle.ir_laws.specs.ir_model.declared.instr.Phi.{Phi}
use Rattle.ir_laws.specs.ir_model.declared.module.Block.{Block}
use Rattle.ir_laws.specs.ir_model.declared.module.Function.{Function}
use Rattle.ir_laws.specs.ir_model.declared.operand.Operand.{Operand}
use Rattle.rule_laws.specs.rules.replaced.Splittable.{AreBegun}

-- no use of a function is undefined (F2), and what asks for begin stands behind it
pub record IsMade (h : Function) (begin : ℕ) : Type 0 where
  pub instrs : (q : ℕ) (b : Block) → slice_get h.blocks q ≡ Some b → AllMadeBefore h q (phi_values b) b.instrs
  pub begun : (q : ℕ) (b : Block) → slice_get h.blocks q ≡ Some b → AreBegun h begin q (phi_values b) b.instrs
  pub term : (v q : ℕ) (b : Block) → (IsListed v (params_of h) → ⊥) → slice_get h.blocks q ≡ Some b → ReachesWithout h v q → (IsListed v (block_values b) → ⊥) → IsListed v (locals_in (ending_operands b.term)) → ⊥
  pub phi : (v to : ℕ) (c : Block) (x : Phi) (i : Incoming) → (IsListed v (params_of h) → ⊥) → slice_get h.blocks to ≡ Some c → IsListed x c.phis → IsListed i x.incoming → i.value ≡ Operand.Local v → ReachesWithout h v (position_of h i.from) → (IsListed v (values_at h (position_of h i.from)) → ⊥) → ⊥
