-- What the renaming of uses of coro.frame doesn't touch.
use Rattle.std.specs.Prelude.{◌≡◌, ℕ, false, Some, slice_get}
use Rattle.rule_laws.specs.rule_uses.Undefined.{params_of}
use Rattle.pass_early_proof.specs.early.renaming.Regular.{IsPlain}
use Rattle.pass_early.specs.declared.renaming.Renaming.{Renaming}
use Rattle.rule_laws.specs.flow_solver.Paths.{IsListed}
use Rattle.rule_laws.specs.ir_parts.Contents.{result_of}
use Rattle.ir_model.specs.declared.instr.Instr.{Instr}
use Rattle.ir_model.specs.declared.instr.Phi.{Phi}
use Rattle.ir_model.specs.declared.module.Block.{Block}
use Rattle.ir_model.specs.declared.module.Function.{Function}
use Rattle.ir_model.specs.declared.operand.Intrinsic.{Intrinsic}
use Rattle.rule_laws.specs.ir_paths.Windows.{is_call_of}

-- no parameter, no phi and no instruction but begin and coro.frame makes a value that is renamed or takes another's place
pub record HasPlainNames (f : Function) (r : Renaming) : Type 0 where
  pub params : (v : ℕ) → IsListed v (params_of f) → IsPlain r v
  pub phis : (k : ℕ) (b : Block) (j : ℕ) (p : Phi) → slice_get f.blocks k ≡ Some b → slice_get b.phis j ≡ Some p → IsPlain r p.result
  pub results : (k : ℕ) (b : Block) (j : ℕ) (i : Instr) (v : ℕ) → slice_get f.blocks k ≡ Some b → slice_get b.instrs j ≡ Some i → result_of i ≡ Some v → is_call_of Intrinsic.CoroBegin i ≡ false → is_call_of Intrinsic.CoroFrame i ≡ false → IsPlain r v
