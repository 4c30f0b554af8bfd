-- The blocks to which the resume and destroy edges of suspends lead.
use Rattle.std.specs.Prelude.{◌≡◌, ℕ, true, [], Some, slice_get}
use Rattle.pass_proofs.specs.ir_model.Names.{position_of}
use Rattle.pass_proofs.specs.ir_model.declared.instr.Instr.{Instr}
use Rattle.pass_proofs.specs.ir_model.declared.module.Block.{Block}
use Rattle.pass_proofs.specs.ir_model.declared.module.Function.{Function}
use Rattle.pass_proofs.specs.pass_intrinsics.Shapes.{is_end}
use Rattle.pass_split_proof.specs.states.Related.{weight}
use Rattle.pass_proofs.specs.run_step.Step.{AtInstr, fetch}

-- The label is that of a block without phis, which begins with what is one step of a part: its terminator, or an
-- instruction that loads what crosses. It isn't the end.
pub record IsReturnBlock (f : Function) (label : ℕ) : Type 0 where
  pub block : Block
  pub got : slice_get f.blocks (position_of f label) ≡ Some block
  pub is_label : block.label ≡ label
  pub no_phis : block.phis ≡ []
  pub light : weight (fetch f (position_of f label) 0) ≡ 1
  pub no_end : (i : Instr) → fetch f (position_of f label) 0 ≡ AtInstr i → is_end i ≡ true → ⊥
