-- What blocks on edges ask of a function's phis, and that labels are given once.
use Rattle.std.specs.Prelude.{ℕ, IsTrue, slice_get, Some, ◌≡◌, ◌==◌}
use Rattle.pass_edges.specs.EdgeBlocks.{operand_from}
use Rattle.ir_model.specs.Names.{position_of}
use Rattle.ir_model.specs.declared.instr.Incoming.{Incoming}
use Rattle.ir_model.specs.declared.instr.Phi.{Phi}
use Rattle.ir_model.specs.declared.module.Block.{Block}
use Rattle.ir_model.specs.declared.module.Function.{Function}
use Rattle.pass_early_proof.specs.ir_paths.Paths.{targets}
use Rattle.pass_early_proof.specs.run_laws.changed.Changed.{Each}
use Rattle.std.specs.List.{list_any}

-- each label is that of one block
abbrev pub AreLabelsOnce : Function → Type 0
AreLabelsOnce f = (k : ℕ) (b : Block) → slice_get f.blocks k ≡ Some b → position_of f b.label ≡ k

-- an edge leads from a block with the label from to a label
pub record ComesFrom (f : Function) (from label : ℕ) : Type 0 where
  pub at : ℕ
  pub block : Block
  pub got : slice_get f.blocks at ≡ Some block
  pub is_label : block.label ≡ from
  pub leads : IsTrue (list_any (λ t. t == label) (targets block.term))

-- an operand of a phi is for a block from which an edge comes, and the first one for it is the same
pub record IsForEdge (f : Function) (label : ℕ) (p : Phi) (i : Incoming) : Type 0 where
  pub comes : ComesFrom f i.from label
  pub first : operand_from p.incoming i.from ≡ Some i.value

-- the same of all phis
abbrev pub ArePhisForEdges : Function → Type 0
ArePhisForEdges f = Each (λ (b : Block). Each (λ (p : Phi). Each (IsForEdge f b.label p) p.incoming) b.phis) f.blocks
