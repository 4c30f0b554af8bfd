-- The blocks to which the resume and destroy edges of suspends lead.
use Rattle.std.specs.Prelude.{◌≡◌, ℕ, List, [], Some, slice_get}
use Rattle.run_laws.specs.flow_solver.Paths.{IsListed}
use Rattle.run_laws.specs.ir_model.Names.{position_of}
use Rattle.run_laws.specs.ir_model.declared.instr.Terminator.{Terminator}
use Rattle.run_laws.specs.ir_model.declared.module.Block.{Block}
use Rattle.run_laws.specs.ir_model.declared.module.Function.{Function}
use Rattle.run_laws.specs.ir_paths.Paths.{targets}
use Rattle.ir_laws.specs.paths.woven_rules.Pairs.{AreDifferent}

-- an edge leads from a place among the targets of a block to a label
pub record LeadsFrom (f : Function) (k at label : ℕ) : Type 0 where
  pub block : Block
  pub got : slice_get f.blocks k ≡ Some block
  pub target : slice_get (targets block.term) at ≡ Some label

-- at most one edge leads to a label
abbrev pub IsEnteredOnce : Function → ℕ → Type 0
IsEnteredOnce f label = (k i l j : ℕ) → LeadsFrom f k i label → LeadsFrom f l j label → (k ≡ l) × (i ≡ j)

-- the label of a block that one edge leads to, and that does nothing but jump on
pub record IsOwnBlock (f : Function) (label : ℕ) : Type 0 where
  pub block : Block
  pub got : slice_get f.blocks (position_of f label) ≡ Some block
  pub is_label : block.label ≡ label
  pub no_phis : block.phis ≡ []
  pub no_instrs : block.instrs ≡ []
  pub next : ℕ
  pub jump : block.term ≡ Terminator.Jump next
  pub once : IsEnteredOnce f label

-- labels of such blocks, none of which stands twice
pub record AreOwnAndDifferent (f : Function) (labels : List ℕ) : Type 0 where
  pub own : (label : ℕ) → IsListed label labels → IsOwnBlock f label
  pub different : AreDifferent labels
