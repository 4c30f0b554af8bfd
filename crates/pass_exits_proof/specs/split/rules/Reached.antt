-- The labels to which paths lead from the entry of a function.
use Rattle.std.specs.Prelude.{◌≡◌, ℕ, Some, length, slice_get, ◌<◌}
use Rattle.pass_split.specs.Reached.{entry_of, targets_at}
use Rattle.pass_fetch_proof.specs.flow_solver.Paths.{IsListed}
use Rattle.ir_model.specs.Names.{position_of}
use Rattle.ir_model.specs.declared.module.Block.{Block}
use Rattle.ir_model.specs.declared.module.Function.{Function}
use Rattle.pass_fetch_proof.specs.ir_paths.Paths.{targets}
use Rattle.pass_fetch_proof.specs.run_laws.changed.Changed.{Each}

-- A path leads from the entry's label to a label, along the edges of the blocks that have the labels.
pub data IsLedTo (f : Function) : ℕ → Type 0 where
  Entry : (label : ℕ) → IsListed label (entry_of f.blocks) → IsLedTo f label
  Edge : (from label : ℕ) → IsLedTo f from → IsListed label (targets_at f from) → IsLedTo f label

abbrev pub IsTabled : Function → ℕ → Type 0
IsTabled f label = label < length f.names

-- the labels that the entry has and that edges name are positions of the table of names
pub record HasTabledLabels (f : Function) : Type 0 where
  pub entry : Each (IsTabled f) (entry_of f.blocks)
  pub targets : (from : ℕ) → Each (IsTabled f) (targets_at f from)

-- each block is the first with its label, and each label that an edge names is a block's
pub record HasOwnBlocks (f : Function) : Type 0 where
  pub first : (at : ℕ) (b : Block) → slice_get f.blocks at ≡ Some b → position_of f b.label ≡ at
  pub there : (b : Block) (label : ℕ) → IsListed b f.blocks → IsListed label (targets b.term) → (c : Block) × (IsListed c f.blocks × (c.label ≡ label))
