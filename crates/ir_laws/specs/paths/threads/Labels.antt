-- Lemmas on labels, that speak of no pass.
use Rattle.std.specs.Prelude.{ℕ, length, ◌<◌}
use Rattle.run_laws.specs.ir_model.declared.module.Block.{Block}
use Rattle.run_laws.specs.ir_model.declared.module.Function.{Function}
use Rattle.run_laws.specs.ir_paths.Paths.{targets}
use Rattle.run_laws.specs.changed.Changed.{Each}

-- the label of a block and those of its terminator are among so many names
pub record HasLabelsBelow (n : ℕ) (b : Block) : Type 0 where
  pub label : b.label < n
  pub targets : Each (λ t. t < n) (targets b.term)

-- the same in all of a function, whose table has these names
abbrev pub HasNamedLabels : Function → Type 0
HasNamedLabels f = Each (HasLabelsBelow (length f.names)) f.blocks
