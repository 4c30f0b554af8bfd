-- The blocks to which paths lead.
use Rattle.std.specs.Prelude.{ℕ, List, length, ◌<◌}
use Rattle.std.specs.List.Sorted.{IsStrictlyIncreasing}
use Rattle.flow_blocks.specs.Edges.{block_edges}
use Rattle.flow_bits.specs.flow_solver.Paths.{IsListed}
use Rattle.ir_model.specs.declared.module.Function.{Function}

-- A path leads to a block: from one of the starts, over edges between blocks to none that is avoided.
pub data IsReached (f : Function) (starts avoided : List ℕ) : ℕ → Type 0 where
  Start : (block : ℕ) → IsListed block starts → IsReached f starts avoided block
  Edge : (from to : ℕ) → IsReached f starts avoided from → IsListed (from, to) (block_edges f) → (IsListed to avoided → ⊥) → IsReached f starts avoided to

-- the list holds, in order of the text, exactly the blocks of a function to which such a path leads
pub record AreReached (f : Function) (starts avoided blocks : List ℕ) : Type 0 where
  pub in_order : IsStrictlyIncreasing blocks
  pub is_block : (b : ℕ) → IsListed b blocks → b < length f.blocks
  pub is_reached : (b : ℕ) → IsListed b blocks → IsReached f starts avoided b
  pub is_told : (b : ℕ) → b < length f.blocks → IsReached f starts avoided b → IsListed b blocks
