-- The nodes to which a path leads over edges that let a question through.
use Rattle.std.specs.Prelude.{◌≡◌, ℕ, List, Some, slice_get, ◌<◌}
use Rattle.flow_bits.specs.Bits.{HasBit}
use Rattle.flow_solver.specs.Paths.{IsListed}

-- A path for the question c leads to a node: from one of its starts, a listed node whose word has the bit c, over edges
-- whose kept words have it.
pub data Reaches (edges : List (ℕ × ℕ)) (kept : List ℕ) (starts : List (ℕ × ℕ)) (c : ℕ) : ℕ → Type 0 where
  Start : (node word : ℕ) → IsListed (node, word) starts → HasBit word c → Reaches edges kept starts c node
  Edge : (e from to word : ℕ) → slice_get edges e ≡ Some (from, to) → slice_get kept e ≡ Some word → HasBit word c → Reaches edges kept starts c from → Reaches edges kept starts c to

-- the word's bits are the questions whose paths lead to the node
pub record AnswersAt (edges : List (ℕ × ℕ)) (kept : List ℕ) (starts : List (ℕ × ℕ)) (node word : ℕ) : Type 0 where
  pub is_reached : (c : ℕ) → c < 64 → HasBit word c → Reaches edges kept starts c node
  pub is_told : (c : ℕ) → c < 64 → Reaches edges kept starts c node → HasBit word c

-- all starts are at nodes
abbrev pub StartAt : ℕ → List (ℕ × ℕ) → Type 0
StartAt nodes starts = (i node word : ℕ) → slice_get starts i ≡ Some (node, word) → node < nodes
