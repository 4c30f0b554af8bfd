-- Words and marks of blocks.
use Rattle.std.specs.Prelude.{◌≡◌, ℕ, Bool, true, false, List, length, slice_get, Some, None, Option, unwrap_or, ◌<◌}
use Rattle.std.specs.List.Sorted.{IsStrictlyIncreasing}
use Rattle.flow_bits.specs.Bits.{HasBit}
use Rattle.flow_bits.specs.flow_solver.Paths.{IsListed}

-- a mark for each node, set exactly where the node is listed
pub record AreMarked (nodes : ℕ) (blocks : List ℕ) (marks : List Bool) : Type 0 where
  pub marks_length : length marks ≡ nodes
  pub marks_listed : (b : ℕ) → slice_get marks b ≡ Some true → IsListed b blocks
  pub is_marked : (b : ℕ) → b < nodes → IsListed b blocks → slice_get marks b ≡ Some true

abbrev pub word_of : Option Bool → ℕ
word_of None = 1
word_of (Some true) = 0
word_of (Some false) = 1

-- the word of an edge to a block: empty where the block is marked
abbrev pub kept_word : List Bool → ℕ → ℕ
kept_word marks b = word_of (slice_get marks b)

abbrev pub word_at : List ℕ → ℕ → ℕ
word_at words b = unwrap_or (slice_get words b) 0

-- the list holds, in their order, exactly the first numbers whose word has the lowest bit
pub record AreTold (words : List ℕ) (count : ℕ) (blocks : List ℕ) : Type 0 where
  pub in_order : IsStrictlyIncreasing blocks
  pub below : (b : ℕ) → IsListed b blocks → b < count
  pub has_bit : (b : ℕ) → IsListed b blocks → HasBit (word_at words b) 0
  pub listed : (b : ℕ) → b < count → HasBit (word_at words b) 0 → IsListed b blocks
