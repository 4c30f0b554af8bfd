-- What a chunk's words say of its values.
use Rattle.std.specs.Prelude.{ℕ, Bool, false, List, IsTrue, length, map, slice_get, Some, None, Option, ◌≡◌, ◌↔◌, ◌+◌, ◌<◌, ◌/◌, ◌%◌}
use Rattle.flow_bits.specs.Bits.{HasBit}
use Rattle.flow_bits.specs.Reaching.{AnswersAt}
use Rattle.rule_uses.specs.flow_blocks.Edges.{block_edges}
use Rattle.rule_uses.specs.flow_blocks.Words.{word_at}
use Rattle.ir_base.specs.declared.outcome.Place.{Place}
use Rattle.rule_uses.specs.Questions.{block_word, has_bit}
use Rattle.ir_parts.specs.Parts.{Part}
use Rattle.ir_model.specs.declared.module.Function.{Function}
use Rattle.ir_paths.specs.Windows.{end_block}
use Rattle.rule_window_values.specs.Kept.{IsKept, value_of}
use Rattle.rule_window_values.specs.Words.{own_word, passed_word, starts_of}
use Rattle.rule_window_values.specs.declared.chunk.Chunk.{Chunk}
use Rattle.rule_window_values.specs.declared.rule.KeptRule.{KeptRule}
use Rattle.rule_window_values.specs.declared.spans.Span.{Span}

-- the words of a chunk are those of the function
pub record IsChunkOf (f : Function) (numbers : List (Option ℕ)) (spans : List Span) (chunk : ℕ) (c : Chunk) : Type 0 where
  pub number : c.number ≡ chunk
  pub end : c.end ≡ end_block f
  pub made : c.made ≡ map (block_word numbers chunk) f.blocks
  pub words_length : length c.words ≡ length f.blocks + 1
  pub words : (node word : ℕ) → slice_get c.words node ≡ Some word → AnswersAt (block_edges f) (map (passed_word c.made c.end) (block_edges f)) (starts_of numbers chunk spans) node word
  pub own : (block : ℕ) → word_at c.own block ≡ own_word numbers chunk block 0 spans

-- the word has the questions of this chunk whose values are made in a window and used behind it
pub record IsToldBy (f : Function) (numbers : List (Option ℕ)) (chunk word : ℕ) : Type 0 where
  pub each : (func v k : ℕ) → slice_get numbers v ≡ Some (Some k) → k / 64 ≡ chunk → HasBit word (k % 64) ↔ IsKept func f v

-- the words of all chunks below this one
pub record AreTold (f : Function) (numbers : List (Option ℕ)) (chunks : ℕ) (words : List ℕ) : Type 0 where
  pub words_length : length words ≡ chunks
  pub each : (func v k : ℕ) → slice_get numbers v ≡ Some (Some k) → k / 64 < chunks → HasBit (word_at words (k / 64)) (k % 64) ↔ IsKept func f v

-- ---- the test of a part

abbrev pub told_number : List ℕ → Option (Option ℕ) → Bool
told_number words (Some (Some k)) = has_bit (word_at words (k / 64)) (k % 64)
told_number words _ = false

abbrev pub told_value : List (Option ℕ) → List ℕ → Option ℕ → Bool
told_value numbers words None = false
told_value numbers words (Some v) = told_number words (slice_get numbers v)

-- the part makes a value whose question is told
abbrev pub breaks_value : List (Option ℕ) → List ℕ → Place → Part → Bool
breaks_value numbers words p x = told_value numbers words (value_of x)

-- the rule tells just the values that are made in a window and used behind it
pub record IsKeptRuleOf (f : Function) (r : KeptRule) : Type 0 where
  pub each : (func v : ℕ) → IsTrue (told_value r.numbers r.words (Some v)) ↔ IsKept func f v
