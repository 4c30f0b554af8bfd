-- Slots that are used before begin, by words.
use Rattle.std.specs.Prelude.{◌≡◌, ◌↔◌, ◌<◌, ◌+◌, ℕ, Bool, List, [], ◌∷◌, bit_or, slice_get, Some, if◌then◌else◌}
use Rattle.flow_bits.specs.Bits.{HasBit}
use Rattle.ir_model.specs.declared.module.Function.{Function}
use Rattle.ir_paths.specs.declared.point.Point.{Point}
use Rattle.flow_points.specs.Rows.{is_marked}
use Rattle.frame_conflicts.specs.Conflicts.{IsUsedEarly}
use Rattle.frame_classes.specs.rule_slots.Early.{end_at}
use Rattle.frame_classes.specs.frame_slots.declared.edge.EdgeWord.{EdgeWord}

-- the word has the slots of a chunk that are used before begin
pub record AreEarly (f : Function) (slots : List ℕ) (word : ℕ) : Type 0 where
  pub each : (c slot : ℕ) → c < 64 → slice_get slots c ≡ Some slot → HasBit word c ↔ IsUsedEarly f slot

-- ---- words of what stands at marked points

abbrev pub word_if : Bool → ℕ → ℕ
word_if b word = if b then word else 0

abbrev pub early_row : List (List Bool) → ℕ → ℕ → ℕ → List ℕ → ℕ
early_row before block at word [] = word
early_row before block at word (w ∷ ws) = early_row before block (at + 1) (bit_or word (word_if (is_marked before (record { block = block; at = at })) w)) ws

abbrev pub early_rows : List (List Bool) → ℕ → ℕ → List (List ℕ) → ℕ
early_rows before block word [] = word
early_rows before block word (row ∷ rows) = early_rows before (block + 1) (early_row before block 0 word row) rows

-- and of what is on edges out of blocks whose ends are marked
abbrev pub early_edges : Function → List (List Bool) → ℕ → List EdgeWord → ℕ
early_edges f before word [] = word
early_edges f before word (e ∷ es) = early_edges f before (bit_or word (word_if (is_marked before (end_at f e.from)) e.word)) es
