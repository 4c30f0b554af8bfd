-- Where a slot may be alive from a start of it on, by words.
use Rattle.std.specs.Prelude.{◌≡◌, ◌↔◌, ◌<◌, ◌++◌, ℕ, List, [], ◌∷◌, bit_or, map, slice_get, Some, Option, IsTrue}
use Rattle.flow_bits.specs.Bits.{HasBit}
use Rattle.ir_model.specs.declared.instr.Instr.{Instr}
use Rattle.ir_model.specs.declared.module.Block.{Block}
use Rattle.ir_model.specs.declared.module.Function.{Function}
use Rattle.ir_model.specs.declared.operand.Intrinsic.{Intrinsic}
use Rattle.ir_paths.specs.Paths.{Leads, has_point}
use Rattle.ir_paths.specs.declared.point.Point.{Point}
use Rattle.frame_classes.specs.flow_reach.Reached.{IsPointOf, word_at_point}
use Rattle.frame_classes.specs.flow_reach.declared.question.Pass.{Pass}
use Rattle.frame_classes.specs.Alive.{markers_of}
use Rattle.frame_classes.specs.frame_slots.Uses.{ends_of, starts_of}
use Rattle.frame_classes.specs.frame_slots.Markers.{marker_word}
use Rattle.frame_classes.specs.frame_slots.Words.{marked}
use Rattle.frame_classes.specs.frame_slots.declared.markers.Mark.{Mark}
use Rattle.frame_classes.specs.frame_slots.declared.markers.Marker.{Marker}

-- a path leads to the point from a start of the slot without an end of it between
pub record IsStarted (f : Function) (slot : ℕ) (p : Point) : Type 0 where
  pub start : Point
  pub is_start : IsTrue (has_point (starts_of f slot) start)
  pub leads : Leads f (ends_of f slot) start p

-- the word of a point has the slots of a chunk that are started there
pub record AreStarted (f : Function) (slots : List ℕ) (rows : List (List ℕ)) : Type 0 where
  pub each : (p : Point) (c slot : ℕ) → IsPointOf f p → c < 64 → slice_get slots c ≡ Some slot → HasBit (word_at_point rows p) c ↔ IsStarted f slot p

-- the word has the slots of a chunk that have markers
pub record HaveMarkers (f : Function) (slots : List ℕ) (word : ℕ) : Type 0 where
  pub marked : (c slot : ℕ) → c < 64 → slice_get slots c ≡ Some slot → HasBit word c → markers_of f slot ≡ [] → ⊥
  pub unmarked : (c slot : ℕ) → c < 64 → slice_get slots c ≡ Some slot → (HasBit word c → ⊥) → markers_of f slot ≡ []

-- ---- passes

-- a slot's paths begin behind its starts and end at its ends
abbrev pub pass_of : List ℕ → Instr → Pass
pass_of names i = record { stops = marked Intrinsic.LifetimeEnd names i; begins = marked Intrinsic.LifetimeStart names i }

abbrev pub no_pass : Pass
no_pass = record { stops = 0; begins = 0 }

abbrev pub pass_row : List ℕ → Block → List Pass
pass_row names b = map (pass_of names) b.instrs ++ no_pass ∷ []

abbrev pub pass_rows : List ℕ → Function → List (List Pass)
pass_rows names f = map (pass_row names) f.blocks

-- the same by the markers of a function
abbrev pub marked_pass : List ℕ → Option Mark → Pass
marked_pass names m = record { stops = marker_word Marker.End names m; begins = marker_word Marker.Start names m }

abbrev pub marked_row : List ℕ → List (Option Mark) → List Pass
marked_row names marks = map (marked_pass names) marks ++ no_pass ∷ []

abbrev pub marked_passes : List ℕ → List (List (Option Mark)) → List (List Pass)
marked_passes names rows = map (marked_row names) rows

-- ---- words

-- the bits of all words of a row of passes, and others
abbrev pub row_word : ℕ → List Pass → ℕ
row_word word [] = word
row_word word (x ∷ xs) = row_word (bit_or word (bit_or x.stops x.begins)) xs

abbrev pub rows_word : ℕ → List (List Pass) → ℕ
rows_word word [] = word
rows_word word (row ∷ rows) = rows_word (row_word word row) rows
