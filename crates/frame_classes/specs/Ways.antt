-- The ways behind suspends, and what stands on edges.
use Rattle.std.specs.Prelude.{ℕ, Bool, false, List, [], map, length, slice_get, Some, None, Option, bit_and, bit_or, ◌<◌, ◌+◌, ◌||◌, ◌==◌, ◌∷◌, if◌then◌else◌}
use Rattle.flow_solver.specs.Paths.{IsListed}
use Rattle.ir_model.specs.Names.{position_of}
use Rattle.ir_model.specs.declared.module.Block.{Block}
use Rattle.ir_model.specs.declared.module.Function.{Function}
use Rattle.ir_paths.specs.Windows.{label_of_term}
use Rattle.flow_reach.specs.declared.question.Passes.{Passes}
use Rattle.frame_classes.specs.Rows.{passes_by, word_in}
use Rattle.frame_slots.specs.rule_slots.Early.{end_at}
use Rattle.frame_slots.specs.Words.{word_at_point}
use Rattle.frame_slots.specs.declared.edge.EdgeWord.{EdgeWord}

-- where the edges of 0 and of 1 of a block's switch lead
abbrev pub way_of : Function → Block → ℕ × ℕ
way_of f b = (position_of f (label_of_term 0 b.term), position_of f (label_of_term 1 b.term))

abbrev pub ways_of : Function → List (ℕ × ℕ)
ways_of f = map (way_of f) f.blocks

-- the block is one of the two
abbrev pub is_either : ℕ → Option (ℕ × ℕ) → Bool
is_either to None = false
is_either to (Some way) = (to == way.0) || (to == way.1)

-- paths begin at both, each with the word of the block
abbrev pub fronts_from : ℕ → List (ℕ × ℕ) → List ℕ → List (ℕ × ℕ)
fronts_from at [] words = []
fronts_from at (way ∷ ways) words = (way.0, word_in words at) ∷ ((way.1, word_in words at) ∷ fronts_from (at + 1) ways words)

-- ---- edges

-- paths begin where the edges lead
abbrev pub edge_fronts : List EdgeWord → List (ℕ × ℕ)
edge_fronts edges = map (λ e. (e.to, e.word)) edges

-- the edges lead to blocks of the function
pub record LeadToBlocks (f : Function) (edges : List EdgeWord) : Type 0 where
  pub each : (e : EdgeWord) → IsListed e edges → e.to < length f.blocks + 1

-- what stands on edges and has a question of the words at the ends of the blocks that the edges leave
abbrev pub edges_word : Function → List (List ℕ) → ℕ → List EdgeWord → ℕ
edges_word f rows word [] = word
edges_word f rows word (e ∷ edges) = edges_word f rows (bit_or word (bit_and e.word (word_at_point rows (end_at f e.from)))) edges

abbrev pub own_if : Bool → ℕ → ℕ → ℕ
own_if b word own = if b then bit_and word own else 0

-- what stands on the ways and has a question of the words of the blocks
abbrev pub ways_word : List (ℕ × ℕ) → List ℕ → ℕ → List EdgeWord → ℕ
ways_word ways own word [] = word
ways_word ways own word (e ∷ edges) =
    ways_word ways own (bit_or word (own_if (is_either e.to (slice_get ways e.from)) e.word (word_in own e.from))) edges

-- ---- questions about paths

-- from what has a question, at a point or on an edge, paths lead on to where the question ends
abbrev pub coming : Function → List (List ℕ) → List EdgeWord → List (List ℕ) → Passes
coming f rows edges stops = record { rows = passes_by stops rows; fronts = edge_fronts edges; closed = length f.blocks }

-- the same on the ways, with the words of the blocks, and not out of the end block
abbrev pub leaving : List (ℕ × ℕ) → List ℕ → List (List ℕ) → ℕ → Passes
leaving ways own stops end = record { rows = passes_by stops []; fronts = fronts_from 0 ways own; closed = end }
