-- Phis and the edges into their blocks (rule F1).
use Rattle.std.specs.Prelude.{ℕ, Bool, true, false, not, List, [], map, filter, slice_get, Some, None, Option, ◌&&◌, ◌∷◌, ◌==◌, if◌then◌else◌}
use Rattle.std.specs.List.{list_all, list_any}
use Rattle.ir_base.specs.declared.outcome.Place.{Place}
use Rattle.rule_phis.specs.Operands.{same_operand}
use Rattle.ir_parts.specs.Contents.{ending_labels}
use Rattle.ir_parts.specs.Parts.{Part, Head, OfPhi, first_part, parts_of}
use Rattle.ir_model.specs.declared.instr.Incoming.{Incoming}
use Rattle.ir_model.specs.declared.module.Block.{Block}
use Rattle.ir_model.specs.declared.module.Function.{Function}

abbrev pub has : List ℕ → ℕ → Bool
has ns n = list_any (λ k. k == n) ns

-- an edge leads from the block to a label; the three edges of a suspend's switch are edges too
abbrev pub leads : ℕ → Block → Bool
leads label b = has (ending_labels b.term) label

-- the labels of the blocks from which an edge leads to a label
abbrev pub predecessors : Function → ℕ → List ℕ
predecessors f label = map (λ b. b.label) (filter (leads label) f.blocks)

abbrev pub is_empty : List ℕ → Bool
is_empty [] = true
is_empty (n ∷ ns) = false

-- ---- phis

-- the operand is another than that of the first of these that has the label; none is where none has it
abbrev pub differs : List Incoming → Incoming → Bool
differs [] j = false
differs (i ∷ is) j = if i.from == j.from then not (same_operand i.value j.value) else differs is j

abbrev pub incoming_labels : List Incoming → List ℕ
incoming_labels incoming = map (λ i. i.from) incoming

-- without repeats the labels are these, and none stands twice with different operands
abbrev pub fits_edges : List ℕ → List Incoming → Bool
fits_edges labels incoming =
    list_all (has (incoming_labels incoming)) labels
    && (list_all (has labels) (incoming_labels incoming) && not (list_any (differs incoming) incoming))

-- ---- the rule

-- the labels of the blocks from which an edge leads to the block at a position, given those of labels
abbrev pub into_block : (ℕ → List ℕ) → Option Block → List ℕ
into_block sources None = []
into_block sources (Some b) = sources b.label

abbrev pub block_at : Function → Option ℕ → Option Block
block_at f None = None
block_at f (Some k) = slice_get f.blocks k

abbrev pub is_entry : Option ℕ → Bool
is_entry None = false
is_entry (Some k) = k == 0

abbrev pub breaks_by : (ℕ → List ℕ) → Function → Place → Part → Bool
breaks_by sources f place (Head b) = is_entry place.block && not (is_empty (sources b.label))
breaks_by sources f place (OfPhi p) = not (fits_edges (into_block sources (block_at f place.block)) p.incoming)
breaks_by sources f place x = false

-- F1: the entry block has a predecessor; a phi's labels without repeats aren't the predecessors of its block, or one stands twice with different operands
abbrev pub breaks_edges : Function → Place → Part → Bool
breaks_edges f = breaks_by (predecessors f) f

abbrev pub first_wrong_edge : ℕ → Function → Option Place
first_wrong_edge k f = first_part (breaks_edges f) (parts_of k f)
