-- The uses of phis, which stand on edges.
use Rattle.std.specs.Prelude.{ℕ, Bool, false, List, [], slice_get, Some, None, Option, ◌+◌, ◌&&◌, ◌||◌, ◌==◌, ◌∷◌, ◌++◌}
use Rattle.rule_uses.specs.Uses.{local_of}
use Rattle.flow_solver.specs.Paths.{IsListed}
use Rattle.ir_model.specs.Names.{position_of}
use Rattle.ir_model.specs.declared.instr.Incoming.{Incoming}
use Rattle.ir_model.specs.declared.instr.Phi.{Phi}
use Rattle.ir_model.specs.declared.module.Block.{Block}
use Rattle.ir_model.specs.declared.module.Function.{Function}
use Rattle.ir_paths.specs.Windows.{label_of_term}
use Rattle.std.specs.List.{list_any}
use Rattle.frame_crossing.specs.declared.edge_use.EdgeUse.{EdgeUse}

-- on the edge between two blocks a phi uses the value
abbrev pub edge_use : ℕ → ℕ → ℕ → EdgeUse
edge_use from to v = record { from = from; to = to; value = v }

abbrev pub uses_by : ℕ → ℕ → Option ℕ → List EdgeUse
uses_by from to None = []
uses_by from to (Some v) = edge_use from to v ∷ []

abbrev pub incoming_uses : Function → ℕ → List Incoming → List EdgeUse
incoming_uses f to [] = []
incoming_uses f to (i ∷ is) = uses_by (position_of f i.from) to (local_of i.value) ++ incoming_uses f to is

abbrev pub phis_uses : Function → ℕ → List Phi → List EdgeUse
phis_uses f to [] = []
phis_uses f to (p ∷ ps) = incoming_uses f to p.incoming ++ phis_uses f to ps

abbrev pub blocks_uses : Function → ℕ → List Block → List EdgeUse
blocks_uses f at [] = []
blocks_uses f at (b ∷ bs) = phis_uses f at b.phis ++ blocks_uses f (at + 1) bs

-- what phis use, from the block of the label to the phi's block
abbrev pub edge_uses : Function → List EdgeUse
edge_uses f = blocks_uses f 0 f.blocks

abbrev pub IsUsedOn : Function → ℕ → ℕ → ℕ → Type 0
IsUsedOn f v from to = IsListed (edge_use from to v) (edge_uses f)

-- ---- the uses on edges that there are, and on the resume and destroy edges of suspends

abbrev pub has_edge : List (ℕ × ℕ) → ℕ → ℕ → Bool
has_edge edges from to = list_any (λ e. (from == e.0) && (to == e.1)) edges

abbrev pub is_edge : List (ℕ × ℕ) → EdgeUse → Bool
is_edge edges u = has_edge edges u.from u.to

-- where the edges of 0 and of 1 of the block's switch lead
abbrev pub way_of : Function → Block → ℕ × ℕ
way_of f b = (position_of f (label_of_term 0 b.term), position_of f (label_of_term 1 b.term))

abbrev pub is_behind_way : ℕ → Option (ℕ × ℕ) → Bool
is_behind_way to None = false
is_behind_way to (Some way) = (to == way.0) || (to == way.1)

abbrev pub is_behind : List (ℕ × ℕ) → EdgeUse → Bool
is_behind ways u = is_behind_way u.to (slice_get ways u.from)
