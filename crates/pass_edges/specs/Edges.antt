-- The edges of a function that get a block of their own.
use Rattle.std.specs.Prelude.{ℕ, Bool, true, false, List, [], length, replicate, slice_get, slice_set, Some, None, Option, unwrap_or, ◌+◌, ◌-◌, ◌∷◌, ◌++◌, ◌||◌, if◌then◌else◌}
use Rattle.ir_model.specs.declared.instr.Case.{Case}
use Rattle.ir_model.specs.declared.instr.Instr.{Instr}
use Rattle.ir_model.specs.declared.instr.Phi.{Phi}
use Rattle.ir_model.specs.declared.instr.Terminator.{Terminator}
use Rattle.ir_model.specs.declared.module.Block.{Block}
use Rattle.ir_model.specs.declared.module.Function.{Function}
use Rattle.ir_model.specs.declared.operand.Callee.{Callee}
use Rattle.ir_model.specs.declared.operand.Intrinsic.{Intrinsic}
use Rattle.pass_edges.specs.declared.edge.Edge.{Edge}

-- ---- which edges get a block

abbrev pub has_phis : List Phi → Bool
has_phis [] = false
has_phis (p ∷ ps) = true

abbrev pub flagged_by : List Bool → List Block → List Bool
flagged_by flags [] = flags
flagged_by flags (b ∷ bs) = flagged_by (slice_set flags b.label (has_phis b.phis)) bs

-- for each label whether its block has phis
abbrev pub phi_flags : Function → List Bool
phi_flags f = flagged_by (replicate (length f.names) false) f.blocks

abbrev pub is_suspend : Instr → Bool
is_suspend (Instr.Call result must_tail ty (Callee.Intrinsic Intrinsic.CoroSuspend) args) = true
is_suspend _ = false

abbrev pub is_suspend_at : Option Instr → Bool
is_suspend_at None = false
is_suspend_at (Some i) = is_suspend i

-- whether a block's switch is a suspend's
abbrev pub ends_in_suspend : List Instr → Bool
ends_in_suspend is = is_suspend_at (slice_get is (length is - 1))

-- an edge to a label gets a block; a case's edge does where the switch is a suspend's
abbrev pub is_split : List Bool → Bool → ℕ → Bool
is_split flags resumes target = resumes || unwrap_or (slice_get flags target) false

-- ---- these edges in order; n is the next new label

abbrev pub after_edge : List Bool → Bool → ℕ → ℕ → ℕ
after_edge flags resumes n target = if is_split flags resumes target then n + 1 else n

abbrev pub edge_to : List Bool → Bool → ℕ → ℕ → ℕ → List Edge
edge_to flags resumes from n target =
    if is_split flags resumes target then record { from = from; target = target; label = n } ∷ [] else []

abbrev pub case_edges : List Bool → Bool → ℕ → ℕ → List Case → List Edge
case_edges flags resumes from n [] = []
case_edges flags resumes from n (k ∷ ks) =
    edge_to flags resumes from n k.target ++ case_edges flags resumes from (after_edge flags resumes n k.target) ks

abbrev pub term_edges : List Bool → Bool → ℕ → ℕ → Terminator → List Edge
term_edges flags resumes from n (Terminator.Jump label) = edge_to flags false from n label
term_edges flags resumes from n (Terminator.Branch c a b) =
    edge_to flags false from n a ++ edge_to flags false from (after_edge flags false n a) b
term_edges flags resumes from n (Terminator.Switch arg default cases) =
    edge_to flags false from n default ++ case_edges flags resumes from (after_edge flags false n default) cases
term_edges flags resumes from n (Terminator.Ret value) = []
term_edges flags resumes from n Terminator.Unreachable = []

abbrev pub block_edges : List Bool → ℕ → Block → List Edge
block_edges flags n b = term_edges flags (ends_in_suspend b.instrs) b.label n b.term

abbrev pub edges_by : List Bool → ℕ → List Block → List Edge
edges_by flags n [] = []
edges_by flags n (b ∷ bs) = block_edges flags n b ++ edges_by flags (n + length (block_edges flags n b)) bs

abbrev pub edges_of : List Bool → Function → List Edge
edges_of flags f = edges_by flags (length f.names) f.blocks

-- ---- these edges by their targets

abbrev pub edges_at : List (List Edge) → ℕ → List Edge
edges_at table label = unwrap_or (slice_get table label) []

abbrev pub with_edge : List (List Edge) → Edge → List (List Edge)
with_edge table e = slice_set table e.target (edges_at table e.target ++ e ∷ [])

abbrev pub with_edges : List (List Edge) → List Edge → List (List Edge)
with_edges table [] = table
with_edges table (e ∷ es) = with_edges (with_edge table e) es

-- for each label the edges that lead to it, in order
abbrev pub edge_table : Function → List Edge → List (List Edge)
edge_table f edges = with_edges (replicate (length f.names) []) edges
