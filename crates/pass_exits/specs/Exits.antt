-- The edges of a function that leave a window.
use Rattle.std.specs.Prelude.{ℕ, List, [], length, slice_get, Some, None, Option, option_and_then, ◌+◌, ◌∷◌, ◌++◌, if◌then◌else◌}
use Rattle.pass_edges.specs.Edges.{ends_in_suspend}
use Rattle.pass_intrinsics.specs.Lowered.{number_at}
use Rattle.pass_intrinsics.specs.Shapes.{saves_of, suspends_of}
use Rattle.ir_model.specs.declared.module.Block.{Block}
use Rattle.ir_model.specs.declared.module.Function.{Function}
use Rattle.ir_paths.specs.Paths.{entry_point, targets}
use Rattle.ir_paths.specs.Windows.{call_result, instr_at, leaves, windows_of}
use Rattle.ir_paths.specs.declared.point.Point.{Point}
use Rattle.ir_paths.specs.declared.point.Window.{Window}
use Rattle.pass_exits.specs.declared.exit.Exit.{Exit}

-- ---- the first window that an edge leaves

-- the first point of a block
abbrev pub front : ℕ → Point
front block = record { block = block; at = 0 }

-- the terminator of a block at a position
abbrev pub end_of : ℕ → Block → Point
end_of at b = record { block = at; at = length b.instrs }

-- the number of the suspend that takes a token
abbrev pub number_in : List (Option ℕ) → Option ℕ → Option ℕ
number_in numbers None = None
number_in numbers (Some token) = number_at (slice_get numbers token)

-- the number of a save's suspend
abbrev pub number_of : Function → Point → Option ℕ
number_of f save = number_in (saves_of f (suspends_of f)) (option_and_then call_result (instr_at f save))

-- that of a window's suspend, where the edge from p to q leaves the window
abbrev pub mark_by : Function → Point → Point → Window → Option ℕ
mark_by f p q w = if leaves p q w then number_of f w.save else None

abbrev pub or_else : Option ℕ → Option ℕ → Option ℕ
or_else None o = o
or_else (Some j) o = Some j

-- that of the first of the windows that the edge leaves
abbrev pub mark_in : Function → Point → Point → List Window → Option ℕ
mark_in f p q [] = None
mark_in f p q (w ∷ ws) = or_else (mark_by f p q w) (mark_in f p q ws)

-- the same, where the edge comes from the terminator of the block at a position; the edges of a suspend's switch have marks of their own
abbrev pub mark_from : Function → ℕ → Option Block → Point → List Window → Option ℕ
mark_from f at None q ws = None
mark_from f at (Some b) q ws = if ends_in_suspend b.instrs then None else mark_in f (end_of at b) q ws

-- the number of the suspend of the first window that the edge from a block to a label leaves, unless the block's switch is a suspend's
abbrev pub mark_of : Function → ℕ → ℕ → Option ℕ
mark_of f at label = mark_from f at (slice_get f.blocks at) (entry_point f label) (windows_of f)

-- ---- the edges that leave a window and are no suspend's, in order of the text

abbrev pub exit_to : ℕ → ℕ → Option ℕ → List Exit
exit_to from target None = []
exit_to from target (Some j) = record { from = from; target = target; suspend = j } ∷ []

-- those from a block to these labels
abbrev pub exits_to : Function → ℕ → ℕ → List ℕ → List Exit
exits_to f at from [] = []
exits_to f at from (label ∷ labels) = exit_to from label (mark_of f at label) ++ exits_to f at from labels

abbrev pub block_exits : Function → ℕ → Block → List Exit
block_exits f at b = exits_to f at b.label (targets b.term)

abbrev pub exits_by : Function → ℕ → List Block → List Exit
exits_by f at [] = []
exits_by f at (b ∷ bs) = block_exits f at b ++ exits_by f (at + 1) bs

abbrev pub exits_of : Function → List Exit
exits_of f = exits_by f 0 f.blocks
