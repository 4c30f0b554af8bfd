-- Blocks on the edges that leave a window, labelled with the mark of the window's suspend.
use Rattle.std.specs.Prelude.{ℕ, List, [], length, codes, decimal, Some, None, Option, ◌+◌, ◌∷◌, ◌++◌}
use Rattle.ir_base.specs.declared.name.Name.{Name}
use Rattle.ir_model.specs.Names.{numbered}
use Rattle.ir_model.specs.declared.instr.Case.{Case}
use Rattle.ir_model.specs.declared.instr.Terminator.{Terminator}
use Rattle.ir_model.specs.declared.module.Block.{Block}
use Rattle.ir_model.specs.declared.module.Function.{Function}
use Rattle.pass_exits.specs.Exits.{block_exits, exits_of, mark_of}
use Rattle.pass_exits.specs.declared.exit.Exit.{Exit}

-- ---- terminators: an edge with a mark leads to its block; n is the next new label

abbrev pub exit_label : ℕ → Option ℕ → ℕ → ℕ
exit_label n None target = target
exit_label n (Some j) target = n

abbrev pub after_exit : ℕ → Option ℕ → ℕ
after_exit n None = n
after_exit n (Some j) = n + 1

abbrev pub exit_case : Function → ℕ → ℕ → Case → Case
exit_case f at n k = record { arg = k.arg; target = exit_label n (mark_of f at k.target) k.target }

abbrev pub exit_cases : Function → ℕ → ℕ → List Case → List Case
exit_cases f at n [] = []
exit_cases f at n (k ∷ ks) = exit_case f at n k ∷ exit_cases f at (after_exit n (mark_of f at k.target)) ks

-- the terminator of the block at a position
abbrev pub exit_term : Function → ℕ → ℕ → Terminator → Terminator
exit_term f at n (Terminator.Jump label) = Terminator.Jump (exit_label n (mark_of f at label) label)
exit_term f at n (Terminator.Branch c a b) =
    Terminator.Branch c (exit_label n (mark_of f at a) a) (exit_label (after_exit n (mark_of f at a)) (mark_of f at b) b)
exit_term f at n (Terminator.Switch arg default cases) =
    Terminator.Switch arg (exit_label n (mark_of f at default) default) (exit_cases f at (after_exit n (mark_of f at default)) cases)
exit_term f at n (Terminator.Ret value) = Terminator.Ret value
exit_term f at n Terminator.Unreachable = Terminator.Unreachable

-- ---- blocks

-- a jump alone
abbrev pub exit_block : ℕ → Exit → Block
exit_block label e = record { label = label; phis = []; instrs = []; term = Terminator.Jump e.target }

abbrev pub exit_blocks : ℕ → List Exit → List Block
exit_blocks n [] = []
exit_blocks n (e ∷ es) = exit_block n e ∷ exit_blocks (n + 1) es

abbrev pub with_exits : Function → ℕ → ℕ → Block → Block
with_exits f at n b = record { label = b.label; phis = b.phis; instrs = b.instrs; term = exit_term f at n b.term }

-- each block, and behind it those on its edges
abbrev pub blocks_by : Function → ℕ → ℕ → List Block → List Block
blocks_by f at n [] = []
blocks_by f at n (b ∷ bs) =
    with_exits f at n b ∷ exit_blocks n (block_exits f at b) ++ blocks_by f (at + 1) (n + length (block_exits f at b)) bs

-- ---- names

abbrev pub mark_text : ℕ → List ℕ
mark_text suspend = codes "$c.back." ++ decimal suspend ++ codes "."

-- the label of an edge, by the window's suspend and the edge's number
abbrev pub exit_name : ℕ → ℕ → Name
exit_name suspend number = numbered (mark_text suspend) number

-- the labels of edges from the k-th on
abbrev pub exit_names : ℕ → List Exit → List Name
exit_names k [] = []
exit_names k (e ∷ es) = exit_name e.suspend k ∷ exit_names (k + 1) es

-- ---- the pass

abbrev pub with_exit_blocks : Function → Function
with_exit_blocks f =
    record {
      name = f.name;
      result = f.result;
      params = f.params;
      coroutine = f.coroutine;
      blocks = blocks_by f 0 (length f.names) f.blocks;
      names = f.names ++ exit_names 0 (exits_of f);
    }
