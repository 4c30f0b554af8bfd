-- Blocks on edges: on each edge to a block that has phis, and on each resume and destroy edge.
use Rattle.std.specs.Prelude.{ℕ, zero, suc, Bool, false, List, [], length, map, filter_map, codes, Some, None, Option, ◌+◌, ◌∷◌, ◌++◌, ◌==◌, if◌then◌else◌}
use Rattle.ir_base.specs.declared.name.Name.{Name}
use Rattle.ir_model.specs.Names.{numbered}
use Rattle.ir_model.specs.declared.instr.Case.{Case}
use Rattle.ir_model.specs.declared.instr.Incoming.{Incoming}
use Rattle.ir_model.specs.declared.instr.Phi.{Phi}
use Rattle.ir_model.specs.declared.instr.Terminator.{Terminator}
use Rattle.ir_model.specs.declared.module.Block.{Block}
use Rattle.ir_model.specs.declared.module.Function.{Function}
use Rattle.ir_model.specs.declared.operand.Operand.{Operand}
use Rattle.pass_edges.specs.Edges.{after_edge, block_edges, edge_table, edges_at, edges_of, ends_in_suspend, is_split, phi_flags}
use Rattle.pass_edges.specs.declared.edge.Edge.{Edge}

-- ---- terminators: an edge that gets a block leads to it; n is the next new label

abbrev pub split_label : List Bool → Bool → ℕ → ℕ → ℕ
split_label flags resumes n target = if is_split flags resumes target then n else target

abbrev pub split_case : List Bool → Bool → ℕ → Case → Case
split_case flags resumes n k = record { arg = k.arg; target = split_label flags resumes n k.target }

abbrev pub split_cases : List Bool → Bool → ℕ → List Case → List Case
split_cases flags resumes n [] = []
split_cases flags resumes n (k ∷ ks) = split_case flags resumes n k ∷ split_cases flags resumes (after_edge flags resumes n k.target) ks

abbrev pub split_term : List Bool → Bool → ℕ → Terminator → Terminator
split_term flags resumes n (Terminator.Jump label) = Terminator.Jump (split_label flags false n label)
split_term flags resumes n (Terminator.Branch c a b) =
    Terminator.Branch c (split_label flags false n a) (split_label flags false (after_edge flags false n a) b)
split_term flags resumes n (Terminator.Switch arg default cases) =
    Terminator.Switch arg (split_label flags false n default) (split_cases flags resumes (after_edge flags false n default) cases)
split_term flags resumes n (Terminator.Ret value) = Terminator.Ret value
split_term flags resumes n Terminator.Unreachable = Terminator.Unreachable

-- ---- phis

-- the first operand for a label
abbrev pub operand_from : List Incoming → ℕ → Option Operand
operand_from [] label = None
operand_from (i ∷ is) label = if i.from == label then Some i.value else operand_from is label

abbrev pub incoming_with : ℕ → Option Operand → Option Incoming
incoming_with label None = None
incoming_with label (Some x) = Some (record { value = x; from = label })

-- what a phi takes from the block on an edge
abbrev pub incoming_on : List Incoming → Edge → Option Incoming
incoming_on is e = incoming_with e.label (operand_from is e.from)

-- the edges are those to the phi's block
abbrev pub split_phi : List Edge → Phi → Phi
split_phi edges p = record { result = p.result; ty = p.ty; incoming = filter_map (incoming_on p.incoming) edges }

-- ---- blocks

abbrev pub split_block : List Bool → List (List Edge) → ℕ → Block → Block
split_block flags table n b =
    record {
      label = b.label;
      phis = map (split_phi (edges_at table b.label)) b.phis;
      instrs = b.instrs;
      term = split_term flags (ends_in_suspend b.instrs) n b.term;
    }

-- a jump alone
abbrev pub edge_block : Edge → Block
edge_block e = record { label = e.label; phis = []; instrs = []; term = Terminator.Jump e.target }

-- each block, and behind it those of its edges
abbrev pub split_blocks : List Bool → List (List Edge) → ℕ → List Block → List Block
split_blocks flags table n [] = []
split_blocks flags table n (b ∷ bs) =
    split_block flags table n b ∷ map edge_block (block_edges flags n b) ++ split_blocks flags table (n + length (block_edges flags n b)) bs

-- ---- names

-- the label of the k-th edge that gets a block
abbrev pub edge_name : ℕ → Name
edge_name k = numbered (codes "$c.edge.") k

-- the labels of so many edges
abbrev pub edge_names : ℕ → List Name
edge_names zero = []
edge_names (suc n) = edge_names n ++ edge_name n ∷ []

-- ---- the pass

abbrev pub split_function : Function → List Bool → List Edge → Function
split_function f flags edges =
    record {
      name = f.name;
      result = f.result;
      params = f.params;
      coroutine = f.coroutine;
      blocks = split_blocks flags (edge_table f edges) (length f.names) f.blocks;
      names = f.names ++ edge_names (length edges);
    }

abbrev pub with_edge_blocks : Function → Function
with_edge_blocks f = split_function f (phi_flags f) (edges_of (phi_flags f) f)
