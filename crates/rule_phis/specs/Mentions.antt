-- Tables of numbers and of edges.
use Rattle.std.specs.Prelude.{ℕ, Bool, false, not, List, [], slice_get, Some, None, Option, unwrap_or, ◌≡◌, ◌&&◌, ◌==◌}
use Rattle.std.specs.List.{list_any}
use Rattle.rule_phis.specs.Operands.{same_operand}
use Rattle.rule_phis.specs.declared.sources.Sources.{Sources}
use Rattle.ir_parts.specs.Contents.{ending_labels}
use Rattle.indexmap.specs.IndexMap.{IndexMap, get}
use Rattle.ir_model.specs.Names.{first_where}
use Rattle.ir_model.specs.declared.instr.Case.{Case}
use Rattle.ir_model.specs.declared.instr.Incoming.{Incoming}
use Rattle.ir_model.specs.declared.module.Block.{Block}

-- the table has the first position of each number among the items
pub record FindsNumbers {T S : Type 0} (number : T → ℕ) (items : List T) (table : IndexMap ℕ ℕ S) : Type 0 where
  pub first : (n : ℕ) → get ◌==◌ table n ≡ first_where (λ x. number x == n) items

-- the incoming values differ at the position
abbrev pub differs_there : Option Incoming → Incoming → Bool
differs_there None j = false
differs_there (Some i) j = not (same_operand i.value j.value)

abbrev pub differs_at : List Incoming → Option ℕ → Incoming → Bool
differs_at is None j = false
differs_at is (Some k) j = differs_there (slice_get is k) j

-- the labels noted beside a label
abbrev pub sources_at : Sources → ℕ → List ℕ
sources_at s k = unwrap_or (slice_get s.lists.items k) []

-- one edge
abbrev pub is_edge : ℕ → ℕ → ℕ → ℕ → Bool
is_edge from label k n = (label == k) && (from == n)

-- the edges from a block
abbrev pub edges_from : Block → ℕ → ℕ → Bool
edges_from b k n = list_any (λ l. is_edge b.label l k n) (ending_labels b.term)

abbrev pub case_edge : ℕ → ℕ → ℕ → Case → Bool
case_edge from k n c = is_edge from c.target k n
