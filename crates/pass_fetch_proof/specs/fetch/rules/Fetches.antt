-- What is asked of a table of fetches, so that a function whose operands are fetched by it breaks no rule.
use Rattle.std.specs.Prelude.{◌≡◌, ℕ, true, false, List, [], length, Some, None, Option, ◌^◌, ◌<◌}
use Rattle.pass_edges_proof.specs.rule_uses.Undefined.{IsUndefined}
use Rattle.pass_edges_proof.specs.rule_uses.Uses.{Use, uses_of}
use Rattle.pass_edges_proof.specs.ir_parts.Contents.{instr_operands}
use Rattle.ir_model.specs.declared.instr.Instr.{Instr}
use Rattle.ir_model.specs.declared.module.Block.{Block}
use Rattle.ir_model.specs.declared.module.Function.{Function}
use Rattle.ir_model.specs.declared.operand.Operand.{Operand}
use Rattle.pass_edges_proof.specs.rule_locals.Extents.{is_aligned}
use Rattle.pass_edges_proof.specs.ir_locals.Tables.{first_in}
use Rattle.pass_edges_proof.specs.run_laws.changed.Changed.{Each}
use Rattle.pass_edges_proof.specs.pass_fetch.Blocks.{next_after_blocks, next_after_phis_by, with_fetches}
use Rattle.pass_edges_proof.specs.pass_fetch.Fetching.{fetch_of, value_bytes}
use Rattle.pass_edges_proof.specs.pass_fetch.declared.fetch.Fetch.{Fetch}
use Rattle.pass_edges_proof.specs.rule_values.Fits.{is_scalar}
use Rattle.pass_edges_proof.specs.rule_values.Kinds.{block_kind, kind_of, value_kind}
use Rattle.pass_edges_proof.specs.rule_values.declared.kinds.Kind.{Kind}
use Rattle.pass_edges_proof.specs.rule_laws.rules.woven_rules.Blocks.{is_mark}
use Rattle.pass_edges_proof.specs.rule_laws.rules.woven_rules.Weaving.{Weaving}
use Rattle.pass_edges_proof.specs.rule_names.declared.stage.Stage.{Stage}

-- ---- a fetch

-- the name of the address by which a value is fetched
abbrev pub base_of : Fetch → ℕ
base_of (Fetch.Load ty cell) = cell
base_of (Fetch.Address base distance) = base

abbrev pub fetched_kind : Fetch → Kind
fetched_kind (Fetch.Load ty cell) = kind_of ty
fetched_kind (Fetch.Address base distance) = Kind.Ptr

-- a load is of an integer type or ptr whose size is an alignment, and a distance is a number of 64 bits
abbrev pub IsRight : Fetch → Type 0
IsRight (Fetch.Load ty cell) = (is_scalar ty ≡ true) × (is_aligned (value_bytes ty) ≡ true)
IsRight (Fetch.Address base distance) = distance < 2 ^ 64

-- A fetch in the place of a value is right, gives what the value is, and goes by a pointer.
pub record FitsFetch (kinds : ℕ → Option Kind) (f : Function) (v : ℕ) (fetch : Fetch) : Type 0 where
  pub right : IsRight fetch
  pub gives : value_kind f v ≡ Some (fetched_kind fetch)
  pub pointer : kinds (base_of fetch) ≡ Some Kind.Ptr

-- each fetch of a table does
abbrev pub FitsTable : (ℕ → Option Kind) → Function → List (Option Fetch) → Type 0
FitsTable kinds f t = (v : ℕ) (fetch : Fetch) → fetch_of t (Operand.Local v) ≡ Some fetch → FitsFetch kinds f v fetch

-- ---- a function and its table

-- where a value is used that is fetched, each path from the entry has made the address by which it is
abbrev pub HasBase : Function → List (Option Fetch) → Use → Type 0
HasBase f t u = (fetch : Fetch) → fetch_of t (Operand.Local u.value) ≡ Some fetch → IsUndefined f (record u { value = base_of fetch }) → ⊥

-- no operand is fetched
abbrev pub AreUnfetched : List (Option Fetch) → List Operand → Type 0
AreUnfetched t xs = Each (λ (x : Operand). fetch_of t x ≡ None) xs

abbrev pub LeavesMarks : List (Option Fetch) → Instr → Type 0
LeavesMarks t i = is_mark i ≡ true → AreUnfetched t (instr_operands i)

-- The fetches fit, their addresses are made wherever they are used, and no slot of a marker is fetched.
pub record FetchesFit (k : ℕ) (f : Function) (t : List (Option Fetch)) : Type 0 where
  pub table : FitsTable (value_kind f) f t
  pub bases : Each (HasBase f t) (uses_of k f)
  pub marks : Each (λ (b : Block). Each (LeavesMarks t) b.instrs) f.blocks

-- ---- the weaving

-- the first name of an instruction's or a terminator's operand
abbrev pub second_name : Function → List (Option Fetch) → ℕ
second_name f t = next_after_phis_by t (length f.names) f.blocks

-- the new names, whose kinds are those that the result gives them; nothing goes
abbrev pub fetch_weaving : Function → List (Option Fetch) → List ℕ → Weaving
fetch_weaving f t word =
    record {
      stage = Stage.Source;
      first = length f.names;
      after = next_after_blocks t (second_name f t) f.blocks;
      kinds = first_in block_kind (with_fetches f t word).blocks;
      fronts = [];
      goes = λ n. false;
    }
