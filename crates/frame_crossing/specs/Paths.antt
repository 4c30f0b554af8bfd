-- Where a value is defined before a point, and where it is needed.
use Rattle.std.specs.Prelude.{◌≡◌, ◌⊎◌, ℕ, List, [], slice_get, Some, None, Option, ◌+◌}
use Rattle.rule_uses.specs.Undefined.{params_of}
use Rattle.rule_uses.specs.Uses.{locals_in, phi_values}
use Rattle.flow_solver.specs.Paths.{IsListed}
use Rattle.ir_parts.specs.Contents.{ending_operands, instr_operands, result_of}
use Rattle.ir_model.specs.Names.{position_of}
use Rattle.ir_model.specs.declared.instr.Instr.{Instr}
use Rattle.ir_model.specs.declared.module.Block.{Block}
use Rattle.ir_model.specs.declared.module.Function.{Function}
use Rattle.ir_paths.specs.Paths.{targets}
use Rattle.ir_paths.specs.Windows.{destroy_label, end_block, resume_label}
use Rattle.ir_paths.specs.declared.point.Point.{Point}
use Rattle.run_step.specs.Step.{Fetched, Nowhere, AtInstr, AtTerm, fetch}
use Rattle.frame_crossing.specs.EdgeUses.{IsUsedOn}

-- ---- what stands at a point

-- the values that it uses
abbrev pub used_by : Fetched → List ℕ
used_by Nowhere = []
used_by (AtInstr i) = locals_in (instr_operands i)
used_by (AtTerm t) = locals_in (ending_operands t)

-- it has an edge to the label
abbrev pub BranchesTo : ℕ → Fetched → Type 0
BranchesTo label Nowhere = ⊥
BranchesTo label (AtInstr i) = ⊥
BranchesTo label (AtTerm t) = IsListed label (targets t)

abbrev pub phis_in : Option Block → List ℕ
phis_in None = []
phis_in (Some b) = phi_values b

-- the values of a block's phis
abbrev pub phis_at : Function → ℕ → List ℕ
phis_at f block = phis_in (slice_get f.blocks block)

-- ---- defined values

-- A path leads to a point from another, or it is the same.
pub data LeadsTo (f : Function) (to_block to_at : ℕ) : ℕ → ℕ → Type 0 where
  There : LeadsTo f to_block to_at to_block to_at
  Over : (block at : ℕ) (i : Instr) → fetch f block at ≡ AtInstr i → LeadsTo f to_block to_at block (at + 1) → LeadsTo f to_block to_at block at
  Along : (block at label : ℕ) → BranchesTo label (fetch f block at) → LeadsTo f to_block to_at (position_of f label) 0 → LeadsTo f to_block to_at block at

-- A path leads to the point from behind a definition of v: a parameter's is the entry, a phi's the front of its block.
pub data IsDefinedBefore (f : Function) (v block at : ℕ) : Type 0 where
  ByParam : IsListed v (params_of f) → LeadsTo f block at 0 0 → IsDefinedBefore f v block at
  ByPhi : (b : ℕ) → IsListed v (phis_at f b) → LeadsTo f block at b 0 → IsDefinedBefore f v block at
  ByInstr : (b a : ℕ) (i : Instr) → fetch f b a ≡ AtInstr i → result_of i ≡ Some v → LeadsTo f block at b (a + 1) → IsDefinedBefore f v block at

-- ---- needed values

abbrev pub IsOutside : Function → ℕ → Type 0
IsOutside f block = block ≡ end_block f → ⊥

-- A path leads from the point to a use of v, with neither a definition of v nor a point of the end block on it: what stands
-- here uses v, or it doesn't define v and the next instruction's point has such a path, or v is used on an edge from here,
-- or such a path begins in the block of a label, whose phis don't define v.
pub data IsNeeded (f : Function) (v : ℕ) : ℕ → ℕ → Type 0 where
  Use : (block at : ℕ) → IsOutside f block → IsListed v (used_by (fetch f block at)) → IsNeeded f v block at
  Next : (block at : ℕ) (i : Instr) → IsOutside f block → fetch f block at ≡ AtInstr i → (result_of i ≡ Some v → ⊥) → IsNeeded f v block (at + 1) → IsNeeded f v block at
  OnEdge : (block at label : ℕ) → IsOutside f block → BranchesTo label (fetch f block at) → IsUsedOn f v block (position_of f label) → IsNeeded f v block at
  Across : (block at label : ℕ) → IsOutside f block → BranchesTo label (fetch f block at) → (IsListed v (phis_at f (position_of f label)) → ⊥) → IsNeeded f v (position_of f label) 0 → IsNeeded f v block at

-- the same from the edge from a block to a label on
abbrev pub IsNeededFrom : Function → ℕ → ℕ → ℕ → Type 0
IsNeededFrom f v block label =
    IsUsedOn f v block (position_of f label)
    ⊎ ((IsListed v (phis_at f (position_of f label)) → ⊥) × IsNeeded f v (position_of f label) 0)

-- the same from the resume or the destroy edge of a suspend on
abbrev pub IsNeededBehind : Function → ℕ → Point → Type 0
IsNeededBehind f v s = IsNeededFrom f v s.block (resume_label f s) ⊎ IsNeededFrom f v s.block (destroy_label f s)
